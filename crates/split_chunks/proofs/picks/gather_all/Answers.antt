use Rattle.std.proofs.Common.{◌≡◌, ◌+◌, ◌<◌, length, get_or, refl, ap, subst, ◌∙◌, arith}
use Rattle.std.proofs.lemmas.List.{length_push}
use Rattle.std.proofs.lemmas.Option.{slice_get_read}
use Rattle.split_chunks.specs.States.{state_of}
use Rattle.split_chunks.specs.Gathering.{AreOfScene}
use Rattle.split_chunks.specs.Picking.{AreFirstGathered}
use Rattle.split_chunks.proofs.PickSteps.{first_gathered_more}
use Rattle.split_chunks.proofs.picks.gather_all.Goals as goal

pub loop-cache-preserved : goal.loop-cache-preserved
loop-cache-preserved c =
    let graph = c.args.graph.now in
    let config = c.args.config.now in
    let scene = c.in_ok-scene.ensures in
    let at = c.loop-cache.cache-index in
    let cache = c.cache-item.result in
    let value = c.as_slice-cache-items.ensures in
    let inside : at < length config.groups = subst (λ l. at < length l) value c.loop-cache-test.true in
    let read : cache ≡ get_or config.groups at cache = c.cache-item.is ∙ ap (λ l. get_or l at cache) value in
    record {
      each = ap length c.in_ok-push.ensures.items ∙ length_push c.loop-cache.all.items c.in_ok-gather.field-0 ∙ ap (λ n. n + 1) c.loop-cache.invariant.each;
      gathered = first_gathered_more graph config (state_of c.args.state.now) c.loop-cache.all.items c.push.new.self.items c.in_ok-gather.field-0 cache at c.loop-cache.invariant.each c.loop-cache.invariant.gathered
          (slice_get_read config.groups (length config.groups) at cache refl inside read)
          (subst (λ g. AreOfScene g (state_of c.args.state.now) cache c.in_ok-gather.field-0) scene.of_graph
          (subst (λ s. AreOfScene c.in_ok-scene.scene.graph.now (state_of s) cache c.in_ok-gather.field-0) scene.of_state c.in_ok-gather.ensures))
          c.in_ok-push.ensures.items;
    }

pub returns : goal.returns
returns c =
    let config = c.args.config.now in
    let end : c.loop-cache.cache-index ≡ length config.groups = omega (arith, c.loop-cache-test.false, c.loop-cache.auto.cache-index-end, ap length c.as_slice-cache-items.ensures) in
    record {
      each = c.loop-cache.invariant.each ∙ end;
      gathered = subst (AreFirstGathered c.args.graph.now config (state_of c.args.state.now) c.loop-cache.all.items) end c.loop-cache.invariant.gathered;
    }

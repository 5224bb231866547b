use Rattle.std.proofs.Common.{◌≡◌, ⊎_elim, ◌<◌, length, get_or, Some, slice_get, refl, sym, ap, subst, ◌∙◌, arith}
use Rattle.std.proofs.lemmas.Bool.{cases_lt}
use Rattle.std.proofs.lemmas.Option.{slice_get_read, same_Some}
use Rattle.split_chunks.specs.States.{state_of}
use Rattle.split_chunks.proofs.PickSteps.{yields_all}
use Rattle.split_chunks.proofs.picks.best_of_all.Goals as goal

pub best_of-requires-clause-gathered : goal.best_of-requires-clause-gathered
best_of-requires-clause-gathered c =
    let graph = c.args.graph.now in
    let config = c.args.config.now in
    let state = state_of c.args.state.now in
    let place = c.loop-place.place in
    let cache = c.cache-item.result in
    let value = c.as_slice-cache-items.ensures in
    let inside : place < length config.groups = subst (λ l. place < length l) value c.loop-place-test.true in
    let read : cache ≡ get_or config.groups place cache = c.cache-item.is ∙ ap (λ l. get_or l place cache) value in
    let at : slice_get config.groups place ≡ Some cache = slice_get_read config.groups (length config.groups) place cache refl inside read in
    let all = c.args.all.now in
    c.requires.all.gathered place cache c.index-all-place.result inside at
    (slice_get_read all (length all) place c.index-all-place.result refl (omega (arith, inside, c.requires.all.each)) c.index-all-place.is)

pub loop-place-preserved : goal.loop-place-preserved
loop-place-preserved c =
    let graph = c.args.graph.now in
    let config = c.args.config.now in
    let state = state_of c.args.state.now in
    let place = c.loop-place.place in
    let cache = c.cache-item.result in
    let value = c.as_slice-cache-items.ensures in
    let inside : place < length config.groups = subst (λ l. place < length l) value c.loop-place-test.true in
    let read : cache ≡ get_or config.groups place cache = c.cache-item.is ∙ ap (λ l. get_or l place cache) value in
    let at : slice_get config.groups place ≡ Some cache = slice_get_read config.groups (length config.groups) place cache refl inside read in
    let best = c.in_ok-best.ensures in
    record {
      so_far = best.so_far;
      all = λ k other below at_k candidate same. ⊎_elim
          (λ early. best.yields candidate (c.loop-place.invariant.all k other early at_k candidate same))
          (λ late. let is : k ≡ place = omega arith in best.all candidate (same ∙ same_Some other cache (sym at_k ∙ ap (slice_get config.groups) is ∙ at)))
          (cases_lt k place);
    }

pub returns : goal.returns
returns c =
    let graph = c.args.graph.now in
    let config = c.args.config.now in
    let state = state_of c.args.state.now in
    record {
      so_far = c.loop-place.invariant.so_far;
      yields = yields_all graph config state c.loop-place.best (λ k cache low. c.loop-place.invariant.all k cache (omega (arith, low, c.loop-place-test.false, ap length c.as_slice-cache-items.ensures)));
    }

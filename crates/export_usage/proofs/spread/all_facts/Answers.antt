use Rattle.std.proofs.Common.{◌<◌, length, get_or, ap, subst, ◌∙◌, arith}
use Rattle.std.proofs.lemmas.Option.{slice_get-get_or}
use Rattle.export_usage.specs.declared.facts.Fact.TheVariants.{Reached}
use Rattle.export_usage.specs.Claims.{AreReached, Learns}
use Rattle.export_usage.specs.Spreading.{Spreads}
use Rattle.export_usage.proofs.Onward.{begins, goes_on, is_all}
use Rattle.export_usage.proofs.spread.all_facts.Goals as goal

pub loop-place-init : goal.loop-place-init
loop-place-init c = record {
  same = c.new-resolver.ensures;
  spread = begins c.args.graph.now c.requires c.none-facts.result c.put_all_reached.new.self c.none-facts.ensures
      (subst (λ l. Learns c.none-facts.result (AreReached l) c.put_all_reached.new.self) c.as_slice.ensures c.in_ok-put_all_reached.ensures);
}

pub loop-place-preserved : goal.loop-place-preserved
loop-place-preserved c = record {
  same = c.in_ok-follow.ensures.same ∙ c.loop-place.invariant.same;
  spread =
      let graph = c.args.graph.now in
      let keys = c.loop-place.facts.known.keys in
      let place = c.loop-place.place in
      let h : place < length keys = omega (arith, c.loop-place-test.true, c.len.ensures.len) in
      let fact = get_or keys place (Reached 0) in
      let read = ap (λ l. get_or l place (Reached 0)) c.as_slice-in-loop-place.ensures.keys in
      goes_on graph c.loop-place.facts place c.loop-place.invariant.spread c.follow.new.facts fact (slice_get-get_or keys place (Reached 0) h) h
      (subst (λ g. Spreads g c.loop-place.facts fact c.follow.new.facts) c.loop-place.invariant.same
      (subst (λ f. Spreads c.loop-place.resolver c.loop-place.facts f c.follow.new.facts) read c.in_ok-follow.ensures.spreads));
}

pub returns : goal.returns
returns c = is_all c.args.graph.now c.loop-place.facts c.loop-place.place c.loop-place.invariant.spread (omega (arith, c.loop-place-test.false, c.len.ensures.len))

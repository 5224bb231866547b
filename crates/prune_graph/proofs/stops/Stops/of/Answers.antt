use Rattle.std.proofs.Common.{◌≡◌, ℕ, Some, option_copied, sym, ap, subst, ◌∙◌}
use Rattle.indexmap.specs.IndexMap.{get}
use Rattle.pk_text.specs.declared.text.Key.{Key}
use Rattle.pk_types.specs.declared.graph.Graph.{Graph}
use Rattle.pk_types.specs.StopSearch.{HasStops}
use Rattle.prune_graph.specs.Known.{is_same_key, AreKnown}
use Rattle.prune_graph.proofs.Keeping.{one_more}
use Rattle.prune_graph.proofs.stops.Stops.of.Goals as goal

pub returns-in-Some-clause-stops : goal.returns-in-Some-clause-stops
returns-in-Some-clause-stops c =
    let key : ℕ × Key = (c.args.module, record { 0 = c.as_slice.result }) in
    let found : get is_same_key c.self.inside.known key ≡ Some c.in-Some.stops.now = sym c.get.ensures.value ∙ ap option_copied c.in-Some.is in
    let has = c.self.invariant key c.in-Some.stops.now found in
    subst (HasStops c.args.self.now c.args.module c.args.name.now) (sym (c.in_ok-copy.ensures.items ∙ c.as_slice-in-Some.ensures))
    (subst (λ (g : Graph). HasStops g c.args.module c.args.name.now c.in-Some.stops.now) c.self.view_is
    (subst (λ n. HasStops c.self.inside.resolver c.args.module n c.in-Some.stops.now) c.as_slice.ensures has))

pub invariant_of-self-2 : goal.invariant_of-self-2
invariant_of-self-2 c =
    let key : ℕ × Key = (c.args.module, record { 0 = c.as_slice.result }) in
    let has : HasStops c.self.inside.resolver c.args.module c.as_slice.result.now c.from_vec.result =
    subst (HasStops c.self.inside.resolver c.args.module c.as_slice.result.now) (sym c.from_vec.ensures)
    (subst (λ n. HasStops c.self.inside.resolver c.args.module n c.in_ok-stops.stops.items) (sym c.as_slice.ensures) c.in_ok-stops.ensures.stops) in
    subst (λ (g : Graph). AreKnown g c.insert.new.self) (sym c.in_ok-stops.ensures.same)
    (one_more c.self.inside.resolver c.self.inside.known c.insert.new.self key c.from_vec.result c.self.invariant has c.in_ok-insert.ensures.updates)

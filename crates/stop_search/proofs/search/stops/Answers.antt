use Rattle.std.proofs.Common.{◌∷◌, [], sym, subst}
use Rattle.pk_types.specs.StopSearch.{StopsAt, HasStops}
use Rattle.pk_types.proofs.Parts.{none_within}
use Rattle.stop_search.proofs.search.stops.Goals as goal

pub returns-then-not-is_one-clause-stops : goal.returns-then-not-is_one-clause-stops
returns-then-not-is_one-clause-stops c =
    let number = c.args.module in
    let name = c.args.name.now in
    subst (HasStops c.args.resolver.now number name) (sym c.new.ensures.items)
    ((number, name) ∷ [], StopsAt.lost [] number name c.in_ok-found.found (λ m. none_within (number, name) m) c.in_ok-found.ensures.found (c.is_one.ensures.none c.if-not-is_one.true))

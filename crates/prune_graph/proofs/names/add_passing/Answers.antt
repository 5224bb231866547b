use Rattle.std.proofs.Common.{◌<◌, get_or, length, refl, sym, subst}
use Rattle.std.specs.List.{All}
use Rattle.std.proofs.lemmas.List.Elements.{Contains-get_or}
use Rattle.prune_graph.specs.Gathering.{Gains, IsTheStar, IsNoSpace}
use Rattle.prune_graph.specs.PassedNames.{PassesTo, PassesToSpace}
use Rattle.prune_graph.proofs.names.add_passing.Goals as goal

pub add_name-requires : goal.add_name-requires
add_name-requires c =
    c.requires.within.names c.in-Name.request c.in-Name.name.now
    (subst (λ way. PassesTo way c.args.exported.now c.in-Name.request c.in-Name.name.now) (sym c.in-Name.is) (refl, refl))

pub add_space-requires : goal.add_space-requires
add_space-requires c =
    c.requires.within.spaces c.in-Space.request (subst (λ way. PassesToSpace way c.in-Space.request) (sym c.in-Space.is) refl)

pub add_stars-requires : goal.add_stars-requires
add_stars-requires c =
    let stars = c.in-Stars.stars.items in
    subst (All (λ star. star < length c.args.through.now.names.items)) (sym c.as_slice.ensures.value) (λ k d h.
    c.requires.within.names (get_or stars k d) c.args.exported.now
    (subst (λ way. PassesTo way c.args.exported.now (get_or stars k d) c.args.exported.now) (sym c.in-Stars.is) (Contains-get_or stars k d h, refl)))

pub returns-in_ok-add_name-in-Name : goal.returns-in_ok-add_name-in-Name
returns-in_ok-add_name-in-Name c =
    subst (λ way. Gains c.args.through.now (PassesTo way c.args.exported.now) (PassesToSpace way) c.add_name.new.self) (sym c.in-Name.is) c.in_ok-add_name-in-Name.ensures

pub returns-in-Space : goal.returns-in-Space
returns-in-Space c =
    subst (λ way. Gains c.args.through.now (PassesTo way c.args.exported.now) (PassesToSpace way) c.add_space.new.self) (sym c.in-Space.is) c.add_space.ensures

pub returns-in_ok-add_stars-in-Stars : goal.returns-in_ok-add_stars-in-Stars
returns-in_ok-add_stars-in-Stars c =
    subst (λ way. Gains c.args.through.now (PassesTo way c.args.exported.now) (PassesToSpace way) c.add_stars.new.through) (sym c.in-Stars.is)
    (subst (λ stars. Gains c.args.through.now (IsTheStar stars c.args.exported.now) IsNoSpace c.add_stars.new.through) c.as_slice.ensures.value c.in_ok-add_stars-in-Stars.ensures)

use Rattle.std.proofs.Common.{◌+◌, ◌<◌, nat_eq, [], length, get_or, sym, ap, subst, ◌∙◌, arith}
use Rattle.indexmap.specs.IndexSet.{insert_key, insert_all}
use Rattle.edge_search.proofs.Growing.{IsSearch, begins, goes_on, ends, number_within, place_within}
use Rattle.edge_search.proofs.search.Search.reach.Goals as goal

pub loop-place-init : goal.loop-place-init
loop-place-init g c =
    let edges = g.E.Edges.edges c.args.edges.now in
    let only = c.in_ok-meet.ensures ∙ ap (λ met. insert_key nat_eq met c.args.from) c.clear.ensures in
    subst (λ met. IsSearch edges c.args.from met 0) (sym only) (begins edges c.args.from)

pub go_through-requires : goal.go_through-requires
go_through-requires g c =
    let edges = g.E.Edges.edges c.args.edges.now in
    subst (λ met. get_or met c.loop-place.place 0 < length edges) (sym c.met-in-loop-place.ensures.met)
    (number_within edges c.args.from c.loop-place.self c.loop-place.place c.requires.from c.requires.within c.loop-place.invariant
    (omega (arith, c.loop-place-test.true, ap length c.met.ensures.met)))

pub loop-place-smaller : goal.loop-place-smaller
loop-place-smaller g c =
    let edges = g.E.Edges.edges c.args.edges.now in
    omega (
      arith,
      place_within edges c.args.from c.loop-place.self c.loop-place.place c.requires.from c.requires.within c.loop-place.invariant c.met.ensures.distinct
          (omega (arith, c.loop-place-test.true, ap length c.met.ensures.met)),
    )

pub loop-place-preserved : goal.loop-place-preserved
loop-place-preserved g c =
    let edges = g.E.Edges.edges c.args.edges.now in
    let here = c.in_ok-go_through.ensures ∙ ap (λ met. insert_all nat_eq c.loop-place.self (get_or edges (get_or met c.loop-place.place 0) [])) c.met-in-loop-place.ensures.met in
    subst (λ met. IsSearch edges c.args.from met (c.loop-place.place + 1)) (sym here)
    (goes_on edges c.args.from c.loop-place.self c.loop-place.place c.loop-place.invariant (omega (arith, c.loop-place-test.true, ap length c.met.ensures.met)))

pub returns : goal.returns
returns g c = ends (g.E.Edges.edges c.args.edges.now) c.args.from c.loop-place.self c.loop-place.place c.loop-place.invariant
    (omega (arith, c.loop-place-test.false, ap length c.met.ensures.met))

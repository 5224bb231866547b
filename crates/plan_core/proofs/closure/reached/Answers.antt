use Rattle.std.proofs.Common.{◌+◌, ◌<◌, nat_eq, [], length, get_or, sym, ap, subst, ◌∙◌, arith}
use Rattle.std.proofs.lemmas.List.{get_or_default}
use Rattle.indexmap.specs.IndexSet.{insert_key, insert_all}
use Rattle.plan_core.proofs.Search.{IsSearch, begins, goes_on, ends, number_within, place_within}
use Rattle.plan_core.proofs.closure.reached.Goals as goal

pub loop-place-init : goal.loop-place-init
loop-place-init c =
    let only = c.in_ok-insert.ensures.keys ∙ ap (λ known. insert_key nat_eq known c.args.from) c.new-known.ensures.empty in
    subst (λ known. IsSearch c.args.edges.now c.args.from known 0) (sym only) (begins c.args.edges.now c.args.from)

pub bounds-edges-number : goal.bounds-edges-number
bounds-edges-number c =
    subst (λ known. get_or known c.loop-place.place 0 < length c.args.edges.now) (sym c.as_slice.ensures.keys)
    (number_within c.args.edges.now c.args.from c.loop-place.known.keys c.loop-place.place c.requires.from c.requires.edges c.loop-place.invariant (omega (arith, c.len.ensures.len)))

pub loop-place-smaller : goal.loop-place-smaller
loop-place-smaller c =
    omega (arith, place_within c.args.edges.now c.args.from c.loop-place.known.keys c.loop-place.place c.requires.from c.requires.edges c.loop-place.invariant c.len.ensures.unique (omega (arith, c.len.ensures.len)))

pub loop-place-preserved : goal.loop-place-preserved
loop-place-preserved c =
    let edges = c.args.edges.now in
    let known = c.loop-place.known.keys in
    let place = c.loop-place.place in
    let met : place < length known = omega (arith, c.len.ensures.len) in
    let within = number_within edges c.args.from known place c.requires.from c.requires.edges c.loop-place.invariant met in
    let targets = c.as_slice-in-loop-place.ensures ∙ c.index-edges-number.is ∙ ap (λ l. get_or edges (get_or l place 0) c.index-edges-number.result) c.as_slice.ensures.keys
    ∙ get_or_default edges (get_or known place 0) c.index-edges-number.result [] within in
    subst (λ l. IsSearch edges c.args.from l (place + 1)) (sym (c.in_ok-see.ensures ∙ ap (λ l. insert_all nat_eq known l) targets))
    (goes_on edges c.args.from known place c.loop-place.invariant met)

pub returns : goal.returns
returns c = ends c.args.edges.now c.args.from c.loop-place.known.keys c.loop-place.place c.loop-place.invariant (omega (arith, c.len.ensures.len))

use Rattle.std.proofs.Common.{◌≡◌, ◌<◌, inr, true, Some, slice_get, length, option_copied, rules, ap, sym, subst, ◌∙◌, arith}
use Rattle.std.specs.List.{All}
use Rattle.std.proofs.lemmas.List.Elements.{All-get_or}
use Rattle.std.proofs.lemmas.Option.{slice_get-get_or}
use Rattle.pk_types.specs.declared.facts.Kind.TheVariants.{Es}
use Rattle.pk_types.specs.declared.facts.Origin.TheVariants.{Other, Space}
use Rattle.pk_types.specs.Resolving.{origin_of}
use Rattle.export_names.proofs.Opening.{space_within, other_within}
use Rattle.stop_search.proofs.way.way_of.Goals as goal

pub bounds-targets-request : goal.bounds-targets-request
bounds-targets-request c =
    let row = c.row-row.result.now in
    let from : origin_of row.facts c.args.name.now ≡ Some (Space c.in-Some-Space.request) =
    ap (origin_of row.facts) (sym c.as_slice.ensures) ∙ sym (c.in_ok-origin.ensures.origin row c.row-row.ensures.at) ∙ ap option_copied c.in-Some-Space.is ∙ ap Some c.in-Some-Space.field-0-is in
    omega (arith, ap length c.as_slice-targets.ensures, space_within c.args.resolver.now c.args.module c.args.name.now row c.row-row.ensures.at c.row-row.ensures.fits c.in-Some-Space.request from)

pub bounds-targets-request-in-Some-Other : goal.bounds-targets-request-in-Some-Other
bounds-targets-request-in-Some-Other c =
    let row = c.row-row.result.now in
    let from : origin_of row.facts c.args.name.now ≡ Some (Other c.in-Some-Other.request c.in-Some-Other.other) =
    ap (origin_of row.facts) (sym c.as_slice.ensures) ∙ sym (c.in_ok-origin.ensures.origin row c.row-row.ensures.at) ∙ ap option_copied c.in-Some-Other.is ∙ ap Some c.in-Some-Other.field-0-is in
    omega (arith, ap length c.as_slice-targets.ensures, other_within c.args.resolver.now c.args.module c.args.name.now row c.row-row.ensures.at c.row-row.ensures.fits c.in-Some-Other.request c.in-Some-Other.other from)

pub returns-in-Some-Space-clause-goes : goal.returns-in-Some-Space-clause-goes
returns-in-Some-Space-clause-goes c =
    let row = c.row-row.result.now in
    let at = c.row-row.ensures.at in
    let from : origin_of row.facts c.args.name.now ≡ Some (Space c.in-Some-Space.request) =
    ap (origin_of row.facts) (sym c.as_slice.ensures) ∙ sym (c.in_ok-origin.ensures.origin row at) ∙ ap option_copied c.in-Some-Space.is ∙ ap Some c.in-Some-Space.field-0-is in
    let inside = space_within c.args.resolver.now c.args.module c.args.name.now row at c.row-row.ensures.fits c.in-Some-Space.request from in
    let flagged : row.flagged ≡ true = search rules in
    let kind : row.facts.kind ≡ Es = search rules in
    let to = ap (λ t. slice_get t c.in-Some-Space.request) (sym c.as_slice-targets.ensures) ∙ slice_get-get_or c.as_slice-targets.result.now c.in-Some-Space.request 0 (omega (arith, ap length c.as_slice-targets.ensures, inside)) in
    (row, at, inr (record { at = at; flagged = flagged; kind = kind }, (c.in-Some-Space.request, from, to)))

pub returns-in-Some-Other-clause-goes : goal.returns-in-Some-Other-clause-goes
returns-in-Some-Other-clause-goes c =
    let row = c.row-row.result.now in
    let at = c.row-row.ensures.at in
    let from : origin_of row.facts c.args.name.now ≡ Some (Other c.in-Some-Other.request c.in-Some-Other.other) =
    ap (origin_of row.facts) (sym c.as_slice.ensures) ∙ sym (c.in_ok-origin.ensures.origin row at) ∙ ap option_copied c.in-Some-Other.is ∙ ap Some c.in-Some-Other.field-0-is in
    let inside = other_within c.args.resolver.now c.args.module c.args.name.now row at c.row-row.ensures.fits c.in-Some-Other.request c.in-Some-Other.other from in
    let flagged : row.flagged ≡ true = search rules in
    let kind : row.facts.kind ≡ Es = search rules in
    let to = ap (λ t. slice_get t c.in-Some-Other.request) (sym c.as_slice-targets.ensures) ∙ slice_get-get_or c.as_slice-targets.result.now c.in-Some-Other.request 0 (omega (arith, ap length c.as_slice-targets.ensures, inside)) in
    let within = All-get_or (λ k. k < length c.args.resolver.now.rows) c.as_slice-targets.result.now c.in-Some-Other.request 0 (omega (arith, ap length c.as_slice-targets.ensures, inside))
    (subst (All (λ k. k < length c.args.resolver.now.rows)) (sym c.as_slice-targets.ensures) c.row-row.ensures.fits.targets) in
    (within, (row, record { at = at; flagged = flagged; kind = kind }, (c.in-Some-Other.request, from, to)))

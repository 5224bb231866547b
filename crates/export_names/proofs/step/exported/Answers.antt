use Rattle.std.proofs.Common.{◌≡◌, Some, length, ap, ◌∙◌, arith}
use Rattle.pk_types.specs.declared.facts.Origin.TheVariants.{Other, Space}
use Rattle.pk_types.specs.Resolving.{origin_of}
use Rattle.export_names.proofs.Opening.{opens_own, opens_space, opens_other, space_within, other_within}
use Rattle.export_names.proofs.step.exported.Goals as goal

pub bounds-targets-request : goal.bounds-targets-request
bounds-targets-request c =
    let row = c.row.result.now in
    let at = c.row.ensures.at in
    let from : origin_of row.facts c.requires.named.0 ≡ Some (Space c.in-Space.request) = c.requires.named.1 row at ∙ ap Some c.in-Space.is in
    omega (arith, ap length c.as_slice-targets.ensures, space_within c.args.resolver.now c.args.module c.requires.named.0 row at c.row.ensures.fits c.in-Space.request from)

pub bounds-targets-request-in-Other : goal.bounds-targets-request-in-Other
bounds-targets-request-in-Other c =
    let row = c.row.result.now in
    let at = c.row.ensures.at in
    let from : origin_of row.facts c.requires.named.0 ≡ Some (Other c.in-Other.request c.in-Other.other) = c.requires.named.1 row at ∙ ap Some c.in-Other.is in
    omega (arith, ap length c.as_slice-targets.ensures, other_within c.args.resolver.now c.args.module c.requires.named.0 row at c.row.ensures.fits c.in-Other.request c.in-Other.other from)

pub returns-in-Own : goal.returns-in-Own
returns-in-Own c name named =
    let row = c.row.result.now in
    let at = c.row.ensures.at in
    opens_own c.args.resolver.now c.args.module name row at c.in-Own.binding (named row at ∙ ap Some c.in-Own.is)

pub returns-in-Space : goal.returns-in-Space
returns-in-Space c name named =
    let row = c.row.result.now in
    let at = c.row.ensures.at in
    opens_space c.args.resolver.now c.args.module name row at c.row.ensures.fits c.in-Space.request c.as_slice-targets.result.now (named row at ∙ ap Some c.in-Space.is) c.as_slice-targets.ensures

pub returns-in-Other : goal.returns-in-Other
returns-in-Other c name named =
    let row = c.row.result.now in
    let at = c.row.ensures.at in
    opens_other c.args.resolver.now c.args.module name row at c.row.ensures.fits c.in-Other.request c.in-Other.other c.as_slice.result c.as_slice-targets.result.now
    (named row at ∙ ap Some c.in-Other.is) c.as_slice.ensures c.as_slice-targets.ensures

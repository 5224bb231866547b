use Rattle.std.proofs.Common.{length, arith}
use Rattle.es_exports.specs.Origins.{exports_undeclared}
use Rattle.es_exports.proofs.Listing.{one_earlier, first_here, first_none}
use Rattle.es_exports.proofs.passes.first_undeclared.Goals as goal

pub returns-then-exports_undeclared : goal.returns-then-exports_undeclared
returns-then-exports_undeclared c =
    first_here (exports_undeclared c.args.sight.now c.args.inside.now) (length c.args.sight.now.source.marks) c.loop-place.place c.exports_undeclared.result
    c.exports_undeclared.ensures c.if-exports_undeclared.true (omega arith) c.loop-place.invariant

pub loop-place-preserved : goal.loop-place-preserved
loop-place-preserved c =
    one_earlier (exports_undeclared c.args.sight.now c.args.inside.now) c.loop-place.place c.exports_undeclared.result c.exports_undeclared.ensures
    c.if-exports_undeclared.false c.loop-place.invariant

pub returns : goal.returns
returns c =
    first_none (exports_undeclared c.args.sight.now c.args.inside.now) (length c.args.sight.now.source.marks) c.loop-place.place (omega arith) c.loop-place.invariant

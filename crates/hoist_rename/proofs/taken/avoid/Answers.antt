use Rattle.std.proofs.Common.{◌<◌, [], ◌∷◌, ◌++◌, length, take_all, subst, arith}
use Rattle.hoist_rename.specs.Kept.{HaveSame}
use Rattle.hoist_rename.proofs.Kept.{same_more}
use Rattle.hoist_rename.proofs.taken.avoid.Goals as goal

pub loop-name-preserved : goal.loop-name-preserved
loop-name-preserved c =
    let keys = c.loop-name.taken.names.keys in
    let next = c.avoid_one.new.taken.names.keys in
    let inside : c.loop-name.name-index < length c.args.names.now = omega (arith, c.loop-name-test.true) in (
      same_more keys c.args.taken.now.names.keys c.args.names.now c.loop-name.name-index c.name-item.result next inside c.name-item.is c.loop-name.invariant.0
          (subst (λ name. HaveSame next (keys ++ name ∷ [])) c.as_slice.ensures c.in_ok-avoid_one.ensures.names),
      c.in_ok-avoid_one.ensures.kept,
    )

pub returns-clause-names : goal.returns-clause-names
returns-clause-names c =
    subst (λ l. HaveSame c.loop-name.taken.names.keys (c.args.taken.now.names.keys ++ l)) (take_all c.loop-name.name-index c.args.names.now (omega (arith, c.loop-name-test.false))) c.loop-name.invariant.0

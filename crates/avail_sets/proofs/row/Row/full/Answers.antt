use Rattle.std.proofs.Common.{◌||◌, nat_eq, ap, ◌∙◌, arith}
use Rattle.avail_sets.proofs.Flags.{one_below_more, has_room}
use Rattle.avail_sets.proofs.row.Row.full.Goals as goal

pub set-requires : goal.set-requires
set-requires c =
    omega (arith, has_room c.args.count, c.loop-number.invariant.long, c.loop-number-test.true)

pub loop-number-preserved : goal.loop-number-preserved
loop-number-preserved c =
    record {
      long = c.set.ensures.long ∙ c.loop-number.invariant.long;
      flags = λ k. c.set.ensures.flags k ∙ ap (λ b. nat_eq k c.loop-number.number || b) (c.loop-number.invariant.flags k) ∙ one_below_more k c.loop-number.number;
    }

use Rattle.std.proofs.Common.{sym, subst}
use Rattle.avail_sets.specs.Rows.{AreAvailable}
use Rattle.avail_sets.proofs.Falling.{ends, are_kept}
use Rattle.avail_sets.proofs.shrinking.available.Goals as goal

pub new-requires : goal.new-requires
new-requires c = are_kept c.args.groups.now c.args.modules c.in_ok-rows-2.rows.items c.in_ok-rows-2.ensures

pub returns : goal.returns
returns c =
    subst (AreAvailable c.args.groups.now c.args.modules) (sym c.new.ensures) (ends c.args.groups.now c.args.modules c.in_ok-rows-2.rows.items c.in_ok-rows-2.ensures)

-- what is left has the first fault of all
use Rattle.std.proofs.Common.{◌≡◌}
use Rattle.serde_json.specs.View.{members_view}
use Rattle.pack_config.specs.Rows.{group_rows}
use Rattle.pack_config.specs.Faults.{first_fault, row_fault}
use Rattle.pack_config.proofs.check.check_group_members.Given as goal

abbrev pub invariant-loop-key : goal.invariant-loop-key
invariant-loop-key l = first_fault (row_fault group_rows l.above) (members_view l.key-iterator) ≡ first_fault (row_fault group_rows l.above) (members_view l.members.entries)

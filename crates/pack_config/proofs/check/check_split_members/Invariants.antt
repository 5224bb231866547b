-- what is left has the first fault of all
use Rattle.std.proofs.Common.{◌≡◌}
use Rattle.serde_json.specs.View.{members_view}
use Rattle.pack_config.specs.Faults.{first_fault, split_member_fault}
use Rattle.pack_config.proofs.check.check_split_members.Given as goal

abbrev pub invariant-loop-key : goal.invariant-loop-key
invariant-loop-key l = first_fault split_member_fault (members_view l.key-iterator) ≡ first_fault split_member_fault (members_view l.members.entries)

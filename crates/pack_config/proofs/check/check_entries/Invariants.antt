-- what is left has the first fault of all
use Rattle.std.proofs.Common.{◌≡◌}
use Rattle.serde_json.specs.View.{members_view}
use Rattle.pack_config.specs.Faults.{first_fault, entry_member_fault}
use Rattle.pack_config.proofs.check.check_entries.Given as goal

abbrev pub invariant-loop-name : goal.invariant-loop-name
invariant-loop-name l = first_fault entry_member_fault (members_view l.name-iterator) ≡ first_fault entry_member_fault (members_view l.entries.entries)

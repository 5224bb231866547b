-- what was pushed, and the groups of what is left beside the names that are still due
use Rattle.std.proofs.Common.{◌≡◌, ◌++◌, true}
use Rattle.serde_json.specs.View.{members_view}
use Rattle.pack_config.specs.Settings.{kept_groups}
use Rattle.pack_config.specs.Merging.{both_due}
use Rattle.pack_config.proofs.groups.given_groups.Given as goal

abbrev pub invariant-loop-name : goal.invariant-loop-name
invariant-loop-name l =
    l.groups.items ++ kept_groups l.shared (both_due l.default_due l.vendors_due (members_view l.name-iterator)) ≡ kept_groups l.shared (both_due true true (members_view l.members.entries))

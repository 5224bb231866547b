-- what was pushed, and what is left
use Rattle.std.proofs.Common.{◌≡◌, ◌++◌}
use Rattle.serde_json.specs.View.{members_view}
use Rattle.pack_config.specs.Settings.{named_entries}
use Rattle.pack_config.proofs.make.named_entries.Given as goal

abbrev pub invariant-loop-name : goal.invariant-loop-name
invariant-loop-name l = l.entries.items ++ named_entries (members_view l.name-iterator) ≡ named_entries (members_view l.members.entries)

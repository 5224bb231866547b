use Rattle.std.proofs.Common.{◌≡◌, ◌++◌, map}
use Rattle.pkg_manifest.specs.Members.{entry_member}
use Rattle.pkg_manifest.proofs.read.into_members.Given as goal

-- the members that were made, and those of the entries that are left
abbrev pub invariant-loop-name : goal.invariant-loop-name
invariant-loop-name l = l.members.items ++ map entry_member l.name-iterator ≡ map entry_member l.fn.map.entries

use Rattle.std.proofs.Common.{◌≡◌, ◌++◌, List, vec_len}
use Rattle.pkg_manifest.specs.declared.value.Json.{Json}
use Rattle.pkg_manifest.specs.declared.value.Member.{Member}
use Rattle.pkg_manifest.specs.Named.{fields_of}
use Rattle.pkg_manifest.proofs.fields.Fields.of.Given as goal

-- the fields are those of the members that were taken from the end
abbrev pub invariant-loop-member : goal.invariant-loop-member
invariant-loop-member l = (taken : List (Member Json)) × (l.members.items ++ taken ≡ l.initial.members.items) × (l.fields ≡ fields_of taken)

abbrev pub decreases-loop-member : goal.decreases-loop-member
decreases-loop-member l = vec_len l.members

use Rattle.std.proofs.Common.{◌≡◌, ℕ, ◌+◌, ◌*◌, ◌≤◌, ◌++◌, List, length, map}
use Rattle.json.specs.Json.{items, members, value, parse_map}
use Rattle.pkg_manifest.specs.declared.value.Json.{Json}
use Rattle.pkg_manifest.specs.declared.value.Member.{Member}
use Rattle.pkg_manifest.specs.Members.{entry_member, merged}
use Rattle.pkg_manifest.specs.Reading.{kept_items, kept_members}
use Rattle.pkg_manifest.proofs.read.+read.Given as goal

abbrev pub decreases-read_value : goal.decreases-read_value
decreases-read_value l = 2 * l.depth

abbrev pub decreases-read_items : goal.decreases-read_items
decreases-read_items l = 2 * l.depth + 1

abbrev pub decreases-read_members : goal.decreases-read_members
decreases-read_members l = 2 * l.depth + 1

-- what was found, and then what is still to be read
abbrev pub invariant-read_items-loop-alloc : goal.invariant-read_items-loop-alloc
invariant-read_items-loop-alloc l =
    (n : ℕ) × (length l.reader ≤ n)
    × (parse_map kept_items (items (value l.depth) (length l.initial.reader) l.initial.reader) ≡ parse_map (λ js. l.found.items ++ kept_items js) (items (value l.depth) n l.reader))
    × (length l.reader ≤ length l.initial.reader)

abbrev pub decreases-read_items-loop-alloc : goal.decreases-read_items-loop-alloc
decreases-read_items-loop-alloc l = length l.reader

abbrev pub invariant-read_members-loop-found : goal.invariant-read_members-loop-found
invariant-read_members-loop-found l =
    (n : ℕ) × (length l.reader ≤ n) × (before : List (Member Json)) × (map entry_member l.found.entries ≡ merged before)
    × (parse_map kept_members (members (value l.depth) (length l.initial.reader) l.initial.reader) ≡ parse_map (λ ms. before ++ kept_members ms) (members (value l.depth) n l.reader))
    × (length l.reader ≤ length l.initial.reader)

abbrev pub decreases-read_members-loop-found : goal.decreases-read_members-loop-found
decreases-read_members-loop-found l = length l.reader

-- The members that a map shows.
use Rattle.std.proofs.Common.{◌≡◌, ℕ, Some, List, [], ◌∷◌, length, Bool, false, IsTrue, ◌↔◌, rules}
use Rattle.serde_json.specs.View.{members_view}
use Rattle.serde_json.proofs.Views.{Entry}
use Rattle.serde_json.specs.Data.{Data, Members}
use Rattle.serde_json.specs.Find.{as_object}
use Rattle.pack_config.specs.Rows.{group_rows}
use Rattle.pack_config.specs.Faults.{first_fault, row_fault, group_fault, above_group, is_false, is_empty}

pub is_empty-members_view : (es : List Entry) (b : Bool) → (IsTrue b ↔ (length es ≡ 0)) → b ≡ is_empty (members_view es)
is_empty-members_view [] b h = search rules
is_empty-members_view (e ∷ es) b h = search rules

-- an object that is given for a group
pub group_fault-object : (name : List ℕ) (d : Data) (ms : Members) (above : List ℕ) → is_false d ≡ false → as_object d ≡ Some ms → above ≡ above_group name
    → group_fault name d ≡ first_fault (row_fault group_rows above) ms
unfolding group_fault
group_fault-object name d ms above kept seen named = rw (kept, seen, named)

use Rattle.std.proofs.Common.{◌≡◌, drop, map}
use Rattle.pkg_exports.specs.Meanings.{meaning, with_meaning, list_outcome, object_outcome}
use Rattle.pkg_exports.proofs.Turns.{items_left}
use Rattle.pkg_exports.proofs.meaning.+meaning.Given as goal

abbrev pub invariant-of_items-loop-item : goal.invariant-of_items-loop-item
invariant-of_items-loop-item l = list_outcome (map (meaning l.form l.table l.part) l.items) ≡ items_left l.last (map (meaning l.form l.table l.part) (drop l.item-index l.items))

abbrev pub invariant-of_members-loop-member : goal.invariant-of_members-loop-member
invariant-of_members-loop-member l =
    object_outcome l.form (map (with_meaning l.form l.table l.part) l.members) ≡ object_outcome l.form (map (with_meaning l.form l.table l.part) (drop l.member-index l.members))

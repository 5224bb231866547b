-- The entries of a map as the code has them. Only private clauses cite it.
use Rattle.std.specs.Prelude.{◌≡◌, List, [], Bool, true, false}
use Rattle.std.specs.List.{list_any}
use Rattle.pkg_manifest.specs.declared.value.Json.{Json}
use Rattle.pkg_manifest.specs.declared.value.Member.{Member}
use Rattle.pkg_exports.specs.declared.answer.Table.{Table}
use Rattle.pkg_exports.specs.declared.lookup.Shape.{Shape}
use Rattle.pkg_exports.specs.declared.lookup.Shape.TheVariants.{Mixed, Nothing, Sole, Entries}
use Rattle.pkg_exports.specs.Answers.{is_mixed, entries_of, is_dotted, is_plain, sole}

abbrev pub has_names : Bool → List (Member Json) → Bool
has_names true ms = list_any is_dotted ms
has_names false ms = list_any is_plain ms

abbrev pub IsShape : Table → Json → Shape → Type 0
IsShape table map Mixed = is_mixed table map ≡ true
IsShape table map Nothing = (is_mixed table map ≡ false) × (entries_of table map ≡ [])
IsShape table map Sole = (is_mixed table map ≡ false) × (entries_of table map ≡ sole map)
IsShape table map (Entries ms) = (is_mixed table map ≡ false) × (entries_of table map ≡ ms.now)

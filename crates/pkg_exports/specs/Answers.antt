-- What a key of a map stands for.
use Rattle.std.specs.Prelude.{◌≡◌, ℕ, List, [], ◌∷◌, Bool, true, false, ◌&&◌, not, nat_eq, codes, Result, Ok, Err, if◌then◌else◌}
use Rattle.std.specs.List.{list_any, starts_with}
use Rattle.pk_types.specs.declared.form.Form.{Form}
use Rattle.pkg_manifest.specs.declared.value.Json.{Json, out-Json}
use Rattle.pkg_manifest.specs.declared.value.Json.TheOpen.{Json-F}
use Rattle.pkg_manifest.specs.declared.value.Member.{Member}
use Rattle.pkg_manifest.specs.Members.{member}
use Rattle.pkg_exports.specs.declared.answer.Table.{Table}
use Rattle.pkg_exports.specs.declared.answer.Table.TheVariants.{Exports, Imports}
use Rattle.pkg_exports.specs.declared.answer.Target.{Target}
use Rattle.pkg_exports.specs.declared.answer.TargetFault.{TargetFault}
use Rattle.pkg_exports.specs.declared.answer.TargetFault.TheVariants.{NotExported, BadTarget, BadMap}
use Rattle.pkg_exports.specs.declared.meaning.Outcome.{Outcome}
use Rattle.pkg_exports.specs.declared.meaning.Outcome.TheVariants.{Undefined, Excluded, Bad, Usable}
use Rattle.pkg_exports.specs.Keys.{Decides, NoneFits}
use Rattle.pkg_exports.specs.Meanings.{meaning}

abbrev members_step : Json-F Json → List (Member Json)
members_step Json-F.Null = []
members_step (Json-F.Bool b) = []
members_step Json-F.Number = []
members_step (Json-F.Text s) = []
members_step (Json-F.List js) = []
members_step (Json-F.Object ms) = ms

-- the members of an object, and none of another value
abbrev pub members_of : Json → List (Member Json)
members_of j = members_step (out-Json j)

abbrev pub is_dotted : Member Json → Bool
is_dotted m = starts_with nat_eq m.name (codes ".")

abbrev pub is_plain : Member Json → Bool
is_plain m = not (is_dotted m)

-- some keys of `exports` begin with `.` and some do not
abbrev pub is_mixed : Table → Json → Bool
is_mixed Exports j = list_any is_dotted (members_of j) && list_any is_plain (members_of j)
is_mixed Imports j = false

-- the value as the entry for `.`
abbrev pub sole : Json → List (Member Json)
sole j = member (codes ".") j ∷ []

abbrev exported_step : Json → Json-F Json → List (Member Json)
exported_step j Json-F.Null = []
exported_step j (Json-F.Bool b) = []
exported_step j Json-F.Number = []
exported_step j (Json-F.Text s) = sole j
exported_step j (Json-F.List js) = sole j
exported_step j (Json-F.Object ms) = if list_any is_dotted ms then ms else sole j

-- `exports` without keys that begin with `.` is the entry for `.` where it is a text, an array or an object, and has no entry where it is another value
abbrev pub entries_of : Table → Json → List (Member Json)
entries_of Exports j = exported_step j (out-Json j)
entries_of Imports j = members_of j

abbrev pub answer_of : Outcome → Result Target TargetFault
answer_of Undefined = Err NotExported
answer_of Excluded = Err NotExported
answer_of Bad = Err BadTarget
answer_of (Usable t) = Ok t

-- a key has this answer in a map
pub data Answers (form : Form) (table : Table) (map : Json) (key : List ℕ) (answer : Result Target TargetFault) : Type 0 where
  mixed : is_mixed table map ≡ true → answer ≡ Err BadMap → Answers form table map key answer
  not_there : is_mixed table map ≡ false → NoneFits (entries_of table map) key → answer ≡ Err NotExported → Answers form table map key answer
  decided : is_mixed table map ≡ false → (m : Member Json) (part : List ℕ) → Decides (entries_of table map) key m part → answer ≡ answer_of (meaning form table part m.value)
      → Answers form table map key answer

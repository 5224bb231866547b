-- What a value stands for as a target, by what its parts stand for.
use Rattle.std.specs.Prelude.{ℕ, List, [], ◌∷◌, Bool, true, false, ◌||◌, map, filter, codes, if◌then◌else◌}
use Rattle.std.specs.Str.{bytes_eq}
use Rattle.pk_types.specs.declared.form.Form.{Form}
use Rattle.pk_types.specs.declared.form.Form.TheVariants.{Import, Require}
use Rattle.pkg_manifest.specs.declared.value.Json.{Json}
use Rattle.pkg_manifest.specs.declared.value.Json.TheOpen.{Json-F}
use Rattle.pkg_manifest.specs.declared.value.Json.TheFolds.{fold-Json}
use Rattle.pkg_manifest.specs.declared.value.Member.{Member}
use Rattle.pkg_manifest.specs.Members.{member}
use Rattle.pkg_exports.specs.declared.answer.Table.{Table}
use Rattle.pkg_exports.specs.declared.meaning.Outcome.{Outcome}
use Rattle.pkg_exports.specs.declared.meaning.Outcome.TheVariants.{Undefined, Excluded, Bad, Usable}
use Rattle.pkg_exports.specs.Texts.{text_outcome}

abbrev pub is_usable : Outcome → Bool
is_usable Undefined = false
is_usable Excluded = false
is_usable Bad = false
is_usable (Usable t) = true

abbrev pub is_defined : Outcome → Bool
is_defined Undefined = false
is_defined Excluded = true
is_defined Bad = true
is_defined (Usable t) = true

-- the first that passes the test, or else o
abbrev pub first_or : (Outcome → Bool) → Outcome → List Outcome → Outcome
first_or test o [] = o
first_or test o (p ∷ os) = if test p then p else first_or test o os

-- the last that passes the test, or else o
abbrev pub last_or : (Outcome → Bool) → Outcome → List Outcome → Outcome
last_or test o [] = o
last_or test o (p ∷ os) = last_or test (if test p then p else o) os

-- an array is its first usable item, or else its last that is not undefined; the empty one excludes
abbrev pub list_outcome : List Outcome → Outcome
list_outcome [] = Excluded
list_outcome (o ∷ os) = first_or is_usable (last_or is_defined Undefined (o ∷ os)) (o ∷ os)

abbrev pub of_form : Form → List ℕ
of_form Import = codes "import"
of_form Require = codes "require"

abbrev pub is_active : Form → List ℕ → Bool
is_active form name = bytes_eq name (codes "default") || bytes_eq name (codes "webpack") || bytes_eq name (codes "module") || bytes_eq name (of_form form)

-- an object is the first that is not undefined under an active condition
abbrev pub object_outcome : Form → List (Member Outcome) → Outcome
object_outcome form ms = first_or is_defined Undefined (map (λ (m : Member Outcome). m.value) (filter (λ (m : Member Outcome). is_active form m.name) ms))

-- one value, with what each inner value stands for in its place
abbrev pub meaning_step : Form → Table → List ℕ → Json-F Outcome → Outcome
meaning_step form table part Json-F.Null = Excluded
meaning_step form table part (Json-F.Bool b) = Bad
meaning_step form table part Json-F.Number = Bad
meaning_step form table part (Json-F.Text s) = text_outcome table part s
meaning_step form table part (Json-F.List os) = list_outcome os
meaning_step form table part (Json-F.Object ms) = object_outcome form ms

-- what a value stands for, with the part in place of each `*`
abbrev pub meaning : Form → Table → List ℕ → Json → Outcome
meaning form table part = fold-Json Outcome (meaning_step form table part)

abbrev pub with_meaning : Form → Table → List ℕ → Member Json → Member Outcome
with_meaning form table part m = member m.name (meaning form table part m.value)

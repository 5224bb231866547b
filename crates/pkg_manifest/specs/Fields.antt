-- What a manifest says, by the members of its object.
use Rattle.std.specs.Prelude.{ℕ, Bool, true, false, List, [], ◌∷◌, Option, Some, None, option_map, codes, if◌then◌else◌}
use Rattle.std.specs.Str.{bytes_eq}
use Rattle.pkg_manifest.specs.declared.value.Json.{Json, out-Json}
use Rattle.pkg_manifest.specs.declared.value.Json.TheOpen.{Json-F}
use Rattle.pkg_manifest.specs.declared.value.Member.{Member}
use Rattle.pkg_manifest.specs.declared.package.Manifest.{Manifest}
use Rattle.pkg_manifest.specs.declared.package.SideEffects.{SideEffects}
use Rattle.pkg_manifest.specs.declared.package.SideEffects.TheVariants.{Unstated, Free, Listed}

-- the value of the first member of that name
abbrev pub value_of : List ℕ → List (Member Json) → Option Json
value_of name [] = None
value_of name (m ∷ ms) = if bytes_eq m.name name then Some m.value else value_of name ms

abbrev text_step : Json-F Json → Option (List ℕ)
text_step Json-F.Null = None
text_step (Json-F.Bool b) = None
text_step Json-F.Number = None
text_step (Json-F.Text s) = Some s
text_step (Json-F.List js) = None
text_step (Json-F.Object ms) = None

-- the text that a value is
abbrev pub text_of : Json → Option (List ℕ)
text_of j = text_step (out-Json j)

abbrev pub text_in : Option Json → Option (List ℕ)
text_in None = None
text_in (Some j) = text_of j

abbrev object_step : Json-F Json → Bool
object_step Json-F.Null = false
object_step (Json-F.Bool b) = false
object_step Json-F.Number = false
object_step (Json-F.Text s) = false
object_step (Json-F.List js) = false
object_step (Json-F.Object ms) = true

abbrev pub is_object : Json → Bool
is_object j = object_step (out-Json j)

abbrev pub object_in : Option Json → Option Json
object_in None = None
object_in (Some j) = if is_object j then Some j else None

-- the texts of a list of texts
abbrev pub with_text : Option (List ℕ) → Option (List (List ℕ)) → Option (List (List ℕ))
with_text None rest = None
with_text (Some s) rest = option_map (λ ss. s ∷ ss) rest

abbrev pub texts_of : List Json → Option (List (List ℕ))
texts_of [] = Some []
texts_of (j ∷ js) = with_text (text_of j) (texts_of js)

abbrev listed_if : Option (List (List ℕ)) → SideEffects
listed_if None = Unstated
listed_if (Some ss) = Listed ss

abbrev side_effects_step : Json-F Json → SideEffects
side_effects_step Json-F.Null = Unstated
side_effects_step (Json-F.Bool true) = Unstated
side_effects_step (Json-F.Bool false) = Free
side_effects_step Json-F.Number = Unstated
side_effects_step (Json-F.Text s) = Listed (s ∷ [])
side_effects_step (Json-F.List js) = listed_if (texts_of js)
side_effects_step (Json-F.Object ms) = Unstated

abbrev pub side_effects_of : Option Json → SideEffects
side_effects_of None = Unstated
side_effects_of (Some j) = side_effects_step (out-Json j)

abbrev pub is_text : List ℕ → Option (List ℕ) → Bool
is_text s None = false
is_text s (Some t) = bytes_eq t s

-- the manifest whose object has these members
abbrev pub manifest_of : List (Member Json) → Manifest
manifest_of ms = record {
  name = text_in (value_of (codes "name") ms);
  main = text_in (value_of (codes "main") ms);
  «module» = text_in (value_of (codes "module") ms);
  is_module = is_text (codes "module") (text_in (value_of (codes "type") ms));
  exports = value_of (codes "exports") ms;
  imports = object_in (value_of (codes "imports") ms);
  side_effects = side_effects_of (value_of (codes "sideEffects") ms);
}

-- The members of an object: a repeated name stands at its first place with its last value.
use Rattle.std.specs.Prelude.{List, [], ◌∷◌, ℕ, not, filter, if◌then◌else◌}
use Rattle.std.specs.Str.{bytes_eq}
use Rattle.pkg_manifest.specs.declared.value.Member.{Member}

module _ {V : Type 0} where
  abbrev pub member : List ℕ → V → Member V
  member name value = record { name = name; value = value }

  abbrev pub entry_member : List ℕ × V → Member V
  entry_member entry = member entry.0 entry.1

  -- the value of the last member of that name, or else v
  abbrev pub last_value : List ℕ → V → List (Member V) → V
  last_value name v [] = v
  last_value name v (m ∷ ms) = last_value name (if bytes_eq name m.name then m.value else v) ms

  -- the members of other names
  abbrev pub without : List ℕ → List (Member V) → List (Member V)
  without name ms = filter (λ m. not (bytes_eq name m.name)) ms

  abbrev pub merged : List (Member V) → List (Member V)
  merged [] = []
  merged (m ∷ ms) = member m.name (last_value m.name m.value ms) ∷ without m.name (merged ms)

-- The names that were collected so far. Only private clauses cite this.
use Rattle.std.specs.Prelude.{◌≡◌, ◌≢◌, ◌↔◌, ◌⊎◌, Bool, true, ℕ, List, map}
use Rattle.std.specs.List.{Contains}
use Rattle.pk_types.specs.declared.facts.ExportEntry.{ExportEntry}
use Rattle.pk_types.specs.declared.graph.Graph.{Graph}
use Rattle.pk_text.specs.declared.text.Key.{Key}
use Rattle.pk_types.specs.ExportedNames.{ExportsItself}
use Rattle.pk_types.specs.Resolving.{default_name}

-- the names that are borrowed as keys of a set
abbrev pub key_names : List Key → List (List ℕ)
key_names keys = map (λ key. key.0.now) keys

-- one of the exports has the name, and it is not `default` unless that counts
abbrev pub IsGiven : List ExportEntry → Bool → List ℕ → Type 0
IsGiven exports with_default name = Contains (map (λ entry. entry.name) exports) name × ((with_default ≡ true) ⊎ (name ≢ default_name))

-- the names are those before and the new ones
abbrev pub HasMore : List (List ℕ) → (List ℕ → Type 0) → List (List ℕ) → Type 0
HasMore before IsNew names = (name : List ℕ) → Contains names name ↔ (Contains before name ⊎ IsNew name)

-- one of the modules exports the name itself, and it is the one that is asked or the name is not `default`
abbrev pub IsCollected : Graph → ℕ → List ℕ → List ℕ → Type 0
IsCollected graph asked modules name = (number : ℕ) × Contains modules number × ExportsItself graph number name × ((number ≡ asked) ⊎ (name ≢ default_name))

-- Which entry of a map decides for a key.
use Rattle.std.specs.Prelude.{◌≡◌, ◌≢◌, ◌<◌, ℕ, List, [], ◌∷◌, ◌++◌, Bool, true, false, ◌&&◌, ◌||◌, ◌==◌, nat_lt, length, Some, if◌then◌else◌}
use Rattle.std.specs.List.{slice_get}
use Rattle.pkg_manifest.specs.declared.value.Json.{Json}
use Rattle.pkg_manifest.specs.declared.value.Member.{Member}
use Rattle.pkg_exports.specs.Texts.{has}

-- A name fits a key where it is the key and has no `*`, or has one `*`, for which at least one byte of the key stands.
-- The part is what is put for each `*` of the target: with an equal name that is `*` itself.
pub data Fits (key name part : List ℕ) : Type 0 where
  equal : has 42 name ≡ false → name ≡ key → part ≡ 42 ∷ [] → Fits key name part
  pattern : (before after : List ℕ) → has 42 before ≡ false → has 42 after ≡ false → name ≡ before ++ 42 ∷ after → part ≢ [] → key ≡ before ++ part ++ after → Fits key name part

-- the text before the first `*`, and the whole text where there is none
abbrev pub before_star : List ℕ → List ℕ
before_star [] = []
before_star (c ∷ s) = if c == 42 then [] else c ∷ before_star s

-- longer before its `*`, or as long there and longer as a whole
abbrev pub is_longer : ℕ → ℕ → ℕ → ℕ → Bool
is_longer before whole other_before other_whole = nat_lt other_before before || ((before == other_before) && nat_lt other_whole whole)

-- Of two names that fit a key the one with more text before its `*` is preferred, then the longer one. One that is equal to the key
-- has all its text before a `*`, so it is preferred to each pattern.
abbrev pub is_preferred : List ℕ → List ℕ → Bool
is_preferred m n = is_longer (length (before_star m)) (length m) (length (before_star n)) (length n)

-- the entry fits the key, no entry that fits is preferred to it, and it is preferred to those that fit before it
pub record Decides (entries : List (Member Json)) (key : List ℕ) (m : Member Json) (part : List ℕ) : Type 0 where
  pub place : ℕ
  pub stands : slice_get entries place ≡ Some m
  pub fits : Fits key m.name part
  pub best : (i : ℕ) (n : Member Json) (p : List ℕ) → slice_get entries i ≡ Some n → Fits key n.name p → is_preferred n.name m.name ≡ false
  pub first : (i : ℕ) (n : Member Json) (p : List ℕ) → i < place → slice_get entries i ≡ Some n → Fits key n.name p → is_preferred m.name n.name ≡ true

abbrev pub NoneFits : List (Member Json) → List ℕ → Type 0
NoneFits entries key = (i : ℕ) (n : Member Json) (p : List ℕ) → slice_get entries i ≡ Some n → ¬ Fits key n.name p

-- The best entry among the first ones of a map. Only private clauses cite it.
use Rattle.std.specs.Prelude.{◌≡◌, ◌<◌, ℕ, List, length, Option, Some, None, true, false, if◌then◌else◌}
use Rattle.std.specs.List.{slice_get}
use Rattle.pkg_manifest.specs.declared.value.Json.{Json}
use Rattle.pkg_manifest.specs.declared.value.Member.{Member}
use Rattle.pkg_exports.specs.declared.key.Fit.{Fit}
use Rattle.pkg_exports.specs.Keys.{Fits, before_star, is_longer, is_preferred}

pub record IsFit (place : ℕ) (key name : List ℕ) (fit : Fit) : Type 0 where
  pub place_is : fit.place ≡ place
  pub before_is : fit.before ≡ length (before_star name)
  pub length_is : fit.length ≡ length name
  pub fits : Fits key name fit.part.now

abbrev pub better_of : Option Fit → Option Fit → Option Fit
better_of None next = next
better_of (Some best) None = Some best
better_of (Some best) (Some next) = if is_longer next.before next.length best.before best.length then Some next else Some best

pub record ChosenAt (entries : List (Member Json)) (key : List ℕ) (bound : ℕ) (fit : Fit) : Type 0 where
  pub entry : Member Json
  pub below : fit.place < bound
  pub stands : slice_get entries fit.place ≡ Some entry
  pub fit_of_it : IsFit fit.place key entry.name fit
  pub best : (i : ℕ) (n : Member Json) (p : List ℕ) → i < bound → slice_get entries i ≡ Some n → Fits key n.name p → is_preferred n.name entry.name ≡ false
  pub first : (i : ℕ) (n : Member Json) (p : List ℕ) → i < fit.place → slice_get entries i ≡ Some n → Fits key n.name p → is_preferred entry.name n.name ≡ true

-- the best of the entries at places below the bound
abbrev pub Chosen : List (Member Json) → List ℕ → ℕ → Option Fit → Type 0
Chosen entries key bound None = (i : ℕ) (n : Member Json) (p : List ℕ) → i < bound → slice_get entries i ≡ Some n → ¬ Fits key n.name p
Chosen entries key bound (Some fit) = ChosenAt entries key bound fit

-- The steps of a search for what an exported name stands for. Only private clauses cite this.
use Rattle.std.specs.Prelude.{◌≡◌, ◌≢◌, ◌<◌, ◌+◌, ◌*◌, ◌^◌, ◌⊎◌, ℕ, zero, suc, List, [], ◌∷◌, ◌++◌, Bool, true, ◌&&◌, nat_eq, cond, length, map, flat_map, sum_by}
use Rattle.std.specs.List.{All, list_any}
use Rattle.std.specs.Str.{bytes_eq}
use Rattle.pk_types.specs.declared.facts.Origin.{Origin}
use Rattle.pk_types.specs.declared.facts.Origin.TheVariants.{Own, Other, Space}
use Rattle.pk_types.specs.declared.graph.Graph.{Graph}
use Rattle.pk_types.specs.declared.graph.Row.{Row}
use Rattle.pk_text.specs.declared.text.Key.{Key}
use Rattle.pk_types.specs.declared.found.Found.{Found}
use Rattle.pk_types.specs.declared.found.Found.TheVariants.{Ambiguous}
use Rattle.pk_types.specs.Joined.{joined}
use Rattle.pk_types.specs.Places.{ArePlacesIn}
use Rattle.pk_types.specs.Resolving.{Pair, IsFirst, ResolvesTo, StarsLeadTo}
use Rattle.export_names.specs.declared.step.Stars.{Stars}
use Rattle.export_names.specs.declared.step.Step.{Step}
use Rattle.export_names.specs.declared.step.Step.TheVariants as steps

-- ---- what a search comes to

abbrev pub origin_names : Origin → List (List ℕ)
origin_names (Own binding) = []
origin_names (Other request name) = name ∷ []
origin_names (Space request) = []

-- the names that some module exports from another
abbrev pub passed_names : Graph → List (List ℕ)
passed_names graph = flat_map (λ row. flat_map (λ entry. origin_names entry.origin) row.facts.exports) graph.rows

-- the names that a search comes to that begins with the name
abbrev pub names_within : Graph → List ℕ → List (List ℕ)
names_within graph name = name ∷ passed_names graph

abbrev pub IsWithin : Graph → List ℕ → List ℕ → Type 0
IsWithin graph first name = list_any (bytes_eq name) (names_within graph first) ≡ true

abbrev pub same_pair : Pair → Pair → Bool
same_pair pair other = nat_eq pair.0 other.0 && bytes_eq pair.1 other.1

-- the pairs that stand in a set of borrowed names
abbrev pub pairs : List (ℕ × Key) → List Pair
pairs keys = map (λ key. (key.0, key.1.0.now)) keys

abbrev pub left_one : List Pair → ℕ → List ℕ → ℕ
left_one before number name = cond (list_any (same_pair (number, name)) before) 0 1

abbrev pub left_names : List Pair → ℕ → List (List ℕ) → ℕ
left_names before number [] = 0
left_names before number (name ∷ names) = left_one before number name + left_names before number names

-- how many pairs of the first modules and the names were not gone through
abbrev pub unvisited : List Pair → ℕ → List (List ℕ) → ℕ
unvisited before zero names = 0
unvisited before (suc number) names = left_names before number names + unvisited before number names

-- ---- stars and steps

pub record StarsFit (graph : Graph) (stars : Stars) : Type 0 where
  pub places : ArePlacesIn (stars.targets.now) (stars.stars.now)
  pub targets : ArePlacesIn graph.rows (stars.targets.now)
  pub few : length stars.stars.now < 2 ^ 32

abbrev pub StepFits : Graph → Step → Type 0
StepFits graph (steps.Ask number name) = number < length graph.rows
StepFits graph (steps.Stars stars) = StarsFit graph stars
StepFits graph (steps.Answer found) = Unit {0}

abbrev pub StepIsWithin : Graph → List ℕ → Step → Type 0
StepIsWithin graph first (steps.Ask number name) = IsWithin graph first (name.now)
StepIsWithin graph first (steps.Stars stars) = IsWithin graph first (stars.name.now)
StepIsWithin graph first (steps.Answer found) = Unit {0}

abbrev pub step_weight : Step → ℕ
step_weight (steps.Ask number name) = 1
step_weight (steps.Stars stars) = 3 * length stars.stars.now + 1
step_weight (steps.Answer found) = 0

-- the question that the step stands for leads to what is found
abbrev pub StepLeadsTo : Graph → List Pair → Step → Found → List Pair → Type 0
StepLeadsTo graph before (steps.Ask number name) found after = ResolvesTo graph before number (name.now) found after
StepLeadsTo graph before (steps.Stars stars) found after = StarsLeadTo graph before (stars.targets.now) (stars.name.now) (stars.stars.now) stars.so_far found after
StepLeadsTo graph before (steps.Answer one) found after = (one ≡ found) × (before ≡ after)

pub record Opens (graph : Graph) (number : ℕ) (name : List ℕ) (step : Step) : Type 0 where
  pub leads : (before : List Pair) (row : Row) (found : Found) (after : List Pair) → IsFirst graph before number name row
      → StepLeadsTo graph (before ++ (number, name) ∷ []) step found after → ResolvesTo graph before number name found after
  pub fits : StepFits graph step
  pub within : (first : List ℕ) → IsWithin graph first name → StepIsWithin graph first step
  pub light : step_weight step < 2 ^ 34

-- a module was asked: the question goes on as the step, or it was answered
pub record Asks (graph : Graph) (before : List Pair) (number : ℕ) (name : List ℕ) (after : List Pair) (step : Step) : Type 0 where
  pub leads : (found : Found) (last : List Pair) → StepLeadsTo graph after step found last → ResolvesTo graph before number name found last
  pub fits : StepFits graph step
  pub within : (first : List ℕ) → IsWithin graph first name → StepIsWithin graph first step
  pub lighter : (first : List ℕ) → IsWithin graph first name
      → unvisited after (length graph.rows) (names_within graph first) * 2 ^ 34 + step_weight step < unvisited before (length graph.rows) (names_within graph first) * 2 ^ 34 + 1

-- ---- stars that wait for the answer of one of them

-- once one of the stars leads to the value, those behind it lead to what is found
abbrev pub AnswerLeadsTo : Graph → List Pair → Stars → Found → Found → List Pair → Type 0
AnswerLeadsTo graph before stars value found after =
    ((joined stars.so_far value ≡ Ambiguous) × (found ≡ Ambiguous) × (before ≡ after))
    ⊎ ((joined stars.so_far value ≢ Ambiguous) × StarsLeadTo graph before (stars.targets.now) (stars.name.now) (stars.stars.now) (joined stars.so_far value) found after)

-- the last that waits is answered by the value, and the first then by what is found
abbrev pub Returns : Graph → List Pair → Found → List Stars → Found → List Pair → Type 0
Returns graph before value [] found after = (value ≡ found) × (before ≡ after)
Returns graph before value (stars ∷ waiting) found after = (one : Found) × (between : List Pair) × Returns graph before value waiting one between × AnswerLeadsTo graph between stars one found after

-- the step leads to an answer, by which those that wait lead to what is found
abbrev pub Yields : Graph → List Pair → Step → List Stars → Found → List Pair → Type 0
Yields graph before step waiting found after = (one : Found) × (between : List Pair) × StepLeadsTo graph before step one between × Returns graph between one waiting found after

-- what a search holds is in range
pub record IsReady (graph : Graph) (first : List ℕ) (step : Step) (waiting : List Stars) : Type 0 where
  pub fits : StepFits graph step
  pub within : StepIsWithin graph first step
  pub waiting_fit : All (StarsFit graph) waiting
  pub waiting_within : All (λ stars. IsWithin graph first (stars.name.now)) waiting

abbrev pub waiting_weight : List Stars → ℕ
waiting_weight waiting = sum_by (λ stars. 3 * length stars.stars.now + 2) waiting

-- the next star was asked, or none was left
pub record GoesOn (graph : Graph) (stars : Stars) (old new : List Stars) (step : Step) : Type 0 where
  pub leads : (before : List Pair) (found : Found) (after : List Pair) → Yields graph before step new found after → Yields graph before (steps.Stars stars) old found after
  pub ready : (first : List ℕ) → IsReady graph first (steps.Stars stars) old → IsReady graph first step new
  pub lighter : step_weight step + waiting_weight new < 3 * length stars.stars.now + 1 + waiting_weight old

-- stars that waited go on, or they conflict
abbrev pub Joins : Stars → Found → Step → Type 0
Joins stars found step =
    ((joined stars.so_far found ≡ Ambiguous) × (step ≡ steps.Answer Ambiguous))
    ⊎ ((joined stars.so_far found ≢ Ambiguous) × (step ≡ steps.Stars (record { targets = stars.targets; name = stars.name; stars = stars.stars; so_far = joined stars.so_far found })))

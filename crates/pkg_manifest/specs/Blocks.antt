-- How far a pattern fits without a choice. Only private clauses cite it.
use Rattle.std.specs.Prelude.{List, [], ◌∷◌, Option, Some, None}
use Rattle.pkg_manifest.specs.Fitting.{Part, many, one}

pub data Block (A X : Type 0) : Type 0 where
  fails : Block A X
  ends : Block A X
  star : List (Part A) → List X → Block A X

abbrev pub at_end : {A X : Type 0} → List X → Block A X
at_end [] = ends
at_end (x ∷ s) = fails

module _ {A X : Type 0} (step : A → List X → Option (List X)) where
  abbrev pub block_then : (List X → Block A X) → Option (List X) → Block A X
  block_then more None = fails
  block_then more (Some t) = more t

  -- what is left at the first run of any length, or whether the ends of both meet
  abbrev pub block : List (Part A) → List X → Block A X
  block [] s = at_end s
  block (many ∷ p) s = star p s
  block (one a ∷ p) s = block_then (block p) (step a s)

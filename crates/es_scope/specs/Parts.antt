-- The parts of an outline: which of them a place stands in, and where each ends.
use Rattle.std.specs.Prelude.{◌≡◌, ℕ, zero, suc, ◌+◌, ◌<◌, ◌≤◌, Bool, true, false, [], ◌∷◌, Some, slice_get, slice_range}
use Rattle.es_outline.specs.declared.mark.Mark.TheVariants as mark
use Rattle.es_outline.specs.declared.mark.Part.{Part}
use Rattle.es_outline.specs.Outline.{Marks}

-- the marks end no part but those that begin among them and, at most, this many more
unfoldable pub ends_none : ℕ → Marks → Bool
ends_none more [] = true
ends_none more (mark.Begin which ∷ rest) = ends_none (suc more) rest
ends_none zero (mark.End which ∷ rest) = false
ends_none (suc more) (mark.End which ∷ rest) = ends_none more rest
ends_none more (_ ∷ rest) = ends_none more rest

-- The part that begins at `opening` encloses the place: it begins before it and has not ended before it.
pub record Encloses (marks : Marks) (which : Part) (opening place : ℕ) : Type 0 where
  pub begins : slice_get marks opening ≡ Some (mark.Begin which)
  pub before : opening < place
  pub unended : ends_none 0 (slice_range marks (opening + 1) place) ≡ true

-- the part that begins at `opening` ends at `closing`: the mark there ends a part, and all that began between have ended
pub record EndsAt (marks : Marks) (which : Part) (opening closing : ℕ) : Type 0 where
  pub encloses : Encloses marks which opening closing
  pub ends : slice_get marks closing ≡ Some (mark.End which)
  pub ended : ends_none 0 (slice_range marks (opening + 1) (closing + 1)) ≡ false

-- parts are well nested: each that begins ends, as what it began, and nothing else ends
pub record IsNested (marks : Marks) : Type 0 where
  pub begun : (which : Part) (opening : ℕ) → slice_get marks opening ≡ Some (mark.Begin which) → (closing : ℕ) × EndsAt marks which opening closing
  pub ended : (which : Part) (closing : ℕ) → slice_get marks closing ≡ Some (mark.End which) → (opening : ℕ) × EndsAt marks which opening closing

-- of the parts of some kinds that enclose the place, this one is the innermost
pub record NearestPart (kinds : Part → Bool) (marks : Marks) (place : ℕ) (which : Part) (opening : ℕ) : Type 0 where
  pub kind : kinds which ≡ true
  pub encloses : Encloses marks which opening place
  pub nearest : (other : Part) (further : ℕ) → kinds other ≡ true → Encloses marks other further place → further ≤ opening

-- the part is the innermost of all that enclose the place
abbrev pub IsDirectlyIn : Marks → ℕ → Part → ℕ → Type 0
IsDirectlyIn marks place which opening = NearestPart (λ any. true) marks place which opening

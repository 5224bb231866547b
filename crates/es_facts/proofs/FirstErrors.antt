-- The first early error, of the first places of each.
use Rattle.std.proofs.Common.{◌≡◌, ◌⊎◌, inl, inr, ◌<◌, ◌≤◌, ◌+◌, ℕ, Bool, true, false, nat_lt, if◌then◌else◌, Option, Some, None, refl, sym, subst, ◌∙◌, ⊎_elim, arith}
use Rattle.std.proofs.lemmas.Grind.{common_steps}
use Rattle.es_scope.specs.declared.kinds.EarlyError.{EarlyError}
use Rattle.es_scope.specs.declared.kinds.EarlyError.TheVariants.{DeclaredTwice, ExportedTwice, ExportsUndeclared}
use Rattle.es_scope.specs.Source.{Source}
use Rattle.es_scope.specs.Twice.{IsTwice, IsFirstTwice}
use Rattle.es_scope.specs.Exporting.{IsExportedTwice, ExportsUndeclared as ExportsNone}
use Rattle.es_scope.specs.Faults.{IsEarly, rank}
use Rattle.es_exports.specs.Exported.{IsFirstPlace}
use Rattle.es_facts.specs.Errors.{IsFirstError, earlier, first_error}

module _ (source : Source) where
  -- the first of the errors that have lesser ranks
  data IsFirstBelow (bound : ℕ) : Option (ℕ × EarlyError) → Type 0 where
    none : ((place : ℕ) (error : EarlyError) → rank error < bound → ¬ IsEarly source place error) → IsFirstBelow bound None
    some : (place : ℕ) (error : EarlyError) → IsEarly source place error → rank error < bound
        → ((other : ℕ) (further : EarlyError) → rank further < bound → IsEarly source other further → place < other ⊎ ((place ≡ other) × (rank error ≤ rank further)))
        → IsFirstBelow bound (Some (place, error))

  one_of : (error further : EarlyError) → rank error ≡ rank further → error ≡ further
  one_of DeclaredTwice DeclaredTwice e = refl
  one_of ExportedTwice ExportedTwice e = refl
  one_of ExportsUndeclared ExportsUndeclared e = refl
  one_of DeclaredTwice ExportedTwice e = absurd (omega (arith, e))
  one_of DeclaredTwice ExportsUndeclared e = absurd (omega (arith, e))
  one_of ExportedTwice DeclaredTwice e = absurd (omega (arith, e))
  one_of ExportedTwice ExportsUndeclared e = absurd (omega (arith, e))
  one_of ExportsUndeclared DeclaredTwice e = absurd (omega (arith, e))
  one_of ExportsUndeclared ExportedTwice e = absurd (omega (arith, e))

  abbrev First : ℕ → ℕ → EarlyError → Type 0
  First bound place error = (other : ℕ) (more : EarlyError) → rank more < bound → IsEarly source other more
      → place < other ⊎ ((place ≡ other) × (rank error ≤ rank more))

  abbrev Least : ℕ → EarlyError → Type 0
  Least place error = (other : ℕ) → IsEarly source other error → place ≤ other

  below_or : (a b : ℕ) → a < b + 1 → (a < b) ⊎ (a ≡ b)
  below_or a b l = grind (arith, l)

  less_or : (a b : ℕ) → a ≤ b → (a < b) ⊎ (a ≡ b)
  less_or a b l = grind (arith, l)

  of_rank : {bound : ℕ} (further : EarlyError) (other : ℕ) (more : EarlyError) → rank further ≡ bound → rank more < bound + 1 → IsEarly source other more
      → (rank more < bound) ⊎ ((rank more ≡ bound) × IsEarly source other further)
  of_rank {bound} further other more same below early =
      ⊎_elim inl (λ q. inr (q, subst (IsEarly source other) (one_of more further (q ∙ sym same)) early)) (below_or (rank more) bound below)

  new_first : {bound place : ℕ} (further : EarlyError) → rank further ≡ bound → Least place further
      → ((other : ℕ) (more : EarlyError) → rank more < bound → IsEarly source other more → place < other) → First (bound + 1) place further
  new_first {bound} {place} further same least behind other more below early = by (of_rank further other more same below early)
    where
      by : (rank more < bound) ⊎ ((rank more ≡ bound) × IsEarly source other further) → place < other ⊎ ((place ≡ other) × (rank further ≤ rank more))
      by (inl l) = inl (behind other more l early)
      by (inr q) = ⊎_elim inl (λ p. inr (p, omega (arith, q.0, same))) (less_or place other (least other q.1))

  old_first : {bound place other_place : ℕ} (error further : EarlyError) → rank further ≡ bound → rank error < bound → Least place further → other_place ≤ place
      → First bound other_place error → First (bound + 1) other_place error
  old_first {bound} {place} {other_place} error further same small least behind first other more below early = by (of_rank further other more same below early)
    where
      by : (rank more < bound) ⊎ ((rank more ≡ bound) × IsEarly source other further) → other_place < other ⊎ ((other_place ≡ other) × (rank error ≤ rank more))
      by (inl l) = first other more l early
      by (inr q) =
          let here = least other q.1 in
          ⊎_elim inl (λ p. inr (p, omega (arith, q.0, small))) (less_or other_place other (omega (arith, here, behind)))

  first_two : {bound : ℕ} (further : EarlyError) (place other_place : ℕ) (error : EarlyError) (is_less : Bool) → nat_lt place other_place ≡ is_less
      → rank further ≡ bound → IsEarly source place further → Least place further → IsEarly source other_place error → rank error < bound → First bound other_place error
      → IsFirstBelow (bound + 1) (if is_less then Some (place, further) else Some (other_place, error))
  first_two {bound} further place other_place error true less same here least there small first =
      IsFirstBelow.some place further here (omega (arith, same)) (new_first further same least
      (λ other more l e. ⊎_elim (λ (b : other_place < other). omega (arith, b, lt)) (λ q. omega (arith, q.0, lt)) (first other more l e)))
    where
      lt : place < other_place
      lt = grind (arith, common_steps)
  first_two {bound} further place other_place error false less same here least there small first =
      IsFirstBelow.some other_place error there (omega (arith, small)) (old_first error further same small least ge first)
    where
      ge : other_place ≤ place
      ge = grind (arith, common_steps)

  step : {bound : ℕ} (error : Option (ℕ × EarlyError)) (at : Option ℕ) (further : EarlyError) → rank further ≡ bound → IsFirstBelow bound error
      → IsFirstPlace (λ place. IsEarly source place further) at → IsFirstBelow (bound + 1) (earlier error at further)
  step None None further same (IsFirstBelow.none never) (IsFirstPlace.none nowhere) =
      IsFirstBelow.none (λ place error below early. ⊎_elim (λ l. never place error l early) (λ q. nowhere place q.1) (of_rank further place error same below early))
  step None (Some _) further same (IsFirstBelow.none never) (IsFirstPlace.some place here least) =
      IsFirstBelow.some place further here (omega (arith, same)) (new_first further same least (λ other more l e. absurd (never other more l e)))
  step (Some _) None further same (IsFirstBelow.some place error there small first) (IsFirstPlace.none nowhere) =
      IsFirstBelow.some place error there (omega (arith, small)) (λ other more below early.
      ⊎_elim (λ l. first other more l early) (λ q. absurd (nowhere other q.1)) (of_rank further other more same below early))
  step (Some _) (Some _) further same (IsFirstBelow.some other_place error there small first) (IsFirstPlace.some place here least) =
      first_two further place other_place error (nat_lt place other_place) refl same here least there small first

  -- every rank is below 3
  small_rank : (error : EarlyError) → rank error < 3
  small_rank DeclaredTwice = omega (arith)
  small_rank ExportedTwice = omega (arith)
  small_rank ExportsUndeclared = omega (arith)

  whole : (error : Option (ℕ × EarlyError)) → IsFirstBelow 3 error → IsFirstError source error
  whole None (IsFirstBelow.none never) = IsFirstError.none (λ place error. never place error (small_rank error))
  whole (Some _) (IsFirstBelow.some place error there small first) =
      IsFirstError.some place error (record { is_there = there; first = λ other further early. first other further (small_rank further) early })

  of_twice : (place : ℕ) → IsEarly source place DeclaredTwice → IsTwice source place
  of_twice place (IsEarly.twice t) = t

  of_exported : (place : ℕ) → IsEarly source place ExportedTwice → IsExportedTwice source place
  of_exported place (IsEarly.exported_twice t) = t

  of_undeclared : (place : ℕ) → IsEarly source place ExportsUndeclared → ExportsNone source place
  of_undeclared place (IsEarly.undeclared t) = t

  twice_first : (at : Option ℕ) → IsFirstTwice source at → IsFirstPlace (λ place. IsEarly source place DeclaredTwice) at
  twice_first None (IsFirstTwice.none nowhere) = IsFirstPlace.none (λ place e. nowhere place (of_twice place e))
  twice_first (Some _) (IsFirstTwice.some place here least) = IsFirstPlace.some place (IsEarly.twice here) (λ other e. least other (of_twice other e))

  exported_first : (at : Option ℕ) → IsFirstPlace (IsExportedTwice source) at → IsFirstPlace (λ place. IsEarly source place ExportedTwice) at
  exported_first None (IsFirstPlace.none nowhere) = IsFirstPlace.none (λ place e. nowhere place (of_exported place e))
  exported_first (Some _) (IsFirstPlace.some place here least) =
      IsFirstPlace.some place (IsEarly.exported_twice here) (λ other e. least other (of_exported other e))

  undeclared_first : (at : Option ℕ) → IsFirstPlace (ExportsNone source) at → IsFirstPlace (λ place. IsEarly source place ExportsUndeclared) at
  undeclared_first None (IsFirstPlace.none nowhere) = IsFirstPlace.none (λ place e. nowhere place (of_undeclared place e))
  undeclared_first (Some _) (IsFirstPlace.some place here least) =
      IsFirstPlace.some place (IsEarly.undeclared here) (λ other e. least other (of_undeclared other e))

  no_rank : IsFirstBelow 0 None
  no_rank = IsFirstBelow.none (λ place error below. absurd (omega (arith, below)))

  -- the first of all errors, of the first places of each
  pub first_of_all : (declared exported undeclared : Option ℕ) → IsFirstTwice source declared → IsFirstPlace (IsExportedTwice source) exported
      → IsFirstPlace (ExportsNone source) undeclared → IsFirstError source (first_error declared exported undeclared)
  first_of_all declared exported undeclared twice exports lists =
      let one = step None declared DeclaredTwice refl no_rank (twice_first declared twice) in
      let two = step (earlier None declared DeclaredTwice) exported ExportedTwice refl one (exported_first exported exports) in
      whole (first_error declared exported undeclared)
      (step (earlier (earlier None declared DeclaredTwice) exported ExportedTwice) undeclared ExportsUndeclared refl two (undeclared_first undeclared lists))

-- The stars of a module that lead to what is found.
use Rattle.std.proofs.Common.{◌≡◌, ◌↔◌, inl, inr, ℕ, true, List, [], ◌∷◌, ◌++◌, length, Contains, Some, slice_get, option_map, sym, ap, subst, ◌∙◌, arith}
use Rattle.std.specs.List.Sorted.{IsStrictlyIncreasing}
use Rattle.std.proofs.lemmas.Option.{same_Some}
use Rattle.std.proofs.lemmas.List.Elements.{Contains-append_left, Contains-append_right, Contains-append_cases}
use Rattle.pk_types.specs.declared.facts.Kind.TheVariants.{Es}
use Rattle.pk_types.specs.declared.found.Found.{Found}
use Rattle.pk_types.specs.declared.graph.Graph.{Graph}
use Rattle.pk_types.specs.declared.graph.Row.{Row}
use Rattle.pk_types.specs.Joined.{is_same}
use Rattle.pk_types.specs.Resolving.{Resolves}
use Rattle.pk_types.specs.Reexports.{FindsOne, IsFoundThrough}
use Rattle.pk_types.specs.StopSearch.{AreFoundThrough}
use Rattle.pk_types.proofs.OneAnswer.{resolves_once}
use Rattle.pk_types.proofs.Parts.{one_only}
use Rattle.graph_laws.proofs.SameThing.{same_thing, itself}
use Rattle.graph_laws.proofs.FoundWays.{found_by_star}
use Rattle.stop_search.specs.Ways.{IsBare, LeadsThere, StarLeads}

-- what the test of the answer tells
pub same_leads : (graph : Graph) (number : ℕ) (name : List ℕ) (found there : Found) (row : Row) → slice_get graph.rows number ≡ Some row → row.facts.kind ≡ Es
    → Resolves graph number name there → (is_same there found ≡ true) ↔ LeadsThere graph number name found
same_leads graph number name found there row at kind r = (
  λ e. (ap (option_map (λ w. w.facts.kind)) at ∙ ap Some kind, subst (Resolves graph number name) (same_thing there found e) r),
  λ l. subst (λ f. is_same there f ≡ true) (resolves_once graph number name there found r l.1) (itself there),
)

module _ (graph : Graph) (targets name : List ℕ) (found : Found) where
  -- the stars that lead there, of those that were gone through
  abbrev pub AreLeading : List ℕ → List ℕ → Type 0
  AreLeading stars leading = (star : ℕ) → Contains leading star ↔ (Contains stars star × StarLeads graph targets name found star)

  pub one_in : (before leading : List ℕ) (star target : ℕ) → slice_get targets star ≡ Some target → LeadsThere graph target name found
      → AreLeading before leading → AreLeading (before ++ star ∷ []) (leading ++ star ∷ [])
  one_in before leading star target t l each other = (
    λ m. elim (Contains-append_cases leading (star ∷ []) other m) [
      | inl h ↦ let e = (each other).0 h in (Contains-append_left before (star ∷ []) other e.0, e.1)
      | inr h ↦ (
        Contains-append_right before (star ∷ []) other h,
        subst (StarLeads graph targets name found) (one_only star other h) (target, t, l),
      )
    ],
    λ m. elim (Contains-append_cases before (star ∷ []) other m.0) [
      | inl h ↦ Contains-append_left leading (star ∷ []) other ((each other).1 (h, m.1))
      | inr h ↦ Contains-append_right leading (star ∷ []) other h
    ],
  )

  pub one_out : (before leading : List ℕ) (star target : ℕ) → slice_get targets star ≡ Some target → ¬ LeadsThere graph target name found
      → AreLeading before leading → AreLeading (before ++ star ∷ []) leading
  one_out before leading star target t lacks each other = (
    λ m. let e = (each other).0 m in (Contains-append_left before (star ∷ []) other e.0, e.1),
    λ m. elim (Contains-append_cases before (star ∷ []) other m.0) [
      | inl h ↦ (each other).1 (h, m.1)
      | inr h ↦ absurd (lost (subst (StarLeads graph targets name found) (sym (one_only star other h)) m.1))
    ],
  )
    where
      lost : StarLeads graph targets name found star → ⊥
      lost s = lacks (subst (λ k. LeadsThere graph k name found) (same_Some s.0 target (sym s.1 ∙ t)) s.2)

module _ (graph : Graph) (number : ℕ) (name : List ℕ) (found : Found) (bare : IsBare graph number name) (finds : FindsOne graph number name found) where
  -- the single star of a module
  pub single : (stars : List ℕ) → length stars ≡ 1 → stars ≡ bare.0.facts.stars → AreFoundThrough graph number bare.0 name stars
  single stars one same = only stars one same
    where
      only : (list : List ℕ) → length list ≡ 1 → list ≡ bare.0.facts.stars → AreFoundThrough graph number bare.0 name list
      only [] e s = absurd (omega (arith, e))
      only (star ∷ more ∷ rest) e s = absurd (omega (arith, e))
      only (star ∷ []) e s =
          let f = found_by_star graph number name bare.0 found bare.1 bare.2 bare.3 finds in
          let q : star ≡ f.0 = one_only star f.0 (subst (λ l. Contains l f.0) (sym s) f.1.among) in
          record {
            ascending = λ k h. absurd (omega (arith, h));
            each = λ other. (
              λ m. subst (IsFoundThrough graph number bare.0 name) (sym q ∙ one_only star other m) f.1,
              λ g. subst (λ l. Contains l other) (sym s) g.among,
            );
          }

  -- of several stars those that lead there, in order
  pub several : (leading stars : List ℕ) → AreLeading graph bare.0.targets name found bare.0.facts.stars leading
      → IsStrictlyIncreasing stars → ((star : ℕ) → Contains stars star ↔ Contains leading star) → AreFoundThrough graph number bare.0 name stars
  several leading stars each rises same = record {
    ascending = rises;
    each = λ star. (
      λ m. let e = (each star).0 ((same star).0 m) in
          record { none = bare.3; among = e.0; target = e.1.0; leads = e.1.1; kind = e.1.2.0; found = found; here = finds; there = e.1.2.1 },
      λ f. (same star).1 ((each star).1 (
        f.among,
        (
          f.target,
          f.leads,
          (f.kind, subst (Resolves graph f.target name) (resolves_once graph number name f.found found f.here.resolves finds.resolves) f.there),
        ),
      )),
    );
  }

  -- the row of a module is one
  pub at_row : (stars : List ℕ) → AreFoundThrough graph number bare.0 name stars → (row : Row) → slice_get graph.rows number ≡ Some row
      → AreFoundThrough graph number row name stars
  at_row stars a row at = subst (λ r. AreFoundThrough graph number r name stars) (same_Some bare.0 row (sym bare.1 ∙ at)) a

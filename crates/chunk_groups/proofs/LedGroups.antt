-- The groups that modules lead to.
use Rattle.std.proofs.Common.{◌≡◌, ◌↔◌, ◌⊎◌, inl, inr, ⊎_elim, ℕ, ◌+◌, ◌<◌, List, [], Option, Some, None, length, get_or, sym, ap, subst, ◌∙◌, arith}
use Rattle.std.proofs.Math.ListN.{set}
use Rattle.std.specs.List.{Contains}
use Rattle.std.specs.List.Sorted.{IsStrictlyIncreasing}
use Rattle.std.proofs.lemmas.Bool.{cases_eq}
use Rattle.std.proofs.lemmas.Option.{same_Some}
use Rattle.std.proofs.lemmas.List.{get_or-set_same, get_or-set_other, get_or_default}
use Rattle.std.proofs.lemmas.List.Elements.{Contains-get_or}
use Rattle.std.proofs.lemmas.List.Kept.{AllPairs-from_increasing}
use Rattle.chunk_groups.specs.Gathered.{IsGathered, HasGroupAt, LeadsAt, AreGroupNumbers}

-- what the targets of one module add
pub given_group : (numbers : List (Option ℕ)) (imports : List (List ℕ)) (modules : List ℕ) (place : ℕ) (targets before after : List ℕ)
    → targets ≡ get_or imports (get_or modules place 0) [] → IsGathered before (HasGroupAt numbers targets) (length targets) after
    → (group : ℕ) → Contains after group ↔ (Contains before group ⊎ LeadsAt numbers imports modules place group)
given_group numbers imports modules place targets before after read gathered group = (
  λ c. ⊎_elim (λ b. inl b)
      (λ some. inr (get_or targets some.0 0, subst (λ l. Contains l (get_or targets some.0 0)) read (Contains-get_or targets some.0 0 some.1), some.2))
      ((gathered group).0 c),
  λ either. (gathered group).1 (⊎_elim (λ b. inl b)
      (λ leads.
      let there = subst (λ l. Contains l leads.0) (sym read) leads.1 in
      inr (there.0, there.1, ap (λ n. get_or numbers n None) (get_or_default targets there.0 0 leads.0 there.1 ∙ there.2) ∙ leads.2))
      either),
)

-- one module more has its group
pub one_number_more : (entries : ℕ) (imported : List ℕ) (place : ℕ) (numbers : List (Option ℕ)) → AreGroupNumbers entries imported place numbers
    → IsStrictlyIncreasing imported → place < length imported → get_or imported place 0 < length numbers
    → AreGroupNumbers entries imported (place + 1) (set numbers (get_or imported place 0) (Some (entries + place)))
one_number_more entries imported place numbers so_far rising h within = record {
  sound = λ target group e. ⊎_elim
      (λ same. (
        place,
        omega arith,
        sym (same_Some (entries + place) group (sym (get_or-set_same numbers here (Some (entries + place)) None within) ∙ ap (λ n. get_or now n None) (sym same) ∙ e)),
        sym same,
      ))
      (λ other.
      let found = so_far.sound target group (sym (get_or-set_other numbers here target (Some (entries + place)) None other) ∙ e) in
      (found.0, omega (arith, found.1), found.2, found.3))
      (cases_eq target here);
  each = λ k below. ⊎_elim
      (λ same. ap (λ n. get_or now (get_or imported n 0) None) same ∙ get_or-set_same numbers here (Some (entries + place)) None within ∙ ap (λ n. Some (entries + n)) (sym same))
      (λ other.
      let before : k < place = omega arith in
      let less = AllPairs-from_increasing imported rising k place 0 before h in
      get_or-set_other numbers here (get_or imported k 0) (Some (entries + place)) None (λ e. absurd (omega arith)) ∙ so_far.each k before)
      (cases_eq k place);
}
  where
    here : ℕ
    here = get_or imported place 0

    now : List (Option ℕ)
    now = set numbers (get_or imported place 0) (Some (entries + place))

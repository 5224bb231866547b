-- Rows of groups from which one more group's lead takes flags.
use Rattle.std.proofs.Common.{◌≡◌, ◌≢◌, ◌↔◌, ◌⊎◌, inl, inr, ⊎_elim, ℕ, ◌+◌, ◌<◌, ◌≤◌, ◌&&◌, Bool, true, false, cond, nat_eq, sum_by, List, [], ◌∷◌, ◌++◌, length, refl, sym, ap, subst, ◌∙◌, length-append, arith}
use Rattle.std.proofs.Math.ListN.{set}
use Rattle.std.specs.List.{Contains, list_any}
use Rattle.std.proofs.lemmas.Bool.{cases_eq, true≢false}
use Rattle.std.proofs.lemmas.List.{get_or-set_same, get_or-set_other, length-set}
use Rattle.std.proofs.lemmas.List.Sums.{sum_by-set}
use Rattle.std.proofs.lemmas.List.Elements.{Contains-append_left, Contains-append_right, Contains-push_cases}
use Rattle.std.proofs.lemmas.Map.Views.{exact_unsigned_eq}
use Rattle.indexmap.specs.IndexSet.{insert_key}
use Rattle.indexmap.proofs.CallerLemmas.{Contains-insert_key}
use Rattle.pk_types.proofs.ListMembers.{first_so, second_so, both}
use Rattle.avail_sets.specs.Words.{flag_in}
use Rattle.avail_sets.specs.Rows.{row_at, IsThere, ArePassed}

-- ---- who waits when one more is told to

pub insert_keeps : (keys : List ℕ) (key number : ℕ) → Contains keys number → Contains (insert_key nat_eq keys key) number
insert_keeps keys key number there = by (list_any (nat_eq key) keys) refl
  where
    by : (b : Bool) → list_any (nat_eq key) keys ≡ b → Contains (insert_key nat_eq keys key) number
    by true e = subst (λ l. Contains l number) (sym (ap (λ t. cond t keys (keys ++ key ∷ [])) e)) there
    by false e = subst (λ l. Contains l number) (sym (ap (λ t. cond t keys (keys ++ key ∷ [])) e)) (Contains-append_left keys (key ∷ []) number there)

pub insert_cases : (keys : List ℕ) (key number : ℕ) → Contains (insert_key nat_eq keys key) number → Contains keys number ⊎ (key ≡ number)
insert_cases keys key number = by (list_any (nat_eq key) keys) refl
  where
    by : (b : Bool) → list_any (nat_eq key) keys ≡ b → Contains (insert_key nat_eq keys key) number → Contains keys number ⊎ (key ≡ number)
    by true e there = inl (subst (λ l. Contains l number) (ap (λ t. cond t keys (keys ++ key ∷ [])) e) there)
    by false e there = Contains-push_cases keys key number (subst (λ l. Contains l number) (ap (λ t. cond t keys (keys ++ key ∷ [])) e) there)

one_longer : (keys : List ℕ) (key : ℕ) → length (insert_key nat_eq keys key) ≤ length keys + 1
one_longer keys key = by (list_any (nat_eq key) keys) refl
  where
    by : (b : Bool) → list_any (nat_eq key) keys ≡ b → length (insert_key nat_eq keys key) ≤ length keys + 1
    by true e = omega (arith, ap (λ t. length (cond t keys (keys ++ key ∷ []))) e)
    by false e = omega (arith, ap (λ t. length (cond t keys (keys ++ key ∷ []))) e, length-append keys (key ∷ []))

-- nobody waits
pub nobody : (keys : List ℕ) → (0 < length keys → false ≡ true) → keys ≡ []
nobody [] none = refl
nobody (key ∷ keys) none = absurd (true≢false (sym (none (omega arith))))

-- ---- flags are taken

pub begins : (have : List ℕ) (rows : List (List ℕ)) (waiting : List ℕ) → ArePassed have [] rows rows waiting waiting
begins have rows waiting = record {
  each = refl;
  long = λ group. refl;
  flags = λ group number. (λ there. (there, λ none. absurd (omega (arith, none.1))), λ both. both.0);
  kept = λ group out. (out, refl);
  only = λ group there. inl there;
  fewer = omega arith;
}

module _ (have leads : List ℕ) (rows now : List (List ℕ)) (waiting left : List ℕ) (so_far : ArePassed have leads rows now waiting left)
    (next : ℕ) (row : List ℕ) (within : next < length now) (long : length row ≡ length (row_at now next))
    (flags : (number : ℕ) → flag_in row number ≡ (flag_in (row_at now next) number && flag_in have number)) where
  abbrev after : List (List ℕ)
  after = set now next row

  at_next : row_at after next ≡ row
  at_next = get_or-set_same now next row [] within

  at_other : (group : ℕ) → group ≢ next → row_at after group ≡ row_at now group
  at_other group ne = get_or-set_other now next group row [] ne

  Flags : ℕ → ℕ → Type 0
  Flags group number = IsThere after group number ↔ (IsThere rows group number × (Contains (leads ++ next ∷ []) group → flag_in have number ≡ true))

  flags_next : (number : ℕ) → IsThere after next number ↔ (IsThere rows next number × (Contains (leads ++ next ∷ []) next → flag_in have number ≡ true))
  flags_next number = (
    λ there.
        let so = sym (flags number) ∙ ap (λ r. flag_in r number) (sym at_next) ∙ there in
        let old = (so_far.flags next number).0 (first_so (flag_in (row_at now next) number) (flag_in have number) so) in
        (old.0, λ among. second_so (flag_in (row_at now next) number) (flag_in have number) so),
    λ two.
        let here = two.1 (Contains-append_right leads (next ∷ []) next (0, omega arith, refl)) in
        let old = (so_far.flags next number).1 (two.0, λ among. here) in
        ap (λ r. flag_in r number) at_next ∙ flags number ∙ both (flag_in (row_at now next) number) (flag_in have number) old here,
  )

  flags_other : (group number : ℕ) → group ≢ next → IsThere after group number ↔ (IsThere rows group number × (Contains (leads ++ next ∷ []) group → flag_in have number ≡ true))
  flags_other group number ne = (
    λ there.
        let old = (so_far.flags group number).0 (sym (ap (λ r. flag_in r number) (at_other group ne)) ∙ there) in
        (old.0, λ among. ⊎_elim (λ before. old.1 before) (λ e. absurd (ne (sym e))) (Contains-push_cases leads next group among)),
    λ two. ap (λ r. flag_in r number) (at_other group ne) ∙ (so_far.flags group number).1 (two.0, λ before. two.1 (Contains-append_left leads (next ∷ []) group before)),
  )

  long_now : (group : ℕ) → length (row_at after group) ≡ length (row_at rows group)
  long_now group = ⊎_elim
      (λ e. subst (λ g. length (row_at after g) ≡ length (row_at rows g)) (sym e) (ap length at_next ∙ long ∙ so_far.long next))
      (λ ne. ap length (at_other group ne) ∙ so_far.long group)
      (cases_eq group next)

  -- the lead is passed, whoever waits then
  pub passes : (later : List ℕ) → ((group : ℕ) → ¬ Contains later group → (¬ Contains left group) × (group ≡ next → row ≡ row_at now next))
      → ((group : ℕ) → Contains later group → Contains left group ⊎ (next ≡ group))
      → sum_by (λ word. word) row + length later ≤ sum_by (λ word. word) (row_at now next) + length left
      → ArePassed have (leads ++ next ∷ []) rows after waiting later
  passes later unless only fewer = record {
    each = length-set now next row ∙ so_far.each;
    long = long_now;
    flags = λ group number. ⊎_elim
        (λ e. subst (λ g. IsThere after g number ↔ (IsThere rows g number × (Contains (leads ++ next ∷ []) g → flag_in have number ≡ true))) (sym e) (flags_next number))
        (λ ne. flags_other group number ne)
        (cases_eq group next);
    kept = λ group out.
        let was = unless group out in
        let old = so_far.kept group was.0 in (
          old.0,
          ⊎_elim
              (λ e. subst (λ g. row_at after g ≡ row_at now g) (sym e) (at_next ∙ was.1 e))
              (λ ne. at_other group ne)
              (cases_eq group next) ∙ old.1,
        );
    only = λ group there. ⊎_elim
        (λ before. ⊎_elim (λ w. inl w) (λ among. inr (Contains-append_left leads (next ∷ []) group among)) (so_far.only group before))
        (λ e. inr (subst (Contains (leads ++ next ∷ [])) e (Contains-append_right leads (next ∷ []) next (0, omega arith, refl))))
        (only group there);
    fewer =
        let sums = sum_by-set (sum_by (λ word. word)) now next row [] within in
        let old = so_far.fewer in
        omega (arith, sums, old, fewer);
  }

  -- a row that stays
  pub stays : row ≡ row_at now next → ArePassed have (leads ++ next ∷ []) rows after waiting left
  stays same = passes left (λ group out. (out, λ e. same)) (λ group there. inl there) (omega (arith, ap (sum_by (λ word. word)) same))

  -- a row that loses a flag
  pub loses : sum_by (λ word. word) row < sum_by (λ word. word) (row_at now next) → ArePassed have (leads ++ next ∷ []) rows after waiting (insert_key nat_eq left next)
  loses less = passes (insert_key nat_eq left next)
      (λ group out. (λ there. out (insert_keeps left next group there), λ e. absurd (out (subst (Contains (insert_key nat_eq left next)) (sym e) (Contains-insert_key nat_eq exact_unsigned_eq left next)))))
      (λ group there. insert_cases left next group there)
      (omega (arith, less, one_longer left next))

-- What one claim more does to the notes, and two claims after one another.
use Rattle.std.proofs.Common.{◌≡◌, ◌⊎◌, ◌||◌, ◌&&◌, ◌++◌, ℕ, Bool, true, false, not, cond, nat_eq, List, [], ◌∷◌, refl, sym, ap, subst, ◌∙◌, ⊎_elim, inl, inr, eq-eqb, true≢false}
use Rattle.std.specs.List.{Contains, list_any}
use Rattle.std.proofs.lemmas.Bool.{eqb-true}
use Rattle.std.proofs.lemmas.List.Elements.{Contains-append_left, Contains-append_right, Contains-append_cases, Contains-push, Contains-push_cases}
use Rattle.indexmap.specs.IndexSet.{insert_key}
use Rattle.pk_types.proofs.ListMembers.{here, none_in, any_true, true-any, or_first, or_second, or_one}
use Rattle.es_scope.proofs.Basics.{both_of, only}
use Rattle.es_scope.specs.Noting.{Keys, Notes, Claim, HasOne, Clashes, AreMore, Adds, Takes}

-- ---- keys in a set

abbrev pub same_key : ℕ × ℕ → ℕ × ℕ → Bool
same_key key other = nat_eq key.0 other.0 && nat_eq key.1 other.1

abbrev pub has : Keys → ℕ → ℕ → Bool
has keys scope number = list_any (same_key (scope, number)) keys

same_self : (key : ℕ × ℕ) → same_key key key ≡ true
same_self key = ap (λ b. b && nat_eq key.1 key.1) (eq-eqb key.0 key.0 refl) ∙ eq-eqb key.1 key.1 refl

same_exact : (key other : ℕ × ℕ) → same_key key other ≡ true → key ≡ other
same_exact key other e =
    let both = both_of (nat_eq key.0 other.0) (nat_eq key.1 other.1) e in
    let first = eqb-true key.0 other.0 both.0 in
    let second = eqb-true key.1 other.1 both.1 in
    λ j. (first j, second j)

has_one : (keys : Keys) (scope number : ℕ) → Contains keys (scope, number) → has keys scope number ≡ true
has_one keys scope number c = any_true (same_key (scope, number)) keys (scope, number) c (same_self (scope, number))

one_there : (keys : Keys) (scope number : ℕ) → has keys scope number ≡ true → Contains keys (scope, number)
one_there keys scope number e =
    let found = true-any (same_key (scope, number)) keys e in
    subst (Contains keys) (sym (same_exact (scope, number) found.0 found.2)) found.1

-- ---- keys that are more

more_none : (keys : Keys) (number : ℕ) → AreMore keys [] number keys
more_none keys number scope other = (λ c. inl c, λ e. ⊎_elim (λ c. c) (λ more. absurd (none_in scope more.0)) e)

-- the key is there already
more_again : (keys : Keys) (scope number : ℕ) → Contains keys (scope, number) → AreMore keys (scope ∷ []) number keys
more_again keys scope number at other_scope other = (
  λ c. inl c,
  λ e. ⊎_elim (λ c. c) (λ more. let same : (scope, number) ≡ (other_scope, other) = λ j. (only scope other_scope more.0 j, more.1 j) in
      subst (Contains keys) same at) e,
)

more_one : (keys : Keys) (scope number : ℕ) → AreMore keys (scope ∷ []) number (insert_key same_key keys (scope, number))
more_one keys scope number = by (has keys scope number) refl
  where
    by : (b : Bool) → has keys scope number ≡ b → AreMore keys (scope ∷ []) number (cond b keys (keys ++ (scope, number) ∷ []))
    by true e = more_again keys scope number (one_there keys scope number e)
    by false e = λ other_scope other. (
      λ c. ⊎_elim (λ old. inl old)
          (λ same. inr (subst (λ (key : ℕ × ℕ). Contains (scope ∷ []) key.0) same (here scope []), ap (λ (key : ℕ × ℕ). key.1) same))
          (Contains-push_cases keys (scope, number) (other_scope, other) c),
      λ e. ⊎_elim (λ old. Contains-append_left keys ((scope, number) ∷ []) (other_scope, other) old)
          (λ more. let same : (scope, number) ≡ (other_scope, other) = λ j. (only scope other_scope more.0 j, more.1 j) in
          subst (Contains (keys ++ (scope, number) ∷ [])) same (Contains-push keys (scope, number))) e,
    )

more_both : (old mid new : Keys) (first second : List ℕ) (number : ℕ) → AreMore old first number mid → AreMore mid second number new
    → AreMore old (first ++ second) number new
more_both old mid new first second number to_mid to_new scope other = (
  λ c. ⊎_elim (λ in_mid. ⊎_elim (λ in_old. inl in_old) (λ more. inr (Contains-append_left first second scope more.0, more.1)) ((to_mid scope other).0 in_mid))
      (λ more. inr (Contains-append_right first second scope more.0, more.1)) ((to_new scope other).0 c),
  λ e. ⊎_elim (λ in_old. (to_new scope other).1 (inl ((to_mid scope other).1 (inl in_old))))
      (λ more. ⊎_elim (λ c. (to_new scope other).1 (inl ((to_mid scope other).1 (inr (c, more.1))))) (λ c. (to_new scope other).1 (inr (c, more.1)))
      (Contains-append_cases first second scope more.0)) e,
)

-- ---- one claim

pub told_not : (b : Bool) → not b ≡ false → b ≡ true
told_not true e = refl
told_not false e = absurd (true≢false e)

-- it was there before, or a `var` is there
pub told_lexical : (is_new had had_var clashes : Bool) → is_new ≡ not had → ((is_new ≡ false) × (clashes ≡ true)) ⊎ ((is_new ≡ true) × (clashes ≡ had_var))
    → clashes ≡ (had || had_var)
told_lexical is_new true had_var clashes added (inl old) = old.1
told_lexical is_new true had_var clashes added (inr new) = absurd (true≢false (sym new.0 ∙ added))
told_lexical is_new false had_var clashes added (inl old) = absurd (true≢false (sym added ∙ old.0))
told_lexical is_new false had_var clashes added (inr new) = new.1

abbrev pub claim : ℕ → List ℕ → List ℕ → Claim
claim number lexical vars = record { number = number; lexical = lexical; vars = vars }

-- nothing is claimed
pub takes_none : (notes : Notes) (number : ℕ) → Takes notes (claim number [] []) notes false
takes_none notes number = record {
  told = (λ e. absurd (true≢false (sym e)), λ clash. absurd (no_clash clash));
  noted = λ _. record { lexical = more_none notes.lexical number; vars = more_none notes.vars number };
}
  where
    no_clash : Clashes notes (claim number [] []) → ⊥
    no_clash (Clashes.both found) = none_in found.0 found.1
    no_clash (Clashes.second found) = none_in found.0 found.1
    no_clash (Clashes.first found) = none_in found.0 found.1

module _ (notes : Notes) (scope number : ℕ) where
  one_found : (keys : Keys) → HasOne keys (scope ∷ []) number → Contains keys (scope, number)
  one_found keys found = subst (λ s. Contains keys (s, number)) (sym (only scope found.0 found.1)) found.2

  lexical_clash : Clashes notes (claim number (scope ∷ []) []) → (has notes.lexical scope number || has notes.vars scope number) ≡ true
  lexical_clash (Clashes.both found) =
      or_first (has notes.lexical scope number) (has notes.vars scope number) (has_one notes.lexical scope number (one_found notes.lexical found))
  lexical_clash (Clashes.second found) =
      or_second (has notes.lexical scope number) (has notes.vars scope number) (has_one notes.vars scope number (one_found notes.vars found))
  lexical_clash (Clashes.first found) = absurd (none_in found.0 found.1)

  var_clash : Clashes notes (claim number [] (scope ∷ [])) → has notes.lexical scope number ≡ true
  var_clash (Clashes.both found) = absurd (none_in found.0 found.1)
  var_clash (Clashes.second found) = absurd (none_in found.0 found.1)
  var_clash (Clashes.first found) = has_one notes.lexical scope number (one_found notes.lexical found)

  pub takes_lexical : (new : Keys) (clashes : Bool) → new ≡ insert_key same_key notes.lexical (scope, number)
      → clashes ≡ (has notes.lexical scope number || has notes.vars scope number)
      → Takes notes (claim number (scope ∷ []) []) (record { lexical = new; vars = notes.vars }) clashes
  takes_lexical new clashes inserted is = record {
    told = (
      λ e. ⊎_elim (λ had. Clashes.both (scope, here scope [], one_there notes.lexical scope number had))
          (λ had. Clashes.second (scope, here scope [], one_there notes.vars scope number had))
          (or_one (has notes.lexical scope number) (has notes.vars scope number) (sym is ∙ e)),
      λ clash. is ∙ lexical_clash clash,
    );
    noted = λ _. record {
      lexical = subst (AreMore notes.lexical (scope ∷ []) number) (sym inserted) (more_one notes.lexical scope number);
      vars = more_none notes.vars number;
    };
  }

  pub takes_var : (new : Keys) (clashes : Bool) → new ≡ insert_key same_key notes.vars (scope, number) → clashes ≡ has notes.lexical scope number
      → Takes notes (claim number [] (scope ∷ [])) (record { lexical = notes.lexical; vars = new }) clashes
  takes_var new clashes inserted is = record {
    told = (
      λ e. Clashes.first (scope, here scope [], one_there notes.lexical scope number (sym is ∙ e)),
      λ clash. is ∙ var_clash clash,
    );
    noted = λ _. record {
      lexical = more_none notes.lexical number;
      vars = subst (AreMore notes.vars (scope ∷ []) number) (sym inserted) (more_one notes.vars scope number);
    };
  }

-- ---- two claims

module _ (number : ℕ) (lexical vars more_lexical more_vars : List ℕ) where
  first_of_two : (notes : Notes) → Clashes notes (claim number lexical vars) → Clashes notes (claim number (lexical ++ more_lexical) (vars ++ more_vars))
  first_of_two notes (Clashes.both found) = Clashes.both (found.0, Contains-append_left lexical more_lexical found.0 found.1, found.2)
  first_of_two notes (Clashes.second found) = Clashes.second (found.0, Contains-append_left lexical more_lexical found.0 found.1, found.2)
  first_of_two notes (Clashes.first found) = Clashes.first (found.0, Contains-append_left vars more_vars found.0 found.1, found.2)

  second_of_two : (notes : Notes) → Clashes notes (claim number more_lexical more_vars) → Clashes notes (claim number (lexical ++ more_lexical) (vars ++ more_vars))
  second_of_two notes (Clashes.both found) = Clashes.both (found.0, Contains-append_right lexical more_lexical found.0 found.1, found.2)
  second_of_two notes (Clashes.second found) = Clashes.second (found.0, Contains-append_right lexical more_lexical found.0 found.1, found.2)
  second_of_two notes (Clashes.first found) = Clashes.first (found.0, Contains-append_right vars more_vars found.0 found.1, found.2)

  one_of_two : (notes : Notes) → Clashes notes (claim number (lexical ++ more_lexical) (vars ++ more_vars))
      → Clashes notes (claim number lexical vars) ⊎ Clashes notes (claim number more_lexical more_vars)
  one_of_two notes (Clashes.both found) = ⊎_elim (λ c. inl (Clashes.both (found.0, c, found.2))) (λ c. inr (Clashes.both (found.0, c, found.2)))
      (Contains-append_cases lexical more_lexical found.0 found.1)
  one_of_two notes (Clashes.second found) = ⊎_elim (λ c. inl (Clashes.second (found.0, c, found.2))) (λ c. inr (Clashes.second (found.0, c, found.2)))
      (Contains-append_cases lexical more_lexical found.0 found.1)
  one_of_two notes (Clashes.first found) = ⊎_elim (λ c. inl (Clashes.first (found.0, c, found.2))) (λ c. inr (Clashes.first (found.0, c, found.2)))
      (Contains-append_cases vars more_vars found.0 found.1)

  -- the first of two claims clashes
  pub takes_first : (old new : Notes) → Takes old (claim number lexical vars) new true
      → Takes old (claim number (lexical ++ more_lexical) (vars ++ more_vars)) new true
  takes_first old new taken =
      record { told = (λ e. first_of_two old (taken.told.0 refl), λ clash. refl); noted = λ e. absurd (true≢false e) }

  -- the first does not, and does not clash with the second
  record AreApart : Type 0 where
    both : (scope : ℕ) → Contains more_lexical scope → Contains lexical scope → ⊥
    first : (scope : ℕ) → Contains more_vars scope → Contains lexical scope → ⊥
    second : (scope : ℕ) → Contains more_lexical scope → Contains vars scope → ⊥

  module _ (old mid new : Notes) (apart : AreApart) (adds : Adds old (claim number lexical vars) mid) where
    earlier : Clashes mid (claim number more_lexical more_vars) → Clashes old (claim number more_lexical more_vars)
    earlier (Clashes.both found) = ⊎_elim (λ c. Clashes.both (found.0, found.1, c)) (λ more. absurd (apart.both found.0 found.1 more.0))
        ((adds.lexical found.0 number).0 found.2)
    earlier (Clashes.second found) = ⊎_elim (λ c. Clashes.second (found.0, found.1, c)) (λ more. absurd (apart.second found.0 found.1 more.0))
        ((adds.vars found.0 number).0 found.2)
    earlier (Clashes.first found) = ⊎_elim (λ c. Clashes.first (found.0, found.1, c)) (λ more. absurd (apart.first found.0 found.1 more.0))
        ((adds.lexical found.0 number).0 found.2)

    later : Clashes old (claim number more_lexical more_vars) → Clashes mid (claim number more_lexical more_vars)
    later (Clashes.both found) = Clashes.both (found.0, found.1, (adds.lexical found.0 number).1 (inl found.2))
    later (Clashes.second found) = Clashes.second (found.0, found.1, (adds.vars found.0 number).1 (inl found.2))
    later (Clashes.first found) = Clashes.first (found.0, found.1, (adds.lexical found.0 number).1 (inl found.2))

  takes_second : (old mid new : Notes) (clashes : Bool) → AreApart → Takes old (claim number lexical vars) mid false
      → Takes mid (claim number more_lexical more_vars) new clashes → Takes old (claim number (lexical ++ more_lexical) (vars ++ more_vars)) new clashes
  takes_second old mid new clashes apart first second =
      let adds = first.noted refl in
      record {
        told = (
          λ e. second_of_two old (earlier old mid new apart adds (second.told.0 e)),
          λ clash. ⊎_elim (λ early. absurd (true≢false (sym (first.told.1 early)))) (λ late. second.told.1 (later old mid new apart adds late))
              (one_of_two old clash),
        );
        noted = λ e. record {
          lexical = more_both old.lexical mid.lexical new.lexical lexical more_lexical number adds.lexical (second.noted e).lexical;
          vars = more_both old.vars mid.vars new.vars vars more_vars number adds.vars (second.noted e).vars;
        };
      }

-- a scope, and another one behind it
pub takes_class : (old mid new : Notes) (outer own number : ℕ) (clashes : Bool) → (outer ≡ own → ⊥) → Takes old (claim number (outer ∷ []) []) mid false
    → Takes mid (claim number (own ∷ []) []) new clashes → Takes old (claim number (outer ∷ own ∷ []) []) new clashes
takes_class old mid new outer own number clashes differ first second = takes_second number (outer ∷ []) [] (own ∷ []) [] old mid new clashes
    (record {
      both = λ scope c d. differ (only outer scope d ∙ sym (only own scope c));
      first = λ scope c d. none_in scope c;
      second = λ scope c d. none_in scope d;
    })
    first second

-- ---- a `var` through scopes

module _ (number scope : ℕ) (scopes : List ℕ) where
  pub takes_inner : (old new : Notes) → Takes old (claim number [] (scope ∷ [])) new true → Takes old (claim number [] (scope ∷ scopes)) new true
  takes_inner old new taken = takes_first number [] (scope ∷ []) [] scopes old new taken

  pub takes_outer : (old mid new : Notes) (clashes : Bool) → Takes old (claim number [] (scope ∷ [])) mid false → Takes mid (claim number [] scopes) new clashes
      → Takes old (claim number [] (scope ∷ scopes)) new clashes
  takes_outer old mid new clashes first second = takes_second number [] (scope ∷ []) [] scopes old mid new clashes
      (record { both = λ scope c d. none_in scope c; first = λ scope c d. none_in scope d; second = λ scope c d. none_in scope c })
      first second

-- the scope has a `var` of the name, and no lexical declaration of it
pub record HasVar (notes : Notes) (scope number : ℕ) : Type 0 where
  pub «var» : Contains notes.vars (scope, number)
  pub unlike : Contains notes.lexical (scope, number) → ⊥

pub has_var : (old new : Notes) (scope number : ℕ) → Takes old (claim number [] (scope ∷ [])) new false → HasVar new scope number
has_var old new scope number taken =
    let adds = taken.noted refl in
    record {
      «var» = (adds.vars scope number).1 (inr (here scope [], refl));
      unlike = λ c. ⊎_elim (λ had. true≢false (sym (taken.told.1 (Clashes.first (scope, here scope [], had))))) (λ more. none_in scope more.0)
          ((adds.lexical scope number).0 c);
    }

-- such a scope once more
takes_again : (notes : Notes) (scope number : ℕ) → HasVar notes scope number → Takes notes (claim number [] (scope ∷ [])) notes false
takes_again notes scope number had = record {
  told = (λ e. absurd (true≢false (sym e)), λ clash. absurd (had.unlike (one_there notes.lexical scope number (var_clash notes scope number clash))));
  noted = λ _. record { lexical = more_none notes.lexical number; vars = more_again notes.vars scope number had.«var» };
}

pub takes_skipped : (number scope : ℕ) (scopes : List ℕ) (old new : Notes) (clashes : Bool) → HasVar old scope number → Takes old (claim number [] scopes) new clashes
    → Takes old (claim number [] (scope ∷ scopes)) new clashes
takes_skipped number scope scopes old new clashes had rest = takes_outer number scope scopes old old new clashes (takes_again old scope number had) rest

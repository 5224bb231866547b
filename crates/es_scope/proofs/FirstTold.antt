-- What is told of first declarations, when the place is told of one key more.
use Rattle.std.proofs.Common.{◌≡◌, ℕ, Bool, true, false, ◌&&◌, ◌||◌, cond, nat_eq, List, [], ◌∷◌, ◌++◌, Option, Some, None, is_some, refl, sym, ap, ◌∙◌}
use Rattle.std.specs.List.{list_any}
use Rattle.std.specs.Map.{lookup}
use Rattle.std.proofs.lemmas.Bool.{false≢true, eqb-true}
use Rattle.std.proofs.lemmas.List.Folds.{list_any-append}
use Rattle.es_scope.specs.Firsts.{Key, is_key, Entries, told, told_at, Tells}

both : (a b : Bool) → (a && b) ≡ true → (a ≡ true) × (b ≡ true)
both true b e = (refl, e)
both false b e = absurd (false≢true e)

-- keys that pass are equal
pub same_key : (key other : Key) → is_key key other ≡ true → (key.0 ≡ other.0) × (key.1 ≡ other.1)
same_key key other e =
    let parts = both (nat_eq key.0 other.0) (nat_eq key.1 other.1) e in
    (eqb-true key.0 other.0 parts.0, eqb-true key.1 other.1 parts.1)

told_same : (entries : Entries) (scope number other_scope other_number : ℕ) → is_key (scope, number) (other_scope, other_number) ≡ true
    → told entries other_scope other_number ≡ told entries scope number
told_same entries scope number other_scope other_number e =
    let same = same_key (scope, number) (other_scope, other_number) e in
    ap (λ s. told entries s other_number) (sym same.0) ∙ ap (λ n. told entries scope n) (sym same.1)

-- a key that nothing was told of
pub one_told : (old new : Entries) (scope number place : ℕ) → told old scope number ≡ None
    → ((key : Key) → lookup (is_key key) new ≡ cond (is_key (scope, number) key) (Some place) (lookup (is_key key) old)) → Tells ((scope, number) ∷ []) place old new
one_told old new scope number place absent updates other_scope other_number = by (is_key (scope, number) (other_scope, other_number)) refl
  where
    by : (b : Bool) → is_key (scope, number) (other_scope, other_number) ≡ b
        → told new other_scope other_number ≡ told_at (is_key (scope, number) (other_scope, other_number) || false) place (told old other_scope other_number)
    by true e =
        updates (other_scope, other_number) ∙ ap (λ b. cond b (Some place) (told old other_scope other_number)) e
        ∙ sym (ap (λ b. told_at (b || false) place (told old other_scope other_number)) e ∙ ap (told_at true place) (told_same old scope number other_scope other_number e ∙ absent))
    by false e =
        updates (other_scope, other_number) ∙ ap (λ b. cond b (Some place) (told old other_scope other_number)) e
        ∙ sym (ap (λ b. told_at (b || false) place (told old other_scope other_number)) e)

none_told : (was : Option ℕ) → is_some was ≡ false → was ≡ None
none_told (Some place) e = absurd (false≢true (sym e))
none_told None e = refl

-- the same as the code comes to know it
pub one_inserted : (before old new : Entries) (scope number place : ℕ) (was : Option ℕ) → before ≡ old → was ≡ told old scope number → is_some was ≡ false
    → ((key : Key) → lookup (is_key key) new ≡ cond (is_key (scope, number) key) (Some place) (lookup (is_key key) before)) → Tells ((scope, number) ∷ []) place old new
one_inserted before old new scope number place was same asked e updates =
    one_told old new scope number place (sym asked ∙ none_told was e)
    (λ key. updates key ∙ ap (λ (entries : Entries). cond (is_key (scope, number) key) (Some place) (lookup (is_key key) entries)) same)

told_twice : (a b : Bool) (place : ℕ) (was : Option ℕ) → told_at b place (told_at a place was) ≡ told_at (a || b) place was
told_twice true true place was = refl
told_twice true false place was = refl
told_twice false b place was = refl

-- some keys and then others
pub both_told : (some others : List Key) (place : ℕ) (old between new : Entries) → Tells some place old between → Tells others place between new
    → Tells (some ++ others) place old new
both_told some others place old between new first then scope number =
    let passes : Key → Bool = λ key. is_key key (scope, number) in
    then scope number ∙ ap (told_at (list_any passes others) place) (first scope number)
    ∙ told_twice (list_any passes some) (list_any passes others) place (told old scope number)
    ∙ sym (ap (λ b. told_at b place (told old scope number)) (list_any-append passes some others))

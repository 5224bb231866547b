-- Names that are gathered into a set, from place to place.
use Rattle.std.proofs.Common.{◌≡◌, inl, inr, ⊎_elim, ℕ, ◌+◌, Bool, true, false, List, [], Some, None, refl, sym, ap, subst, ◌∙◌, arith, true≢false}
use Rattle.std.specs.List.{Contains}
use Rattle.std.specs.Str.{bytes_eq}
use Rattle.std.proofs.lemmas.Bool.{cases_lt}
use Rattle.std.proofs.lemmas.Option.{none-some}
use Rattle.indexmap.specs.IndexSet.{insert_key}
use Rattle.pk_text.specs.declared.text.Key.{Key}
use Rattle.pk_text.specs.Places.{place_of}
use Rattle.pk_types.proofs.ListMembers.{none_in}
use Rattle.export_names.specs.Collected.{key_names, HasMore}
use Rattle.export_names.proofs.Collecting.{key_inserted, inserted}
use Rattle.es_scope.specs.Scopes.{arguments}
use Rattle.es_scope.specs.Telling.{Told}
use Rattle.es_scope.proofs.FirstPlaces.{same_name}
use Rattle.es_refusals.specs.Names.{AreGiven, IsNumbered, IsArgumentsIf}

-- nothing comes to the names
pub none_more : (IsNew : List ℕ → Type 0) (names : List (List ℕ)) → ((name : List ℕ) → ¬ IsNew name) → HasMore names IsNew names
none_more IsNew names none name = (λ c. inl c, λ one. ⊎_elim (λ old. old) (λ new. absurd (none name new)) one)

-- one name comes to them
pub one_more : (IsNew : List ℕ → Type 0) (keys more : List Key) (key : Key) → more ≡ insert_key (λ (key other : Key). bytes_eq key.0.now other.0.now) keys key
    → IsNew key.0.now → ((name : List ℕ) → IsNew name → key.0.now ≡ name) → HasMore (key_names keys) IsNew (key_names more)
one_more IsNew keys more key is new only name = (
  λ c. ⊎_elim (λ old. inl old) (λ same. inr (subst IsNew same new)) ((inserted (key_names keys) key.0.now name).0 (subst (λ l. Contains l name) all c)),
  λ one. subst (λ l. Contains l name) (sym all)
      ((inserted (key_names keys) key.0.now name).1 (⊎_elim (λ old. inl old) (λ named. inr (only name named)) one)),
)
  where
    all : key_names more ≡ insert_key bytes_eq (key_names keys) key.0.now
    all = ap key_names is ∙ key_inserted keys key

pub one_numbered : (told : Told) (keys more : List Key) (key : Key) (number : ℕ) → more ≡ insert_key (λ (key other : Key). bytes_eq key.0.now other.0.now) keys key
    → place_of told.texts key.0.now ≡ Some number → HasMore (key_names keys) (IsNumbered told (Some number)) (key_names more)
one_numbered told keys more key number is named = one_more (IsNumbered told (Some number)) keys more key is (number, refl, named)
    (λ name other. same_name told.texts key.0.now name number named (other.2 ∙ sym other.1))

pub no_number : (told : Told) (names : List (List ℕ)) → HasMore names (IsNumbered told None) names
no_number told names = none_more (IsNumbered told None) names (λ name other. none-some other.0 other.1)

pub one_arguments : (keys more : List Key) (key : Key) (is_given : Bool) → more ≡ insert_key (λ (key other : Key). bytes_eq key.0.now other.0.now) keys key
    → key.0.now ≡ arguments → is_given ≡ true → HasMore (key_names keys) (IsArgumentsIf is_given) (key_names more)
one_arguments keys more key is_given is said given =
    one_more (IsArgumentsIf is_given) keys more key is (given, sym said) (λ name other. said ∙ other.1)

pub no_arguments : (names : List (List ℕ)) (is_given : Bool) → is_given ≡ false → HasMore names (IsArgumentsIf is_given) names
no_arguments names is_given none = none_more (IsArgumentsIf is_given) names (λ name other. true≢false (sym other.0 ∙ none))

-- from place to place
module _ (IsGiven : ℕ → List ℕ → Type 0) where
  pub none_given : (keys : List Key) → keys ≡ [] → AreGiven IsGiven 0 (key_names keys)
  none_given keys none name = (
    λ c. absurd (none_in name (subst (λ l. Contains l name) (ap key_names none) c)),
    λ given. absurd (let before = given.1 in omega arith),
  )

  pub more_given : (count : ℕ) (before after : List (List ℕ)) → AreGiven IsGiven count before → HasMore before (IsGiven count) after → AreGiven IsGiven (count + 1) after
  more_given count before after so_far more name = (
    λ c. ⊎_elim (λ old. let given = (so_far name).0 old in (given.0, (let below = given.1 in omega arith), given.2))
        (λ new. (count, omega arith, new)) ((more name).0 c),
    λ given. (more name).1 (⊎_elim (λ below. inl ((so_far name).1 (given.0, below, given.2)))
        (λ above. let at : given.0 ≡ count = omega (arith, above, given.1) in inr (subst (λ place. IsGiven place name) at given.2))
        (cases_lt given.0 count)),
  )

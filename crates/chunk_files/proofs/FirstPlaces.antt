-- The first places of numbers, one number more at the end.
use Rattle.std.proofs.Common.{◌≡◌, ℕ, ◌||◌, not, Bool, true, false, cond, ◌==◌, nat_eq, List, [], ◌∷◌, ◌++◌, refl, sym, ap, ◌∙◌}
use Rattle.std.proofs.lemmas.List.{append-nil}
use Rattle.std.proofs.lemmas.List.Elements.{filter-append}
use Rattle.std.proofs.lemmas.Map.Views.{any-filter_same, exact_unsigned_eq}
use Rattle.std.specs.List.{filter, list_any}
use Rattle.indexmap.specs.IndexSet.{insert_key}
use Rattle.pk_text.specs.FirstPlaces.{first_places}

module _ (first number : ℕ) (places : List ℕ) where
  abbrev others : List ℕ → List ℕ
  others numbers = filter (λ other. not (other == first)) numbers

  abbrev is_in : List ℕ → Bool
  is_in numbers = list_any (nat_eq number) numbers

  -- what is new goes last, also where another number is taken out
  inserted_known : is_in places ≡ true → first ∷ others (insert_key nat_eq places number) ≡ first ∷ others places
  inserted_known e = ap (λ b. first ∷ others (cond b places (places ++ number ∷ []))) e

  inserted_new : is_in places ≡ false → first ∷ others (insert_key nat_eq places number) ≡ first ∷ (others places ++ cond (not (number == first)) (number ∷ []) [])
  inserted_new e = ap (λ b. first ∷ others (cond b places (places ++ number ∷ []))) e ∙ ap (λ l. first ∷ l) (filter-append (λ other. not (other == first)) places (number ∷ []))

  kept : nat_eq number first ≡ false → is_in (others places) ≡ is_in places
  kept e = any-filter_same (nat_eq number) (λ other. not (other == first)) true (λ k h. ap (λ n. not (n == first)) (sym (exact_unsigned_eq number k h)) ∙ ap not e) places

  abbrev Inserts : Type 0
  Inserts = first ∷ others (insert_key nat_eq places number) ≡ insert_key nat_eq (first ∷ others places) number

  is_first : nat_eq number first ≡ true → (b : Bool) → is_in places ≡ b → Inserts
  is_first e b f = left b f ∙ sym (ap (λ t. cond (t || is_in (others places)) (first ∷ others places) ((first ∷ others places) ++ number ∷ [])) e)
    where
      left : (b : Bool) → is_in places ≡ b → first ∷ others (insert_key nat_eq places number) ≡ first ∷ others places
      left true f = inserted_known f
      left false f = inserted_new f ∙ ap (λ t. first ∷ (others places ++ cond (not t) (number ∷ []) [])) e ∙ ap (λ l. first ∷ l) (append-nil (others places))

  is_other : nat_eq number first ≡ false → (b : Bool) → is_in places ≡ b → Inserts
  is_other e true f = inserted_known f ∙ sym (ap (λ t. cond t (first ∷ others places) ((first ∷ others places) ++ number ∷ [])) (ap (λ t. t || is_in (others places)) e ∙ kept e ∙ f))
  is_other e false f = inserted_new f ∙ ap (λ t. first ∷ (others places ++ cond (not t) (number ∷ []) [])) e
      ∙ sym (ap (λ t. cond t (first ∷ others places) ((first ∷ others places) ++ number ∷ [])) (ap (λ t. t || is_in (others places)) e ∙ kept e ∙ f))

  inserts : (b : Bool) → nat_eq number first ≡ b → Inserts
  inserts true e = is_first e (is_in places) refl
  inserts false e = is_other e (is_in places) refl

pub one_more : (numbers : List ℕ) (number : ℕ) → first_places (numbers ++ number ∷ []) ≡ insert_key nat_eq (first_places numbers) number
one_more [] number = refl
one_more (first ∷ numbers) number =
    ap (λ l. first ∷ filter (λ other. not (other == first)) l) (one_more numbers number) ∙ inserts first number (first_places numbers) (nat_eq number first) refl

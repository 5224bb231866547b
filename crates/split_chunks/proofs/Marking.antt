-- Flags and lists of numbers, place by place.
use Rattle.std.proofs.Common.{◌≡◌, ⊎_elim, ℕ, zero, suc, ◌+◌, ◌<◌, ◌||◌, Bool, true, false, cond, List, [], ◌∷◌, ◌++◌, length, filter, take, get_or, refl, sym, ap, subst, ◌∙◌, arith, nat_eq}
use Rattle.std.proofs.Math.ListN.{set}
use Rattle.std.specs.List.{Contains, range_with_len}
use Rattle.std.specs.List.Sorted.{IsStrictlyIncreasing}
use Rattle.std.proofs.lemmas.Bool.{cases_eq, eq-eqb, ne_eqb}
use Rattle.std.proofs.lemmas.List.{append-nil, length-set, length-take-le, get_or-take, get_or-set_same, get_or-set_other, get_or_default}
use Rattle.std.proofs.lemmas.List.Kept.{AllPairs-from_increasing}
use Rattle.pk_types.specs.Numbers.{has}
use Rattle.pk_types.proofs.ListMembers.{absent}
use Rattle.split_chunks.specs.Marked.{Marks}
use Rattle.split_chunks.specs.Homes.{GainsNumber}
use Rattle.split_chunks.proofs.Lists.{any_more, or_false, passes_more, fails_more}

set_flag : (flags : List Bool) (place number : ℕ) → place < length flags → get_or (set flags place true) number false ≡ (nat_eq number place || get_or flags number false)
set_flag flags place number inside = ⊎_elim
    (λ e. subst (λ n. get_or (set flags place true) n false ≡ (nat_eq n place || get_or flags n false)) (sym e)
    (get_or-set_same flags place true false inside ∙ ap (λ b. b || get_or flags place false) (sym (eq-eqb place place refl))))
    (λ ne. get_or-set_other flags place number true false ne ∙ ap (λ b. b || get_or flags number false) (sym (ne_eqb number place ne)))
    (cases_eq number place)

swapped : (a b c : Bool) → (a || (b || c)) ≡ ((b || a) || c)
swapped true true c = refl
swapped true false c = refl
swapped false true c = refl
swapped false false c = refl

pub marks_none : (flags : List Bool) → Marks [] flags flags
marks_none flags = record { long = refl; each = λ number. refl }

pub marks_more : (numbers : List ℕ) (at : ℕ) (flags mid : List Bool) → Marks (take at numbers) flags mid → at < length numbers → get_or numbers at 0 < length mid
    → Marks (take (at + 1) numbers) flags (set mid (get_or numbers at 0) true)
marks_more numbers at flags mid so_far inside low = record {
  long = length-set mid (get_or numbers at 0) true ∙ so_far.long;
  each = λ number. set_flag mid (get_or numbers at 0) number low
      ∙ ap (λ b. nat_eq number (get_or numbers at 0) || b) (so_far.each number)
      ∙ swapped (nat_eq number (get_or numbers at 0)) (has (take at numbers) number) (get_or flags number false)
      ∙ ap (λ b. b || get_or flags number false) (sym (any_more (nat_eq number) numbers at 0 inside));
}

-- in ascending numbers none stands before itself
not_before : (numbers : List ℕ) (at : ℕ) → IsStrictlyIncreasing numbers → at < length numbers → ¬ Contains (take at numbers) (get_or numbers at 0)
not_before numbers at ascending inside (k, low, is) =
    let short : length (take at numbers) ≡ at = length-take-le at numbers (omega arith) in
    let before : k < at = omega arith in
    let x = get_or numbers at 0 in
    let less : get_or numbers k x < get_or numbers at x = AllPairs-from_increasing numbers ascending k at x before inside in
    let one : get_or (take at numbers) k x ≡ get_or numbers k x = get_or-take at numbers k x before in
    let two : get_or numbers at x ≡ x = get_or_default numbers at x 0 inside in
    omega arith

pub gains_none : (number : ℕ) (lists : List (List ℕ)) → GainsNumber [] number lists lists
gains_none number lists = record { each = refl; gains = λ place. sym (append-nil (get_or lists place [])) }

pub gains_more : (places : List ℕ) (at number : ℕ) (old mid : List (List ℕ)) (line : List ℕ) → IsStrictlyIncreasing places → GainsNumber (take at places) number old mid → at < length places
    → get_or places at 0 < length mid → line ≡ get_or mid (get_or places at 0) [] ++ number ∷ [] → GainsNumber (take (at + 1) places) number old (set mid (get_or places at 0) line)
gains_more places at number old mid line ascending so_far inside low is = record {
  each = length-set mid p line ∙ so_far.each;
  gains = λ place. ⊎_elim
      (λ e. subst (λ n. get_or (set mid p line) n [] ≡ get_or old n [] ++ cond (has (take (at + 1) places) n) (number ∷ []) []) (sym e) it)
      (λ ne. get_or-set_other mid p place line [] ne ∙ so_far.gains place
      ∙ ap (λ b. get_or old place [] ++ cond b (number ∷ []) []) (sym (any_more (nat_eq place) places at 0 inside ∙ ap (λ b. has (take at places) place || b) (ne_eqb place p ne) ∙ or_false (has (take at places) place))))
      (cases_eq place p);
}
  where
    p : ℕ
    p = get_or places at 0

    it : get_or (set mid p line) p [] ≡ get_or old p [] ++ cond (has (take (at + 1) places) p) (number ∷ []) []
    it = get_or-set_same mid p line [] low ∙ is ∙ ap (λ l. l ++ number ∷ []) (so_far.gains p ∙ ap (λ b. get_or old p [] ++ cond b (number ∷ []) []) none ∙ append-nil (get_or old p []))
        ∙ ap (λ b. get_or old p [] ++ cond b (number ∷ []) []) (sym now)
      where
        none : has (take at places) p ≡ false
        none = absent (take at places) p (not_before places at ascending inside)

        now : has (take (at + 1) places) p ≡ true
        now = any_more (nat_eq p) places at 0 inside ∙ ap (λ b. b || nat_eq p p) none ∙ eq-eqb p p refl

pub still_empty : (lists : List (List ℕ)) (k : ℕ) → ((k : ℕ) → get_or lists k [] ≡ []) → get_or (lists ++ [] ∷ []) k [] ≡ []
still_empty [] zero empty = refl
still_empty [] (suc k) empty = refl
still_empty (line ∷ lists) zero empty = empty 0
still_empty (line ∷ lists) (suc k) empty = still_empty lists k (λ j. empty (suc j))

-- one chunk more, for a module
pub home_more : (modules : List (List ℕ)) (at member : ℕ) (home : List ℕ) → home ≡ filter (λ chunk. has (get_or modules chunk []) member) (range_with_len 0 at) → (b : Bool) → b ≡ has (get_or modules at []) member
    → home ++ cond b (at ∷ []) [] ≡ filter (λ chunk. has (get_or modules chunk []) member) (range_with_len 0 (at + 1))
home_more modules at member home is true e = ap (λ l. l ++ at ∷ []) is ∙ sym (passes_more (λ chunk. has (get_or modules chunk []) member) at (sym e))
home_more modules at member home is false e = append-nil home ∙ is ∙ sym (fails_more (λ chunk. has (get_or modules chunk []) member) at (sym e))

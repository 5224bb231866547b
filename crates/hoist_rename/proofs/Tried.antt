-- Each number makes a name of its own, so no more are tried than names are taken.
use Rattle.std.proofs.Common.{◌≡◌, ◌≢◌, ℕ, suc, ◌+◌, ◌^◌, ◌<◌, ◌≤◌, Bool, true, false, cond, List, [], ◌∷◌, length, drop, get_or, refl, sym, ap, subst, ◌∙◌, arith, ⊎_elim, true≢false, bytes_eq, Some, decimal}
use Rattle.std.specs.List.{Contains, position}
use Rattle.std.specs.Cmp.Lexicographic.{bytes_decides}
use Rattle.std.proofs.lemmas.Bool.{cases_lt}
use Rattle.std.proofs.lemmas.Fmt.{decimal_injective}
use Rattle.std.proofs.lemmas.List.{append_cancel_left}
use Rattle.std.proofs.lemmas.List.Quantifiers.{position-Some}
use Rattle.indexmap.proofs.IndexTableLemmas.Probe.{pigeonhole}
use Rattle.pk_types.proofs.ListMembers.{one_of, none_in}
use Rattle.pk_types.specs.GivenNames.{numbered_name}
use Rattle.hoist_rename.specs.Kept.{IsNext}

-- where a name first stands
first_place : List (List ℕ) → List ℕ → ℕ
first_place [] name = 0
first_place (x ∷ xs) name = cond (bytes_eq x name) 0 (suc (first_place xs name))

abbrev Stands : List (List ℕ) → List ℕ → ℕ → Type 0
Stands xs name place = (place < length xs) × (get_or xs place [] ≡ name)

stands_there : (x : List ℕ) (xs : List (List ℕ)) (name : List ℕ) (b : Bool) → bytes_eq x name ≡ b → (x ≢ name → Stands xs name (first_place xs name))
    → Stands (x ∷ xs) name (cond b 0 (suc (first_place xs name)))
stands_there x xs name true e rest = (omega arith, (bytes_decides x name).0 e)
stands_there x xs name false e rest =
    let behind = rest (λ same. true≢false (sym ((bytes_decides x name).1 same) ∙ e)) in
    (omega (arith, behind.0), behind.1)

stands : (xs : List (List ℕ)) (name : List ℕ) → Contains xs name → Stands xs name (first_place xs name)
unfolding first_place
stands [] name c = absurd (none_in name c)
stands (x ∷ xs) name c = stands_there x xs name (bytes_eq x name) refl
    (λ other. ⊎_elim (λ same. absurd (other same)) (λ d. stands xs name d) (one_of x xs name c))

numbers_apart : (name : List ℕ) (one two : ℕ) → one < 2 ^ 64 → two < 2 ^ 64 → numbered_name name one ≡ numbered_name name two → one ≡ two
numbers_apart name one two first second same =
    decimal_injective one two first second (ap (drop 1) (append_cancel_left name (95 ∷ decimal one) (95 ∷ decimal two) same))

pub tried_within : (keys : List (List ℕ)) (name : List ℕ) (last : ℕ) → last < 2 ^ 64
    → ((number : ℕ) → 0 < number → number ≤ last → Contains keys (numbered_name name number)) → last ≤ length keys
tried_within keys name last small tried =
    pigeonhole last (length keys) place (λ k h. (stands keys (numbered_name name (k + 1)) (tried (k + 1) (omega arith) (omega arith))).0)
    (λ i j h l same.
    let one = stands keys (numbered_name name (i + 1)) (tried (i + 1) (omega arith) (omega arith)) in
    let two = stands keys (numbered_name name (j + 1)) (tried (j + 1) (omega arith) (omega arith)) in
    let equal : i + 1 ≡ j + 1 = numbers_apart name (i + 1) (j + 1) (omega arith) (omega arith) (sym one.1 ∙ ap (λ p. get_or keys p []) same ∙ two.1) in
    omega arith)
  where
    place : ℕ → ℕ
    place k = first_place keys (numbered_name name (k + 1))

-- one number more
pub tried_more : (keys : List (List ℕ)) (name : List ℕ) (last : ℕ) → last + 1 < 2 ^ 64
    → ((number : ℕ) → 0 < number → number ≤ last → Contains keys (numbered_name name number)) → Contains keys (numbered_name name (last + 1))
    → (last + 1 ≤ length keys) × ((number : ℕ) → 0 < number → number ≤ last + 1 → Contains keys (numbered_name name number))
tried_more keys name last small tried now = (tried_within keys name (last + 1) small all, all)
  where
    all : (number : ℕ) → 0 < number → number ≤ last + 1 → Contains keys (numbered_name name number)
    all number above most = ⊎_elim
        (λ before. tried number above (omega arith))
        (λ after. let same : last + 1 ≡ number = omega arith in subst (λ n. Contains keys (numbered_name name n)) same now)
        (cases_lt number (last + 1))

pub is_next : (keys : List (List ℕ)) (name : List ℕ) (last : ℕ) (text : List ℕ) → text ≡ numbered_name name (last + 1) → ¬ Contains keys text
    → ((number : ℕ) → 0 < number → number ≤ last → Contains keys (numbered_name name number)) → IsNext keys name (last + 1) text
is_next keys name last text is free tried = record {
  above = omega arith;
  text_is = is;
  free = free;
  first = λ fewer above below. tried fewer above (omega arith);
}

-- a place that was found
pub found_place : (keys : List (List ℕ)) (name : List ℕ) (place : ℕ) → position (bytes_eq name) keys ≡ Some place
    → (place < length keys) × (get_or keys place [] ≡ name)
found_place keys name place at =
    let found = position-Some (bytes_eq name) keys place [] at in
    (found.0, sym ((bytes_decides name (get_or keys place [])).0 found.1))

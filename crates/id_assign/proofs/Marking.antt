-- Flags are set for the modules of one chunk after another.
use Rattle.std.proofs.Common.{◌≡◌, ℕ, ◌+◌, ◌<◌, ◌||◌, Bool, true, false, List, [], length, map, take, set, get_or, nat_eq, refl, sym, ap, ◌∙◌, ⊎_elim}
use Rattle.std.specs.List.{list_any, range_with_len}
use Rattle.std.proofs.lemmas.Bool.{cases_eq, eq-eqb}
use Rattle.std.proofs.lemmas.List.{get_or-set_same, get_or-set_other}
use Rattle.std.proofs.lemmas.List.Folds.{list_any_more}
use Rattle.std.proofs.lemmas.List.FromFn.{fill_by_all}
use Rattle.std.proofs.lemmas.Map.Views.{exact_unsigned_eq}
use Rattle.pk_types.specs.declared.plan.Chunks.{Chunks}
use Rattle.pk_types.specs.Numbers.{has}
use Rattle.pk_types.specs.ModuleIds.{is_in_chunks}

or_true : (b c : Bool) → c ≡ true → (b || c) ≡ true
or_true true c e = refl
or_true false c e = e

or_false : (b c : Bool) → c ≡ false → (b || c) ≡ b
or_false true c e = refl
or_false false c e = e

or_regroup : (a b c : Bool) → ((a || b) || c) ≡ (a || (b || c))
or_regroup true b c = refl
or_regroup false b c = refl

is_not : (b : Bool) → (b ≡ true → ⊥) → b ≡ false
is_not true none = absurd (none refl)
is_not false none = refl

-- one module more of a chunk
pub marked_more : (flags first : List Bool) (modules : List ℕ) (place : ℕ) → place < length modules → get_or modules place 0 < length flags
    → ((member : ℕ) → member < length flags → get_or flags member false ≡ (get_or first member false || has (take place modules) member))
    → (member : ℕ) → member < length flags → get_or (set flags (get_or modules place 0) true) member false ≡ (get_or first member false || has (take (place + 1) modules) member)
marked_more flags first modules place inside within so_far member short =
    let marked = get_or modules place 0 in
    let more = list_any_more (nat_eq member) modules place 0 inside in
    ⊎_elim
    (λ same. ap (λ k. get_or (set flags marked true) k false) same ∙ get_or-set_same flags marked true false within
    ∙ sym (or_true (get_or first member false) (has (take (place + 1) modules) member) (more ∙ or_true (has (take place modules) member) (nat_eq member marked) (eq-eqb member marked same))))
    (λ other. get_or-set_other flags marked member true false other ∙ so_far member short
    ∙ ap (λ b. get_or first member false || b) (sym (more ∙ or_false (has (take place modules) member) (nat_eq member marked) (is_not (nat_eq member marked) (λ e. other (exact_unsigned_eq member marked e))))))
    (cases_eq member marked)

-- one chunk more
pub placed_more : (flags next : List Bool) (lists : List (List ℕ)) (modules : List ℕ) (place count : ℕ) → place < length lists → modules ≡ get_or lists place []
    → ((member : ℕ) → member < count → get_or flags member false ≡ list_any (λ modules. has modules member) (take place lists))
    → ((member : ℕ) → member < count → get_or next member false ≡ (get_or flags member false || has modules member))
    → (member : ℕ) → member < count → get_or next member false ≡ list_any (λ modules. has modules member) (take (place + 1) lists)
placed_more flags next lists modules place count inside is so_far marks member short =
    marks member short ∙ ap (λ b. b || has modules member) (so_far member short)
    ∙ ap (λ (l : List ℕ). list_any (λ modules. has modules member) (take place lists) || has l member) is
    ∙ sym (list_any_more (λ modules. has modules member) lists place [] inside)

pub all_placed : (flags : List Bool) (chunks : Chunks) (count : ℕ) → length flags ≡ count
    → ((member : ℕ) → member < count → get_or flags member false ≡ list_any (λ modules. has modules member) chunks.modules)
    → flags ≡ map (is_in_chunks chunks) (range_with_len 0 count)
all_placed flags chunks count each flagged = fill_by_all (is_in_chunks chunks) flags count false each flagged

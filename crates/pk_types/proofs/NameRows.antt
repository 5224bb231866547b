-- Two bindings of one name, and a third name that nobody declares; and the natural ids of four modules.
use Rattle.std.proofs.Common.{◌≡◌, ℕ, zero, suc, ◌<◌, false, List, [], ◌∷◌, ◌++◌, map, refl, sym, subst, ◌∙◌, arith, ⊎_elim, true≢false, codes, take, slice_index_or, bytes_eq, ◌+◌, ◌%◌, slice_index}
use Rattle.std.specs.List.{Contains, list_any}
use Rattle.std.proofs.lemmas.Map.Views.{list_any-from_Contains}
use Rattle.std.proofs.lemmas.Cmp.{nat_list_eq_equiv}
use Rattle.std.specs.Fmt.{digits}
use Rattle.pk_types.specs.HoistSets.{set_of}
use Rattle.pk_types.specs.ModuleIds.{AreNaturalIds, id_count, five_digits, IsNextFree, AreGivenInOrder}
use Rattle.pk_types.specs.Numbers.{has}
use Rattle.pk_types.specs.GivenNames.{numbered_name, IsGivenFor, renamed, GivesInOrder, GivesNames, AreGivenNames}
use Rattle.pk_types.specs.WorkedGraphs.{shared_graph, shared_chunks, shared_ids, names_graph, given_names}
use Rattle.pk_types.proofs.ListMembers.{here, there, one_of, none_in, has-true}

pub shared_ids_are_natural : AreNaturalIds shared_graph shared_chunks shared_ids
shared_ids_are_natural = record { module_ids = refl; chunk_ids = refl }

-- a text is not in a list where the test doesn't find it
not_there : (texts : List (List ℕ)) (text : List ℕ) → list_any (bytes_eq text) texts ≡ false → ¬ Contains texts text
not_there texts text none c = true≢false (sym (list_any-from_Contains nat_list_eq_equiv text texts c) ∙ none)

x_1_is : numbered_name (codes "x") 1 ≡ codes "x_1"
unfolding digits
x_1_is = refl

x_2_is : numbered_name (codes "x") 2 ≡ codes "x_2"
unfolding digits
x_2_is = refl

abbrev avoided : List (List ℕ)
avoided = codes "use" ∷ codes "x" ∷ []

first_given : IsGivenFor avoided (codes "x") (codes "x_1")
first_given = subst (IsGivenFor avoided (codes "x")) x_1_is
    (renamed 1 (there (codes "use") (codes "x" ∷ []) (codes "x") (here (codes "x") [])) (omega arith) (subst (λ text. ¬ Contains avoided text) (sym x_1_is) (not_there avoided (codes "x_1") refl))
    (λ fewer above below. absurd (omega arith)))

abbrev avoided_then : List (List ℕ)
avoided_then = codes "use" ∷ codes "x" ∷ codes "x_1" ∷ []

second_given : IsGivenFor avoided_then (codes "x") (codes "x_2")
second_given = subst (IsGivenFor avoided_then (codes "x")) x_2_is
    (renamed 2 (there (codes "use") (codes "x" ∷ codes "x_1" ∷ []) (codes "x") (here (codes "x") (codes "x_1" ∷ []))) (omega arith)
    (subst (λ text. ¬ Contains avoided_then text) (sym x_2_is) (not_there avoided_then (codes "x_2") refl))
    (λ fewer above below. let one : 1 ≡ fewer = omega arith in subst (λ number. Contains avoided_then (numbered_name (codes "x") number)) one (subst (Contains avoided_then) (sym x_1_is)
    (there (codes "use") (codes "x" ∷ codes "x_1" ∷ []) (codes "x_1") (there (codes "x") (codes "x_1" ∷ []) (codes "x_1") (here (codes "x_1") []))))))

free_of : (numbers : List ℕ) (number : ℕ) → has numbers number ≡ false → ¬ Contains numbers number
free_of numbers number none c = true≢false (sym (has-true numbers number c) ∙ none)

in_order : GivesInOrder avoided (codes "x" ∷ codes "x" ∷ []) (codes "x_1" ∷ codes "x_2" ∷ [])
in_order = record { each = refl; next = by }
  where
    by : (place : ℕ) → place < 2 → IsGivenFor (avoided ++ take place (codes "x_1" ∷ codes "x_2" ∷ []))
        (slice_index_or (codes "x" ∷ codes "x" ∷ []) place []) (slice_index_or (codes "x_1" ∷ codes "x_2" ∷ []) place [])
    by zero inside = first_given
    by (suc zero) inside = second_given
    by (suc (suc place)) inside = absurd (omega arith)

root_names : GivesNames names_graph (0 ∷ 1 ∷ 2 ∷ []) given_names
root_names = record { counts = refl; alone = λ one. absurd (omega arith); shared = λ more. in_order }

pub names_are_given : AreGivenNames names_graph (0 ∷ 0 ∷ 0 ∷ []) given_names
names_are_given = record { each = refl; sets = λ root c. by root (⊎_elim (λ e. e) (λ r. ⊎_elim (λ e. e) (λ t. ⊎_elim (λ e. e) (λ none. absurd (none_in root none)) (one_of 0 [] root t)) (one_of 0 (0 ∷ []) root r)) (one_of 0 (0 ∷ 0 ∷ []) root c)) }
  where
    by : (root : ℕ) → 0 ≡ root → GivesNames names_graph (set_of (0 ∷ 0 ∷ 0 ∷ []) root) (map (λ member. slice_index_or given_names member []) (set_of (0 ∷ 0 ∷ 0 ∷ []) root))
    by root same = subst (λ z. GivesNames names_graph (set_of (0 ∷ 0 ∷ 0 ∷ []) z) (map (λ member. slice_index_or given_names member []) (set_of (0 ∷ 0 ∷ 0 ∷ []) z))) same root_names

-- ids that would be the same give way upwards, and begin again at 0
pub numbers_go_round : AreGivenInOrder (5 ∷ 5 ∷ 1048575 ∷ 1048575 ∷ []) (5 ∷ 6 ∷ 1048575 ∷ 0 ∷ [])
numbers_go_round = (refl, by)
  where
    by : (place : ℕ) → place < 4 → IsNextFree (take place (5 ∷ 6 ∷ 1048575 ∷ 0 ∷ [])) (slice_index (5 ∷ 5 ∷ 1048575 ∷ 1048575 ∷ []) place) (slice_index (5 ∷ 6 ∷ 1048575 ∷ 0 ∷ []) place)
    by zero inside = record { steps = 0; at = refl; free = none_in 5; first = λ fewer less. absurd (omega arith) }
    by (suc zero) inside = record {
      steps = 1;
      at = refl;
      free = free_of (5 ∷ []) 6 refl;
      first = λ fewer less. let none : 0 ≡ fewer = omega arith in
          subst (λ k. Contains (5 ∷ []) ((5 + k) % id_count)) none (here 5 []);
    }
    by (suc (suc zero)) inside = record { steps = 0; at = refl; free = free_of (5 ∷ 6 ∷ []) 1048575 refl; first = λ fewer less. absurd (omega arith) }
    by (suc (suc (suc zero))) inside = record {
      steps = 1;
      at = refl;
      free = free_of (5 ∷ 6 ∷ 1048575 ∷ []) 0 refl;
      first = λ fewer less. let none : 0 ≡ fewer = omega arith in
          subst (λ k. Contains (5 ∷ 6 ∷ 1048575 ∷ []) ((1048575 + k) % id_count)) none (there 5 (6 ∷ 1048575 ∷ []) 1048575 (there 6 (1048575 ∷ []) 1048575 (here 1048575 [])));
    }
    by (suc (suc (suc (suc place)))) inside = absurd (omega arith)

-- `abcde` is the start of the digest that begins with the bytes `ab`, `cd`, `ef`
pub digits_are_five : five_digits (171 ∷ 205 ∷ 239 ∷ []) ≡ 703710
digits_are_five = refl

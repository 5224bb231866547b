-- Borrowed names, each once, that were sorted by their bytes are in byte order.
use Rattle.std.proofs.Common.{◌≡◌, ◌↔◌, ℕ, zero, suc, ◌+◌, ◌<◌, false, List, [], ◌∷◌, ◌++◌, Contains, get_or, length, refl, sym, ap, subst, subst₂, ◌∙◌, arith}
use Rattle.std.specs.Borrow.{Bor}
use Rattle.std.specs.List.{AllByRecursion, IsDistinct}
use Rattle.std.specs.List.Sorted.{IsPermutation, IsSortedBy}
use Rattle.std.specs.Ordering.{nat_cmp, is_lt}
use Rattle.std.specs.Str.{bytes_eq}
use Rattle.std.specs.Cmp.Lexicographic.{slice_cmp}
use Rattle.std.proofs.lemmas.List.{get_or-map, length-map, map-append}
use Rattle.std.proofs.lemmas.List.Sorted.{IsPermutation-map, IsPermutation-sym, Contains-permutation}
use Rattle.indexmap.specs.IndexSet.{IndexSet}
use Rattle.pk_types.specs.ExportedNames.{AreInByteOrder}
use Rattle.export_names.proofs.ByteOrder.{ordered}
use Rattle.prune_graph.specs.Gathering.{the_names, name_lists}

apart_from : (name : Bor (List ℕ)) (names : List (Bor (List ℕ))) → AllByRecursion (λ (other : Bor (List ℕ)). bytes_eq name.now other.now ≡ false) names
    → AllByRecursion (λ other. bytes_eq name.now other ≡ false) (the_names names)
apart_from name [] apart = tt
apart_from name (other ∷ names) apart = (apart.0, apart_from name names apart.1)

distinct_names : (names : List (Bor (List ℕ))) → IsDistinct (λ (name other : Bor (List ℕ)). bytes_eq name.now other.now) names → IsDistinct bytes_eq (the_names names)
unfolding IsDistinct
distinct_names [] distinct = tt
distinct_names (name ∷ names) distinct = (apart_from name names distinct.0, distinct_names names distinct.1)

sorted_names : (names : List (Bor (List ℕ))) → IsSortedBy (λ (name other : Bor (List ℕ)). is_lt (slice_cmp nat_cmp name.now other.now)) names
    → IsSortedBy (λ name other. is_lt (slice_cmp nat_cmp name other)) (the_names names)
sorted_names [] up k d low h = absurd (omega (arith, h))
sorted_names (first ∷ names) up k d low h =
    let within : k + 1 < length (first ∷ names) = omega (arith, h, length-map (first ∷ names) (λ (name : Bor (List ℕ)). name.now)) in
    subst₂ (λ one two. is_lt (slice_cmp nat_cmp one two) ≡ false)
    (sym (get_or-map (λ (name : Bor (List ℕ)). name.now) (first ∷ names) (k + 1) first d within))
    (sym (get_or-map (λ (name : Bor (List ℕ)). name.now) (first ∷ names) k first d (omega (arith, within))))
    (up k first low within)

module _ (names sorted : List (Bor (List ℕ))) (moved : IsPermutation names sorted) where
  names_moved : IsPermutation (the_names names) (the_names sorted)
  names_moved = IsPermutation-map (λ (name : Bor (List ℕ)). name.now) names sorted moved

  pub in_order : IsDistinct (λ (name other : Bor (List ℕ)). bytes_eq name.now other.now) names
      → IsSortedBy (λ (name other : Bor (List ℕ)). is_lt (slice_cmp nat_cmp name.now other.now)) sorted → AreInByteOrder (the_names sorted)
  in_order distinct up = ordered (the_names names) (the_names sorted) (distinct_names names distinct) names_moved (sorted_names sorted up)

  pub same_names : (name : List ℕ) → Contains (the_names sorted) name ↔ Contains (the_names names) name
  same_names name = (
    λ m. Contains-permutation (the_names sorted) (the_names names) name (IsPermutation-sym (the_names names) (the_names sorted) names_moved) m,
    λ m. Contains-permutation (the_names names) (the_names sorted) name names_moved m,
  )

-- ---- lists of names to begin with

more_none : (lists : List (List (List ℕ))) (request : ℕ) → get_or (lists ++ [] ∷ []) request [] ≡ get_or lists request []
more_none [] zero = refl
more_none [] (suc request) = refl
more_none (list ∷ lists) zero = refl
more_none (list ∷ lists) (suc request) = more_none lists request

pub none_more : {S : Type 0} (sets more : List (IndexSet (Bor (List ℕ)) S)) (set : IndexSet (Bor (List ℕ)) S) → set.keys ≡ [] → more ≡ sets ++ set ∷ []
    → ((request : ℕ) (name : List ℕ) → ¬ Contains (get_or (name_lists sets) request []) name)
    → (request : ℕ) (name : List ℕ) → ¬ Contains (get_or (name_lists more) request []) name
none_more {S = S} sets more set empty put none request name there = none request name (subst (λ l. Contains l name) is there)
  where
    is : get_or (name_lists more) request [] ≡ get_or (name_lists sets) request []
    is = ap (λ l. get_or (name_lists l) request []) put ∙ ap (λ l. get_or l request []) (map-append (λ (one : IndexSet (Bor (List ℕ)) S). the_names one.keys) sets (set ∷ []))
        ∙ ap (λ l. get_or (name_lists sets ++ the_names l ∷ []) request []) empty ∙ more_none (name_lists sets) request

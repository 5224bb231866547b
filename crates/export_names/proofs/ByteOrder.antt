-- Distinct names that were sorted by their bytes are in byte order.
use Rattle.std.proofs.Common.{◌≡◌, ℕ, false, List, [], ◌∷◌, get_or, refl, sym, ap, ◌∙◌, arith}
use Rattle.std.specs.List.{IsDistinct, AllByRecursion}
use Rattle.std.specs.List.Sorted.{IsPermutation, IsSortedBy}
use Rattle.std.specs.Ordering.{nat_cmp, is_lt, is_eq, ordering_then, ordering_reverse}
use Rattle.std.specs.declared.cmp.Ordering.{Ordering}
use Rattle.std.specs.declared.cmp.Ordering.TheVariants.{Less, Equal, Greater}
use Rattle.std.specs.Str.{bytes_eq}
use Rattle.std.specs.Cmp.Lexicographic.{slice_cmp, bytes_decides, nat_list_eq_equiv}
use Rattle.std.proofs.lemmas.Bool.{true≢false}
use Rattle.std.proofs.lemmas.Cmp.{ranked, nat_list_cmp_total}
use Rattle.std.proofs.lemmas.List.Sorted.{ranks_by, sorted_far}
use Rattle.std.proofs.lemmas.Map.Keys.{apart_from_distinct, IsDistinct-IsPermutation}
use Rattle.pk_text.specs.declared.text.Key.{Key}
use Rattle.pk_types.specs.ExportedNames.{AreInByteOrder}
use Rattle.export_names.specs.Collected.{key_names}

-- keys that differ have names that differ
apart_from : (key : Key) (keys : List Key) → AllByRecursion (λ (other : Key). bytes_eq key.0.now other.0.now ≡ false) keys → AllByRecursion (λ name. bytes_eq key.0.now name ≡ false) (key_names keys)
apart_from key [] apart = tt
apart_from key (other ∷ keys) apart = (apart.0, apart_from key keys apart.1)

pub distinct_names : (keys : List Key) → IsDistinct (λ (key other : Key). bytes_eq key.0.now other.0.now) keys → IsDistinct bytes_eq (key_names keys)
unfolding IsDistinct
distinct_names [] distinct = tt
distinct_names (key ∷ keys) distinct = (apart_from key keys distinct.0, distinct_names keys distinct.1)

equal_same : (name other : List ℕ) → slice_cmp nat_cmp name other ≡ Equal → name ≡ other
equal_same [] [] e = refl
equal_same [] (y ∷ ys) e = absurd (true≢false (sym (ap is_eq e)))
equal_same (x ∷ xs) [] e = absurd (true≢false (sym (ap is_eq e)))
equal_same (x ∷ xs) (y ∷ ys) e = by (λ rest. equal_same xs ys rest) (nat_cmp x y) refl
  where
    by : (slice_cmp nat_cmp xs ys ≡ Equal → xs ≡ ys) → (order : Ordering) → nat_cmp x y ≡ order → x ∷ xs ≡ y ∷ ys
    by rest Less o = absurd (true≢false (sym (ap is_eq (sym (ap (λ t. ordering_then t (slice_cmp nat_cmp xs ys)) o) ∙ e))))
    by rest Equal o = ap (λ first. first ∷ xs) (ranked x y Equal (sym o)) ∙ ap (λ l. y ∷ l) (rest (sym (ap (λ t. ordering_then t (slice_cmp nat_cmp xs ys)) o) ∙ e))
    by rest Greater o = absurd (true≢false (sym (ap is_eq (sym (ap (λ t. ordering_then t (slice_cmp nat_cmp xs ys)) o) ∙ e))))

less : (name other : List ℕ) → bytes_eq name other ≡ false → is_lt (slice_cmp nat_cmp other name) ≡ false → slice_cmp nat_cmp name other ≡ Less
less name other apart far = by (slice_cmp nat_cmp name other) refl
  where
    by : (order : Ordering) → slice_cmp nat_cmp name other ≡ order → slice_cmp nat_cmp name other ≡ Less
    by Less o = o
    by Equal o = absurd (true≢false (sym ((bytes_decides name other).1 (equal_same name other o)) ∙ apart))
    by Greater o = absurd (true≢false (sym (ap is_lt (nat_list_cmp_total.antisymm other name ∙ ap ordering_reverse o)) ∙ far))

pub ordered : (names sorted : List (List ℕ)) → IsDistinct bytes_eq names → IsPermutation names sorted → IsSortedBy (λ name other. is_lt (slice_cmp nat_cmp name other)) sorted
    → AreInByteOrder sorted
ordered names sorted distinct moved up i j default before within =
    less (get_or sorted i default) (get_or sorted j default)
    (apart_from_distinct bytes_eq sorted i j default (IsDistinct-IsPermutation bytes_eq nat_list_eq_equiv.symm names sorted moved distinct) before within)
    (sorted_far (λ name other. is_lt (slice_cmp nat_cmp name other)) (ranks_by nat_list_cmp_total (λ name. name)) sorted up i j default (omega (arith, before)) within)

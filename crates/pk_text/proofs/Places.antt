-- Where a text stands in a list of distinct texts.
use Rattle.std.proofs.Common.{Bool, position, ◌≡◌, ℕ, ◌<◌, List, length, get_or, slice_get, cond, nat_lt, false, Some, None, sym, ap, ◌∙◌, arith, lt-ltb}
use Rattle.std.specs.Str.{bytes_eq}
use Rattle.std.specs.List.{IsDistinct, position_or_len}
use Rattle.std.specs.Cmp.Lexicographic.{nat_list_eq_equiv}
use Rattle.std.proofs.lemmas.List.Sums.{position_or_len_is}
use Rattle.std.proofs.lemmas.Map.Keys.{apart_from_distinct}
use Rattle.std.proofs.lemmas.Option.{slice_get_within, get_or_from_slice_get}
use Rattle.pk_text.specs.Places.{place_of}

position_is : (p : List ℕ → Bool) (xs : List (List ℕ)) (i : ℕ) → i < length xs → position_or_len p xs ≡ i → position p xs ≡ Some i
position_is p xs i within n =
    ap (λ n. cond (nat_lt n (length xs)) (Some n) None) n ∙ ap (λ b. cond b (Some i) None) (lt-ltb i _ within)

-- in a list of distinct texts each stands at its place
pub place_at : (xs : List (List ℕ)) (i : ℕ) (t : List ℕ) → IsDistinct bytes_eq xs → slice_get xs i ≡ Some t → place_of xs t ≡ Some i
place_at xs i t distinct at =
    let within : i < length xs = slice_get_within xs i t at in
    let here : get_or xs i t ≡ t = get_or_from_slice_get xs i t t at in
    let before : (k : ℕ) → k < i → bytes_eq t (get_or xs k t) ≡ false =
    λ k below. nat_list_eq_equiv.symm t (get_or xs k t) ∙ sym (ap (bytes_eq (get_or xs k t)) here) ∙ apart_from_distinct bytes_eq xs k i t distinct below within in
    let n : position_or_len (bytes_eq t) xs ≡ i =
    position_or_len_is (bytes_eq t) xs i t (omega (arith, within)) before (λ _. ap (bytes_eq t) here ∙ nat_list_eq_equiv.refl t) in
    position_is (bytes_eq t) xs i within n

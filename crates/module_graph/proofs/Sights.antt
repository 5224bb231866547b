-- Known paths, and the numbers of those that are seen.
use Rattle.std.proofs.Common.{◌≡◌, ℕ, zero, suc, ◌+◌, ◌<◌, ◌≤◌, max, ◌||◌, not, Bool, true, false, cond, List, [], ◌∷◌, ◌++◌, length, take, map, get_or, Some, slice_get, refl, sym, ap, subst, ◌∙◌, arith}
use Rattle.std.specs.List.{Contains, IsDistinct, list_any, position, position_or_len}
use Rattle.std.specs.Str.{bytes_eq}
use Rattle.std.specs.Cmp.Lexicographic.{bytes_decides, nat_list_eq_equiv}
use Rattle.std.proofs.lemmas.Map.Keys.{IsDistinct-push}
use Rattle.std.proofs.lemmas.Bool.{true≢false, or_left, or_right}
use Rattle.std.proofs.lemmas.List.{append-nil, append_assoc, length-append, length_push, map-append, take_at, take_more}
use Rattle.std.proofs.lemmas.List.Folds.{list_any-append}
use Rattle.std.proofs.lemmas.List.Quantifiers.{position-Some}
use Rattle.std.proofs.lemmas.Map.Views.{list_any-from_Contains}
use Rattle.std.proofs.lemmas.Option.{slice_get-get_or}
use Rattle.module_graph.specs.Known.{with_path, with_paths, number_in, numbers_in}
use Rattle.module_graph.specs.Sightings.{count_after, AreSeenInOrder}

-- ---- places of what passes a test

module _ (p : List ℕ → Bool) where
  place_kept : (xs ys : List (List ℕ)) → list_any p xs ≡ true → position_or_len p (xs ++ ys) ≡ position_or_len p xs
  place_kept [] ys h = absurd (true≢false (sym h))
  place_kept (x ∷ xs) ys h = by (place_kept xs ys) (p x) refl
    where
      by : (list_any p xs ≡ true → position_or_len p (xs ++ ys) ≡ position_or_len p xs) → (b : Bool) → p x ≡ b → cond (not (p x)) (1 + position_or_len p (xs ++ ys)) 0 ≡ cond (not (p x)) (1 + position_or_len p xs) 0
      by rest true e = ap (λ b. cond (not b) (1 + position_or_len p (xs ++ ys)) 0) e ∙ sym (ap (λ b. cond (not b) (1 + position_or_len p xs) 0) e)
      by rest false e = ap (λ n. cond (not (p x)) (1 + n) 0) (rest (sym (ap (λ b. b || list_any p xs) e) ∙ h))

  place_new : (xs : List (List ℕ)) (y : List ℕ) → list_any p xs ≡ false → p y ≡ true → position_or_len p (xs ++ y ∷ []) ≡ length xs
  place_new [] y h e = ap (λ b. cond (not b) (1 + 0) 0) e
  place_new (x ∷ xs) y h e = by (λ k. place_new xs y k e) (p x) refl
    where
      by : (list_any p xs ≡ false → position_or_len p (xs ++ y ∷ []) ≡ length xs) → (b : Bool) → p x ≡ b → cond (not (p x)) (1 + position_or_len p (xs ++ y ∷ [])) 0 ≡ suc (length xs)
      by rest true f = absurd (true≢false (sym (ap (λ b. b || list_any p xs) f) ∙ h))
      by rest false f = ap (λ b. cond (not b) (1 + position_or_len p (xs ++ y ∷ [])) 0) f ∙ ap (λ n. 1 + n) (rest (sym (ap (λ b. b || list_any p xs) f) ∙ h)) ∙ omega arith

  place_past : (xs : List (List ℕ)) → list_any p xs ≡ false → position_or_len p xs ≡ length xs
  place_past [] h = refl
  place_past (x ∷ xs) h = by (place_past xs) (p x) refl
    where
      by : (list_any p xs ≡ false → position_or_len p xs ≡ length xs) → (b : Bool) → p x ≡ b → cond (not (p x)) (1 + position_or_len p xs) 0 ≡ suc (length xs)
      by rest true f = absurd (true≢false (sym (ap (λ b. b || list_any p xs) f) ∙ h))
      by rest false f = ap (λ b. cond (not b) (1 + position_or_len p xs) 0) f ∙ ap (λ n. 1 + n) (rest (sym (ap (λ b. b || list_any p xs) f) ∙ h)) ∙ omega arith

  place_within : (xs : List (List ℕ)) → list_any p xs ≡ true → position_or_len p xs < length xs
  place_within [] h = absurd (true≢false (sym h))
  place_within (x ∷ xs) h = by (place_within xs) (p x) refl
    where
      by : (list_any p xs ≡ true → position_or_len p xs < length xs) → (b : Bool) → p x ≡ b → cond (not (p x)) (1 + position_or_len p xs) 0 < suc (length xs)
      by rest true f = subst (λ b. cond (not b) (1 + position_or_len p xs) 0 < suc (length xs)) (sym f) (omega arith)
      by rest false f =
          let below : position_or_len p xs < length xs = rest (sym (ap (λ b. b || list_any p xs) f) ∙ h) in
          subst (λ b. cond (not b) (1 + position_or_len p xs) 0 < suc (length xs)) (sym f) (omega arith)

pub same : (path : List ℕ) → bytes_eq path path ≡ true
same path = (bytes_decides path path).1 refl

-- a known path stands at its number
pub at_number : (known : List (List ℕ)) (path : List ℕ) → list_any (bytes_eq path) known ≡ true → slice_get known (number_in known path) ≡ Some path
at_number [] path h = absurd (true≢false (sym h))
at_number (x ∷ xs) path h = by (at_number xs path) (bytes_eq path x) refl
  where
    by : (list_any (bytes_eq path) xs ≡ true → slice_get xs (number_in xs path) ≡ Some path) → (b : Bool) → bytes_eq path x ≡ b → slice_get (x ∷ xs) (cond (not (bytes_eq path x)) (1 + number_in xs path) 0) ≡ Some path
    by rest true e = ap (λ b. slice_get (x ∷ xs) (cond (not b) (1 + number_in xs path) 0)) e ∙ ap Some (sym ((bytes_decides path x).0 e))
    by rest false e =
        let next : 1 + number_in xs path ≡ suc (number_in xs path) = omega arith in
        ap (λ b. slice_get (x ∷ xs) (cond (not b) (1 + number_in xs path) 0)) e ∙ ap (λ n. slice_get (x ∷ xs) n) next ∙ rest (sym (ap (λ b. b || list_any (bytes_eq path) xs) e) ∙ h)

-- what a look-up of a path finds
pub found : (known : List (List ℕ)) (path : List ℕ) (n : ℕ) → position (bytes_eq path) known ≡ Some n → slice_get known n ≡ Some path
found known path n e =
    let at = position-Some (bytes_eq path) known n path e in
    slice_get-get_or known n path at.0 ∙ ap Some (sym ((bytes_decides path (get_or known n path)).0 at.1))

pub not_found : (known : List (List ℕ)) (path : List ℕ) → list_any (bytes_eq path) known ≡ false → Contains known path → ⊥
not_found known path e h = true≢false (sym (list_any-from_Contains nat_list_eq_equiv path known h) ∙ e)

-- ---- one path

is_known : (known : List (List ℕ)) (path : List ℕ) → list_any (bytes_eq path) known ≡ true → with_path known path ≡ known
is_known known path e = ap (λ b. cond b known (known ++ path ∷ [])) e

is_new : (known : List (List ℕ)) (path : List ℕ) → list_any (bytes_eq path) known ≡ false → with_path known path ≡ known ++ path ∷ []
is_new known path e = ap (λ b. cond b known (known ++ path ∷ [])) e

-- what is true where the path is known and where it is new
each_way : (P : List (List ℕ) → Type 0) (known : List (List ℕ)) (path : List ℕ) → (list_any (bytes_eq path) known ≡ true → P known) → (list_any (bytes_eq path) known ≡ false → P (known ++ path ∷ [])) → P (with_path known path)
each_way P known path old new = by (list_any (bytes_eq path) known) refl
  where
    by : (b : Bool) → list_any (bytes_eq path) known ≡ b → P (with_path known path)
    by true e = subst P (sym (is_known known path e)) (old e)
    by false e = subst P (sym (is_new known path e)) (new e)

knows : (known : List (List ℕ)) (path : List ℕ) → list_any (bytes_eq path) (with_path known path) ≡ true
knows known path = each_way (λ l. list_any (bytes_eq path) l ≡ true) known path (λ e. e)
    (λ e. list_any-append (bytes_eq path) known (path ∷ []) ∙ or_right (list_any (bytes_eq path) known) (list_any (bytes_eq path) (path ∷ [])) (or_left (bytes_eq path path) false (same path)))

number_kept : (known : List (List ℕ)) (path : List ℕ) → number_in (with_path known path) path ≡ number_in known path
number_kept known path = each_way (λ l. number_in l path ≡ number_in known path) known path (λ e. refl)
    (λ e. place_new (bytes_eq path) known path e (same path) ∙ sym (place_past (bytes_eq path) known e))

number_within : (known : List (List ℕ)) (path : List ℕ) → number_in known path ≤ length known
number_within known path = by (list_any (bytes_eq path) known) refl
  where
    by : (b : Bool) → list_any (bytes_eq path) known ≡ b → number_in known path ≤ length known
    by true e = omega (arith, place_within (bytes_eq path) known e)
    by false e = omega (arith, place_past (bytes_eq path) known e)

pub count_grows : (known : List (List ℕ)) (path : List ℕ) → length (with_path known path) ≡ max (length known) (suc (number_in known path))
count_grows known path = each_way (λ l. length l ≡ max (length known) (suc (number_in known path))) known path
    (λ e. omega (arith, place_within (bytes_eq path) known e))
    (λ e. omega (arith, place_past (bytes_eq path) known e, length_push known path))

-- ---- several

-- the list begins with another
pub record Extends (known new : List (List ℕ)) : Type 0 where
  pub more : List (List ℕ)
  pub is : new ≡ known ++ more

extends_path : (known : List (List ℕ)) (path : List ℕ) → Extends known (with_path known path)
extends_path known path = each_way (Extends known) known path (λ e. record { more = []; is = sym (append-nil known) }) (λ e. record { more = path ∷ []; is = refl })

extends_trans : (xs ys zs : List (List ℕ)) → Extends xs ys → Extends ys zs → Extends xs zs
extends_trans xs ys zs a b = record { more = a.more ++ b.more; is = b.is ∙ ap (λ l. l ++ b.more) a.is ∙ append_assoc xs a.more b.more }

pub extends : (paths known : List (List ℕ)) → Extends known (with_paths known paths)
extends [] known = record { more = []; is = sym (append-nil known) }
extends (path ∷ paths) known = extends_trans known (with_path known path) (with_paths (with_path known path) paths) (extends_path known path) (extends paths (with_path known path))

-- the known paths are kept
pub keeps : (paths known : List (List ℕ)) → take (length known) (with_paths known paths) ≡ known
keeps paths known =
    let e = extends paths known in
    ap (λ l. take (length known) l) e.is ∙ take_at known e.more (length known) refl

knows_in : (known new : List (List ℕ)) (path : List ℕ) → Extends known new → list_any (bytes_eq path) known ≡ true → list_any (bytes_eq path) new ≡ true
knows_in known new path e h = ap (λ l. list_any (bytes_eq path) l) e.is ∙ list_any-append (bytes_eq path) known e.more ∙ or_left (list_any (bytes_eq path) known) (list_any (bytes_eq path) e.more) h

number_in_more : (known new : List (List ℕ)) (path : List ℕ) → Extends known new → list_any (bytes_eq path) known ≡ true → number_in new path ≡ number_in known path
number_in_more known new path e h = ap (λ l. number_in l path) e.is ∙ place_kept (bytes_eq path) known e.more h

-- the number of a path once more paths are seen
first_number : (known : List (List ℕ)) (path : List ℕ) (paths : List (List ℕ)) → number_in (with_paths (with_path known path) paths) path ≡ number_in known path
first_number known path paths = number_in_more (with_path known path) (with_paths (with_path known path) paths) path (extends paths (with_path known path)) (knows known path) ∙ number_kept known path

-- ---- the numbers of the paths are in the order of first sight
pub in_order : (paths known : List (List ℕ)) → AreSeenInOrder (length known) (numbers_in (with_paths known paths) paths)
in_order [] known = tt
in_order (path ∷ paths) known =
    let same_number = first_number known path paths in
    let grows = ap (λ n. max (length known) (suc n)) same_number ∙ sym (count_grows known path) in
    (omega (arith, same_number, number_within known path), subst (λ n. AreSeenInOrder n (numbers_in (with_paths (with_path known path) paths) paths)) (sym grows) (in_order paths (with_path known path)))

pub counted : (paths known : List (List ℕ)) → count_after (length known) (numbers_in (with_paths known paths) paths) ≡ length (with_paths known paths)
counted [] known = refl
counted (path ∷ paths) known =
    let grows = ap (λ n. max (length known) (suc n)) (first_number known path paths) ∙ sym (count_grows known path) in
    ap (λ n. count_after n (numbers_in (with_paths (with_path known path) paths) paths)) grows ∙ counted paths (with_path known path)

-- each number leads back to its path
pub by_path : (paths known : List (List ℕ)) → map (slice_get (with_paths known paths)) (numbers_in (with_paths known paths) paths) ≡ map Some paths
by_path [] known = refl
by_path (path ∷ paths) known =
    let new = with_paths (with_path known path) paths in
    let here : slice_get (with_paths (with_path known path) paths) (number_in (with_paths (with_path known path) paths) path) ≡ Some path = at_number new path (knows_in (with_path known path) new path (extends paths (with_path known path)) (knows known path)) in
    ap (λ o. o ∷ map (slice_get (with_paths (with_path known path) paths)) (numbers_in (with_paths (with_path known path) paths) paths)) here ∙ ap (λ l. Some path ∷ l) (by_path paths (with_path known path))

-- ---- one path more at the end
pub with_one_more : (paths known : List (List ℕ)) (path : List ℕ) → with_paths known (paths ++ path ∷ []) ≡ with_path (with_paths known paths) path
with_one_more [] known path = refl
with_one_more (first ∷ paths) known path = with_one_more paths (with_path known first) path

numbers_in_more : (paths known new : List (List ℕ)) → Extends (with_paths known paths) new → numbers_in new paths ≡ numbers_in (with_paths known paths) paths
numbers_in_more [] known new e = refl
numbers_in_more (path ∷ paths) known new e =
    let all = with_paths (with_path known path) paths in
    let here = number_in_more (with_paths (with_path known path) paths) new path e (knows_in (with_path known path) all path (extends paths (with_path known path)) (knows known path)) in
    ap (λ n. n ∷ numbers_in new paths) here ∙ ap (λ l. number_in (with_paths (with_path known path) paths) path ∷ l) (numbers_in_more paths (with_path known path) new e)

pub numbers_one_more : (paths known : List (List ℕ)) (path : List ℕ) → numbers_in (with_paths known (paths ++ path ∷ [])) (paths ++ path ∷ []) ≡ numbers_in (with_paths known paths) paths ++ number_in (with_paths known paths) path ∷ []
numbers_one_more paths known path =
    let all = with_paths known paths in
    let new = with_path (with_paths known paths) path in
    ap (λ l. numbers_in l (paths ++ path ∷ [])) (with_one_more paths known path)
    ∙ map-append (number_in (with_path (with_paths known paths) path)) paths (path ∷ [])
    ∙ ap (λ l. l ++ number_in (with_path (with_paths known paths) path) path ∷ []) (numbers_in_more paths known new (extends_path all path))
    ∙ ap (λ n. numbers_in (with_paths known paths) paths ++ n ∷ []) (number_kept all path)

-- there are no fewer known paths once all are seen
pub fewer_before : (paths known : List (List ℕ)) (k : ℕ) → length (with_paths known (take k paths)) ≤ length (with_paths known paths)
fewer_before paths known zero = let e = extends paths known in omega (arith, ap length e.is, length-append known e.more)
fewer_before [] known (suc k) = omega arith
fewer_before (path ∷ paths) known (suc k) = fewer_before paths (with_path known path) k

-- a list up to a place, and what stands there
pub beginning : (paths seen : List (List ℕ)) (path : List ℕ) → length seen < length paths → path ≡ get_or paths (length seen) path → seen ≡ take (length seen) paths → seen ++ path ∷ [] ≡ take (length seen + 1) paths
beginning paths seen path h at e = ap (λ l. l ++ path ∷ []) e ∙ ap (λ p. take (length seen) paths ++ p ∷ []) at ∙ sym (take_more paths (length seen) path h)

pub distinct : (paths known : List (List ℕ)) → IsDistinct bytes_eq known → IsDistinct bytes_eq (with_paths known paths)
distinct [] known d = d
distinct (path ∷ paths) known d = distinct paths (with_path known path) (each_way (IsDistinct bytes_eq) known path (λ e. d) (λ e. IsDistinct-push nat_list_eq_equiv known path d e))

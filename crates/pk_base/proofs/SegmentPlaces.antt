-- The places at which a text breaks the rules of paths, against its segments.
use Rattle.std.proofs.Common.{nat_lt, ◌≡◌, ℕ, zero, suc, ◌+◌, ◌-◌, ◌<◌, Bool, true, false, cond, not, ◌&&◌, ◌||◌, List, [], ◌∷◌, length, take, drop, get_or, refl, sym, ◌∙◌, ap, subst, ⊎_elim, arith}
use Rattle.std.proofs.Math.Numerals.{one-add}
use Rattle.std.specs.List.{prefix_len, list_all, slice_split, onto_first, before_first}
use Rattle.std.proofs.lemmas.Bool.{cases_Bool, cond-true, cond-false, and_parts, or_parts, and_from, or_from, not-true, not_from_false, lt-ltb, false≢true, both_ways, eqb-true, ne_eqb, ltb-true, or_left, or_right, or_cases, and_left, and_right, cases_lt}
use Rattle.std.proofs.lemmas.List.{get_or_past}
use Rattle.std.proofs.lemmas.List.Splits.{slice_split-cons_yes, slice_split-cons_no}
use Rattle.pk_base.specs.Paths.{is_slash, is_forbidden, is_reserved, is_segment, segments, segment_at, begins_segment}
use Rattle.pk_base.specs.PathScan.{has_fault}

front : List ℕ → List ℕ
front = before_first is_slash

abbrev before_len : List ℕ → ℕ
before_len cs = prefix_len (λ c. not (is_slash c)) cs

pair : {x y : List ℕ} {xs ys : List (List ℕ)} → x ≡ y → xs ≡ ys → x ∷ xs ≡ y ∷ ys
pair e f = cc

abbrev is_fit : ℕ → Bool
is_fit c = not (is_forbidden c) && not (is_slash c)

front-slash : (c : ℕ) (cs : List ℕ) → is_slash c ≡ true → front (c ∷ cs) ≡ []
unfolding front
front-slash c cs t = ap (λ (b : Bool). take (cond (not b) (1 + before_len cs) 0) (c ∷ cs)) t

front-other : (c : ℕ) (cs : List ℕ) → is_slash c ≡ false → front (c ∷ cs) ≡ c ∷ front cs
unfolding front
front-other c cs f = ap (λ (b : Bool). take (cond (not b) (1 + before_len cs) 0) (c ∷ cs)) f ∙ ap (λ n. take n (c ∷ cs)) (one-add (before_len cs))

front-nil : front [] ≡ []
unfolding front
front-nil = refl

-- the parts after the first
later : List ℕ → List (List ℕ)
later [] = []
later (c ∷ cs) = cond (is_slash c) (slice_split is_slash cs) (later cs)

slice_split-front : (xs : List ℕ) → slice_split is_slash xs ≡ front xs ∷ later xs
unfolding front later
slice_split-front [] = refl
slice_split-front (c ∷ cs) =
    ⊎_elim
    (λ t. slice_split-cons_yes is_slash c cs t ∙ sym (pair (front-slash c cs t) (cond-true _ _ _ t)))
    (λ f. slice_split-cons_no is_slash c cs f ∙ ap (onto_first c) (slice_split-front cs) ∙ sym (pair (front-other c cs f) (cond-false _ _ _ f)))
    (cases_Bool (is_slash c))

-- a byte may stand where it does, before these
fits : ℕ → List ℕ → Bool
fits c cs = not (is_forbidden c) && (not (is_slash c) || not (is_reserved (front cs)))

all_fit : List ℕ → Bool
all_fit [] = true
all_fit (c ∷ cs) = fits c cs && all_fit cs

parts_fit : List ℕ → Bool
parts_fit xs = list_all is_fit (front xs) && list_all is_segment (later xs)

and_assoc : (x y z : Bool) → ((x && y) && z) ≡ (x && (y && z))
and_assoc true y z = refl
and_assoc false y z = refl

slash_fits : (c : ℕ) (cs : List ℕ) → is_slash c ≡ true → fits c cs ≡ not (is_reserved (front cs))
unfolding fits
slash_fits c cs t = let e = eqb-true c 47 t in
    subst (λ n. (not (is_forbidden n) && (not (is_slash n) || not (is_reserved (front cs)))) ≡ not (is_reserved (front cs))) (sym e) refl

other_fits : (c : ℕ) (cs : List ℕ) → is_slash c ≡ false → fits c cs ≡ is_fit c
unfolding fits
other_fits c cs f = ap (λ b. not (is_forbidden c) && (not b || not (is_reserved (front cs)))) f ∙ sym (ap (λ b. not (is_forbidden c) && not b) f)

parts_fit-is : (xs : List ℕ) → parts_fit xs ≡ all_fit xs
unfolding parts_fit later all_fit
parts_fit-is [] = ap (λ f. list_all is_fit f && true) front-nil
parts_fit-is (c ∷ cs) =
    let more = parts_fit-is cs in
    ⊎_elim
    (λ t.
    ap (λ f. list_all is_fit f && list_all is_segment (later (c ∷ cs))) (front-slash c cs t)
    ∙ ap (list_all is_segment) (cond-true _ (slice_split is_slash cs) (later cs) t ∙ slice_split-front cs)
    ∙ and_assoc (not (is_reserved (front cs))) (list_all is_fit (front cs)) _
    ∙ ap (λ b. not (is_reserved (front cs)) && b) more
    ∙ ap (λ b. b && all_fit cs) (sym (slash_fits c cs t)))
    (λ f.
    ap (λ g. list_all is_fit g && list_all is_segment (later (c ∷ cs))) (front-other c cs f)
    ∙ ap (λ g. (is_fit c && list_all is_fit (front cs)) && list_all is_segment g) (cond-false _ (slice_split is_slash cs) (later cs) f)
    ∙ and_assoc (is_fit c) (list_all is_fit (front cs)) _
    ∙ ap (λ b. is_fit c && b) more
    ∙ ap (λ b. b && all_fit cs) (sym (other_fits c cs f)))
    (cases_Bool (is_slash c))

-- the segments of a text, by its bytes
segments-fit : (c : ℕ) (cs : List ℕ) → list_all is_segment (segments (c ∷ cs)) ≡ (not (is_reserved (front (c ∷ cs))) && all_fit (c ∷ cs))
unfolding parts_fit
segments-fit c cs =
    ap (list_all is_segment) (slice_split-front (c ∷ cs))
    ∙ and_assoc (not (is_reserved (front (c ∷ cs)))) (list_all is_fit (front (c ∷ cs))) _
    ∙ ap (λ b. not (is_reserved (front (c ∷ cs))) && b) (parts_fit-is (c ∷ cs))

all_fit-at : (xs : List ℕ) → all_fit xs ≡ true → (q : ℕ) → q < length xs → fits (get_or xs q 0) (drop (suc q) xs) ≡ true
unfolding all_fit
all_fit-at [] h q less = absurd (omega arith)
all_fit-at (c ∷ cs) h zero less = (and_parts _ _ h).0
all_fit-at (c ∷ cs) h (suc q) less = all_fit-at cs (and_parts _ _ h).1 q (omega arith)

all_fit-from : (xs : List ℕ) → ((q : ℕ) → q < length xs → fits (get_or xs q 0) (drop (suc q) xs) ≡ true) → all_fit xs ≡ true
unfolding all_fit
all_fit-from [] h = refl
all_fit-from (c ∷ cs) h = and_from _ _ (h zero (omega arith)) (all_fit-from cs (λ q less. h (suc q) (omega arith)))

first_false : (x y : Bool) → x ≡ true → (x && y) ≡ false → y ≡ false
first_false x y t h = subst (λ b. (b && y) ≡ false) t h

begins_after : (text : List ℕ) (q : ℕ) → begins_segment text (suc q) ≡ is_slash (get_or text q 0)
begins_after text q =
    ap (λ b. b || is_slash (get_or text (suc q - 1) 0)) (ne_eqb (suc q) 0 (λ e. omega arith))
    ∙ ap (λ n. is_slash (get_or text n 0)) (let e : suc q - 1 ≡ q = omega arith in e)

reserved_at : (text : List ℕ) (q : ℕ) → has_fault text q ≡ false → begins_segment text q ≡ true → is_reserved (front (drop q text)) ≡ false
unfolding front
reserved_at text q h b = first_false _ _ b (or_parts _ _ h).1

fits-at : (text : List ℕ) → ((q : ℕ) → q < length text + 1 → has_fault text q ≡ false) → (q : ℕ) → q < length text → fits (get_or text q 0) (drop (suc q) text) ≡ true
unfolding fits
fits-at text h q less =
    let plain : is_forbidden (get_or text q 0) ≡ false = first_false _ _ (lt-ltb q (length text) less) (or_parts _ _ (h q (omega arith))).0 in
    and_from _ _ (not_from_false _ plain)
    (⊎_elim
    (λ t. or_right _ _ (not_from_false _ (reserved_at text (suc q) (h (suc q) (omega arith)) (begins_after text q ∙ t))))
    (λ f. or_left _ _ (not_from_false _ f))
    (cases_Bool (is_slash (get_or text q 0))))

-- a text without a fault has segments
pub segments_from_places : (text : List ℕ) → ((q : ℕ) → q < length text + 1 → has_fault text q ≡ false) → list_all is_segment (segments text) ≡ true
segments_from_places [] h = refl
segments_from_places (c ∷ cs) h =
    segments-fit c cs ∙ and_from _ _ (not_from_false _ (reserved_at (c ∷ cs) zero (h zero (omega arith)) refl)) (all_fit-from (c ∷ cs) (fits-at (c ∷ cs) h))

within : (text : List ℕ) (q : ℕ) → is_slash (get_or text q 0) ≡ true → q < length text
within text q t = ⊎_elim (λ l. l) (λ past. absurd (false≢true (ap is_slash (sym (get_or_past text q 0 past)) ∙ t))) (cases_lt q (length text))

byte_fault : (text : List ℕ) → all_fit text ≡ true → (q : ℕ) → (nat_lt q (length text) && is_forbidden (get_or text q 0)) ≡ false
unfolding fits
byte_fault text fit q =
    let below = nat_lt q (length text) in
    let bad = is_forbidden (get_or text q 0) in
    let not_reserved = not (is_reserved (front (drop (suc q) text))) in
    let not_slash = not (is_slash (get_or text q 0)) in
    ⊎_elim
    (λ l. and_right below bad (not-true bad (and_parts (not bad) (not_slash || not_reserved) (all_fit-at text fit q (ltb-true q (length text) l))).0))
    (λ past. and_left below bad past)
    (cases_Bool below)

segment_fault : (text : List ℕ) → is_reserved (front text) ≡ false → all_fit text ≡ true → (q : ℕ) → (begins_segment text q && is_reserved (segment_at text q)) ≡ false
unfolding front fits
segment_fault text start fit zero = start
segment_fault text start fit (suc q) =
    let slash = is_slash (get_or text q 0) in
    let bad = is_forbidden (get_or text q 0) in
    let reserved = is_reserved (front (drop (suc q) text)) in
    ⊎_elim
    (λ t.
    let either : (not slash || not reserved) ≡ true = (and_parts (not bad) (not slash || not reserved) (all_fit-at text fit q (within text q t))).1 in
    and_right (begins_segment text (suc q)) reserved
    (⊎_elim (λ f. absurd (both_ways slash (not-true slash f) t)) (λ f. not-true reserved f) (or_cases (not slash) (not reserved) either)))
    (λ f. and_left (begins_segment text (suc q)) reserved (begins_after text q ∙ f))
    (cases_Bool slash)

-- a segment begins no later than the text ends
pub segment_within : (text : List ℕ) (q : ℕ) → begins_segment text q ≡ true → q < length text + 1
segment_within text zero h = omega arith
segment_within text (suc q) h = let l = within text q (sym (begins_after text q) ∙ h) in omega arith

-- a text of segments has no fault
pub no_fault : (text : List ℕ) → 0 < length text → list_all is_segment (segments text) ≡ true → (q : ℕ) → has_fault text q ≡ false
no_fault [] some h q = absurd (omega arith)
no_fault (c ∷ cs) some h q =
    let parts : (not (is_reserved (front (c ∷ cs))) && all_fit (c ∷ cs)) ≡ true = sym (segments-fit c cs) ∙ h in
    let both = and_parts _ _ parts in
    or_from _ _ (byte_fault (c ∷ cs) both.1 q) (segment_fault (c ∷ cs) (not-true _ both.0) both.1 q)

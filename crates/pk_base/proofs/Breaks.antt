-- A text is a path exactly where it is short and no place of it breaks the rules.
use Rattle.std.proofs.Common.{◌≡◌, ℕ, zero, suc, ◌+◌, ◌<◌, ◌≤◌, min, true, false, ◌&&◌, nat_lt, nat_le, List, length, take, get_or, sym, ◌∙◌, subst, ◌⊎◌, inl, inr, ⊎_elim, arith}
use Rattle.std.specs.Str.{is_utf8, IsUtf8, IsValidUpTo}
use Rattle.std.proofs.lemmas.Bool.{cases_Bool, and_parts, and_from, or_cases, or_left, or_right, both_ways, lt-ltb, ltb-true, le-leb, leb-true, cases_lt, cases_eq}
use Rattle.std.proofs.lemmas.List.{take_all}
use Rattle.std.proofs.lemmas.Str.{is_utf8-from_IsUtf8, IsUtf8-from_is_utf8, IsUtf8-nil, utf8_valid_len-IsUtf8, utf8_valid_len-IsValidUpTo}
use Rattle.pk_base.specs.Paths.{is_path, is_forbidden, is_reserved, segment_at, begins_segment, Breaks, HasForbiddenByte, BeginsReservedSegment, IsFirstBreak}
use Rattle.pk_base.specs.PathScan.{has_fault, IsFirstFault}
use Rattle.pk_base.proofs.SegmentPlaces.{no_fault, segments_from_places, segment_within}

-- the longest front that is UTF-8, among those of at most n bytes
record Longest (bs : List ℕ) (n m : ℕ) : Type 0 where
  least : m ≤ n
  front : IsUtf8 (take m bs)
  above : (k : ℕ) → m < k → k ≤ n → ¬ (IsUtf8 (take k bs))

longest : (bs : List ℕ) (n : ℕ) → (m : ℕ) × Longest bs n m
longest bs zero = (0, record { least = omega arith; front = IsUtf8-nil; above = λ k a b. absurd (omega arith) })
longest bs (suc n) =
    ⊎_elim
    (λ t. (suc n, record { least = omega arith; front = IsUtf8-from_is_utf8 (take (suc n) bs) t; above = λ k a b. absurd (omega arith) }))
    (λ f.
    let w = longest bs n in
    let some = w.1 in
    let below : w.0 ≤ n = some.least in (
      w.0,
      record {
        least = omega arith;
        front = some.front;
        above = λ k a b. ⊎_elim
            (λ e u. both_ways (is_utf8 (take (suc n) bs)) f (is_utf8-from_IsUtf8 _ (subst (λ j. IsUtf8 (take j bs)) e u)))
            (λ e. some.above k a (omega arith))
            (cases_eq k (suc n));
      },
    ))
    (cases_Bool (is_utf8 (take (suc n) bs)))

valid_place : (bs : List ℕ) → is_utf8 bs ≡ false → (m : ℕ) × IsValidUpTo bs m
valid_place bs fails =
    let w = longest bs (length bs) in
    let some = w.1 in
    let below : w.0 ≤ length bs = some.least in
    let whole : (k : ℕ) → length bs ≤ k → ¬ (IsUtf8 (take k bs)) = λ k long u. both_ways (is_utf8 bs) fails (is_utf8-from_IsUtf8 bs (subst IsUtf8 (take_all k bs long) u)) in (
      w.0,
      record {
        short = ⊎_elim (λ l. l) (λ past. absurd (whole w.0 past some.front)) (cases_lt w.0 (length bs));
        front = some.front;
        longest = λ m more. ⊎_elim (λ l. some.above m more (omega arith)) (λ past. whole m past) (cases_lt m (length bs));
      },
    )

no_valid_place : (bs : List ℕ) (m : ℕ) → IsUtf8 bs → ¬ (IsValidUpTo bs m)
no_valid_place bs m u v =
    let short = v.short in absurd (omega (arith, utf8_valid_len-IsUtf8 bs u, utf8_valid_len-IsValidUpTo bs m v))

same_valid_place : (bs : List ℕ) (m n : ℕ) → IsValidUpTo bs m → IsValidUpTo bs n → m ≡ n
same_valid_place bs m n v w = sym (utf8_valid_len-IsValidUpTo bs m v) ∙ utf8_valid_len-IsValidUpTo bs n w

fault_cases : (text : List ℕ) (p : ℕ) → has_fault text p ≡ true → HasForbiddenByte text p ⊎ BeginsReservedSegment text p
fault_cases text p h =
    let below = nat_lt p (length text) in
    let bad = is_forbidden (get_or text p 0) in
    let begins = begins_segment text p in
    let reserved = is_reserved (segment_at text p) in
    ⊎_elim
    (λ t. let both = and_parts below bad t in inl (ltb-true p (length text) both.0, both.1))
    (λ t. inr (and_parts begins reserved t))
    (or_cases (below && bad) (begins && reserved) h)

break_from_fault : (text : List ℕ) (p : ℕ) → has_fault text p ≡ true → Breaks text p
break_from_fault text p h = ⊎_elim (λ b. inl b) (λ s. inr (inl s)) (fault_cases text p h)

-- a place that breaks the rules
fault_or_text : (text : List ℕ) (p : ℕ) → Breaks text p → (has_fault text p ≡ true) ⊎ IsValidUpTo text p
fault_or_text text p b =
    let below = nat_lt p (length text) in
    let bad = is_forbidden (get_or text p 0) in
    let begins = begins_segment text p in
    let reserved = is_reserved (segment_at text p) in
    ⊎_elim
    (λ w. inl (or_left (below && bad) (begins && reserved) (and_from below bad (lt-ltb p (length text) w.0) w.1)))
    (λ r. ⊎_elim (λ w. inl (or_right (below && bad) (begins && reserved) (and_from begins reserved w.0 w.1))) (λ v. inr v) r)
    b

fault_within : (text : List ℕ) (p : ℕ) → has_fault text p ≡ true → p < length text + 1
fault_within text p h = ⊎_elim (λ w. let l = w.0 in omega arith) (λ w. segment_within text p w.0) (fault_cases text p h)

-- what the two looks at a text tell
pub no_break : (text : List ℕ) → IsUtf8 text → ((q : ℕ) → q < length text + 1 → has_fault text q ≡ false) → (q : ℕ) → ¬ (Breaks text q)
no_break text u none q b =
    ⊎_elim (λ h. both_ways (has_fault text q) (none q (fault_within text q h)) h) (λ v. no_valid_place text q u v) (fault_or_text text q b)

pub first_of_fault : (text : List ℕ) (p : ℕ) → IsUtf8 text → IsFirstFault text p → IsFirstBreak text p
first_of_fault text p u f = record {
  breaks = break_from_fault text p f.fault;
  first = λ q less b. ⊎_elim (λ h. both_ways (has_fault text q) (f.first q less) h) (λ v. no_valid_place text q u v) (fault_or_text text q b);
}

pub first_of_text : (text : List ℕ) (p : ℕ) → IsValidUpTo text p → ((q : ℕ) → q < p → has_fault text q ≡ false) → IsFirstBreak text p
first_of_text text p v none = record {
  breaks = inr (inr v);
  first = λ q less b. ⊎_elim (λ h. both_ways (has_fault text q) (none q less) h) (λ w. let e = same_valid_place text q p w v in absurd (omega arith)) (fault_or_text text q b);
}

pub first_of_text_alone : (text : List ℕ) (p : ℕ) → IsValidUpTo text p → ((q : ℕ) → q < length text + 1 → has_fault text q ≡ false) → IsFirstBreak text p
first_of_text_alone text p v none = let short = v.short in first_of_text text p v (λ q l. none q (omega arith))

pub first_of_both : (text : List ℕ) (p n : ℕ) → IsFirstFault text p → IsValidUpTo text n → IsFirstBreak text (min p n)
first_of_both text p n f v =
    ⊎_elim
    (λ l. subst (IsFirstBreak text) (let e : p ≡ min p n = omega arith in e) (record {
      breaks = break_from_fault text p f.fault;
      first = λ q less b. ⊎_elim (λ h. both_ways (has_fault text q) (f.first q less) h) (λ w. let e = same_valid_place text q n w v in absurd (omega arith)) (fault_or_text text q b);
    }))
    (λ g. subst (IsFirstBreak text) (let e : n ≡ min p n = omega arith in e) (first_of_text text n v (λ q less. f.first q (omega arith))))
    (cases_lt p n)

pub first_within : (text : List ℕ) (p : ℕ) → IsFirstBreak text p → p ≤ length text
first_within text p f =
    ⊎_elim (λ h. let l = fault_within text p h in omega arith) (λ v. let l = v.short in omega arith) (fault_or_text text p f.breaks)

pub same_first : (text : List ℕ) (p q : ℕ) → IsFirstBreak text p → IsFirstBreak text q → p ≡ q
same_first text p q f g =
    ⊎_elim (λ l. absurd (g.first p l f.breaks)) (λ le. ⊎_elim (λ l. absurd (f.first q l g.breaks)) (λ ge. omega arith) (cases_lt q p)) (cases_lt p q)

-- the two definitions of a path say the same
pub is_path-from_no_break : (text : List ℕ) → length text ≤ 1024 → ((q : ℕ) → ¬ (Breaks text q)) → is_path text ≡ true
is_path-from_no_break text short none =
    let utf8 : is_utf8 text ≡ true = ⊎_elim (λ t. t) (λ f. let w = valid_place text f in absurd (none w.0 (inr (inr w.1)))) (cases_Bool (is_utf8 text)) in
    let faultless : (q : ℕ) → q < length text + 1 → has_fault text q ≡ false = λ q l. ⊎_elim (λ t. absurd (none q (break_from_fault text q t))) (λ f. f) (cases_Bool (has_fault text q)) in
    and_from _ _ (and_from _ _ (le-leb (length text) 1024 short) utf8) (segments_from_places text faultless)

pub no_break-from_is_path : (text : List ℕ) → 0 < length text → is_path text ≡ true → (q : ℕ) → ¬ (Breaks text q)
no_break-from_is_path text some h =
    let both = and_parts (nat_le (length text) 1024 && is_utf8 text) _ h in
    no_break text (IsUtf8-from_is_utf8 text (and_parts _ _ both.0).1) (λ q l. no_fault text some both.1 q)

pub short_path : (text : List ℕ) → is_path text ≡ true → length text ≤ 1024
short_path text h = leb-true _ _ (and_parts (nat_le (length text) 1024) _ (and_parts (nat_le (length text) 1024 && is_utf8 text) _ h).0).0

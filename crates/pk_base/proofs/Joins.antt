-- Walks along the parts of a relative text, and the text that is left when they end.
use Rattle.std.proofs.Common.{◌≡◌, ℕ, zero, suc, ◌+◌, ◌-◌, ◌<◌, ◌≤◌, Bool, true, false, ◌==◌, cond, not, ◌&&◌, nat_le, List, [], ◌∷◌, length, take, drop, get_or, Option, None, Some, refl, sym, ◌∙◌, ap, ⊎_elim, arith, MatchOption}
use Rattle.std.specs.Option.{option_and_then, is_some}
use Rattle.std.specs.List.{slice_range, list_all, slice_split}
use Rattle.std.specs.Str.{is_utf8, IsUtf8, IsCharBoundary}
use Rattle.std.proofs.lemmas.Bool.{cases_Bool, and_parts, and_from, and_left, and_right, and_cases, false≢true, both_ways, le-leb, eqb-false}
use Rattle.std.proofs.lemmas.List.{drop_more, drop_all, length-take-le}
use Rattle.std.proofs.lemmas.Str.{is_utf8-from_IsUtf8, IsUtf8-from_is_utf8, IsUtf8-take, IsCharBoundary-start}
use Rattle.pk_base.specs.Paths.{is_path, is_slash, is_segment, segments, written, without_last, folder_of, one_step, walk, path_or_none, joined}
use Rattle.pk_base.specs.PathScan.{has_fault, IsFirstFault}
use Rattle.pk_base.proofs.SegmentPlaces.{no_fault, segments_from_places}
use Rattle.pk_base.proofs.Breaks.{short_path}
use Rattle.pk_base.proofs.Segments.{written-segments}

abbrev pub HasSegments : List ℕ → Bool
HasSegments text = nat_le (length text) 1024 && list_all is_segment (segments text)

some_length : (text : List ℕ) → false ≡ (length text == 0) → 0 < length text
some_length text h = let differ = eqb-false (length text) 0 (sym h) in omega arith

pub segments_test : (text : List ℕ) (r : Option ℕ) (b : Bool) → length text ≤ 1024 → false ≡ (length text == 0) → MatchOption r ((q : ℕ) → q < length text + 1 → has_fault text q ≡ false) (IsFirstFault text) → is_some r ≡ not b → b ≡ HasSegments text
segments_test text None true short some h e = sym (and_from _ _ (le-leb (length text) 1024 short) (segments_from_places text h))
segments_test text None false short some h e = absurd (false≢true e)
segments_test text (Some p) true short some h e = absurd (false≢true (sym e))
segments_test text (Some p) false short some h e =
    sym (and_right (nat_le (length text) 1024) _
    (⊎_elim (λ t. absurd (both_ways (has_fault text p) (no_fault text (some_length text some) t p) h.fault)) (λ f. f) (cases_Bool (list_all is_segment (segments text)))))

pub is_path-from_parts : (text : List ℕ) → HasSegments text ≡ true → IsUtf8 text → is_path text ≡ true
is_path-from_parts text h u =
    let both = and_parts (nat_le (length text) 1024) _ h in
    and_from _ _ (and_from _ _ both.0 (is_utf8-from_IsUtf8 text u)) both.1

no_path : (text : List ℕ) → is_path text ≡ false → None ≡ path_or_none text
no_path text f = sym (ap (λ b. cond b (Some text) None) f)

pub none_from_segments : (text : List ℕ) → HasSegments text ≡ false → None ≡ path_or_none text
none_from_segments text h =
    let short = nat_le (length text) 1024 in
    let parts = list_all is_segment (segments text) in
    no_path text (⊎_elim (λ f. and_left (short && is_utf8 text) parts (and_left short (is_utf8 text) f)) (λ f. and_right (short && is_utf8 text) parts f) (and_cases short parts h))

pub none_from_text : (text : List ℕ) → is_utf8 text ≡ false → None ≡ path_or_none text
none_from_text text f =
    let short = nat_le (length text) 1024 in
    no_path text (and_left (short && is_utf8 text) (list_all is_segment (segments text)) (and_right short (is_utf8 text) f))

pub some_from_path : (text made : List ℕ) → made ≡ text → is_path text ≡ true → Some made ≡ path_or_none text
some_from_path text made e h = ap Some e ∙ sym (ap (λ b. cond b (Some text) None) h)

-- one step further
pub walk_more : (here parts : List (List ℕ)) (k : ℕ) (part : List ℕ) → k < length parts → part ≡ get_or parts k part → walk here (drop k parts) ≡ option_and_then (λ next. walk next (drop (k + 1) parts)) (one_step here part)
walk_more here parts k part less e =
    ap (walk here) (drop_more parts k part less) ∙ ap (λ p. option_and_then (λ next. walk next (drop (k + 1) parts)) (one_step here p)) (sym e)

pub walk_goes : (here next parts : List (List ℕ)) (k : ℕ) (part : List ℕ) (went : Bool) → (k < length parts) × (part ≡ get_or parts k part) → one_step here part ≡ cond went (Some next) None → went ≡ true → walk next (drop (k + 1) parts) ≡ walk here (drop k parts)
walk_goes here next parts k part went turn step t =
    sym (walk_more here parts k part turn.0 turn.1 ∙ ap (option_and_then (λ (n : List (List ℕ)). walk n (drop (k + 1) parts))) (step ∙ ap (λ b. cond b (Some next) None) t))

pub walk_stops : (here next parts : List (List ℕ)) (k : ℕ) (part : List ℕ) (went : Bool) → (k < length parts) × (part ≡ get_or parts k part) → one_step here part ≡ cond went (Some next) None → went ≡ false → walk here (drop k parts) ≡ None
walk_stops here next parts k part went turn step f =
    walk_more here parts k part turn.0 turn.1 ∙ ap (option_and_then (λ (n : List (List ℕ)). walk n (drop (k + 1) parts))) (step ∙ ap (λ b. cond b (Some next) None) f)

pub joined_none : (folder relative : List ℕ) → walk (segments folder) (slice_split is_slash relative) ≡ None → None ≡ joined folder relative
joined_none folder relative e = sym (ap (option_and_then (λ parts. path_or_none (written parts))) e)

pub joined_some : (folder relative text : List ℕ) → walk (segments folder) (slice_split is_slash relative) ≡ Some (segments text) → path_or_none text ≡ joined folder relative
joined_some folder relative text e =
    ap path_or_none (sym (written-segments text)) ∙ sym (ap (option_and_then (λ parts. path_or_none (written parts))) e)

pub walk_all : (here parts : List (List ℕ)) (k : ℕ) → length parts ≤ k → walk here (drop k parts) ≡ Some here
walk_all here parts k past = ap (walk here) (drop_all k parts past)

pub range_front : (text : List ℕ) (n : ℕ) → slice_range text 0 n ≡ take n text
range_front text n = ap (λ k. take k text) (let e : n - 0 ≡ n = omega arith in e)

-- the text before a slash
pub folder_boundary : (text : List ℕ) (n : ℕ) → IsUtf8 text → n ≤ length text → (0 < n → get_or text n 0 ≡ 47) → IsCharBoundary text n
folder_boundary text zero u within slash = IsCharBoundary-start text u
folder_boundary text (suc n) u within slash = (within, λ less wide. let e = slash (omega arith) in absurd (omega arith))

all_taken : (n : ℕ) (parts : List (List ℕ)) → list_all is_segment parts ≡ true → list_all is_segment (take n parts) ≡ true
all_taken zero parts h = refl
all_taken (suc n) [] h = refl
all_taken (suc n) (part ∷ parts) h = let both = and_parts (is_segment part) (list_all is_segment parts) h in and_from _ _ both.0 (all_taken n parts both.1)

pub is_path-folder : (text : List ℕ) (n : ℕ) → is_path text ≡ true → n ≤ length text → (0 < n → get_or text n 0 ≡ 47) → segments (take n text) ≡ without_last (segments text) → is_path (take n text) ≡ true
is_path-folder text n h within slash e =
    let both = and_parts (nat_le (length text) 1024 && is_utf8 text) _ h in
    let utf8 : IsUtf8 text = IsUtf8-from_is_utf8 text (and_parts (nat_le (length text) 1024) _ both.0).1 in
    let short : length text ≤ 1024 = short_path text h in
    let less : length (take n text) ≤ 1024 = omega (arith, length-take-le n text within) in
    and_from _ _ (and_from _ _ (le-leb (length (take n text)) 1024 less) (is_utf8-from_IsUtf8 (take n text) (IsUtf8-take text n utf8 (folder_boundary text n utf8 within slash))))
    (ap (list_all is_segment) e ∙ all_taken (length (segments text) - 1) (segments text) both.1)

pub folder_text : (text : List ℕ) (n : ℕ) → segments (take n text) ≡ without_last (segments text) → take n text ≡ folder_of text
folder_text text n e = sym (written-segments (take n text)) ∙ ap written e

-- The segments of a text that grows at its end, and of one that is cut.
use Rattle.std.proofs.Common.{◌≡◌, ◌≢◌, ℕ, suc, zero, ◌+◌, ◌-◌, ◌<◌, ◌≤◌, true, false, ◌&&◌, List, [], ◌∷◌, ◌++◌, length, take, drop, get_or, refl, sym, ◌∙◌, ap, subst, ⊎_elim, arith, length-append}
use Rattle.std.specs.List.{list_all, slice_split, onto_first, All}
use Rattle.std.proofs.lemmas.Bool.{cases_Bool, and_parts, false≢true, ne_eqb, eq-eqb}
use Rattle.std.proofs.lemmas.List.{take_at, append_assoc, take-append-drop, drop_more, length-drop, length-take, get_or-drop}
use Rattle.std.proofs.lemmas.List.Elements.{All-from_get_or, All-get_or, All-cons, All-nil}
use Rattle.std.proofs.lemmas.List.Splits.{slice_split_none, length-slice_split, join_with_byte-slice_split, slice_split-cons_yes, slice_split-cons_no}
use Rattle.std.proofs.lemmas.Str.{is_utf8-from_IsUtf8, IsUtf8-nil}
use Rattle.pk_base.specs.Paths.{is_path, is_slash, is_segment, segments, written, without_last}
use Rattle.pk_base.specs.PathScan.{IsRelative}

pub is_path-nil : is_path [] ≡ true
is_path-nil = ap (λ b. b && true) (is_utf8-from_IsUtf8 [] IsUtf8-nil)

pub is_path_at : (xs ys : List ℕ) → xs ≡ ys → is_path ys ≡ true → is_path xs ≡ true
is_path_at xs ys e h = subst (λ (t : List ℕ). is_path t ≡ true) (sym e) h

abbrev pub IsFree : List ℕ → Type 0
IsFree = All (λ c. is_slash c ≡ false)

some_part : (xs : List ℕ) → 0 < length (slice_split is_slash xs)
some_part xs = omega (arith, length-slice_split is_slash xs)

onto_first-append : (c : ℕ) (xs ys : List (List ℕ)) → 0 < length xs → onto_first c (xs ++ ys) ≡ onto_first c xs ++ ys
onto_first-append c [] ys h = absurd (omega arith)
onto_first-append c (x ∷ xs) ys h = refl

pub slice_split-append : (xs ys : List ℕ) → slice_split is_slash (xs ++ 47 ∷ ys) ≡ slice_split is_slash xs ++ slice_split is_slash ys
slice_split-append [] ys = refl
slice_split-append (x ∷ xs) ys =
    let more = slice_split-append xs ys in
    ⊎_elim
    (λ t. slice_split-cons_yes is_slash x (xs ++ 47 ∷ ys) t ∙ ap (λ (r : List (List ℕ)). [] ∷ r) more ∙ ap (λ (r : List (List ℕ)). r ++ slice_split is_slash ys) (sym (slice_split-cons_yes is_slash x xs t)))
    (λ f. slice_split-cons_no is_slash x (xs ++ 47 ∷ ys) f ∙ ap (onto_first x) more ∙ onto_first-append x _ _ (some_part xs) ∙ ap (λ (r : List (List ℕ)). r ++ slice_split is_slash ys) (sym (slice_split-cons_no is_slash x xs f)))
    (cases_Bool (is_slash x))

-- a part is put at the end
pub segments_push : (text part : List ℕ) → 0 < length text → IsFree part → segments (text ++ 47 ∷ part) ≡ segments text ++ part ∷ []
segments_push [] part some free = absurd (omega arith)
segments_push (c ∷ cs) part some free = slice_split-append (c ∷ cs) part ∙ ap (λ (r : List (List ℕ)). slice_split is_slash (c ∷ cs) ++ r) (slice_split_none is_slash part free)

pub segments_one : (part : List ℕ) → 0 < length part → IsFree part → segments part ≡ part ∷ []
segments_one [] some free = absurd (omega arith)
segments_one (c ∷ cs) some free = slice_split_none is_slash (c ∷ cs) free

without_last_push : (parts : List (List ℕ)) (part : List ℕ) → without_last (parts ++ part ∷ []) ≡ parts
without_last_push parts part = take_at parts (part ∷ []) _ (omega (arith, length-append parts (part ∷ [])))

-- the last part is cut off, with its slash
pub segments_cut : (text part : List ℕ) → 0 < length text → IsFree part → without_last (segments (text ++ 47 ∷ part)) ≡ segments text
segments_cut text part some free = ap without_last (segments_push text part some free) ∙ without_last_push (segments text) part

pub written-segments : (text : List ℕ) → written (segments text) ≡ text
written-segments [] = refl
written-segments (c ∷ cs) = join_with_byte-slice_split 47 (c ∷ cs)

-- no path begins with a slash
relative_parts : (c : ℕ) (cs : List ℕ) → list_all is_segment (segments (c ∷ cs)) ≡ true → c ≢ 47
relative_parts c cs h e = false≢true (sym (ap (list_all is_segment) (slice_split-cons_yes is_slash c cs (eq-eqb c 47 e))) ∙ h)

pub IsRelative-from_is_path : (text : List ℕ) → is_path text ≡ true → IsRelative text
IsRelative-from_is_path [] h e = absurd (omega arith)
IsRelative-from_is_path (c ∷ cs) h e = relative_parts c cs (and_parts _ _ h).1 e

-- what is told of the text before the last slash
cut_text : (text : List ℕ) (n : ℕ) → n < length text → get_or text n 0 ≡ 47 → text ≡ take n text ++ 47 ∷ drop (n + 1) text
cut_text text n less slash =
    sym (take-append-drop n text) ∙ ap (λ (r : List ℕ). take n text ++ r) (drop_more text n 0 less ∙ ap (λ c. c ∷ drop (n + 1) text) slash)

free_rest : (text : List ℕ) (n : ℕ) → ((k : ℕ) → n ≤ k → k < length text → get_or text k 0 ≡ 47 → ⊥) → IsFree (drop n text)
free_rest text n free = All-from_get_or (λ c. is_slash c ≡ false) (drop n text) 0 (λ i less.
    ne_eqb (get_or (drop n text) i 0) 47 (λ e. free (n + i) (omega arith) (omega (arith, length-drop n text)) (sym (get_or-drop n text i 0) ∙ e)))

pub segments_before_slash : (text : List ℕ) (n : ℕ) → IsRelative text → n < length text → get_or text n 0 ≡ 47 → ((k : ℕ) → n + 1 ≤ k → k < length text → get_or text k 0 ≡ 47 → ⊥) → segments (take n text) ≡ without_last (segments text)
segments_before_slash text zero relative less slash free = absurd (relative slash)
segments_before_slash text (suc n) relative less slash free =
    let some : 0 < length (take (suc n) text) = omega (arith, length-take (suc n) text) in
    sym (segments_cut (take (suc n) text) (drop (suc n + 1) text) some (free_rest text (suc n + 1) free))
    ∙ ap (λ (t : List ℕ). without_last (segments t)) (sym (cut_text text (suc n) less slash))

pub segments_before_place : (text : List ℕ) (at : ℕ) → IsRelative text → 0 < at → at ≤ length text → get_or text (at - 1) 0 ≡ 47 → ((k : ℕ) → at ≤ k → k < length text → get_or text k 0 ≡ 47 → ⊥) → segments (take (at - 1) text) ≡ without_last (segments text)
segments_before_place text at relative some within slash free =
    segments_before_slash text (at - 1) relative (omega arith) slash (λ k above. free k (omega arith))

pub segments_with_no_slash : (text : List ℕ) → ((k : ℕ) → 0 ≤ k → k < length text → get_or text k 0 ≡ 47 → ⊥) → [] ≡ without_last (segments text)
segments_with_no_slash [] free = refl
segments_with_no_slash (c ∷ cs) free = sym (ap without_last (segments_one (c ∷ cs) (omega arith) (free_rest (c ∷ cs) 0 free)))

-- a segment is put at the end of a text, behind a slash unless the text is empty
pub segments_enter : (old new part : List ℕ) → 0 < length old → IsFree part → new ≡ (old ++ 47 ∷ []) ++ part → segments new ≡ segments old ++ part ∷ []
segments_enter old new part some free e = ap segments (e ∙ append_assoc old (47 ∷ []) part) ∙ segments_push old part some free

pub segments_enter_root : (old new part : List ℕ) → length old ≡ 0 → 0 < length part → IsFree part → new ≡ old ++ part → segments new ≡ segments old ++ part ∷ []
segments_enter_root [] new part none some free e = ap segments e ∙ segments_one part some free
segments_enter_root (c ∷ cs) new part none some free e = absurd (omega arith)

free_onto : (c : ℕ) (parts : List (List ℕ)) → is_slash c ≡ false → All IsFree parts → All IsFree (onto_first c parts)
free_onto c [] f free = All-cons IsFree (c ∷ []) [] (All-cons (λ b. is_slash b ≡ false) c [] f (All-nil (λ b. is_slash b ≡ false))) (All-nil IsFree)
free_onto c (part ∷ parts) f free =
    All-cons IsFree (c ∷ part) parts (All-cons (λ b. is_slash b ≡ false) c part f (free zero part (omega arith))) (λ k d less. free (suc k) d (omega arith))

free_parts : (xs : List ℕ) → All IsFree (slice_split is_slash xs)
free_parts [] = All-cons IsFree [] [] (All-nil (λ b. is_slash b ≡ false)) (All-nil IsFree)
free_parts (c ∷ cs) =
    ⊎_elim
    (λ t. subst (All IsFree) (sym (slice_split-cons_yes is_slash c cs t)) (All-cons IsFree [] (slice_split is_slash cs) (All-nil (λ b. is_slash b ≡ false)) (free_parts cs)))
    (λ f. subst (All IsFree) (sym (slice_split-cons_no is_slash c cs f)) (free_onto c (slice_split is_slash cs) f (free_parts cs)))
    (cases_Bool (is_slash c))

pub free_part : (xs part : List ℕ) (k : ℕ) → k < length (slice_split is_slash xs) → part ≡ get_or (slice_split is_slash xs) k part → IsFree part
free_part xs part k less e = subst IsFree (sym e) (All-get_or IsFree (slice_split is_slash xs) k part less (free_parts xs))

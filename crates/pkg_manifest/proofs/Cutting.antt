-- The first segment of a text, found byte by byte.
use Rattle.std.proofs.Common.{◌≡◌, ℕ, ◌+◌, ◌<◌, ◌≤◌, ◌==◌, Bool, cond, false, true, List, [], ◌∷◌, ◌++◌, length, take, drop, get_or, map, Some, None, refl, sym, ap, ◌∙◌, append_assoc, append-nil}
use Rattle.std.proofs.lemmas.List.{take_more, drop_more, drop_all, take_all}
use Rattle.std.specs.Str.{bytes_eq}
use Rattle.pkg_manifest.specs.Fitting.{many, one}
use Rattle.pkg_manifest.specs.Blocks.{fails, star, at_end, block, block_then}
use Rattle.pkg_manifest.specs.Patterns.{segments, joined, segment_step, segment_part, segment_fits, anywhere}

-- the segments of a text whose first bytes are passed, by those of the rest
abbrev pub glued : List ℕ → List (List ℕ) → List (List ℕ)
glued front [] = front ∷ []
glued front (s ∷ ss) = (front ++ s) ∷ ss

joined_glued : (front : List ℕ) (c : ℕ) (ss : List (List ℕ)) → glued front (joined c ss) ≡ glued (front ++ c ∷ []) ss
joined_glued front c [] = refl
joined_glued front c (s ∷ ss) = ap (λ x. x ∷ ss) (sym (append_assoc front (c ∷ []) s))

not_joined : (c : ℕ) (ss : List (List ℕ)) → joined c ss ≡ [] → ⊥
not_joined c [] e = cc
not_joined c (s ∷ ss) e = cc

not_empty : (text : List ℕ) → segments text ≡ [] → ⊥
not_empty [] e = cc
not_empty (c ∷ s) e = by (c == 47) e
  where
    by : (b : Bool) → cond b ([] ∷ segments s) (joined c (segments s)) ≡ [] → ⊥
    by true f = cc
    by false f = not_joined c (segments s) f

pub glued_start : (text : List ℕ) → segments text ≡ glued [] (segments text)
glued_start text = by (segments text) (not_empty text)
  where
    by : (ss : List (List ℕ)) → (ss ≡ [] → ⊥) → ss ≡ glued [] ss
    by [] some = absurd (some refl)
    by (s ∷ ss) some = refl

pub not_at_end : (text : List ℕ) → fails ≡ at_end {A = List ℕ} (segments text)
not_at_end text = by (segments text) (not_empty text)
  where
    by : (ss : List (List ℕ)) → (ss ≡ [] → ⊥) → fails ≡ at_end {A = List ℕ} ss
    by [] some = absurd (some refl)
    by (s ∷ ss) some = refl

pub more_segments : (first text : List ℕ) → map segment_part (first ∷ segments text) ≡ anywhere (first ∷ segments text)
more_segments first text = by (segments text) (not_empty text)
  where
    by : (ss : List (List ℕ)) → (ss ≡ [] → ⊥) → map segment_part (first ∷ ss) ≡ anywhere (first ∷ ss)
    by [] some = absurd (some refl)
    by (s ∷ ss) some = refl

-- ---- one segment of a pattern

pub on_stars : (part : List ℕ) (ps : List (List ℕ)) (path : List (List ℕ)) → bytes_eq part (42 ∷ 42 ∷ []) ≡ true → star (map segment_part ps) path ≡ block segment_step (map segment_part (part ∷ ps)) path
on_stars part ps path e = ap (λ b. block segment_step (cond b many (one part) ∷ map segment_part ps) path) (sym e)

pub on_no_segment : (part : List ℕ) (ps : List (List ℕ)) → bytes_eq part (42 ∷ 42 ∷ []) ≡ false → fails ≡ block segment_step (map segment_part (part ∷ ps)) []
on_no_segment part ps e = ap (λ b. block segment_step (cond b many (one part) ∷ map segment_part ps) []) (sym e)

pub on_other_segment : (part : List ℕ) (ps : List (List ℕ)) (s : List ℕ) (ss : List (List ℕ)) → bytes_eq part (42 ∷ 42 ∷ []) ≡ false → segment_fits part s ≡ false
    → fails ≡ block segment_step (map segment_part (part ∷ ps)) (s ∷ ss)
on_other_segment part ps s ss e f =
    ap (λ b. block_then segment_step (block segment_step (map segment_part ps)) (cond b (Some ss) None)) (sym f) ∙ ap (λ b. block segment_step (cond b many (one part) ∷ map segment_part ps) (s ∷ ss)) (sym e)

pub one_byte_on : (text : List ℕ) (at : ℕ) (d : ℕ) → at < length text → (get_or text at d == 47) ≡ false → glued (take at text) (segments (drop at text)) ≡ glued (take (at + 1) text) (segments (drop (at + 1) text))
one_byte_on text at d h differs =
    let c = get_or text at d in
    let s = drop (at + 1) text in
    ap (λ l. glued (take at text) (segments l)) (drop_more text at d h)
    ∙ ap (λ b. glued (take at text) (cond b ([] ∷ segments s) (joined c (segments s)))) differs
    ∙ joined_glued (take at text) c (segments s) ∙ ap (λ l. glued l (segments s)) (sym (take_more text at d h))

pub slash_here : (text : List ℕ) (at : ℕ) (d : ℕ) → at < length text → (get_or text at d == 47) ≡ true → glued (take at text) (segments (drop at text)) ≡ take at text ∷ segments (drop (at + 1) text)
slash_here text at d h is =
    let c = get_or text at d in
    let s = drop (at + 1) text in
    ap (λ l. glued (take at text) (segments l)) (drop_more text at d h)
    ∙ ap (λ b. glued (take at text) (cond b ([] ∷ segments s) (joined c (segments s)))) is
    ∙ ap (λ l. l ∷ segments s) (append-nil (take at text))

pub no_slash : (text : List ℕ) (at : ℕ) → length text ≤ at → glued (take at text) (segments (drop at text)) ≡ text ∷ []
no_slash text at h =
    ap (λ l. glued (take at text) (segments l)) (drop_all at text h) ∙ ap (λ l. l ∷ []) (append-nil (take at text) ∙ take_all at text h)

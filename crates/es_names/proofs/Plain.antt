-- A spelling in ASCII without escapes spells itself, and a spelling is decoded unit by unit.
use Rattle.std.proofs.Common.{◌≡◌, ◌<◌, ◌≢◌, ◌++◌, ◌-◌, ℕ, zero, suc, List, [], ◌∷◌, refl, arith, ◌∙◌, ap, drop, sym, append_assoc, append-nil, length, Bool, true, false}
use Rattle.std.specs.Prelude.{max, ◌==◌}
use Rattle.es_tree.specs.Names.{all_encoded, encoded, name_meaning, name_of, one, points_from}
use Rattle.es_tree.specs.Utf8.{character}

itself : (b : ℕ) (rest : List ℕ) → b < 0x80 → b ≢ 0x5C → name_meaning (b ∷ rest) ≡ one (b, 1)
unfolding name_meaning character
itself b rest small plain = grind arith

alone : (b : ℕ) → b < 0x80 → encoded b ≡ b ∷ []
unfolding encoded
alone b small = grind arith

pub spells_itself : (b : ℕ) (rest : List ℕ) → b < 0x80 → b ≢ 0x5C → name_of rest ≡ rest → name_of (b ∷ rest) ≡ b ∷ rest
unfolding name_of points_from all_encoded
spells_itself b rest small plain is = rw (itself b rest small plain, alone b small) (ap (λ xs. b ∷ xs) is)

pub nothing_spells_itself : name_of [] ≡ []
unfolding name_of points_from all_encoded
nothing_spells_itself = refl

passes : (left : ℕ) (text : List ℕ) → points_from name_meaning left text ≡ points_from name_meaning 0 (drop left text)
unfolding points_from
passes zero text = refl
passes (suc left) [] = refl
passes (suc left) (b ∷ rest) = passes left rest

-- one unit, and the rest
pub unit_by_unit : (b code size : ℕ) (rest : List ℕ) → name_meaning (b ∷ rest) ≡ one (code, size)
    → name_of (b ∷ rest) ≡ encoded code ++ name_of (drop (max size 1) (b ∷ rest))
unfolding name_of points_from all_encoded
unit_by_unit b code size rest is =
    let more : points_from name_meaning (size - 1) rest ≡ points_from name_meaning 0 (drop (size - 1) rest) = passes (size - 1) rest in
    rw is (rw more (by_size size))
  where
    by_size : (size : ℕ) → all_encoded (code ∷ points_from name_meaning 0 (drop (size - 1) rest)) ≡ encoded code ++ all_encoded (points_from name_meaning 0 (drop (max size 1) (b ∷ rest)))
    by_size zero = refl
    by_size (suc size) =
        let e : max (suc size) 1 ≡ suc size = omega arith in
        let f : suc size - 1 ≡ size = omega arith in
        rw (e, f) refl

-- a turn of decoding
pub decoded : (whole name text bytes behind : List ℕ) (code size step : ℕ) → whole ≡ name ++ name_of text → name_meaning text ≡ one (code, size)
    → text ≢ [] → bytes ≡ name ++ encoded code → step ≡ max size 1 → behind ≡ drop step text → whole ≡ bytes ++ name_of behind
decoded whole name [] bytes behind code size step so_far is some put steps left = absurd (some refl)
decoded whole name (b ∷ rest) bytes behind code size step so_far is some put steps left =
    rw (put, left, steps) (so_far ∙ ap (λ xs. name ++ xs) (unit_by_unit b code size rest is) ∙ sym (append_assoc name (encoded code) _))

-- the last turn
pub ended : (whole name text : List ℕ) → whole ≡ name ++ name_of text → text ≡ [] → name ≡ whole
ended whole name text so_far none = sym (so_far ∙ rw (none, nothing_spells_itself) (append-nil name))

pub is_nothing : (text : List ℕ) → length text ≡ 0 → text ≡ []
is_nothing [] e = refl
is_nothing (b ∷ rest) e = absurd cc

pub tells_nothing : (text : List ℕ) (empty : Bool) → empty ≡ (length text == 0) → empty ≡ true → text ≡ []
tells_nothing [] empty e f = refl
tells_nothing (b ∷ rest) empty e f = grind arith

pub tells_something : (text : List ℕ) (empty : Bool) → empty ≡ (length text == 0) → empty ≡ false → text ≢ []
tells_something [] empty e f = grind arith
tells_something (b ∷ rest) empty e f = λ none. absurd cc

pub nothing_left : (text whole : List ℕ) → text ≡ [] → (name_of text ≡ text → name_of whole ≡ whole) → name_of whole ≡ whole
nothing_left text whole none so_far = so_far (rw none nothing_spells_itself)

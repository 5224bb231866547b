-- The code points of a text, unit by unit.
use Rattle.std.proofs.Common.{◌≡◌, ◌≢◌, ◌<◌, ◌-◌, ◌++◌, ◌∙◌, ℕ, zero, suc, Bool, true, false, List, [], ◌∷◌, Option, refl, ap, sym, append-nil, arith, drop, length}
use Rattle.std.specs.Prelude.{max, ◌==◌}
use Rattle.es_tree.specs.Names.{all_encoded, encoded, is_high_surrogate, joined, points_from, string_meaning, string_value}
use Rattle.es_tree.specs.Utf8.{character}
use Rattle.es_strings.specs.Decoding.{inner, points, points_of, value_of}
use Rattle.es_strings.proofs.Joined.{value_alone}

passes : (left : ℕ) (text : List ℕ) → points_from string_meaning left text ≡ points_of (drop left text)
unfolding points_from
passes zero text = refl
passes (suc left) [] = refl
passes (suc left) (b ∷ rest) = passes left rest

-- one unit, and the rest
pub unit_by_unit : (text codes : List ℕ) (size : ℕ) → text ≢ [] → string_meaning text ≡ (codes, size)
    → points_of text ≡ codes ++ points_of (drop (max size 1) text)
unfolding points_from
unit_by_unit [] codes size some is = absurd (some refl)
unit_by_unit (b ∷ rest) codes size some is = rw (is, passes (size - 1) rest) (by_size size)
  where
    by_size : (size : ℕ) → codes ++ points_of (drop (size - 1) rest) ≡ codes ++ points_of (drop (max size 1) (b ∷ rest))
    by_size zero = refl
    by_size (suc size) =
        let e : max (suc size) 1 ≡ suc size = omega arith in
        let f : suc size - 1 ≡ size = omega arith in
        rw (e, f) refl

-- the value of a string is that of what stands between its quotes
pub value_within : (spelling : List ℕ) → string_value spelling ≡ value_of (points_of (inner spelling))
unfolding string_value
value_within spelling = refl

itself : (b : ℕ) (rest : List ℕ) → b < 0x80 → b ≢ 0x5C → string_meaning (b ∷ rest) ≡ (b ∷ [], 1)
unfolding string_meaning character
itself b rest small plain = grind arith

encodes_itself : (b : ℕ) → b < 0x80 → encoded b ≡ b ∷ []
unfolding encoded
encodes_itself b small = grind arith

is_low : (b : ℕ) → b < 0x80 → is_high_surrogate b ≡ false
is_low b small = grind arith

pub holds_itself : (b : ℕ) (rest : List ℕ) → b < 0x80 → b ≢ 0x5C → value_of (points_of rest) ≡ rest → value_of (points_of (b ∷ rest)) ≡ b ∷ rest
unfolding points_from
holds_itself b rest small plain so_far = rw (itself b rest small plain)
    (value_alone b (points_of rest) (is_low b small) ∙ rw (encodes_itself b small) (ap (λ xs. b ∷ xs) so_far))

pub nothing_holds : value_of (points_of []) ≡ []
unfolding points_from joined all_encoded
nothing_holds = refl

-- a turn of decoding
pub turned : (whole bytes text codes after : List ℕ) (waits next : Option ℕ) (size : ℕ) → whole ≡ bytes ++ value_of (points waits ++ points_of text)
    → text ≢ [] → string_meaning text ≡ (codes, size)
    → ((rest : List ℕ) → bytes ++ value_of (points waits ++ (codes ++ rest)) ≡ after ++ value_of (points next ++ rest))
    → whole ≡ after ++ value_of (points next ++ points_of (drop (max size 1) text))
turned whole bytes text codes after waits next size so_far some is put =
    so_far ∙ ap (λ xs. bytes ++ value_of (points waits ++ xs)) (unit_by_unit text codes size some is) ∙ put (points_of (drop (max size 1) text))

pub tells_nothing : (text : List ℕ) (empty : Bool) → empty ≡ (length text == 0) → empty ≡ true → text ≡ []
tells_nothing [] empty e f = refl
tells_nothing (b ∷ rest) empty e f = grind arith

pub tells_something : (text : List ℕ) (empty : Bool) → empty ≡ (length text == 0) → empty ≡ false → text ≢ []
tells_something [] empty e f = grind arith
tells_something (b ∷ rest) empty e f = λ none. absurd cc

pub is_nothing : (text : List ℕ) → length text ≡ 0 → text ≡ []
is_nothing [] e = refl
is_nothing (b ∷ rest) e = absurd cc

pub nothing_left : (text : List ℕ) → text ≡ [] → value_of (points_of text) ≡ text
nothing_left text none = rw none nothing_holds

-- the end of decoding
pub finished : (spelling bytes whole text : List ℕ) (waits : Option ℕ) → value_of (points_of (inner spelling)) ≡ bytes ++ value_of (points waits ++ points_of text)
    → text ≡ [] → whole ≡ bytes ++ value_of (points waits) → whole ≡ string_value spelling
unfolding points_from
finished spelling bytes whole text waits so_far none put =
    put ∙ sym (value_within spelling ∙ so_far ∙ rw none (ap (λ xs. bytes ++ value_of xs) (append-nil (points waits))))

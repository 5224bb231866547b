-- What crates above need of `token_at` without opening it.
use Rattle.std.proofs.Common.{◌≡◌, ℕ, ◌+◌, ◌<◌, ◌≤◌, Bool, true, false, cond, List, [], ◌∷◌, length, drop, Err, refl, ap, subst, ◌∙◌, arith, slice_range}
use Rattle.std.specs.Prelude.{◌&&◌, nat_lt}
use Rattle.std.proofs.lemmas.List.{length-drop, drop-drop}
use Rattle.std.proofs.lemmas.Bool.{eqb-true}
use Rattle.es_tree.specs.declared.tokens.Goal.{Goal}
use Rattle.es_tree.specs.declared.tokens.LexFault.TheVariants.{NotUtf8, NoToken}
use Rattle.es_tree.specs.Utf8.{character}
use Rattle.es_tree.specs.Lexical.{Lexeme, gap_end, has_line_terminator, lexeme, fault_of, token_from, token_at}
use Rattle.es_tree.specs.Places.{IsFaultBehind}

-- `token_at` by its parts
pub token_at_from : (bytes : List ℕ) (at : ℕ) (goal : Goal) (start : ℕ) (newline : Bool) (text : List ℕ) (found : Lexeme) → start ≡ gap_end bytes at → newline ≡ has_line_terminator (slice_range bytes at start)
    → text ≡ drop start bytes → found ≡ lexeme goal text → token_from start newline text found ≡ token_at bytes at goal
unfolding token_at
token_at_from bytes at goal start newline text found a b c d = cc

-- where no lexeme is found some text is left
pub none_of_some : (goal : Goal) (text : List ℕ) (reach : ℕ) → lexeme goal text ≡ Err reach → 0 < length text
unfolding lexeme
none_of_some goal [] reach e = absurd cc
none_of_some goal (c ∷ rest) reach e = omega arith

both : (a b : Bool) → (a && b) ≡ true → (a ≡ true) × (b ≡ true)
both true true e = (refl, refl)
both true false e = absurd cc
both false b e = absurd cc

below : (m n : ℕ) → nat_lt m n ≡ true → m < n
below m n e = grind arith

either : (bytes : List ℕ) (at place start : ℕ) (b : Bool) → (b ≡ true → IsFaultBehind bytes at (NotUtf8 place)) → (b ≡ false → IsFaultBehind bytes at (NoToken start)) → IsFaultBehind bytes at (cond b (NotUtf8 place) (NoToken start))
either bytes at place start true f g = f refl
either bytes at place start false f g = g refl

-- a fault lies behind the place
pub fault_lies : (bytes : List ℕ) (at start : ℕ) (text : List ℕ) (reach : ℕ) → start ≡ gap_end bytes at → at ≤ start → text ≡ drop start bytes → 0 < length text → IsFaultBehind bytes at (fault_of start text reach)
fault_lies bytes at start text reach gap begins is some =
    let size : length text ≡ length (drop start bytes) = ap length is in
    let whole = length-drop start bytes in
    either bytes at (start + reach) start _
    (λ h. let tests = both (nat_lt reach (length text)) _ h in
    let inside : reach < length text = below reach (length text) tests.0 in
    let here : (character (drop reach text)).1 ≡ 0 = eqb-true _ _ tests.1 in
    record {
      begins = omega arith;
      inside = omega arith;
      no_character = subst (λ t. (character t).1 ≡ 0) (ap (λ t. drop reach t) is ∙ drop-drop reach start bytes) here;
    })
    (λ h. record { begins = begins; inside = omega arith; gap = gap })

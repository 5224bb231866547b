-- A token that begins with neither `/` nor `}` stands at a place at each goal.
use Rattle.std.proofs.Common.{◌≡◌, ◌≢◌, ℕ, true, false, not, nat_eq, List, [], ◌∷◌, Ok, drop, refl, ap, ◌∙◌, subst, arith}
use Rattle.std.specs.Prelude.{◌==◌, slice_range}
use Rattle.es_tree.specs.declared.tokens.Token.{Token}
use Rattle.es_tree.specs.declared.tokens.Goal.{Goal}
use Rattle.es_tree.specs.Lexical.{gap_end, has_line_terminator, lexeme, token_at, token_from}
use Rattle.es_tree.specs.Utf8.{byte}

lexemes_alike : (text : List ℕ) (goal other : Goal) → (byte text 0 == 0x2F) ≡ false → (byte text 0 == 0x7D) ≡ false → lexeme goal text ≡ lexeme other text
unfolding lexeme
lexemes_alike [] goal other slash brace = refl
lexemes_alike (c ∷ rest) goal other slash brace = rw (slash, brace) refl

differs : (first : ℕ) → first ≢ 0x2F → (first == 0x2F) ≡ false
differs first other = grind arith

no_brace : (first : ℕ) → not (nat_eq first 0x7D) ≡ true → (first == 0x7D) ≡ false
no_brace first other = grind arith

pub stands_at_each_goal : (text : List ℕ) (at : ℕ) (goal : Goal) (token : Token) (first : ℕ) → token_at text at goal ≡ Ok token
    → first ≡ byte (drop token.start text) 0 → token.start ≡ gap_end text at → first ≢ 0x2F → not (nat_eq first 0x7D) ≡ true
    → (other : Goal) → token_at text at other ≡ Ok token
unfolding token_at
stands_at_each_goal text at goal token first stands is lies slash brace other =
    let start : ℕ = gap_end text at in
    let same : first ≡ byte (drop start text) 0 = is ∙ ap (λ z. byte (drop z text) 0) lies in
    ap (token_from start (has_line_terminator (slice_range text at start)) (drop start text))
    (lexemes_alike (drop start text) other goal (subst (λ b. (b == 0x2F) ≡ false) same (differs first slash)) (subst (λ b. (b == 0x7D) ≡ false) same (no_brace first brace)))
    ∙ stands

-- The turns of lists: of parts one behind the other, and of parts with commas. Before each part the token tells whether the list ends.
use Rattle.std.specs.Prelude.{ℕ, Bool, true, List, [], ◌∷◌, Option, Some, None, is_some, codes, if◌then◌else◌}
use Rattle.es_tree.specs.declared.tokens.Token.{Token}
use Rattle.es_tree.specs.declared.tokens.Goal.TheVariants.{Operand, Operator}
use Rattle.es_tree.specs.declared.parts.Separated.{Separated}
use Rattle.es_tree.specs.declared.parts.Rest.{Rest}
use Rattle.es_grammar.specs.Reading.{Bytes}
use Rattle.es_grammar.specs.Lists.{separated}
use Rattle.es_reader.specs.Basics.{◌>>=◌, Reader, is_mark, mark, token}
use Rattle.es_reader.specs.declared.pieces.TurnOf.TheVariants.{Ended as ended}
use Rattle.es_reader.specs.declared.pieces.TurnOf.TheVariants.{Last as last}
use Rattle.es_reader.specs.declared.pieces.TurnOf.TheVariants.{More as more}
use Rattle.es_reader.specs.Loops.{Turn, all_turns}

-- a part, behind which the list goes on
unfoldable pub next_part : {X : Type 0} → Reader X → ℕ → Option (Turn X)
next_part part p = part p >>= λ x. Some (more x.0 x.1)

-- parts one behind the other, up to a token that ends them
unfoldable pub chain_turn : {X : Type 0} → Bytes → (Token → Bool) → Reader X → ℕ → Option (Turn X)
chain_turn text ends part p = token text Operand p >>= λ t. if ends t then Some (ended p) else next_part part p

-- a part of a list with the comma behind it
unfoldable pub comma_behind : {X : Type 0} → Bytes → X → ℕ → Option (Turn (Separated X))
comma_behind text x p = token text Operator p >>= λ t.
    if is_mark text (codes ",") t then Some (more (separated x (Some t)) t.end) else Some (last (separated x None) p)

unfoldable pub list_part : {X : Type 0} → Bytes → Reader X → ℕ → Option (Turn (Separated X))
list_part text part p = part p >>= λ x. comma_behind text x.0 x.1

-- parts with commas, up to a token that ends them
unfoldable pub list_turn : {X : Type 0} → Bytes → (Token → Bool) → Reader X → ℕ → Option (Turn (Separated X))
list_turn text ends part p = token text Operand p >>= λ t. if ends t then Some (ended p) else list_part text part p

abbrev pub element : {X : Type 0} → X → Option X
element x = Some x

unfoldable pub element_part : {X : Type 0} → Bytes → Reader X → ℕ → Option (Turn (Separated (Option X)))
element_part text part p = part p >>= λ x. comma_behind text (element x.0) x.1

unfoldable pub element_or_hole : {X : Type 0} → Bytes → Reader X → Token → ℕ → Option (Turn (Separated (Option X)))
element_or_hole text part t p = if is_mark text (codes ",") t then Some (more (separated None (Some t)) t.end) else element_part text part p

-- the same with holes
unfoldable pub elements_turn : {X : Type 0} → Bytes → (Token → Bool) → Reader X → ℕ → Option (Turn (Separated (Option X)))
elements_turn text ends part p = token text Operator p >>= λ t. if ends t then Some (ended p) else element_or_hole text part t p

-- whether a part may follow: none stands there, or a comma stands behind the last
abbrev pub ends_with_comma : {X : Type 0} → List (Separated X) → Bool
ends_with_comma [] = true
ends_with_comma (x ∷ []) = is_some x.comma
ends_with_comma (x ∷ y ∷ ys) = ends_with_comma (y ∷ ys)

-- what stands behind `...`
unfoldable pub rest_behind : {X : Type 0} → Reader X → Token → Option (Rest X × ℕ)
rest_behind part dots = part dots.end >>= λ x. Some (record { dots = dots; item = x.0 }, x.1)

-- a list with commas up to a closing mark, and that mark
unfoldable pub read_list_to : {X : Type 0} → Bytes → List ℕ → Reader X → ℕ → Option (List (Separated X) × Token)
read_list_to text closing part p = all_turns text (list_turn text (is_mark text closing) part) p >>= λ xs.
    mark text Operator closing xs.1 >>= λ right. Some (xs.0, right)

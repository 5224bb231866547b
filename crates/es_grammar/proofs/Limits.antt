-- The nest of a tree on small numbers, and texts without a tree.
use Rattle.std.proofs.Common.{ℕ, List, [], ◌∷◌, refl, arith}
use Rattle.std.specs.Prelude.{codes}
use Rattle.es_tree.specs.declared.tokens.Token.{Token}
use Rattle.es_tree.specs.declared.tokens.TokenKind.TheVariants.{End}
use Rattle.es_tree.specs.declared.tokens.Goal.{Goal}
use Rattle.es_tree.specs.declared.tokens.Goal.TheVariants.{Operand, Operator, Template}
use Rattle.es_tree.specs.declared.tokens.ProgramGoal.{ProgramGoal}
use Rattle.es_tree.specs.declared.tokens.ProgramGoal.TheVariants.{Script}
use Rattle.es_tree.specs.declared.program.ProgramItem.{ProgramItem}
use Rattle.es_tree.specs.declared.program.Program.{Program}
use Rattle.es_grammar.specs.Reading.{Bytes, IsAt, KindAt}
use Rattle.es_grammar.specs.Lists.{Chain}
use Rattle.es_grammar.specs.Parses.{Parses, ProgramItemAt, rules_to}
use Rattle.es_grammar.specs.Nests.{StandsAt, Opens, Pairs}
use Rattle.es_grammar.specs.Tokens.{TokensAt}
use Rattle.es_tree.specs.Yield.{program_tokens}
use Rattle.es_grammar.proofs.Computing.{reading}
use Rattle.es_grammar.proofs.Witnesses.{mark, end_at, kinded, marked}
use Rattle.es_grammar.proofs.Whole.{yield_stands}
use Rattle.es_grammar.proofs.Nesting.{items_refused}
use Rattle.es_grammar.proofs.Arrays.{items_nest}

abbrev two : Bytes
two = codes "[[]]"

first_opens : StandsAt two (codes "[") 0 (mark 0 1)
unfolding reading
first_opens Operand = marked refl refl refl
first_opens Operator = marked refl refl refl
first_opens Template = marked refl refl refl

second_opens : StandsAt two (codes "[") 1 (mark 1 2)
unfolding reading
second_opens Operand = marked refl refl refl
second_opens Operator = marked refl refl refl
second_opens Template = marked refl refl refl

first_closes : StandsAt two (codes "]") 2 (mark 2 3)
unfolding reading
first_closes Operand = marked refl refl refl
first_closes Operator = marked refl refl refl
first_closes Template = marked refl refl refl

second_closes : StandsAt two (codes "]") 3 (mark 3 4)
unfolding reading
second_closes Operand = marked refl refl refl
second_closes Operator = marked refl refl refl
second_closes Template = marked refl refl refl

ends : (goal : Goal) → KindAt two goal End 4 (end_at 4)
unfolding reading
ends Operand = kinded refl refl
ends Operator = kinded refl refl
ends Template = kinded refl refl

-- with the nest three it has a tree
two_nest : (x : ProgramItem) × Chain (ProgramItemAt two (rules_to two 3) Script) 0 (x ∷ []) 4
two_nest =
    let x = items_nest two 2 2 4 (end_at 4) Script (Pairs.around (mark 0 1) (mark 3 4) first_opens (Pairs.innermost (mark 1 2) (mark 2 3) second_opens
    first_closes) second_closes) (omega arith) ends in
    (x.0, x.1)

-- and with the nest two it has none
two_nest_no_less : (goal : ProgramGoal) (xs : List ProgramItem) (last : ℕ) (end : Token) → Chain (ProgramItemAt two (rules_to two 2) goal) 0 xs last
    → KindAt two Operand End last end → ⊥
two_nest_no_less goal xs last end items is_end =
    items_refused two 2 2 goal xs last end (Opens.more (mark 0 1) first_opens (Opens.more (mark 1 2) second_opens Opens.none)) (omega arith) (omega arith) items is_end

-- Where no token stands at the start there is no tree.
no_first_token : (text : Bytes) → ((goal : Goal) (token : Token) → IsAt text goal 0 token → ⊥) → (program : Program) → Parses text program → ⊥
no_first_token text none program parse = by (program_tokens program) parse.last (yield_stands text program parse) parse.is_end
  where
    by : (tokens : List Token) (last : ℕ) → TokensAt text 0 tokens last → KindAt text Operand End last parse.end → ⊥
    by tokens last TokensAt.none h = none Operand parse.end h.read
    by tokens last (TokensAt.more goal token _ h rest) i = none goal token h

-- a string that is not closed
unclosed_string : (program : Program) → Parses (codes "'a") program → ⊥
unfolding reading
unclosed_string program parse = no_first_token (codes "'a") none program parse
  where
    none : (goal : Goal) (token : Token) → IsAt (codes "'a") goal 0 token → ⊥
    none Operand token h = absurd cc
    none Operator token h = absurd cc
    none Template token h = absurd cc

-- Readers of lists: turns, one behind the other, until one says that the list ends. Each turn takes a byte at least, so as many turns as
-- the text has bytes, and one more, are enough.
use Rattle.es_reader.specs.declared.pieces.TurnOf.{TurnOf}
use Rattle.es_reader.specs.declared.pieces.TurnOf.TheVariants.{Ended as ended}
use Rattle.es_reader.specs.declared.pieces.TurnOf.TheVariants.{Last as last}
use Rattle.es_reader.specs.declared.pieces.TurnOf.TheVariants.{More as more}
use Rattle.std.specs.Prelude.{ℕ, zero, suc, ◌+◌, List, [], ◌∷◌, ◌++◌, length, Option, Some, None}
use Rattle.es_grammar.specs.Reading.{Bytes}
use Rattle.es_reader.specs.Basics.{◌>>=◌}

-- what one turn comes to: the list ended before it, ends with this item, or goes on behind it; S is what the next turn has to know,
-- a place at least

-- where the place is all that it has to know
abbrev pub Turn : Type 0 → Type 0
Turn X = TurnOf ℕ X

-- what was found so far, with the turn, and what the other turns give
abbrev pub go_on : {S X : Type 0} → List X → (List X → S → Option (List X × S)) → TurnOf S X → Option (List X × S)
go_on found next (ended q) = Some (found, q)
go_on found next (last x q) = Some (found ++ x ∷ [], q)
go_on found next (more x q) = next (found ++ x ∷ []) q

-- at most so many turns
unfoldable pub repeat : {S X : Type 0} → (S → Option (TurnOf S X)) → ℕ → List X → S → Option (List X × S)
repeat turn zero found p = None
repeat turn (suc n) found p = turn p >>= go_on found (repeat turn n)

-- all turns from a place on
abbrev pub all_turns : {S X : Type 0} → Bytes → (S → Option (TurnOf S X)) → S → Option (List X × S)
all_turns text turn p = repeat turn (length text + 1) [] p

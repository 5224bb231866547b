-- Tracers of lists: turns, one behind the other, until one says that the list ends. Each turn takes a byte at least, so as many turns as
-- the text has bytes, and one more, are enough.
use Rattle.std.specs.Prelude.{ℕ, zero, suc, ◌+◌, length, Option, Some, None}
use Rattle.es_grammar.specs.Reading.{Bytes}
use Rattle.es_outline.specs.Outline.{Marks}
use Rattle.es_reader.specs.Basics.{◌>>=◌}
use Rattle.es_trace.specs.Basics.{Traced}
use Rattle.es_trace.specs.declared.pieces.Turn.{Turn}
use Rattle.es_trace.specs.declared.pieces.Turn.TheVariants.{Ended as ended, More as more}

-- a turn behind these marks, from what it has to know on
abbrev pub Turning : Type 0 → Type 0
Turning S = Marks → S → Traced (Turn S)

-- by what a turn comes to: the end, or the other turns
abbrev pub go_on : {S : Type 0} → (Marks → S → Traced S) → Marks → Turn S → Traced S
go_on next marks (ended s) = Some (marks, s)
go_on next marks (more s) = next marks s

-- at most so many turns
unfoldable pub repeat : {S : Type 0} → Turning S → ℕ → Marks → S → Traced S
repeat turn zero marks s = None
repeat turn (suc n) marks s = turn marks s >>= λ x. go_on (repeat turn n) x.0 x.1

-- all turns from a place on
abbrev pub all_turns : {S : Type 0} → Bytes → Turning S → Marks → S → Traced S
all_turns text turn marks s = repeat turn (length text + 1) marks s

-- What answers for one turn of a list.
use Rattle.std.specs.Prelude.{◌≡◌, ◌≤◌, ◌+◌, ℕ, length, Option, Some, None, Result, Ok, Err, IfOk}
use Rattle.std.specs.Borrow.{MutBor}
use Rattle.es_grammar.specs.Reading.{Bytes}
use Rattle.es_outline.specs.Outline.{Marks}
use Rattle.es_outline.specs.Outlined.{Outlined}
use Rattle.es_reader.specs.declared.ParseFault.{ParseFault}
use Rattle.es_reader.specs.declared.ParseFault.TheVariants.{Syntax, NoMemory}
use Rattle.es_trace.specs.Basics.{Traces}
use Rattle.es_trace.specs.Loops.{Turning, repeat}
use Rattle.es_trace.specs.declared.pieces.Turn.{Turn}
use Rattle.es_trace.specs.declared.pieces.Turn.TheVariants.{Ended as ended, More as more}
use Rattle.es_cursor.specs.Standing.{Stands}

-- what the turn comes to
abbrev pub state_of : {S : Type 0} → Turn S → S
state_of (ended s) = s
state_of (more s) = s

-- it ends in the text
abbrev pub TurnEndsIn : {S : Type 0} → (S → ℕ) → Bytes → Turn S → Type 0
TurnEndsIn place text turn = place (state_of turn) ≤ length text

abbrev pub Calling : Type 0 → Type 1
Calling S = MutBor Bytes → MutBor Outlined → S → Type 0

abbrev pub Called : Type 0 → Type 1
Called S = MutBor Bytes → MutBor Outlined → S → Result (Turn S) ParseFault → MutBor Bytes → MutBor Outlined → Type 0

-- an answer for a turn, with what stands afterwards
pub record Keeps (S : Type 0) (place : S → ℕ) (text : MutBor Bytes) (before : MutBor Outlined) (answer : Result (Turn S) ParseFault)
    (text_after : MutBor Bytes) (after : MutBor Outlined) : Type 0 where
  pub ends : IfOk answer (TurnEndsIn place text.now)
  pub stays : text_after.now ≡ text.now
  pub kept : after.now.kept ≡ before.now.kept

-- whoever may be called so for a turn at any place answers within the text, and keeps it
pub record TakesTurns (S : Type 0) (place : S → ℕ) (pre : Calling S) (post : Called S) : Type 0 where
  pub calls : (text : MutBor Bytes) (before : MutBor Outlined) (s : S) → Stands text.now (place s) → pre text before s
  pub keeps : (text : MutBor Bytes) (before : MutBor Outlined) (s : S) (answer : Result (Turn S) ParseFault) (text_after : MutBor Bytes)
      (after : MutBor Outlined) → post text before s answer text_after after → Keeps S place text before answer text_after after

-- in this text it answers by this tracer of turns
abbrev pub GivesTurns : {S : Type 0} → Called S → Bytes → Turning S → Type 0
GivesTurns {S} post text turn = (cursor : MutBor Bytes) (before : MutBor Outlined) (s : S) (answer : Result (Turn S) ParseFault)
    (cursor_after : MutBor Bytes) (after : MutBor Outlined) → cursor.now ≡ text → post cursor before s answer cursor_after after
    → Traces (turn before.now.marks s) after.now.marks answer

-- the marks of the turns from a place on, by each tracer of turns by which it answers, and where they end
abbrev pub TracesTurns : {S : Type 0} → Called S → Bytes → Marks → S → Marks → Result S ParseFault → Type 0
TracesTurns {S = S} post text before s after (Ok last) = (turn : Turning S) → GivesTurns post text turn
    → repeat turn (length text + 1) before s ≡ Some (after, last)
TracesTurns {S = S} post text before s after (Err Syntax) = (turn : Turning S) → GivesTurns post text turn
    → repeat turn (length text + 1) before s ≡ None
TracesTurns post text before s after (Err NoMemory) = Unit {0}

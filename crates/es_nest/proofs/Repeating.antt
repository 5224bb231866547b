-- What one turn of a list comes to, and what is left behind it.
use Rattle.std.proofs.Common.{◌≡◌, ℕ, suc, ◌+◌, ◌-◌, ◌<◌, ◌≤◌, length, Option, Some, None, Err, refl, ◌∙◌, arith}
use Rattle.es_grammar.specs.Reading.{Bytes}
use Rattle.es_outline.specs.Outline.{Marks}
use Rattle.es_reader.specs.declared.ParseFault.{ParseFault}
use Rattle.es_reader.specs.declared.ParseFault.TheVariants.{Syntax, NoMemory}
use Rattle.es_reader.specs.Basics.{◌>>=◌}
use Rattle.es_trace.specs.Basics.{Traces}
use Rattle.es_trace.specs.Loops.{Turning, go_on, repeat}
use Rattle.es_trace.specs.declared.pieces.Turn.{Turn}
use Rattle.es_trace.specs.declared.pieces.Turn.TheVariants.{Ended as ended, More as more}
use Rattle.es_nest.specs.Turns.{Called, GivesTurns, TracesTurns}

pub one_turn : {S : Type 0} (turn : Turning S) (n i : ℕ) (marks : Marks) (s : S) → i < n
    → repeat turn (n - i) marks s ≡ (turn marks s >>= λ x. go_on (repeat turn (n - (i + 1))) x.0 x.1)
unfolding repeat
one_turn turn n i marks s h = let e : n - i ≡ suc (n - (i + 1)) = omega arith in rw e refl

pub no_turns : {S : Type 0} (turn : Turning S) (n i : ℕ) (marks : Marks) (s : S) → n ≤ i → repeat turn (n - i) marks s ≡ None
unfolding repeat
no_turns turn n i marks s h = let e : n - i ≡ 0 = omega arith in rw e refl

-- by what the turn comes to
module _ {S : Type 0} (turn : Turning S) (n i : ℕ) (marks : Marks) (s : S) (h : i < n) where
  pub goes_on : (after : Marks) (next : S) → turn marks s ≡ Some (after, more next) → repeat turn (n - i) marks s ≡ repeat turn (n - (i + 1)) after next
  goes_on after next is = rw (one_turn turn n i marks s h) (rw is refl)

  pub ends : (after : Marks) (last : S) → turn marks s ≡ Some (after, ended last) → repeat turn (n - i) marks s ≡ Some (after, last)
  ends after last is = rw (one_turn turn n i marks s h) (rw is refl)

  pub fails : turn marks s ≡ None → repeat turn (n - i) marks s ≡ None
  fails none = rw (one_turn turn n i marks s h) (rw none refl)

-- the turn is not answered: for want of memory nothing is said
pub no_answer : {S : Type 0} (post : Called S) (text : Bytes) (before : Marks) (first : S) (n i : ℕ) (marks after : Marks) (s : S) (fault : ParseFault)
    → i < n → ((turn : Turning S) → GivesTurns post text turn → repeat turn (length text + 1) before first ≡ repeat turn (n - i) marks s)
    → ((turn : Turning S) → GivesTurns post text turn → Traces (turn marks s) after (Err fault))
    → TracesTurns post text before first after (Err fault)
no_answer post text before first n i marks after s Syntax h held none = λ turn gives. held turn gives ∙ fails turn n i marks s h (none turn gives)
no_answer post text before first n i marks after s NoMemory h held none = tt

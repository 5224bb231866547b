-- What answers a call for a part that nests.
use Rattle.std.specs.Prelude.{◌≡◌, ◌≤◌, ℕ, length, Option, Some, None, Result, Ok, Err, IfOk}
use Rattle.std.specs.Borrow.{MutBor}
use Rattle.es_grammar.specs.declared.places.Context.{Context}
use Rattle.es_grammar.specs.declared.places.Stop.{Stop}
use Rattle.es_grammar.specs.Reading.{Bytes}
use Rattle.es_outline.specs.Outline.{Marks}
use Rattle.es_outline.specs.Outlined.{Outlined}
use Rattle.es_reader.specs.declared.ParseFault.{ParseFault}
use Rattle.es_reader.specs.declared.ParseFault.TheVariants.{Syntax, NoMemory}
use Rattle.es_trace.specs.Basics.{Traced, Traces}
use Rattle.es_trace.specs.Tracers.{Tracers}
use Rattle.es_trace.specs.Tying.{tracers_to}
use Rattle.es_trace.specs.declared.pieces.Rule.{Rule}
use Rattle.es_trace.specs.declared.pieces.Rule.TheVariants as rule
use Rattle.es_cursor.specs.Standing.{Stands}

-- the answer to such a call
abbrev pub Answer : Type 0
Answer = Result Stop ParseFault

-- the answer is what is traced, where it doesn't matter in what it ends
abbrev pub TracesPlace : Traced ℕ → Marks → Answer → Type 0
TracesPlace traced marks (Ok s) = traced ≡ Some (marks, s.at)
TracesPlace traced marks (Err Syntax) = traced ≡ None
TracesPlace traced marks (Err NoMemory) = Unit {0}

-- the answer is what the tracer of the rule gives there
abbrev pub Given : Tracers → Rule → Context → Marks → ℕ → Marks → Answer → Type 0
Given r rule.Item c before p after answer = TracesPlace (r.item c before p) after answer
Given r rule.Stmt c before p after answer = TracesPlace (r.stmt c before p) after answer
Given r rule.Assign c before p after answer = Traces (r.assign c before p) after answer
Given r rule.Prefixed c before p after answer = Traces (r.prefixed c before p) after answer
Given r rule.BindPattern c before p after answer = TracesPlace (r.bind_pattern c before p) after answer
Given r rule.TargetPattern c before p after answer = TracesPlace (r.target_pattern c before p) after answer
Given r rule.New c before p after answer = TracesPlace (r.new c before p) after answer
Given r rule.Extended c before p after answer = TracesPlace (r.extended c before p) after answer

abbrev pub Calling : Type 1
Calling = MutBor Bytes → MutBor Outlined → Rule → Context → ℕ → Type 0

abbrev pub Called : Type 1
Called = MutBor Bytes → MutBor Outlined → Rule → Context → ℕ → Answer → MutBor Bytes → MutBor Outlined → Type 0

-- an answer to a call, with what stands afterwards
pub record Answers (nest : ℕ) (text : MutBor Bytes) (before : MutBor Outlined) (called : Rule) (c : Context) (p : ℕ) (answer : Answer)
    (text_after : MutBor Bytes) (after : MutBor Outlined) : Type 0 where
  pub gives : Given (tracers_to text.now nest) called c before.now.marks p after.now.marks answer
  pub ends : IfOk answer (λ s. s.at ≤ length text.now)
  pub stays : text_after.now ≡ text.now
  pub kept : after.now.kept ≡ before.now.kept

-- Whoever may be called so answers what the tracers to a nest give.
pub record Ties (pre : Calling) (post : Called) (nest : ℕ) : Type 0 where
  pub calls : (text : MutBor Bytes) (before : MutBor Outlined) (called : Rule) (c : Context) (p : ℕ) → Stands text.now p → pre text before called c p
  pub answers : (text : MutBor Bytes) (before : MutBor Outlined) (called : Rule) (c : Context) (p : ℕ) (answer : Answer) (text_after : MutBor Bytes)
      (after : MutBor Outlined) → post text before called c p answer text_after after → Answers nest text before called c p answer text_after after

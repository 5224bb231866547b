-- What tracers are.
use Rattle.std.specs.Prelude.{◌≡◌, ℕ, Option, Some, None, Result, Ok, Err}
use Rattle.es_grammar.specs.declared.places.Stop.{Stop}
use Rattle.es_outline.specs.Outline.{Lays, Marks}
use Rattle.es_reader.specs.declared.ParseFault.{ParseFault}
use Rattle.es_reader.specs.declared.ParseFault.TheVariants.{Syntax, NoMemory}

-- the marks with those of what was traced, and what is known where it ends, a place at least
abbrev pub Traced : Type 0 → Type 0
Traced S = Option (Marks × S)

-- behind these marks, from a place on
abbrev pub Tracer : Type 0
Tracer = Marks → ℕ → Traced ℕ

-- the same where it matters in what it ends
abbrev pub Ended : Type 0
Ended = Marks → ℕ → Traced Stop

-- what a function of the parser answers where this is traced, with the marks that it leaves
abbrev pub Traces : {S : Type 0} → Traced S → Marks → Result S ParseFault → Type 0
Traces traced marks (Ok s) = traced ≡ Some (marks, s)
Traces traced marks (Err Syntax) = traced ≡ None
Traces traced marks (Err NoMemory) = Unit {0}

-- what was read, as what is traced: `lays` are the marks of what was read
abbrev pub laid : {X S : Type 0} → (X → Lays) → Marks → Option (X × S) → Traced S
laid lays marks None = None
laid lays marks (Some x) = Some (lays x.0 marks, x.1)

-- The turns of lists: of parts one behind the other, and of parts with commas. Before each part the token tells whether the list ends.
use Rattle.std.specs.Prelude.{ℕ, Bool, true, false, codes, Option, Some, None, if◌then◌else◌}
use Rattle.es_tree.specs.declared.tokens.Token.{Token}
use Rattle.es_tree.specs.declared.tokens.Goal.TheVariants.{Operand, Operator}
use Rattle.es_grammar.specs.declared.places.Stop.{Stop}
use Rattle.es_grammar.specs.declared.places.Ending.TheVariants.{Other as other}
use Rattle.es_grammar.specs.Reading.{Bytes}
use Rattle.es_outline.specs.Outline.{Marks, one}
use Rattle.es_reader.specs.Basics.{◌>>=◌, token, is_mark, mark}
use Rattle.es_trace.specs.Basics.{Traced, Tracer, Ended}
use Rattle.es_trace.specs.Loops.{Turning, all_turns}
use Rattle.es_trace.specs.declared.pieces.Turn.{Turn}
use Rattle.es_trace.specs.declared.pieces.Turn.TheVariants.{Ended as ended, More as more}
use Rattle.es_trace.specs.declared.pieces.Listed.{Listed}

-- a part, behind which the list goes on
unfoldable pub next_part : Tracer → Marks → ℕ → Traced (Turn ℕ)
next_part part marks p = part marks p >>= λ x. Some (x.0, more x.1)

-- parts one behind the other, up to a token that ends them
unfoldable pub chain_turn : Bytes → (Token → Bool) → Tracer → Turning ℕ
chain_turn text ends part marks p = token text Operand p >>= λ t. if ends t then Some (marks, ended p) else next_part part marks p

abbrev pub listed_to : ℕ → Bool → Listed
listed_to p ready = record { at = p; ready = ready }

-- the comma behind a part, where the list goes on
unfoldable pub comma_behind : Bytes → Marks → ℕ → Traced (Turn Listed)
comma_behind text marks p = token text Operator p >>= λ t.
    if is_mark text (codes ",") t then Some (one t marks, more (listed_to t.end true)) else Some (marks, ended (listed_to p false))

unfoldable pub list_part : Bytes → Tracer → Marks → ℕ → Traced (Turn Listed)
list_part text part marks p = part marks p >>= λ x. comma_behind text x.0 x.1

-- parts with commas, up to a token that ends them
unfoldable pub list_turn : Bytes → (Token → Bool) → Tracer → Turning Listed
list_turn text ends part marks s = token text Operand s.at >>= λ t. if ends t then Some (marks, ended s) else list_part text part marks s.at

unfoldable pub element_or_hole : Bytes → Tracer → Marks → Token → ℕ → Traced (Turn Listed)
element_or_hole text part marks t p =
    if is_mark text (codes ",") t then Some (one t marks, more (listed_to t.end true)) else list_part text part marks p

-- the same with holes
unfoldable pub elements_turn : Bytes → (Token → Bool) → Tracer → Turning Listed
elements_turn text ends part marks s =
    token text Operator s.at >>= λ t. if ends t then Some (marks, ended s) else element_or_hole text part marks t s.at

-- what stands behind `...`
unfoldable pub rest_behind : Tracer → Marks → Token → Traced ℕ
rest_behind part marks dots = part (one dots marks) dots.end

-- before the first part
abbrev pub first_at : ℕ → Listed
first_at p = listed_to p true

-- Lists with a comma between each two parts and none behind the last, which end in what the last part ends in.

abbrev pub stop_at : ℕ → Stop
stop_at p = record { at = p; ending = other }

-- the comma behind a part, where the list goes on
unfoldable pub comma_or_end : Bytes → Marks → Stop → Traced (Turn Stop)
comma_or_end text marks s = token text Operator s.at >>= λ t.
    if is_mark text (codes ",") t then Some (one t marks, more (stop_at t.end)) else Some (marks, ended s)

unfoldable pub ended_turn : Bytes → Ended → Turning Stop
ended_turn text part marks s = part marks s.at >>= λ x. comma_or_end text x.0 x.1

-- the whole list from a place on
abbrev pub trace_ended_list : Bytes → Ended → Marks → ℕ → Traced Stop
trace_ended_list text part marks p = all_turns text (ended_turn text part) marks (stop_at p)

-- The tracers to a nest, and the tracer of a whole text.
use Rattle.std.specs.Prelude.{◌≡◌, ℕ, zero, suc, List, [], Option, Some, None}
use Rattle.std.specs.Option.{option_map}
use Rattle.es_tree.specs.declared.tokens.ProgramGoal.{ProgramGoal}
use Rattle.es_grammar.specs.Reading.{Bytes}
use Rattle.es_outline.specs.Outline.{Marks, outline}
use Rattle.es_reader.specs.Basics.{◌>>=◌}
use Rattle.es_reader.specs.Modules.{end}
use Rattle.es_reader.specs.Tying.{read_program, readers_to}
use Rattle.es_grammar.specs.declared.TheConstants.{MAX_NEST}
use Rattle.es_trace.specs.Following.{AreFollowing}
use Rattle.es_trace.specs.Modules.{trace_items}
use Rattle.es_trace.specs.Basics.{Traced}
use Rattle.es_trace.specs.Tracers.{Tracers, no_tracers}
use Rattle.es_trace.specs.Functions.{trace_bind_pattern}
use Rattle.es_trace.specs.Expressions.{trace_lhs, trace_new}
use Rattle.es_trace.specs.Targets.{trace_target_pattern}
use Rattle.es_trace.specs.Operators.{trace_assign, trace_prefixed}
use Rattle.es_trace.specs.Statements.{trace_item, trace_stmt}

-- one more, over what nests in it
abbrev pub one_more : Bytes → Tracers → Tracers
one_more text t = record {
  item = trace_item text t;
  stmt = trace_stmt text t;
  assign = trace_assign text t;
  prefixed = trace_prefixed text t;
  bind_pattern = trace_bind_pattern text t;
  target_pattern = trace_target_pattern text t;
  new = trace_new text t;
  extended = trace_lhs text t;
}

-- the tracers of what has at most this nest
unfoldable pub tracers_to : Bytes → ℕ → Tracers
tracers_to text zero = no_tracers
tracers_to text (suc nest) = one_more text (tracers_to text nest)

-- the outline of a text at its goal, if it has a tree
unfoldable pub trace_program : Bytes → ProgramGoal → Option Marks
trace_program text goal = trace_items text (tracers_to text MAX_NEST) goal [] 0 >>= λ x. end text x.1 >>= λ t. Some x.0

-- what is traced is the outline of what is read
abbrev pub TracingLaw : Type 0
TracingLaw = (text : Bytes) (nest : ℕ) → AreFollowing (tracers_to text nest) (readers_to text nest)

abbrev pub OutlineLaw : Type 0
OutlineLaw = (text : Bytes) (goal : ProgramGoal) → trace_program text goal ≡ option_map outline (read_program text goal)

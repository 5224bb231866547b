-- The tracers of what counts for the nest, one for each rule of the grammar.
use Rattle.std.specs.Prelude.{None}
use Rattle.es_grammar.specs.declared.places.Context.{Context}
use Rattle.es_trace.specs.Basics.{Tracer, Ended}

pub record Tracers : Type 0 where
  pub item : Context → Tracer
  pub stmt : Context → Tracer
  pub assign : Context → Ended
  pub prefixed : Context → Ended
  pub bind_pattern : Context → Tracer
  pub target_pattern : Context → Tracer
  pub new : Context → Tracer
  pub extended : Context → Tracer

-- nothing nests any more
abbrev pub no_tracers : Tracers
no_tracers = record {
  item = λ c marks p. None;
  stmt = λ c marks p. None;
  assign = λ c marks p. None;
  prefixed = λ c marks p. None;
  bind_pattern = λ c marks p. None;
  target_pattern = λ c marks p. None;
  new = λ c marks p. None;
  extended = λ c marks p. None;
}

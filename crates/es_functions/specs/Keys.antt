-- Keys, by whose they are.
use Rattle.es_grammar.specs.declared.places.Context.{Context}
use Rattle.es_grammar.specs.Reading.{Bytes}
use Rattle.es_trace.specs.Basics.{Tracer}
use Rattle.es_trace.specs.Tracers.{Tracers}
use Rattle.es_trace.specs.Functions.{trace_key, trace_element_key}
use Rattle.es_functions.specs.declared.keys.Keys.{Keys}
use Rattle.es_functions.specs.declared.keys.Keys.TheVariants.{OfObject as of_object, OfClass as of_class}

-- a key of an object, or of a class
abbrev pub a_key : Keys → Bytes → Tracers → Context → Tracer
a_key of_object = trace_key
a_key of_class = trace_element_key

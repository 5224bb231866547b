-- Functions, methods and classes follow, as what is proved of expressions asks for.
use Rattle.std.proofs.Common.{None}
use Rattle.es_grammar.specs.Reading.{Bytes}
use Rattle.es_reader.specs.Readers.{Readers}
use Rattle.es_trace.specs.Following.{AreFollowing}
use Rattle.es_trace.specs.Tracers.{Tracers}
use Rattle.es_trace.proofs.Classes.{class_laid}
use Rattle.es_trace.proofs.Expressions.{FollowFunctions}
use Rattle.es_trace.proofs.Methods.{func_laid, method_behind_laid, method_laid}

pub functions_follow : (text : Bytes) {t : Tracers} {r : Readers} → AreFollowing t r → FollowFunctions text t r
functions_follow text follows = record {
  method = λ c trace read is. method_laid text follows c trace read is;
  method_behind = λ c marks k p. method_behind_laid text follows c marks None None k p;
  func = func_laid text follows;
  class = class_laid text follows;
}

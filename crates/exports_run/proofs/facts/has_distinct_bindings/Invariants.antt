use Rattle.std.proofs.Common.{◌≡◌, take, map}
use Rattle.std.specs.List.{IsDistinct}
use Rattle.std.specs.Str.{bytes_eq}
use Rattle.exports_run.proofs.facts.has_distinct_bindings.Given as goal

abbrev pub invariant-loop-binding : goal.invariant-loop-binding
invariant-loop-binding l = record {
  names : l.seen.keys ≡ map (λ binding. binding.name) (take l.binding-index l.bindings);
  distinct : IsDistinct bytes_eq l.seen.keys;
}

use Rattle.std.proofs.Common.{◌≡◌, take, map}
use Rattle.std.specs.List.{IsDistinct}
use Rattle.std.specs.Str.{bytes_eq}
use Rattle.exports_run.proofs.facts.has_distinct_exports.Given as goal

abbrev pub invariant-loop-entry : goal.invariant-loop-entry
invariant-loop-entry l = record {
  names : l.seen.keys ≡ map (λ entry. entry.name) (take l.entry-index l.exports);
  distinct : IsDistinct bytes_eq l.seen.keys;
}

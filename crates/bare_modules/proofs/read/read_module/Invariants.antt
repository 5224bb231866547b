use Rattle.std.proofs.Common.{◌≤◌, ◌-◌, length}
use Rattle.std.specs.Option.{ForSome}
use Rattle.bare_modules.proofs.Reading.{SameModules}
use Rattle.bare_modules.proofs.read.read_module.Given as goal

abbrev pub invariant-tokens : goal.invariant-tokens
invariant-tokens l = record {
  inside : l.at ≤ length l.text;
  ordered : ForSome l.draft.end (λ end. end ≤ l.at);
  same : SameModules l.text l.at l.place l.draft;
}

abbrev pub decreases-tokens : goal.decreases-tokens
decreases-tokens l = length l.text - l.at

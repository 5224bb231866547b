use Rattle.std.proofs.Common.{◌≡◌, length}
use Rattle.std.specs.List.{All}
use Rattle.pk_types.specs.declared.form.Form.TheVariants as form
use Rattle.exports_run.proofs.facts.requests_of.Given as goal

abbrev pub invariant-loop : goal.invariant-loop
invariant-loop l = record {
  count : length l.requests.items ≡ l.counter;
  form : All (λ request. request.form ≡ form.Import) l.requests.items;
}

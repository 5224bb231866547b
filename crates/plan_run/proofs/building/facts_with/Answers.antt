use Rattle.std.proofs.Common.{◌≡◌, length, sym, subst, ap, ◌∙◌, arith}
use Rattle.std.specs.List.{All}
use Rattle.pk_types.specs.declared.form.Form.TheVariants as form
use Rattle.pk_types.specs.Fitting.{AreFitting}
use Rattle.plan_run.proofs.Importing.{importing_fits}
use Rattle.plan_run.proofs.building.facts_with.Goals as goal

pub returns-clause-fitting : goal.returns-clause-fitting
returns-clause-fitting c =
    let requests = c.from_vec-requests.result in
    let counted = ap length c.from_vec-requests.ensures ∙ c.in_ok-requests_of.ensures.count in
    subst AreFitting (sym c.importing.ensures)
    (importing_fits requests c.from_vec-order.result c.args.declared (omega (arith, counted))
    (subst (λ l. All (λ request. request.form ≡ form.Import) l) (sym c.from_vec-requests.ensures) c.in_ok-requests_of.ensures.form)
    (c.from_vec-order.ensures ∙ c.in_ok-first_numbers.ensures) (omega (arith, counted)))

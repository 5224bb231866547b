use Rattle.std.proofs.Common.{◌≡◌, ◌<◌, ◌^◌, length, ap, sym, subst, ◌∙◌, arith}
use Rattle.pk_types.specs.Fitting.{AreFitting}
use Rattle.graph_tests.proofs.Fitting.{requiring_fits}
use Rattle.graph_tests.proofs.facts_with.Goals as goal

pub returns-clause-fitting : goal.returns-clause-fitting
returns-clause-fitting c =
    let short : length c.from_vec.result < 2 ^ 32 = omega (arith, ap length c.from_vec.ensures) in
    subst AreFitting (sym c.requiring.ensures) (requiring_fits c.from_vec.result short)

pub returns-clause-requests : goal.returns-clause-requests
returns-clause-requests c =
    let counted : length c.loop.list.items ≡ c.args.requests = omega arith in
    ap (λ facts. length facts.requests) c.requiring.ensures ∙ ap length c.from_vec.ensures ∙ counted

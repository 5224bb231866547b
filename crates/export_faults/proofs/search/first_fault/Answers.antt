use Rattle.std.proofs.Common.{◌≡◌, ◌≤◌, ⊎_elim, sym, subst, ◌∙◌, arith}
use Rattle.std.proofs.lemmas.Bool.{cases_lt}
use Rattle.std.proofs.lemmas.Option.{slice_get_within}
use Rattle.export_faults.specs.Faults.{AreLeast, StandsIn}
use Rattle.export_faults.proofs.Least.{none_stands}
use Rattle.export_faults.proofs.search.first_fault.Goals as goal

pub loop-module-preserved : goal.loop-module-preserved
loop-module-preserved c =
    let graph = c.args.graph.now in
    let number = c.loop-module.module in
    let same = c.loop-module.invariant.graph in
    let none = none_stands (StandsIn graph number) c.in_ok-fault.fault (sym c.is_some.ensures ∙ c.if-is_some.false)
    (subst (λ g. AreLeast (StandsIn g number) c.in_ok-fault.fault) same c.in_ok-fault.ensures.first) in
    record {
      graph = c.in_ok-fault.ensures.same ∙ same;
      none = λ fault s below. ⊎_elim (λ less. c.loop-module.invariant.none fault s less)
          (λ (least : number ≤ fault.module). let at : fault.module ≡ number = omega (arith, least, below) in none fault (s, at)) (cases_lt fault.module number);
    }

pub returns : goal.returns
returns c = λ fault s.
    c.loop-module.invariant.none fault s
    (omega (arith, slice_get_within c.args.graph.now.rows fault.module s.row s.at, c.loop-module-test.false, c.loop-module.auto.module-end, c.len-module-end.ensures))

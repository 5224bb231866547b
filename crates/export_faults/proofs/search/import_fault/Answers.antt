use Rattle.std.proofs.Common.{◌+◌, ◌≤◌, length, sym, ap, subst, ◌∙◌, arith}
use Rattle.export_faults.specs.declared.fault.Asker.TheVariants.{Import}
use Rattle.export_faults.specs.Faults.{AreLeast, StandsIn, StandsAt}
use Rattle.export_faults.proofs.Asked.{import_asks}
use Rattle.export_faults.proofs.Least.{AmongFirst, next_least, least_same}
use Rattle.export_faults.proofs.search.import_fault.Goals as goal

pub loop-number-preserved : goal.loop-number-preserved
loop-number-preserved c =
    let graph = c.args.resolver.now in
    let number = c.args.module in
    let place = c.loop-number.number in
    let same = c.loop-number.invariant.graph in
    record {
      graph = c.in_ok-fault.ensures.same ∙ same;
      first = subst (AreLeast (λ fault. StandsIn graph number fault × AmongFirst (λ n. Import n) (place + 1) fault)) (sym c.earlier-first.ensures)
          (next_least (StandsIn graph number) (λ n. Import n) place c.loop-number.first c.in_ok-fault.fault c.loop-number.invariant.first
          (subst (λ g. AreLeast (StandsAt g number (Import place)) c.in_ok-fault.fault) same c.in_ok-fault.ensures.fault));
    }

pub returns-clause-first : goal.returns-clause-first
returns-clause-first c =
    let graph = c.args.resolver.now in
    let number = c.args.module in
    let row = c.row.result.now in
    let count = c.loop-number.number in
    let end : length row.facts.imports ≤ count = omega (arith, c.loop-number-test.false, c.loop-number.auto.number-end, ap length c.as_slice-imports.ensures) in
    least_same _ _ (λ fault s. (s.0, (s.1.0, omega (arith, end, import_asks graph number row fault s.1.0 c.row.ensures.at s.0 s.1.1), s.1.1))) (λ fault s. (s.0, (s.1.0, s.1.2)))
    c.loop-number.first c.loop-number.invariant.first

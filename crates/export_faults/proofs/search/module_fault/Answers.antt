use Rattle.std.proofs.Common.{sym, subst}
use Rattle.export_faults.specs.Faults.{AreLeast, StandsIn, StandsInExports}
use Rattle.export_faults.proofs.Asked.{of_module}
use Rattle.export_faults.proofs.search.module_fault.Goals as goal

pub returns-clause-first : goal.returns-clause-first
returns-clause-first c =
    let graph = c.args.resolver.now in
    let number = c.args.module in
    subst (AreLeast (StandsIn graph number)) (sym c.earlier.ensures)
    (of_module graph number c.in_ok-imported.imported c.in_ok-exported.exported c.in_ok-imported.ensures.first
    (subst (λ g. AreLeast (StandsInExports g number) c.in_ok-exported.exported) c.in_ok-imported.ensures.same c.in_ok-exported.ensures.first))

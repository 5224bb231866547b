use Rattle.std.proofs.Common.{Some}
use Rattle.es_scope.specs.declared.kinds.EarlyError.TheVariants.{DeclaredTwice, ExportsUndeclared}
use Rattle.es_facts.specs.Errors.{SpeaksOf}
use Rattle.es_facts.proofs.Exported.{speaks_where, speaks_here, speaks_exported}
use Rattle.es_facts.proofs.faults.error_name.Goals as goal

pub returns-in-DeclaredTwice : goal.returns-in-DeclaredTwice
returns-in-DeclaredTwice c =
    speaks_where c.args.outlined.now c.args.place (Some c.args.place) c.args.error
    (speaks_here c.args.outlined.now c.args.place c.args.error DeclaredTwice c.in-DeclaredTwice.is SpeaksOf.declared)
    c.said_at.result c.said_at.ensures

pub returns-in-ExportedTwice : goal.returns-in-ExportedTwice
returns-in-ExportedTwice c =
    speaks_where c.args.outlined.now c.args.place c.exporting_name.result c.args.error
    (speaks_exported c.args.outlined.now c.args.place c.args.error c.in-ExportedTwice.is c.exporting_name.result c.exporting_name.ensures)
    c.said_at-in-ExportedTwice.result c.said_at-in-ExportedTwice.ensures

pub returns-in-ExportsUndeclared : goal.returns-in-ExportsUndeclared
returns-in-ExportsUndeclared c =
    speaks_where c.args.outlined.now c.args.place (Some c.args.place) c.args.error
    (speaks_here c.args.outlined.now c.args.place c.args.error ExportsUndeclared c.in-ExportsUndeclared.is SpeaksOf.undeclared)
    c.said_at-in-ExportsUndeclared.result c.said_at-in-ExportsUndeclared.ensures

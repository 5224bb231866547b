use Rattle.std.proofs.Common.{◌≡◌, ◌↔◌, Some, ap, subst}
use Rattle.es_scope.specs.declared.kinds.DeclarationKind.{DeclarationKind}
use Rattle.es_scope.specs.Occurrences.{IsDeclared}
use Rattle.es_scope.specs.Source.{Source}
use Rattle.es_touches.specs.Told.{Tables}
use Rattle.es_touches.proofs.AloneLaws.{declared_told}
use Rattle.es_touches.proofs.given.declared_how.Goals as goal

pub returns : goal.returns
returns c = declared_told c.args.tables.now.source c.args.place c.declared.result
    (subst (λ (source : Source). (how : DeclarationKind) → (c.declared.result ≡ Some how) ↔ IsDeclared source c.args.place how)
    (ap (λ (tables : Tables). tables.source) c.tables.view_is) c.declared.ensures)

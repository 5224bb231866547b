use Rattle.std.proofs.Common.{sym, ap, subst, ◌∙◌}
use Rattle.es_facts.specs.Errors.{IsFirstError, first_error}
use Rattle.es_facts.proofs.Judging.{first_early}
use Rattle.es_facts.proofs.gathering.early_error.Goals as goal

pub returns : goal.returns
returns c =
    let tables = c.args.tables.now in
    subst (IsFirstError c.args.outlined.now)
    (sym (c.first_error.ensures ∙ ap (λ at. first_error at tables.exports.twice tables.exports.undeclared) c.twice.ensures))
    (first_early c.args.outlined.now tables c.requires.tables)

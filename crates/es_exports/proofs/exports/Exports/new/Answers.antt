use Rattle.std.proofs.Common.{◌∙◌, subst}
use Rattle.es_outline.specs.Outline.{Marks}
use Rattle.es_parts.specs.Binding.{AreBinders}
use Rattle.es_declares.specs.Numbering.{known_by}
use Rattle.es_exports.proofs.Whole.{seen_of, are_seen, are_exports}
use Rattle.es_exports.proofs.exports.Exports.new.Goals as goal

pub returns : goal.returns
returns c =
    are_exports (known_by c.args.asked.now.requests c.args.declarations.now)
    (seen_of c.args.outlined.now c.args.scopes.now c.args.enclosing.now c.in_ok-new.field-0 c.args.asked.now c.args.declarations.now)
    c.in_ok-inside.inside c.in_ok-named.named c.from_vec.result c.from_vec-2.result c.in_ok-first_again.field-0 c.first_undeclared.result
    (are_seen c.args.outlined.now c.args.scopes.now c.args.enclosing.now c.in_ok-new.field-0 c.args.asked.now c.args.declarations.now
    c.requires.scopes c.requires.enclosing (subst (λ (marks : Marks). AreBinders marks c.in_ok-new.field-0) c.marks.ensures c.in_ok-new.ensures)
    c.requires.asked c.requires.declarations)
    c.in_ok-inside.ensures c.in_ok-named.ensures (c.from_vec.ensures ∙ c.in_ok-entries.ensures) (c.from_vec-2.ensures ∙ c.in_ok-stars.ensures)
    c.in_ok-first_again.ensures c.first_undeclared.ensures

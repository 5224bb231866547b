use Rattle.std.proofs.Common.{refl, ap, ◌∙◌}
use Rattle.es_outline.specs.Outline.{one}
use Rattle.es_statements.proofs.heads.for_paren.Goals as goal

pub for_expr-requires-clause-behind : goal.for_expr-requires-clause-behind
for_expr-requires-clause-behind g c = record {
  before = c.requires.behind.before;
  for_word = c.requires.behind.for_word;
  left = c.args.left;
  is = c.in_ok-one.ensures.marks ∙ ap (one c.args.left) c.requires.behind.is;
  ends = refl;
}

use Rattle.std.proofs.Common.{ap, ◌∙◌}
use Rattle.es_outline.specs.Outline.{one}
use Rattle.es_statements.proofs.heads.for_stmt.Goals as goal

pub for_by-requires-clause-behind : goal.for_by-requires-clause-behind
for_by-requires-clause-behind g c = record {
  before = c.args.outline.now.marks;
  for_word = c.args.word;
  is = c.in_ok-one.ensures.marks ∙ ap (one c.args.word) c.in_ok-begin.ensures.marks;
}

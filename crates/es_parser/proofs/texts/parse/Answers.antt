use Rattle.es_parser.proofs.Outlining.{parsed}
use Rattle.es_parser.proofs.texts.parse.Goals as goal

pub returns-clause-parsed : goal.returns-clause-parsed
returns-clause-parsed g c = parsed _ _ _ c.trace_text.ensures.outlines

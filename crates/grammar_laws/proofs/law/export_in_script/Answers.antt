use Rattle.grammar_laws.proofs.Unopened.{export_in_script}
use Rattle.grammar_laws.proofs.law.export_in_script.Goals as goal

pub returns : goal.returns
returns c program script parse = export_in_script program script parse

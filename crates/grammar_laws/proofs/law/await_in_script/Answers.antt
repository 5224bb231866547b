use Rattle.grammar_laws.proofs.Unopened.{await_in_script}
use Rattle.grammar_laws.proofs.law.await_in_script.Goals as goal

pub returns : goal.returns
returns c program script parse = await_in_script program script parse

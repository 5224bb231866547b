use Rattle.facts_laws.proofs.Scripts.{plain_script}
use Rattle.facts_laws.proofs.laws.scripts_declare_nothing.Goals as goal

pub returns : goal.returns
returns c = plain_script

use Rattle.std.proofs.Common.{refl}
use Rattle.json.proofs.OnLiterals.{json_on_literals}
use Rattle.pack_config.proofs.plain.plain.Goals as goal

pub returns-in-Number-text-clause-printable : goal.returns-in-Number-text-clause-printable
unfolding json_on_literals
returns-in-Number-text-clause-printable c = refl

use Rattle.pkg_exports.proofs.Whole.{same_answer}
use Rattle.pkg_exports.proofs.law.has_one_answer.Goals as goal

pub returns : goal.returns
returns c form table map key a b f g = same_answer form table map key a b f g

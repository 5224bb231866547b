use Rattle.pkg_exports.proofs.Whole.{equal_wins}
use Rattle.pkg_exports.proofs.law.equal_name_decides.Goals as goal

pub returns : goal.returns
returns c entries key part i n m plain stands same decides = equal_wins entries key part i n m plain stands same decides

use Rattle.pkg_manifest.proofs.Whole.{one_value}
use Rattle.pkg_manifest.proofs.law.stands_for_one_value.Goals as goal

pub returns : goal.returns
returns c bytes j k one other = one_value bytes j k one other

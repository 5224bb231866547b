use Rattle.std.proofs.Common.{subst}
use Rattle.std.proofs.lemmas.Result.{IfOk-weaker}
use Rattle.node_resolve.specs.Manifests.{AreBytes}
use Rattle.node_resolve.proofs.Sights.{sight_absent, sight_longer, sight_here}
use Rattle.node_resolve.proofs.sight.sight_in.Goals as goal

pub returns-in-Absent : goal.returns-in-Absent
returns-in-Absent c held are = sight_absent held (subst (λ b. AreBytes held b) c.in-Absent.is are)

pub returns-in-Longer : goal.returns-in-Longer
returns-in-Longer c held are = sight_longer held (subst (λ b. AreBytes held b) c.in-Longer.is are)

pub returns-in-Here : goal.returns-in-Here
returns-in-Here c =
    IfOk-weaker c.sight_of.result _ _ (λ sight shown held are. sight_here held c.in-Here.text sight shown (subst (λ b. AreBytes held b) c.in-Here.is are)) c.sight_of.ensures

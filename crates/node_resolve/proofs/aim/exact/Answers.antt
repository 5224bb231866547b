use Rattle.std.proofs.Common.{Ok}
use Rattle.node_resolve.specs.Candidates.{decided}
use Rattle.node_resolve.specs.Resolution.{no_file, bare}
use Rattle.node_resolve.proofs.Walking.{stays_at}
use Rattle.node_resolve.proofs.Packages.{no_place, file_there, no_file_there}
use Rattle.node_resolve.proofs.aim.exact.Goals as goal

pub returns-in_default-clause-went : goal.returns-in_default-clause-went
returns-in_default-clause-went g c bare = stays_at _ _ _ _ (no_place bare c.args.path c.in_default.is)

pub returns-then-branch-clause-went : goal.returns-then-branch-clause-went
returns-then-branch-clause-went g c bare =
    let path = c.in-Some.path in
    file_there _ _ _ _ bare c.args.path path c.in_ok-ask.field-0 c.in-Some.is (c.in_ok-ask.ensures.went (decided (Ok path)) no_file) c.if-branch.true

pub returns-else-branch-clause-went : goal.returns-else-branch-clause-went
returns-else-branch-clause-went g c bare =
    let path = c.in-Some.path in
    no_file_there _ _ _ _ bare c.args.path path c.in_ok-ask.field-0 c.in-Some.is (c.in_ok-ask.ensures.went (decided (Ok path)) no_file) c.if-branch.false

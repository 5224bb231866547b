use Rattle.pack_config.proofs.Members.{is_empty-members_view}
use Rattle.pack_config.proofs.check.has_none.Goals as goal

pub returns : goal.returns
returns c = is_empty-members_view _ _ c.is_empty.ensures

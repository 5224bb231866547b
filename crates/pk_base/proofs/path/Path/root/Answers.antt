use Rattle.pk_base.proofs.Segments.{is_path_at, is_path-nil}
use Rattle.pk_base.proofs.path.Path.root.Goals as goal

pub invariant_of-result : goal.invariant_of-result
invariant_of-result c = is_path_at _ _ c.new.ensures.bytes is_path-nil

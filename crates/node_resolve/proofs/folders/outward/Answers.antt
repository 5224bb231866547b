use Rattle.node_resolve.proofs.PathParts.{outward_more}
use Rattle.node_resolve.proofs.folders.outward.Goals as goal

pub folders-preserved : goal.folders-preserved
folders-preserved c =
    outward_more _ _ c.folders.here _ c.in_ok-here-2.here _ c.folders.invariant c.in_ok-put.ensures c.in_ok-copy.ensures c.if-is_root.ensures c.in_ok-here-2.ensures.text c.in_ok-here-2.ensures.segments

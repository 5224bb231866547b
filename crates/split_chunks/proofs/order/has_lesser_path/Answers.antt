use Rattle.std.proofs.Common.{sym}
use Rattle.pk_types.specs.SplitCandidates.{path_of}
use Rattle.split_chunks.specs.Choices.{candidate_of}
use Rattle.split_chunks.proofs.Orders.{lesser, not_lesser, before_paths}
use Rattle.split_chunks.proofs.order.has_lesser_path.Goals as goal

pub returns-clause-lesser : goal.returns-clause-lesser
returns-clause-lesser c before = lesser c.args.graph.now (candidate_of c.args.choice.now) (candidate_of c.args.other.now) c.least-first.result c.least-second.result
    c.least-first.ensures c.least-second.ensures
    (before_paths c.path.result.now c.path-2.result.now (path_of c.args.graph.now c.least-first.result) (path_of c.args.graph.now c.least-second.result) c.path.ensures c.path-2.ensures (c.comes_before.ensures.before before))

pub returns-clause-not_lesser : goal.returns-clause-not_lesser
returns-clause-not_lesser c behind = not_lesser c.args.graph.now (candidate_of c.args.choice.now) (candidate_of c.args.other.now) c.least-first.result c.least-second.result
    c.least-first.ensures c.least-second.ensures
    (λ before. c.comes_before.ensures.not_before behind
    (before_paths (path_of c.args.graph.now c.least-first.result) (path_of c.args.graph.now c.least-second.result) c.path.result.now c.path-2.result.now (sym c.path.ensures) (sym c.path-2.ensures) before))

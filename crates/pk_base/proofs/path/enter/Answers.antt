use Rattle.std.proofs.Common.{rules}
use Rattle.pk_base.proofs.Segments.{segments_enter, segments_enter_root}
use Rattle.pk_base.proofs.path.enter.Goals as goal
use Rattle.pk_base.proofs.path.enter.Goals.{then-not-is_empty+in_ok-push, else-not-is_empty}

pub returns-clause-segments : goal.returns-clause-segments
returns-clause-segments c =
    let old = c.args.written.now.items in
    let new = c.extend_from_slice.new.self.items in
    let added = c.in_ok-extend_from_slice.ensures.items in
    elim c.if-not-is_empty.branch [
      | then-not-is_empty+in_ok-push w ↦ let pushed = w.in_ok-push.ensures.items in segments_enter old new c.args.part.now (search rules) c.requires.part (cc)
      | else-not-is_empty w ↦ segments_enter_root old new c.args.part.now (search rules) c.requires.some c.requires.part (cc)
    ]

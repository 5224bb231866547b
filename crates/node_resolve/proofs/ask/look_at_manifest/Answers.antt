use Rattle.node_resolve.proofs.Looks.{manifest_fails, manifest_goes, manifest_lost}
use Rattle.node_resolve.proofs.ask.look_at_manifest.Goals as goal

pub returns-in_err-bytes-clause-went : goal.returns-in_err-bytes-clause-went
returns-in_err-bytes-clause-went g c next =
    let notes = c.args.asked.now.items in
    manifest_fails _ _ c.args.path.now next c.from_residual.result c.in_err-bytes.field-0.0 notes notes next c.from_residual.ensures.1 c.in_err-bytes.ensures.looks

pub returns-in_err-note-clause-went : goal.returns-in_err-note-clause-went
returns-in_err-note-clause-went g c next =
    manifest_lost _ _ c.args.path.now next c.in_ok-bytes.bytes c.from_residual-in_err-note.result c.args.asked.now.items _ next c.from_residual-in_err-note.ensures.1 c.in_ok-bytes.ensures.looks

pub returns-in_err-sight_in-clause-went : goal.returns-in_err-sight_in-clause-went
returns-in_err-sight_in-clause-went g c next =
    manifest_lost _ _ c.args.path.now next c.in_ok-bytes.bytes c.from_residual-in_err-sight_in.result c.args.asked.now.items _ next c.from_residual-in_err-sight_in.ensures.1 c.in_ok-bytes.ensures.looks

pub returns-clause-went : goal.returns-clause-went
returns-clause-went g c next =
    manifest_goes _ _ c.args.path.now next c.in_ok-bytes.bytes c.in_ok-sight_in.field-0 c.args.asked.now.items c.note.new.asked.items c.in_ok-note.ensures
    (λ told. c.in_ok-sight_in.ensures _ (c.in_ok-bytes.ensures.bytes told)) c.in_ok-bytes.ensures.looks

use Rattle.std.proofs.Common.{[], ◌∷◌, ◌++◌, refl, if◌then◌else◌}
use Rattle.node_resolve.specs.Candidates.{file}
use Rattle.node_resolve.proofs.Looks.{file_fails, file_goes}
use Rattle.node_resolve.proofs.Walking.{no_memory}
use Rattle.node_resolve.proofs.ask.ask.Goals as goal

pub returns-in_err-there-clause-went : goal.returns-in_err-there-clause-went
returns-in_err-there-clause-went g c one other =
    let notes = c.args.asked.now.items in
    file_fails _ _ c.args.path.now one other c.from_residual.result c.in_err-there.field-0.0 notes notes (λ there. if there then one else other) c.from_residual.ensures.1 c.in_err-there.ensures.looks

pub returns-in_err-note-clause-went : goal.returns-in_err-note-clause-went
returns-in_err-note-clause-went g c one other =
    let notes = c.args.asked.now.items in
    let path = c.args.path.now in
    let found = c.in_ok-there.there in
    no_memory c.from_residual-in_err-note.result _ _ notes (notes ++ path ∷ []) _ (file path one other) (if found then one else other) (λ there. if there then one else other) c.from_residual-in_err-note.ensures.1
    (file_goes _ _ path one other found notes (notes ++ path ∷ []) refl c.in_ok-there.ensures.has c.in_ok-there.ensures.looks)

pub returns-clause-went : goal.returns-clause-went
returns-clause-went g c one other =
    file_goes _ _ c.args.path.now one other c.in_ok-there.there c.args.asked.now.items c.note.new.asked.items c.in_ok-note.ensures c.in_ok-there.ensures.has c.in_ok-there.ensures.looks

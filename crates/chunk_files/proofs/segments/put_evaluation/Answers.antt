use Rattle.std.proofs.lemmas.Result.{IfOk-equal}
use Rattle.std.specs.Prelude.{codes}
use Rattle.emit_chunk.specs.Factories.{evaluation_text}
use Rattle.chunk_files.proofs.Penning.{then_put, at_last}
use Rattle.chunk_files.proofs.segments.put_evaluation.Goals as goal

pub returns : goal.returns
unfolding evaluation_text
returns c =
    let one = c.in_ok-put.ensures in
    let two = then_put _ _ _ _ _ one c.in_ok-put_id.ensures in
    IfOk-equal c.put-2.result _ _ _ c.put-2.ensures (at_last _ _ _ (codes ");\n") two)

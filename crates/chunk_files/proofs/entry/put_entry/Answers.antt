use Rattle.std.proofs.Common.{ap, ◌∙◌}
use Rattle.std.proofs.lemmas.Result.{IfOk-equal}
use Rattle.std.specs.Prelude.{codes}
use Rattle.chunk_files.specs.Entries.{entry_text}
use Rattle.chunk_files.specs.Pens.{penned}
use Rattle.chunk_files.proofs.Penning.{then_put, at_last}
use Rattle.chunk_files.proofs.entry.put_entry.Goals as goal

pub returns : goal.returns
unfolding entry_text
returns c =
    let one = c.in_ok-put.ensures ∙ ap (penned c.args.pen.now) c.runtime.ensures in
    let two = then_put _ _ _ _ _ one c.in_ok-put-2.ensures in
    let three = then_put _ _ _ _ _ two c.in_ok-put_joined.ensures in
    let four = then_put _ _ _ _ _ three c.in_ok-put-3.ensures in
    let five = then_put _ _ _ _ _ four c.in_ok-put_joined-2.ensures in
    let six = then_put _ _ _ _ _ five c.in_ok-put-4.ensures in
    let seven = then_put _ _ _ _ _ six c.in_ok-put_chunk_factories.ensures in
    IfOk-equal c.put-5.result _ _ _ c.put-5.ensures (at_last _ _ _ (codes "\n]);\n") seven)

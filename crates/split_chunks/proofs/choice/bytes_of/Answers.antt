use Rattle.std.proofs.Common.{◌≡◌, ◌<◌, length, get_or, sym, ap, ◌∙◌, arith}
use Rattle.pk_types.specs.declared.graph.Row.{Row}
use Rattle.split_chunks.proofs.Orders.{bytes_more}
use Rattle.split_chunks.proofs.choice.bytes_of.Goals as goal

pub loop-member-preserved : goal.loop-member-preserved
loop-member-preserved c =
    let graph = c.args.graph.now in
    let modules = c.args.modules.now in
    let at = c.loop-member.member-index in
    let member = get_or modules at 0 in
    let row = c.index-as_slice-member.result in
    let inside : at < length modules = c.loop-member-test.true in
    let low : member < length graph.rows = c.requires.within at 0 inside in
    let read : row ≡ get_or graph.rows member row = c.index-as_slice-member.is ∙ ap (λ l. get_or l member row) c.as_slice.ensures in
    let more = bytes_more graph modules at row inside low read in
    let size : c.from-bytes.result ≡ row.size = c.from-bytes.ensures ∙ ap (λ (r : Row). r.size) (sym c.index-as_slice-member.is) in
    record { is = omega (arith, c.loop-member.invariant.is, more, size); few = grind arith }

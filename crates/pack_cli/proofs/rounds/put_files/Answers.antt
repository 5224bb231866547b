use Rattle.std.proofs.Common.{rules, sym, subst, IsTrue}
use Rattle.pack_cli.proofs.Putting.{called, held, lost, on_err}
use Rattle.pack_cli.proofs.rounds.put_files.Goals as goal

pub returns-in_err-put-clause-lost : goal.returns-in_err-put-clause-lost
returns-in_err-put-clause-lost g c = on_err _ c.from_residual.result
    (lost c.args.files.now c.loop-file.file-index c.file-item.result c.as_slice.result.now (g.O.Store.means c.args.out.now) (g.O.Store.means c.loop-file.out) (g.O.Store.means c.put.new.self)
    c.file-item.is c.loop-file-test.true (search rules) c.loop-file.invariant.told c.loop-file.invariant.calls c.loop-file.invariant.held c.in_err-put.ensures.called_lost c.in_err-put.ensures.lost)

pub loop-file-preserved : goal.loop-file-preserved
loop-file-preserved g c = record {
  told = search rules;
  faults = search rules;
  calls = called c.args.files.now c.loop-file.file-index c.file-item.result c.as_slice.result.now (g.O.Store.means c.args.out.now).calls (g.O.Store.means c.loop-file.out).calls (g.O.Store.means c.put.new.self).calls
      c.file-item.is c.loop-file-test.true (search rules) c.loop-file.invariant.calls c.in_ok-put.ensures.called;
  held = λ h. held c.args.files.now c.loop-file.file-index c.file-item.result c.as_slice.result.now c.as_slice-in-loop-file.result.now (g.O.Store.means c.args.out.now).files (g.O.Store.means c.loop-file.out).files (g.O.Store.means c.put.new.self).files
      c.file-item.is c.loop-file-test.true (search rules) (search rules) (c.loop-file.invariant.held h) (c.in_ok-put.ensures.put (subst IsTrue (sym c.loop-file.invariant.told) h));
}

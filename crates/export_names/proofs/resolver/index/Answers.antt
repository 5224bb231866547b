use Rattle.export_names.proofs.Indexing.{one_more}
use Rattle.export_names.proofs.resolver.index.Goals as goal

pub loop-entry-preserved : goal.loop-entry-preserved
loop-entry-preserved c =
    one_more c.args.exports.now c.loop-entry.entry-index c.entry-item.result c.loop-entry.names.keys c.insert.new.self.keys _ c.loop-entry-test.true c.entry-item.is c.requires
    c.as_slice.ensures c.in_ok-insert.ensures.keys c.loop-entry.invariant

use Rattle.std.proofs.Common.{refl}
use Rattle.std.proofs.Math.ListN.{length-set}
use Rattle.prune_graph.proofs.Gaining.{list_gains, name_gained}
use Rattle.prune_graph.proofs.through.Through.add_name.Goals as goal

pub returns : goal.returns
returns c =
    let old = c.args.self.now in
    name_gained old _ c.args.request c.args.name.now
    (list_gains old.names.items c.args.request c.requires c.index_mut.result.now c.insert.new.self c.index_mut.ensures.value c.args.name c.in_ok-insert.ensures.keys)
    (length-set old.names.items c.args.request c.insert.new.self) refl

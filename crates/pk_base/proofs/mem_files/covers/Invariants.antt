use Rattle.std.proofs.Common.{◌≡◌, drop}
use Rattle.pk_base.specs.Outside.{covers}
use Rattle.pk_base.proofs.mem_files.covers.Given as goal

abbrev pub invariant-loop-folder : goal.invariant-loop-folder
invariant-loop-folder l = covers l.folders l.path ≡ covers (drop l.folder-index l.folders) l.path

use Rattle.std.proofs.Common.{◌≡◌, drop, length}
use Rattle.std.specs.List.{slice_split}
use Rattle.pk_base.specs.Paths.{segments, walk, is_slash}
use Rattle.pk_base.specs.PathScan.{IsRelative}
use Rattle.pk_base.proofs.path.Path.join.Given as goal

abbrev pub invariant-loop-part : goal.invariant-loop-part
invariant-loop-part l = record {
  relative : IsRelative l.written.items;
  walked : walk (segments l.written.items) (drop (length l.yielded) (slice_split is_slash l.relative)) ≡ walk (segments l.self) (slice_split is_slash l.relative);
}

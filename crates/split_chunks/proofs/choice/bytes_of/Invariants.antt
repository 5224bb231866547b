use Rattle.std.proofs.Common.{◌≡◌, ◌≤◌, ◌*◌, take}
use Rattle.pk_types.specs.SplitCandidates.{bytes_of}
use Rattle.split_chunks.proofs.choice.bytes_of.Given as goal

abbrev pub invariant-loop-member : goal.invariant-loop-member
invariant-loop-member l = record {
  is : l.bytes ≡ bytes_of l.graph (take l.member-index l.modules);
  few : l.bytes ≤ l.member-index * 4294967295;
}

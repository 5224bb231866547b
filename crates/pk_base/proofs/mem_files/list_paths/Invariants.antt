use Rattle.std.proofs.Common.{List, ℕ, take, IsSome}
use Rattle.pk_base.specs.Memory.{AreKnown}
use Rattle.pk_text.specs.Places.{place_of}
use Rattle.pk_base.proofs.mem_files.list_paths.Given as goal

abbrev pub invariant-loop-file : goal.invariant-loop-file
invariant-loop-file l = record {
  kept : (q : List ℕ) → IsSome (place_of l.initial.paths q) → IsSome (place_of l.paths q);
  known : AreKnown l.paths (take l.file-index l.files);
}

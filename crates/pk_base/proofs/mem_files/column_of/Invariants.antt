use Rattle.std.proofs.Common.{◌≡◌, ℕ, List, length, vec_len}
use Rattle.std.specs.Option.{option_or}
use Rattle.std.specs.Str.{bytes_eq}
use Rattle.std.specs.Map.{lookup}
use Rattle.pk_base.specs.Memory.{AreKnown, held_in}
use Rattle.pk_base.proofs.mem_files.column_of.Given as goal

abbrev pub invariant-loop-path : goal.invariant-loop-path
invariant-loop-path l = record {
  len : vec_len l.column ≡ length l.paths;
  known : AreKnown l.paths l.files.items;
  held : (q : List ℕ) → option_or (lookup (bytes_eq q) l.files.items) (held_in l.paths l.column.items q) ≡ lookup (bytes_eq q) l.initial.files.items;
}

abbrev pub decreases-loop-path : goal.decreases-loop-path
decreases-loop-path l = vec_len l.files

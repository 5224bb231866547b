-- A text that names a file is read as its path.
use Rattle.std.proofs.Common.{◌≡◌, ℕ, ◌<◌, ◌≤◌, true, List, length}
use Rattle.std.specs.Str.{IsUtf8}
use Rattle.std.proofs.lemmas.Bool.{and_parts, and_from, ltb-true, leb-true}
use Rattle.std.proofs.lemmas.Str.{is_utf8-from_IsUtf8}
use Rattle.pk_base.specs.Paths.{Breaks}
use Rattle.pk_base.proofs.Breaks.{no_break-from_is_path}
use Rattle.watch_core.specs.Places.{names_file}

-- the text of a file's path: some bytes, not too many, and no place that breaks the rules
pub record Named (text : List ℕ) : Type 0 where
  pub some : 0 < length text
  pub short : length text ≤ 1024
  pub whole : (place : ℕ) → Breaks text place → ⊥

pub named : (text : List ℕ) → names_file text ≡ true → IsUtf8 text → Named text
named text e utf8 =
    let outer = and_parts _ _ e in
    let inner = and_parts _ _ outer.0 in
    let some = ltb-true _ _ inner.0 in
    record {
      some = some;
      short = leb-true _ _ inner.1;
      whole = no_break-from_is_path text some (and_from _ _ (and_from _ _ inner.1 (is_utf8-from_IsUtf8 text utf8)) outer.1);
    }

-- Texts that are known to be paths.
use Rattle.std.specs.Prelude.{ℕ, Bool, ◌&&◌, List, length, nat_lt, nat_le}
use Rattle.std.specs.List.{list_all}
use Rattle.pk_base.specs.Paths.{is_segment, segments}

-- a text that is UTF-8 is the path of a file
abbrev pub names_file : List ℕ → Bool
names_file text = nat_lt 0 (length text) && nat_le (length text) 1024 && list_all is_segment (segments text)

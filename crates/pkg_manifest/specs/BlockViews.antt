-- What a block of the code stands for. Only private clauses cite it.
use Rattle.std.specs.Prelude.{ℕ, List, [], map, Option, Some, None}
use Rattle.std.specs.Borrow.{Bor}
use Rattle.pkg_manifest.specs.Patterns.{byte_part, segment_part, segments}
use Rattle.pkg_manifest.specs.Blocks as blocks
use Rattle.pkg_manifest.specs.declared.pattern.Block.{Block}
use Rattle.pkg_manifest.specs.declared.pattern.Block.TheVariants.{Fails, Ends, Star}
use Rattle.pkg_manifest.specs.declared.pattern.Segments.{Segments}
use Rattle.pkg_manifest.specs.declared.pattern.Segments.TheVariants as variants

abbrev pub byte_block : Block → blocks.Block ℕ ℕ
byte_block Fails = blocks.fails
byte_block Ends = blocks.ends
byte_block (Star p s) = blocks.star (map byte_part p.now) s.now

-- the segments that are left
abbrev pub segments_left : Option (Bor (List ℕ)) → List (List ℕ)
segments_left None = []
segments_left (Some text) = segments text.now

abbrev pub segment_block : Segments → blocks.Block (List ℕ) (List ℕ)
segment_block variants.Fails = blocks.fails
segment_block variants.Ends = blocks.ends
segment_block (variants.Star p s) = blocks.star (map segment_part (segments_left p)) (segments_left s)

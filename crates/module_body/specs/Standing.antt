-- Which tokens of an outline are kept: all but the declarations that import, those that export without declaring, `export`, and `export default`.
use Rattle.std.specs.Prelude.{Bool, true, false, [], ◌∷◌}
use Rattle.es_outline.specs.declared.mark.Mark.{Mark}
use Rattle.es_outline.specs.declared.mark.Mark.TheVariants as mark
use Rattle.es_outline.specs.declared.mark.Part.{Part}
use Rattle.es_outline.specs.declared.mark.Part.TheVariants as part
use Rattle.es_outline.specs.Outline.{Marks}
use Rattle.module_body.specs.declared.standing.Standing.{Standing}
use Rattle.module_body.specs.declared.standing.Standing.TheVariants as standing

-- what becomes of the first token of a part
abbrev pub begun : Part → Standing
begun part.ImportDeclaration = standing.Dropped
begun part.ExportStar = standing.Dropped
begun part.ExportList = standing.Dropped
begun part.ExportedDeclaration = standing.Export
begun part.ExportDefault = standing.ExportDefault
begun _ = standing.Kept

-- and of the token behind one of which this becomes
abbrev pub gone_on : Standing → Standing
gone_on standing.Export = standing.Kept
gone_on standing.ExportDefault = standing.Default
gone_on standing.Default = standing.Defaulted
gone_on other = other

abbrev pub stands_behind : Mark → Standing → Standing
stands_behind (mark.Begin which) now = begun which
stands_behind (mark.End which) now = standing.Kept
stands_behind (mark.Token role token) now = gone_on now
stands_behind _ now = now

-- what becomes of a token that has these marks before it, the nearest first
unfoldable pub standing_at : Marks → Standing
standing_at [] = standing.Kept
standing_at (one_mark ∷ before) = stands_behind one_mark (standing_at before)

abbrev pub is_kept : Standing → Bool
is_kept standing.Kept = true
is_kept standing.Defaulted = true
is_kept _ = false

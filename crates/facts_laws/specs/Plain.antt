-- Marks of imports and exports, which a script has none of.
use Rattle.std.specs.Prelude.{◌≡◌, Bool, true, false}
use Rattle.es_outline.specs.declared.mark.Mark.{Mark}
use Rattle.es_outline.specs.declared.mark.Mark.TheVariants as mark
use Rattle.es_outline.specs.declared.mark.Role.{Role}
use Rattle.es_outline.specs.declared.mark.Role.TheVariants as is
use Rattle.es_outline.specs.declared.mark.Part.{Part}
use Rattle.es_outline.specs.declared.mark.Part.TheVariants as part

-- tokens of imports and exports alone
abbrev pub role_declares : Role → Bool
role_declares is.Imported = true
role_declares is.ImportedDefault = true
role_declares is.ImportedSpace = true
role_declares is.Exported = true
role_declares is.Outer = true
role_declares is.Request = true
role_declares is.Attributes = true
role_declares _ = false

-- what an import or an export begins with
abbrev pub part_declares : Part → Bool
part_declares part.ImportDeclaration = true
part_declares part.ExportStar = true
part_declares part.ExportList = true
part_declares part.ExportedDeclaration = true
part_declares part.ExportDefault = true
part_declares part.ExportedValue = true
part_declares _ = false

abbrev pub declares : Mark → Bool
declares (mark.Token role token) = role_declares role
declares (mark.Begin which) = part_declares which
declares _ = false

-- it is a mark of no import and no export
abbrev pub IsPlain : Mark → Type 0
IsPlain one_mark = declares one_mark ≡ false

-- What a target of a manifest's map means for its package.
use Rattle.std.specs.Prelude.{ℕ, List, None, Some, Result, Ok, Err}
use Rattle.pk_base.specs.Paths.{joined}
use Rattle.pk_types.specs.declared.form.Form.{Form}
use Rattle.pkg_manifest.specs.declared.value.Json.{Json}
use Rattle.pkg_exports.specs.declared.answer.Table.{Table}
use Rattle.pkg_exports.specs.declared.answer.Target.{Target}
use Rattle.pkg_exports.specs.declared.answer.Target.TheVariants.{File, Bare}
use Rattle.pkg_exports.specs.declared.answer.TargetFault.{TargetFault}
use Rattle.pkg_exports.specs.declared.answer.TargetFault.TheVariants.{NotExported, BadTarget, BadMap, NoMemory}
use Rattle.node_resolve.specs.declared.sight.Package.{Package}
use Rattle.node_resolve.specs.declared.aim.Aim.{Aim}
use Rattle.node_resolve.specs.declared.aim.Aim.TheVariants as aim
use Rattle.node_resolve.specs.declared.answer.Why.TheVariants as why
use Rattle.node_resolve.specs.Candidates.{Candidates, file, target, decided}

-- a map whose keys are mixed makes its manifest a bad one; that a look-up lacks memory is no answer of a map
abbrev pub aim_of : Package → Result Target TargetFault → Aim
aim_of owner (Ok (File text)) = aim.File (joined owner.folder text)
aim_of owner (Ok (Bare text)) = aim.Bare text
aim_of owner (Err NotExported) = aim.Ended why.NotExported
aim_of owner (Err BadTarget) = aim.Ended why.BadTarget
aim_of owner (Err BadMap) = aim.Ended (why.BadManifest owner.path)
aim_of owner (Err NoMemory) = aim.Ended why.NotExported

-- an exported file is that path alone, with no search; a bare request is resolved anew
abbrev pub follow : (List ℕ → Candidates) → Aim → Candidates
follow bare (aim.File None) = decided (Err why.NoFile)
follow bare (aim.File (Some path)) = file path (decided (Ok path)) (decided (Err why.NoFile))
follow bare (aim.Bare text) = bare text
follow bare (aim.Ended reason) = decided (Err reason)

abbrev pub by_map : Form → Table → Package → Json → List ℕ → (List ℕ → Candidates) → Candidates
by_map form table owner map key bare = target form table map key (λ answer. follow bare (aim_of owner answer))

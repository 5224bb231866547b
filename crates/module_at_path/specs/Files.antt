-- A file with what its module is told by: its path, its text and its nearest manifest.
use Rattle.std.specs.Prelude.{ℕ, ◌+◌, Bool, false, List, [], codes, nat_eq, length, drop, Option, Some, None, Result, Ok, Err, if◌then◌else◌}
use Rattle.std.specs.List.{ends_with}
use Rattle.std.specs.Str.{bytes_eq}
use Rattle.pk_types.specs.declared.facts.NameKind.{NameKind}
use Rattle.pk_types.specs.declared.facts.NameKind.TheVariants.{Module, Common, Either, Json}
use Rattle.pkg_manifest.specs.declared.package.Manifest.{Manifest}
use Rattle.pkg_manifest.specs.Flags.{is_flagged as flags}

-- the nearest manifest with its folder, if there is one, or the path of a bad one
abbrev pub Scope : Type 0
Scope = Result (Option (List ℕ × Manifest)) (List ℕ)

-- of a file of more than the most bytes there is no text
pub record File : Type 0 where
  pub path : List ℕ
  pub text : Option (List ℕ)
  pub scope : Scope

abbrev pub file : List ℕ → Option (List ℕ) → Scope → File
file path text scope = record { path = path; text = text; scope = scope }

-- the nearest manifest says that files named `.js` are modules of ECMAScript; that a bad one says so is not known
abbrev pub says_module : Scope → Bool
says_module (Ok (Some owner)) = owner.1.is_module
says_module (Ok None) = false
says_module (Err bad) = false

-- what the end of a name says, where a manifest says this of `.js`
abbrev pub name_kind : Bool → List ℕ → Option NameKind
name_kind is_module path =
    if ends_with nat_eq path (codes ".js") then Some (if is_module then Module else Either)
    else (if ends_with nat_eq path (codes ".mjs") then Some Module
    else (if ends_with nat_eq path (codes ".cjs") then Some Common
    else (if ends_with nat_eq path (codes ".json") then Some Json else None)))

abbrev pub kind_of : File → Option NameKind
kind_of one = name_kind (says_module one.scope) one.path

-- the path of a file as its package's folder sees it
abbrev pub path_in : List ℕ → List ℕ → List ℕ
path_in folder path = if bytes_eq folder [] then path else drop (length folder + 1) path

-- the nearest manifest says that the module has no side effects
abbrev pub is_flagged : Scope → List ℕ → Bool
is_flagged (Ok (Some owner)) path = flags owner.1.side_effects (path_in owner.0 path)
is_flagged (Ok None) path = false
is_flagged (Err bad) path = false

-- Lists of candidates, and where a tree leads along them.
use Rattle.std.specs.Prelude.{ℕ, List, [], ◌∷◌, Option, Result, is_some, if◌then◌else◌}
use Rattle.pk_base.specs.FileTree.{FileTree}
use Rattle.pk_types.specs.declared.form.Form.{Form}
use Rattle.pkg_manifest.specs.declared.package.Manifest.{Manifest}
use Rattle.pkg_manifest.specs.declared.value.Json.{Json}
use Rattle.pkg_exports.specs.declared.answer.Table.{Table}
use Rattle.pkg_exports.specs.declared.answer.Target.{Target}
use Rattle.pkg_exports.specs.declared.answer.TargetFault.{TargetFault}
use Rattle.pkg_exports.specs.Answers.{Answers}
use Rattle.node_resolve.specs.declared.answer.Why.{Why}
use Rattle.node_resolve.specs.declared.sight.Sight.{Sight}
use Rattle.node_resolve.specs.Manifests.{IsSight}

-- what a request is resolved to: a file, or why there is none
abbrev pub Verdict : Type 0
Verdict = Result (List ℕ) Why

-- the nearest manifest of a folder with the folder that it stands in, if there is one, or the path of a bad one
abbrev pub Scope : Type 0
Scope = Result (Option (List ℕ × Manifest)) (List ℕ)

pub data End : Type 0 where
  resolved : Verdict → End
  scoped : Scope → End

-- Paths in the order in which they are candidates, up to an answer. What stands behind a path depends on whether a file is
-- there, and behind a manifest on what it says. A target depends on what a map of a manifest has for a key, and is no path.
pub data Candidates : Type 0 where
  file : List ℕ → Candidates → Candidates → Candidates
  manifest : List ℕ → (Sight → Candidates) → Candidates
  target : Form → Table → Json → List ℕ → (Result Target TargetFault → Candidates) → Candidates
  ends : End → Candidates

abbrev pub decided : Verdict → Candidates
decided verdict = ends (resolved verdict)

-- A tree leads from some candidates to others, and these paths stand between them, in order: each candidate is as the tree
-- has it.
pub data Leads (t : FileTree) (to : Candidates) : Candidates → List (List ℕ) → Type 0 where
  there : Leads t to to []
  by_file : {path : List ℕ} {yes no : Candidates} {rest : List (List ℕ)} → Leads t to (if is_some (t path) then yes else no) rest → Leads t to (file path yes no) (path ∷ rest)
  by_manifest : {path : List ℕ} {behind : Sight → Candidates} {rest : List (List ℕ)} (sight : Sight) → IsSight (t path) sight → Leads t to (behind sight) rest → Leads t to (manifest path behind) (path ∷ rest)
  by_target : {form : Form} {table : Table} {map : Json} {key : List ℕ} {behind : Result Target TargetFault → Candidates} {rest : List (List ℕ)} (answer : Result Target TargetFault) → Answers form table map key answer
      → Leads t to (behind answer) rest → Leads t to (target form table map key behind) rest

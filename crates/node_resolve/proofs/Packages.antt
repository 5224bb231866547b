-- Steps of the walks along the candidates of packages.
use Rattle.std.proofs.Common.{◌≡◌, ℕ, Bool, true, false, List, [], Option, None, Some, Result, Ok, Err, sym, ap, subst, ◌∙◌, ◌+◌, ◌<◌, length, drop, get_or, append-nil, if◌then◌else◌}
use Rattle.pk_types.specs.declared.form.Form.{Form}
use Rattle.pkg_manifest.specs.declared.value.Json.{Json}
use Rattle.pkg_exports.specs.declared.answer.Table.{Table}
use Rattle.pkg_exports.specs.declared.answer.Table.TheVariants.{Exports, Imports}
use Rattle.pkg_exports.specs.declared.answer.Target.{Target}
use Rattle.pkg_exports.specs.declared.answer.TargetFault.{TargetFault}
use Rattle.pkg_exports.specs.Answers.{Answers}
use Rattle.node_resolve.specs.declared.aim.Aim.{Aim}
use Rattle.node_resolve.specs.declared.aim.Aim.TheVariants.{File}
use Rattle.node_resolve.specs.declared.answer.Why.TheVariants.{NotExported}
use Rattle.node_resolve.specs.declared.sight.Package.{Package}
use Rattle.node_resolve.specs.Aims.{aim_of, follow, by_map}
use Rattle.node_resolve.specs.Candidates.{Candidates, file, target, decided, by_target, there}
use Rattle.node_resolve.specs.Looking.{Moment}
use Rattle.node_resolve.specs.Requests.{key_of}
use Rattle.node_resolve.specs.Resolution.{no_file, no_bare, exports_in, exported_if, exported, imported_if, imported, bare, packaged, packaged_unless}
use Rattle.node_resolve.specs.Walks.{Goes}
use Rattle.node_resolve.proofs.Turns.{turn}
use Rattle.node_resolve.proofs.Walking.{goes_nowhere, goes_as}

-- ---- the target of a map

module _ (m : Moment) (n : List (List ℕ)) (form : Form) (table : Table) (map : Json) (key : List ℕ) where
  goes_to_target : (behind : Result Target TargetFault → Candidates) (answer : Result Target TargetFault) → Answers form table map key answer → Goes m m n n (target form table map key behind) (behind answer)
  goes_to_target behind answer is = record {
    files = (goes_nowhere m n (behind answer)).files;
    asked = [];
    noted = sym (append-nil n);
    asks = sym (append-nil m.look.asks);
    made = record { files = sym (append-nil m.files.asks); kept = sym (append-nil m.look.kept) };
    leads = λ told. by_target answer is there;
  }

  -- `asked` is the key as the call had it
  pub goes_by_map : (owner : Package) (bare : List ℕ → Candidates) (asked : List ℕ) (aim other : Aim) → asked ≡ key → ((answer : Result Target TargetFault) × Answers form table map asked answer × (aim ≡ aim_of owner answer)) → aim ≡ other
      → Goes m m n n (by_map form table owner map key bare) (follow bare other)
  goes_by_map owner bare asked aim other same found is =
      goes_as m m n n (by_map form table owner map key bare) (follow bare (aim_of owner found.0)) (follow bare other) (ap (follow bare) (sym found.2 ∙ is))
      (goes_to_target (λ answer. follow bare (aim_of owner answer)) found.0 (subst (λ k. Answers form table map k found.0) same found.1))

-- ---- a file with no search

pub no_place : (bare : List ℕ → Candidates) (place : Option (List ℕ)) → place ≡ None → no_file ≡ follow bare (File place)
no_place bare place is = ap (λ p. follow bare (File p)) (sym is)

module _ (m0 m1 : Moment) (n0 n1 : List (List ℕ)) (bare : List ℕ → Candidates) (place : Option (List ℕ)) (path : List ℕ) (there : Bool) (is : place ≡ Some path) (asked : Goes m0 m1 n0 n1 (file path (decided (Ok path)) no_file) (if there then decided (Ok path) else no_file)) where
  at_place : (end : Candidates) → (if there then decided (Ok path) else no_file) ≡ end → Goes m0 m1 n0 n1 (follow bare (File place)) end
  at_place end e = subst (λ p. Goes m0 m1 n0 n1 (follow bare (File p)) end) (sym is) (goes_as m0 m1 n0 n1 _ _ end e asked)

  pub file_there : there ≡ true → Goes m0 m1 n0 n1 (follow bare (File place)) (decided (Ok path))
  file_there e = at_place (decided (Ok path)) (ap (λ b. if b then decided (Ok path) else no_file) e)

  pub no_file_there : there ≡ false → Goes m0 m1 n0 n1 (follow bare (File place)) no_file
  no_file_there e = at_place no_file (ap (λ b. if b then decided (Ok path) else no_file) e)

-- ---- the exports of a package

module _ (form : Form) (request : List ℕ) (next : Candidates) (owner : Option Package) where
  pub no_owner : owner ≡ None → next ≡ exported form request next owner
  no_owner is = ap (exported form request next) (sym is)

  pub no_exports : (nearest : Package) → owner ≡ Some nearest → exports_in nearest.manifest.exports ≡ None → next ≡ exported form request next owner
  no_exports nearest is none = ap (exported_if form request next nearest) (sym none) ∙ ap (exported form request next) (sym is)

  pub by_exports : (nearest : Package) (map : Json) → owner ≡ Some nearest → exports_in nearest.manifest.exports ≡ Some map → by_map form Exports nearest map (key_of request) no_bare ≡ exported form request next owner
  by_exports nearest map is some = ap (exported_if form request next nearest) (sym some) ∙ ap (exported form request next) (sym is)

-- ---- the packages of some folders

pub at_folder : (form : Form) (request : List ℕ) (folders : List (List ℕ)) (i : ℕ) (folder : List ℕ) → folder ≡ get_or folders i folder → i < length folders
    → packaged form request (drop i folders) ≡ packaged_unless form request (packaged form request (drop (i + 1) folders)) folder
at_folder form request folders i folder is less = ap (packaged form request) (turn folders i folder is less)

-- ---- the imports of a package

module _ (form : Form) (request : List ℕ) (owner : Option Package) where
  pub no_importer : owner ≡ None → decided (Err NotExported) ≡ imported form request owner
  no_importer is = ap (imported form request) (sym is)

  pub no_imports : (nearest : Package) → owner ≡ Some nearest → nearest.manifest.imports ≡ None → decided (Err NotExported) ≡ imported form request owner
  no_imports nearest is none = ap (imported_if form request nearest) (sym none) ∙ ap (imported form request) (sym is)

  pub by_imports : (nearest : Package) (map : Json) → owner ≡ Some nearest → nearest.manifest.imports ≡ Some map → by_map form Imports nearest map request (bare form nearest.folder) ≡ imported form request owner
  by_imports nearest map is some = ap (imported_if form request nearest) (sym some) ∙ ap (imported form request) (sym is)

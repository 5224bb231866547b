-- A request leads only to a path at which a file stands.
use Rattle.std.proofs.Common.{◌≡◌, ℕ, Bool, true, false, List, [], ◌∷◌, ◌++◌, Option, None, Some, Result, Ok, Err, is_some, refl, sym, ap, subst, if◌then◌else◌}
use Rattle.pk_base.specs.FileTree.{FileTree}
use Rattle.pk_base.specs.Paths.{joined}
use Rattle.pk_types.specs.declared.form.Form.{Form}
use Rattle.pkg_manifest.specs.declared.value.Json.{Json}
use Rattle.pkg_exports.specs.declared.answer.Table.{Table}
use Rattle.pkg_exports.specs.declared.answer.Target.{Target}
use Rattle.pkg_exports.specs.declared.answer.TargetFault.{TargetFault}
use Rattle.node_resolve.specs.declared.aim.Aim.{Aim}
use Rattle.node_resolve.specs.declared.aim.Aim.TheVariants as aim
use Rattle.node_resolve.specs.declared.answer.Why.{Why}
use Rattle.node_resolve.specs.declared.sight.Sight.{Sight}
use Rattle.node_resolve.specs.declared.sight.Sight.TheVariants.{Absent, Bad, Says}
use Rattle.node_resolve.specs.declared.sight.Package.{Package}
use Rattle.node_resolve.specs.declared.request.RequestKind.{RequestKind}
use Rattle.node_resolve.specs.declared.request.RequestKind.TheVariants as kind
use Rattle.node_resolve.specs.Aims.{aim_of, follow, by_map}
use Rattle.node_resolve.specs.Candidates.{Candidates, End, resolved, scoped, file, manifest, target, ends, decided, Leads, there, by_file, by_manifest, by_target}
use Rattle.node_resolve.specs.Folders.{holds_packages, outward}
use Rattle.node_resolve.specs.Places.{file_paths, folder_paths}
use Rattle.node_resolve.specs.Requests.{kind_of, names_folder, is_scope_alone, name_of}
use Rattle.node_resolve.specs.Resolution as spec
use Rattle.node_resolve.proofs.Agreeing.{one_end}

-- what an end says, where it is a file
abbrev file_in : End → Option (List ℕ)
file_in (resolved (Ok path)) = Some path
file_in (resolved (Err why)) = None
file_in (scoped scope) = None

module _ (t : FileTree) where
  -- a file stands at each path that the tree leads to from some candidates
  Sound : Candidates → Type 0
  Sound from = (path : List ℕ) (asked : List (List ℕ)) → Leads t (decided (Ok path)) from asked → (bytes : List ℕ) × (t path ≡ Some bytes)

  file_at_end : (end : End) (path : List ℕ) (asked : List (List ℕ)) → Leads t (decided (Ok path)) (ends end) asked → Some path ≡ file_in end
  file_at_end end path asked h = ap file_in (one_end t (resolved (Ok path)) end (ends end) asked [] h there).0

  by_end : (end : End) → file_in end ≡ None → Sound (ends end)
  unfolding Sound
  by_end end none path asked h = let same = file_at_end end path asked h in absurd cc

  refused : (why : Why) → Sound (decided (Err why))
  refused why = by_end (resolved (Err why)) refl

  behind_file : (end : End) (path : List ℕ) (where_there where_absent : Candidates) (asked : List (List ℕ)) → Leads t (ends end) (file path where_there where_absent) asked
      → (rest : List (List ℕ)) × Leads t (ends end) (if is_some (t path) then where_there else where_absent) rest
  behind_file end path where_there where_absent asked (by_file {rest = rest} h) = (rest, h)

  at_file : (path : List ℕ) (next : Candidates) → Sound next → Sound (file path (decided (Ok path)) next)
  unfolding Sound
  at_file path next sound found asked h =
      let step = behind_file (resolved (Ok found)) path (decided (Ok path)) next asked h in
      by (t path) refl step.0 step.1
    where
      by : (held : Option (List ℕ)) → t path ≡ held → (rest : List (List ℕ)) → Leads t (decided (Ok found)) (if is_some held then decided (Ok path) else next) rest
          → (bytes : List ℕ) × (t found ≡ Some bytes)
      by None e rest g = sound found rest g
      by (Some bytes) e rest g =
          let same = file_at_end (resolved (Ok path)) found rest g in
          (bytes, subst (λ p. t p ≡ Some bytes) (same_path (sym same)) e)
        where
          same_path : Some path ≡ Some found → path ≡ found
          same_path again = cc

  at_manifest : (path : List ℕ) (behind : Sight → Candidates) → ((sight : Sight) → Sound (behind sight)) → Sound (manifest path behind)
  unfolding Sound
  at_manifest path behind sound found asked (by_manifest {rest = rest} sight is h) = sound sight found rest h

  at_target : (form : Form) (table : Table) (map : Json) (key : List ℕ) (behind : Result Target TargetFault → Candidates) → ((answer : Result Target TargetFault) → Sound (behind answer))
      → Sound (target form table map key behind)
  unfolding Sound
  at_target form table map key behind sound found asked (by_target answer is h) = sound answer found asked h

  either : (b : Bool) (where_there where_absent : Candidates) → Sound where_there → Sound where_absent → Sound (if b then where_there else where_absent)
  either true where_there where_absent one other = one
  either false where_there where_absent one other = other

  -- ---- manifests, files and folders

  by_sight : (behind : Option Package → Candidates) (folder path : List ℕ) → ((owner : Option Package) → Sound (behind owner)) → (sight : Sight)
      → Sound (spec.by_sight spec.bad_manifest behind folder path sight)
  by_sight behind folder path sound Absent = sound None
  by_sight behind folder path sound Bad = by_end (spec.bad_manifest path) refl
  by_sight behind folder path sound (Says said) = sound (Some (record { folder = folder; path = path; manifest = said }))

  manifest_at : (behind : Option Package → Candidates) (folder : List ℕ) → ((owner : Option Package) → Sound (behind owner)) → (path : Option (List ℕ))
      → Sound (spec.manifest_at spec.bad_manifest behind folder path)
  manifest_at behind folder sound None = sound None
  manifest_at behind folder sound (Some path) = at_manifest path (spec.by_sight spec.bad_manifest behind folder path) (by_sight behind folder path sound)

  manifest_in : (behind : Option Package → Candidates) (folder : List ℕ) → ((owner : Option Package) → Sound (behind owner)) → Sound (spec.manifest_in spec.bad_manifest behind folder)
  manifest_in behind folder sound = manifest_at behind folder sound _

  or_else : (behind : Option Package → Candidates) (next : Candidates) → ((owner : Option Package) → Sound (behind owner)) → Sound next → (owner : Option Package)
      → Sound (spec.or_else behind next owner)
  or_else behind next sound rest None = rest
  or_else behind next sound rest (Some owner) = sound (Some owner)

  nearest : (behind : Option Package → Candidates) → ((owner : Option Package) → Sound (behind owner)) → (folders : List (List ℕ)) → Sound (spec.nearest spec.bad_manifest behind folders)
  nearest behind sound [] = sound None
  nearest behind sound (folder ∷ folders) =
      either (holds_packages folder) (behind None) (spec.manifest_in spec.bad_manifest (spec.or_else behind (spec.nearest spec.bad_manifest behind folders)) folder) (sound None)
      (manifest_in (spec.or_else behind (spec.nearest spec.bad_manifest behind folders)) folder
      (or_else behind (spec.nearest spec.bad_manifest behind folders) sound (nearest behind sound folders)))

  files : (paths : List (List ℕ)) (next : Candidates) → Sound next → Sound (spec.files paths next)
  files [] next sound = sound
  files (path ∷ paths) next sound = at_file path (spec.files paths next) (files paths next sound)

  as_folder : (path : List ℕ) (next : Candidates) → Sound next → Sound (spec.as_folder path next)
  as_folder path next sound = manifest_in (λ owner. spec.files (folder_paths path owner) next) path (λ owner. files (folder_paths path owner) next sound)

  as_both : (path : List ℕ) (next : Candidates) → Sound next → Sound (spec.as_both path next)
  as_both path next sound = files (file_paths path) (spec.as_folder path next) (as_folder path next sound)

  as_either : (path : Option (List ℕ)) (next : Candidates) → Sound next → Sound (spec.as_either path next)
  as_either None next sound = sound
  as_either (Some path) next sound = as_both path next sound

  no_file : Sound spec.no_file
  no_file = refused _

  relative_at : (folder : Bool) (path : Option (List ℕ)) → Sound (spec.relative_at folder path)
  relative_at folder None = no_file
  relative_at folder (Some path) = either folder (spec.as_folder path spec.no_file) (spec.as_both path spec.no_file) (as_folder path spec.no_file no_file) (as_both path spec.no_file no_file)

  -- ---- packages

  followed : (bare : List ℕ → Candidates) → ((text : List ℕ) → Sound (bare text)) → (one : Aim) → Sound (follow bare one)
  followed bare sound (aim.File None) = refused _
  followed bare sound (aim.File (Some path)) = at_file path (decided (Err _)) (refused _)
  followed bare sound (aim.Bare text) = sound text
  followed bare sound (aim.Ended reason) = refused reason

  mapped : (form : Form) (table : Table) (owner : Package) (map : Json) (key : List ℕ) (bare : List ℕ → Candidates) → ((text : List ℕ) → Sound (bare text))
      → Sound (by_map form table owner map key bare)
  mapped form table owner map key bare sound = at_target form table map key (λ answer. follow bare (aim_of owner answer)) (λ answer. followed bare sound (aim_of owner answer))

  exported_if : (form : Form) (request : List ℕ) (next : Candidates) (owner : Package) → Sound next → (map : Option Json) → Sound (spec.exported_if form request next owner map)
  exported_if form request next owner sound None = sound
  exported_if form request next owner sound (Some map) = mapped form _ owner map _ spec.no_bare (λ text. refused _)

  exported : (form : Form) (request : List ℕ) (next : Candidates) → Sound next → (owner : Option Package) → Sound (spec.exported form request next owner)
  exported form request next sound None = sound
  exported form request next sound (Some owner) = exported_if form request next owner sound (spec.exports_in owner.manifest.exports)

  packaged_at : (form : Form) (request : List ℕ) (next : Candidates) → Sound next → (folder : Option (List ℕ)) → Sound (spec.packaged_at form request next folder)
  packaged_at form request next sound None = sound
  packaged_at form request next sound (Some folder) = manifest_in (spec.exported form request next) folder (exported form request next sound)

  packaged_in : (form : Form) (request : List ℕ) (next : Candidates) (folder : List ℕ) → Sound next → Sound (spec.packaged_in form request next folder)
  packaged_in form request next folder sound =
      packaged_at form request (spec.as_either (joined folder (spec.packages_name ++ request)) next)
      (as_either (joined folder (spec.packages_name ++ request)) next sound) (joined folder (spec.packages_name ++ name_of request))

  packaged : (form : Form) (request : List ℕ) (folders : List (List ℕ)) → Sound (spec.packaged form request folders)
  packaged form request [] = no_file
  packaged form request (folder ∷ folders) =
      either (holds_packages folder) (spec.packaged form request folders) (spec.packaged_in form request (spec.packaged form request folders) folder) (packaged form request folders)
      (packaged_in form request (spec.packaged form request folders) folder (packaged form request folders))

  itself : (form : Form) (request : List ℕ) (next : Candidates) → Sound next → (owner : Option Package) → Sound (spec.itself form request next owner)
  itself form request next sound owner = either (spec.has_name (name_of request) owner) (spec.exported form request next owner) next (exported form request next sound owner) sound

  bare : (form : Form) (folder request : List ℕ) → Sound (spec.bare form folder request)
  bare form folder request =
      either (is_scope_alone request) spec.no_file
      (spec.nearest spec.bad_manifest (spec.itself form request (spec.packaged form request (outward folder))) (outward folder)) no_file
      (nearest (spec.itself form request (spec.packaged form request (outward folder)))
      (itself form request (spec.packaged form request (outward folder)) (packaged form request (outward folder))) (outward folder))

  imported_if : (form : Form) (request : List ℕ) (owner : Package) → (map : Option Json) → Sound (spec.imported_if form request owner map)
  imported_if form request owner None = refused _
  imported_if form request owner (Some map) = mapped form _ owner map request (spec.bare form owner.folder) (bare form owner.folder)

  imported : (form : Form) (request : List ℕ) (owner : Option Package) → Sound (spec.imported form request owner)
  imported form request None = refused _
  imported form request (Some owner) = imported_if form request owner owner.manifest.imports

  of_kind : (form : Form) (folder request : List ℕ) (one : RequestKind) → Sound (spec.of_kind form folder request one)
  of_kind form folder request kind.Relative = relative_at (names_folder request) (joined folder request)
  of_kind form folder request kind.Nowhere = no_file
  of_kind form folder request kind.BadImport = refused _
  of_kind form folder request kind.Import = nearest (spec.imported form request) (imported form request) (outward folder)
  of_kind form folder request kind.Bare = bare form folder request

  sound_candidates : (form : Form) (folder request : List ℕ) → Sound (spec.candidates form folder request)
  sound_candidates form folder request = of_kind form folder request (kind_of request)

  pub file_stands : (form : Form) (folder request path : List ℕ) (asked : List (List ℕ)) → Leads t (decided (Ok path)) (spec.candidates form folder request) asked
      → (bytes : List ℕ) × (t path ≡ Some bytes)
  unfolding Sound
  file_stands form folder request path asked h = sound_candidates form folder request path asked h

-- What a request is resolved to in a tree, and which paths are asked for it.
use Rattle.std.specs.Prelude.{ℕ, Bool, false, List, [], ◌∷◌, ◌++◌, codes, Option, None, Some, Ok, Err, if◌then◌else◌}
use Rattle.pk_base.specs.FileTree.{FileTree}
use Rattle.pk_base.specs.Paths.{joined}
use Rattle.pk_types.specs.declared.form.Form.{Form}
use Rattle.pkg_manifest.specs.declared.package.Manifest.{Manifest}
use Rattle.pkg_manifest.specs.declared.value.Json.{Json, out-Json}
use Rattle.pkg_manifest.specs.declared.value.Json.TheOpen.{Json-F}
use Rattle.pkg_manifest.specs.Fields.{is_text}
use Rattle.pkg_exports.specs.declared.answer.Table.TheVariants.{Exports, Imports}
use Rattle.node_resolve.specs.declared.sight.Sight.{Sight}
use Rattle.node_resolve.specs.declared.sight.Sight.TheVariants.{Absent, Bad, Says}
use Rattle.node_resolve.specs.declared.sight.Package.{Package}
use Rattle.node_resolve.specs.declared.request.RequestKind.{RequestKind}
use Rattle.node_resolve.specs.declared.request.RequestKind.TheVariants.{Relative, Nowhere, Import, BadImport, Bare}
use Rattle.node_resolve.specs.declared.answer.Why.TheVariants.{NoFile, NotExported, BadTarget, BadManifest}
use Rattle.node_resolve.specs.Aims.{by_map}
use Rattle.node_resolve.specs.Candidates.{Candidates, End, Scope, Verdict, resolved, scoped, file, manifest, ends, decided, Leads}
use Rattle.node_resolve.specs.Folders.{holds_packages, outward}
use Rattle.node_resolve.specs.Places.{file_paths, folder_paths}
use Rattle.node_resolve.specs.Present.{present}
use Rattle.node_resolve.specs.Requests.{kind_of, names_folder, is_scope_alone, name_of, key_of}

-- ---- manifests on the way

abbrev package_in : List ℕ → List ℕ → Manifest → Package
package_in folder path said = record { folder = folder; path = path; manifest = said }

-- behind a manifest: a bad one ends the search
abbrev pub by_sight : (List ℕ → End) → (Option Package → Candidates) → List ℕ → List ℕ → Sight → Candidates
by_sight bad behind folder path Absent = behind None
by_sight bad behind folder path Bad = ends (bad path)
by_sight bad behind folder path (Says said) = behind (Some (package_in folder path said))

abbrev pub manifest_at : (List ℕ → End) → (Option Package → Candidates) → List ℕ → Option (List ℕ) → Candidates
manifest_at bad behind folder None = behind None
manifest_at bad behind folder (Some path) = manifest path (by_sight bad behind folder path)

-- the manifest in a folder
abbrev pub manifest_in : (List ℕ → End) → (Option Package → Candidates) → List ℕ → Candidates
manifest_in bad behind folder = manifest_at bad behind folder (joined folder (codes "package.json"))

-- a manifest that is there, and else what comes next
abbrev pub or_else : (Option Package → Candidates) → Candidates → Option Package → Candidates
or_else behind next None = next
or_else behind next (Some owner) = behind (Some owner)

-- the nearest manifest: the first in these folders, of which one named `node_modules` ends the search with none
abbrev pub nearest : (List ℕ → End) → (Option Package → Candidates) → List (List ℕ) → Candidates
nearest bad behind [] = behind None
nearest bad behind (folder ∷ folders) = if holds_packages folder then behind None else manifest_in bad (or_else behind (nearest bad behind folders)) folder

-- ---- files and folders

abbrev pub bad_manifest : List ℕ → End
bad_manifest path = resolved (Err (BadManifest path))

-- the first of these paths that is a file, and else what comes next
abbrev pub files : List (List ℕ) → Candidates → Candidates
files [] next = next
files (path ∷ paths) next = file path (decided (Ok path)) (files paths next)

abbrev pub as_file : List ℕ → Candidates → Candidates
as_file path next = files (file_paths path) next

abbrev pub as_folder : List ℕ → Candidates → Candidates
as_folder path next = manifest_in bad_manifest (λ owner. files (folder_paths path owner) next) path

abbrev pub as_both : List ℕ → Candidates → Candidates
as_both path next = as_file path (as_folder path next)

abbrev pub as_either : Option (List ℕ) → Candidates → Candidates
as_either None next = next
as_either (Some path) next = as_both path next

abbrev pub no_file : Candidates
no_file = decided (Err NoFile)

abbrev pub relative_at : Bool → Option (List ℕ) → Candidates
relative_at folder None = no_file
relative_at folder (Some path) = if folder then as_folder path no_file else as_both path no_file

abbrev pub relative : List ℕ → List ℕ → Candidates
relative folder request = relative_at (names_folder request) (joined folder request)

-- ---- packages

abbrev stated : Json → Json-F Json → Option Json
stated j Json-F.Null = None
stated j (Json-F.Bool b) = Some j
stated j Json-F.Number = Some j
stated j (Json-F.Text s) = Some j
stated j (Json-F.List js) = Some j
stated j (Json-F.Object ms) = Some j

-- `exports`, where it is there and not null
abbrev pub exports_in : Option Json → Option Json
exports_in None = None
exports_in (Some j) = stated j (out-Json j)

-- no map of exports has a bare target
abbrev pub no_bare : List ℕ → Candidates
no_bare text = decided (Err BadTarget)

-- the exports of a package decide, where it has some
abbrev pub exported_if : Form → List ℕ → Candidates → Package → Option Json → Candidates
exported_if form request next owner None = next
exported_if form request next owner (Some map) = by_map form Exports owner map (key_of request) no_bare

abbrev pub exported : Form → List ℕ → Candidates → Option Package → Candidates
exported form request next None = next
exported form request next (Some owner) = exported_if form request next owner (exports_in owner.manifest.exports)

abbrev pub packages_name : List ℕ
packages_name = codes "node_modules/"

-- the package beneath `node_modules` of a folder
abbrev pub packaged_at : Form → List ℕ → Candidates → Option (List ℕ) → Candidates
packaged_at form request next None = next
packaged_at form request next (Some folder) = manifest_in bad_manifest (exported form request next) folder

abbrev pub packaged_in : Form → List ℕ → Candidates → List ℕ → Candidates
packaged_in form request next folder = packaged_at form request (as_either (joined folder (packages_name ++ request)) next) (joined folder (packages_name ++ name_of request))

abbrev pub packaged_unless : Form → List ℕ → Candidates → List ℕ → Candidates
packaged_unless form request next folder = if holds_packages folder then next else packaged_in form request next folder

-- the packages of these folders, from the first on
abbrev pub packaged : Form → List ℕ → List (List ℕ) → Candidates
packaged form request [] = no_file
packaged form request (folder ∷ folders) = packaged_unless form request (packaged form request folders) folder

abbrev pub has_name : List ℕ → Option Package → Bool
has_name name None = false
has_name name (Some owner) = is_text name owner.manifest.name

-- the exports of the nearest package, where the request is by its own name
abbrev pub itself : Form → List ℕ → Candidates → Option Package → Candidates
itself form request next owner = if has_name (name_of request) owner then exported form request next owner else next

abbrev pub bare : Form → List ℕ → List ℕ → Candidates
bare form folder request =
    if is_scope_alone request then no_file
    else nearest bad_manifest (itself form request (packaged form request (outward folder))) (outward folder)

-- the imports of the nearest manifest decide
abbrev pub imported_if : Form → List ℕ → Package → Option Json → Candidates
imported_if form request owner None = decided (Err NotExported)
imported_if form request owner (Some map) = by_map form Imports owner map request (bare form owner.folder)

abbrev pub imported : Form → List ℕ → Option Package → Candidates
imported form request None = decided (Err NotExported)
imported form request (Some owner) = imported_if form request owner owner.manifest.imports

-- ---- the whole

abbrev pub of_kind : Form → List ℕ → List ℕ → RequestKind → Candidates
of_kind form folder request Relative = relative folder request
of_kind form folder request Nowhere = no_file
of_kind form folder request BadImport = decided (Err BadTarget)
of_kind form folder request Import = nearest bad_manifest (imported form request) (outward folder)
of_kind form folder request Bare = bare form folder request

-- the candidates for a request from a folder
abbrev pub candidates : Form → List ℕ → List ℕ → Candidates
candidates form folder request = of_kind form folder request (kind_of request)

-- a request has this answer in the tree, and these paths are asked for it, in order
abbrev pub Resolves : FileTree → List ℕ → List ℕ → Form → Verdict → List (List ℕ) → Type 0
Resolves t folder request form answer asked = Leads (present t) (decided answer) (candidates form folder request) asked

-- ---- the scope of a folder

abbrev pub bad_scope : List ℕ → End
bad_scope path = scoped (Err path)

abbrev pub scope_with : Option Package → Scope
scope_with None = Ok None
scope_with (Some owner) = Ok (Some (owner.folder, owner.manifest))

abbrev pub scopes : List ℕ → Candidates
scopes folder = nearest bad_scope (λ owner. ends (scoped (scope_with owner))) (outward folder)

-- this is the folder's nearest manifest with its folder, or the bad one in its place
abbrev pub IsScope : FileTree → List ℕ → Scope → List (List ℕ) → Type 0
IsScope t folder scope asked = Leads (present t) (ends (scoped scope)) (scopes folder) asked

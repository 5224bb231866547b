-- What a site names, and which sites a module of a kind may have.
use Rattle.std.specs.Prelude.{ℕ, List, [], ◌∷◌, Bool, true, false}
use Rattle.pk_types.specs.declared.facts.Ref.{Ref}
use Rattle.pk_types.specs.declared.facts.Ref.TheVariants as ref
use Rattle.pk_types.specs.declared.facts.SiteKind.{SiteKind}
use Rattle.pk_types.specs.declared.facts.SiteKind.TheVariants.{Init, Read, Write, Member, Space, Require, Import}

abbrev pub ref_bindings : Ref → List ℕ
ref_bindings (ref.Own binding) = binding ∷ []
ref_bindings (ref.Imported entry) = []

abbrev pub ref_imports : Ref → List ℕ
ref_imports (ref.Own binding) = []
ref_imports (ref.Imported entry) = entry ∷ []

-- the bindings that a site names
abbrev pub site_bindings : SiteKind → List ℕ
site_bindings (Init binding) = binding ∷ []
site_bindings (Read named) = ref_bindings named
site_bindings (Write named) = ref_bindings named
site_bindings (Member request name) = []
site_bindings (Space request) = []
site_bindings (Require request) = []
site_bindings (Import request) = []

-- the imports that a site names
abbrev pub site_imports : SiteKind → List ℕ
site_imports (Init binding) = []
site_imports (Read named) = ref_imports named
site_imports (Write named) = ref_imports named
site_imports (Member request name) = []
site_imports (Space request) = []
site_imports (Require request) = []
site_imports (Import request) = []

-- the requests whose namespace a site uses
abbrev pub space_requests : SiteKind → List ℕ
space_requests (Init binding) = []
space_requests (Read named) = []
space_requests (Write named) = []
space_requests (Member request name) = request ∷ []
space_requests (Space request) = request ∷ []
space_requests (Require request) = []
space_requests (Import request) = []

-- the requests that a site calls for
abbrev pub called_requests : SiteKind → List ℕ
called_requests (Init binding) = []
called_requests (Read named) = []
called_requests (Write named) = []
called_requests (Member request name) = []
called_requests (Space request) = []
called_requests (Require request) = request ∷ []
called_requests (Import request) = request ∷ []

abbrev pub is_require : SiteKind → Bool
is_require (Init binding) = false
is_require (Read named) = false
is_require (Write named) = false
is_require (Member request name) = false
is_require (Space request) = false
is_require (Require request) = true
is_require (Import request) = false

-- a site that calls for a module: `require` or `import()`
abbrev pub is_call : SiteKind → Bool
is_call (Init binding) = false
is_call (Read named) = false
is_call (Write named) = false
is_call (Member request name) = false
is_call (Space request) = false
is_call (Require request) = true
is_call (Import request) = true

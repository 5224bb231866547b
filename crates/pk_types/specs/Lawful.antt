-- What a module of each kind may have in its facts.
use Rattle.std.specs.Prelude.{◌≡◌, ℕ, List, [], map, nat_eq, false, IsSome, IsTrue, slice_get, IfSome}
use Rattle.std.specs.List.{All, Contains, IsDistinct}
use Rattle.std.specs.Str.{bytes_eq}
use Rattle.pk_types.specs.declared.form.Form.TheVariants as form
use Rattle.pk_types.specs.declared.facts.Kind.{Kind}
use Rattle.pk_types.specs.declared.facts.Kind.TheVariants.{Es, Cjs, Json}
use Rattle.pk_types.specs.declared.facts.Facts.{Facts}
use Rattle.pk_types.specs.Origins.{origin_requests}
use Rattle.pk_types.specs.Sites.{site_imports, space_requests, is_require, is_call}

-- the request that stands at a place of the facts is an `import`
abbrev pub IsImported : Facts → ℕ → Type 0
IsImported facts place = IfSome (slice_get facts.requests place) (λ request. request.form ≡ form.Import)

-- the import that stands at a place of the facts has a name
abbrev pub IsNamed : Facts → ℕ → Type 0
IsNamed facts place = IfSome (slice_get facts.imports place) (λ entry. IsSome entry.name)

-- each request of the list stands in the order of the declarations
abbrev pub AreOrdered : Facts → List ℕ → Type 0
AreOrdered facts requests = All (Contains facts.order) requests

-- A module of ECMAScript declares what it imports and exports from, all but `import()`, and has no `require`.
pub record IsLawfulEs (facts : Facts) : Type 0 where
  pub order : All (IsImported facts) facts.order
  pub imports : All (λ entry. Contains facts.order entry.request) facts.imports
  pub exports : All (λ entry. AreOrdered facts (origin_requests entry.origin)) facts.exports
  pub stars : AreOrdered facts facts.stars
  pub spaces : All (λ site. AreOrdered facts (space_requests site.kind)) facts.sites
  pub names : All (λ site. All (IsNamed facts) (site_imports site.kind)) facts.sites
  pub calls : All (λ site. is_require site.kind ≡ false) facts.sites

-- A module of CommonJS declares nothing, and its sites call for modules.
pub record IsLawfulCjs (facts : Facts) : Type 0 where
  pub order : facts.order ≡ []
  pub imports : facts.imports ≡ []
  pub exports : facts.exports ≡ []
  pub stars : facts.stars ≡ []
  pub calls : All (λ site. IsTrue (is_call site.kind)) facts.sites

-- A JSON module has nothing.
pub record IsLawfulJson (facts : Facts) : Type 0 where
  pub requests : facts.requests ≡ []
  pub order : facts.order ≡ []
  pub imports : facts.imports ≡ []
  pub exports : facts.exports ≡ []
  pub stars : facts.stars ≡ []
  pub bindings : facts.bindings ≡ []
  pub sites : facts.sites ≡ []
  pub free : facts.free ≡ []
  pub inner : facts.inner ≡ []

abbrev pub IsLawfulAs : Kind → Facts → Type 0
IsLawfulAs Es facts = IsLawfulEs facts
IsLawfulAs Cjs facts = IsLawfulCjs facts
IsLawfulAs Json facts = IsLawfulJson facts

-- no two bindings and no two exports have one name, no request is ordered twice, and all is as the kind allows
pub record IsLawful (facts : Facts) : Type 0 where
  pub bindings : IsDistinct bytes_eq (map (λ binding. binding.name) facts.bindings)
  pub exports : IsDistinct bytes_eq (map (λ entry. entry.name) facts.exports)
  pub order : IsDistinct nat_eq facts.order
  pub kind : IsLawfulAs facts.kind facts

-- Modules that only export.
use Rattle.std.specs.Prelude.{ℕ, ◌<◌, List, []}
use Rattle.pk_types.specs.declared.facts.Binding.{Binding}
use Rattle.pk_types.specs.declared.facts.ExportEntry.{ExportEntry}
use Rattle.pk_types.specs.declared.facts.Facts.{Facts}
use Rattle.pk_types.specs.declared.facts.Kind.{Kind}
use Rattle.pk_types.specs.declared.facts.Origin.{Origin}
use Rattle.pk_types.specs.declared.facts.Origin.TheVariants.{Own, Other, Space}
use Rattle.pk_types.specs.declared.facts.Request.{Request}

-- the facts of a module without imports, sites and names besides its bindings
abbrev pub exporting : Kind → List Request → List ℕ → List ExportEntry → List ℕ → List Binding → Facts
exporting kind requests order exports stars bindings = record {
  kind = kind;
  requests = requests;
  order = order;
  imports = [];
  exports = exports;
  stars = stars;
  bindings = bindings;
  sites = [];
  free = [];
  inner = [];
}

-- the request or the binding that the origin names is below the count of them
abbrev pub IsInPlace : ℕ → ℕ → Origin → Type 0
IsInPlace requests bindings (Own binding) = binding < bindings
IsInPlace requests bindings (Other request name) = request < requests
IsInPlace requests bindings (Space request) = request < requests

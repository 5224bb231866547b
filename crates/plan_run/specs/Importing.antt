-- The facts of an ECMAScript module that only imports, without bindings.
use Rattle.std.specs.Prelude.{ℕ, List, []}
use Rattle.pk_types.specs.declared.facts.Facts.{Facts}
use Rattle.pk_types.specs.declared.facts.Kind.TheVariants.{Es}
use Rattle.pk_types.specs.declared.facts.Request.{Request}

abbrev pub importing : List Request → List ℕ → Facts
importing requests order = record {
  kind = Es;
  requests = requests;
  order = order;
  imports = [];
  exports = [];
  stars = [];
  bindings = [];
  sites = [];
  free = [];
  inner = [];
}

-- The facts of a CommonJS module that only asks for others.
use Rattle.std.specs.Prelude.{List, []}
use Rattle.pk_types.specs.declared.facts.Facts.{Facts}
use Rattle.pk_types.specs.declared.facts.Kind.TheVariants.{Cjs}
use Rattle.pk_types.specs.declared.facts.Request.{Request}

abbrev pub requiring : List Request → Facts
requiring requests = record {
  kind = Cjs;
  requests = requests;
  order = [];
  imports = [];
  exports = [];
  stars = [];
  bindings = [];
  sites = [];
  free = [];
  inner = [];
}

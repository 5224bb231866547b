-- The facts of a module of which the kind alone is known.
use Rattle.std.specs.Prelude.{[]}
use Rattle.pk_types.specs.declared.facts.Facts.{Facts}
use Rattle.pk_types.specs.declared.facts.Kind.{Kind}

-- facts without an item
abbrev pub no_facts : Kind → Facts
no_facts kind = record {
  kind = kind;
  requests = [];
  order = [];
  imports = [];
  exports = [];
  stars = [];
  bindings = [];
  sites = [];
  free = [];
  inner = [];
}

-- Facts without an item fit, whatever the kind.
use Rattle.std.proofs.Common.{[], refl, arith}
use Rattle.std.proofs.lemmas.List.Elements.{All-nil}
use Rattle.std.proofs.lemmas.Map.Keys.{IsDistinct-from_apart}
use Rattle.pk_types.specs.declared.facts.Kind.{Kind}
use Rattle.pk_types.specs.declared.facts.Kind.TheVariants.{Es, Cjs, Json}
use Rattle.pk_types.specs.Fitting.{AreFitting}
use Rattle.pk_types.specs.Lawful.{IsLawfulAs}
use Rattle.pk_types.specs.NoFacts.{no_facts}

none_lawful : (kind : Kind) → IsLawfulAs kind (no_facts kind)
none_lawful Es = record {
  order = All-nil _;
  imports = All-nil _;
  exports = All-nil _;
  stars = All-nil _;
  spaces = All-nil _;
  names = All-nil _;
  calls = All-nil _;
}
none_lawful Cjs = record { order = refl; imports = refl; exports = refl; stars = refl; calls = All-nil _ }
none_lawful Json = record {
  requests = refl;
  order = refl;
  imports = refl;
  exports = refl;
  stars = refl;
  bindings = refl;
  sites = refl;
  free = refl;
  inner = refl;
}

pub no_facts_fit : (kind : Kind) → AreFitting (no_facts kind)
no_facts_fit kind = record {
  places = record {
    order = All-nil _;
    stars = All-nil _;
    imports = All-nil _;
    export_requests = All-nil _;
    export_bindings = All-nil _;
    site_bindings = All-nil _;
    site_imports = All-nil _;
    site_spaces = All-nil _;
    site_calls = All-nil _;
  };
  lawful = record {
    bindings = IsDistinct-from_apart _ [] (λ i j d h k. absurd (omega arith));
    exports = IsDistinct-from_apart _ [] (λ i j d h k. absurd (omega arith));
    order = IsDistinct-from_apart _ [] (λ i j d h k. absurd (omega arith));
    kind = none_lawful kind;
  };
  short = record {
    requests = omega arith;
    order = omega arith;
    imports = omega arith;
    exports = omega arith;
    stars = omega arith;
    bindings = omega arith;
    sites = omega arith;
    free = omega arith;
    inner = omega arith;
  };
}

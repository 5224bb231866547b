use Rattle.std.proofs.Common.{◌<◌, ◌^◌, List, [], length, refl, All, arith}
use Rattle.std.proofs.lemmas.Map.Keys.{IsDistinct-from_apart}
use Rattle.pk_types.specs.declared.facts.Request.{Request}
use Rattle.pk_types.specs.Fitting.{AreFitting}
use Rattle.graph_tests.specs.Requiring.{requiring}

nothing : {A : Type 0} (P : A → Type 0) → All P []
nothing P = λ k d h. absurd (omega arith)

pub requiring_fits : (requests : List Request) → length requests < 2 ^ 32 → AreFitting (requiring requests)
requiring_fits requests short = record {
  places = record {
    order = nothing _;
    stars = nothing _;
    imports = nothing _;
    export_requests = nothing _;
    export_bindings = nothing _;
    site_bindings = nothing _;
    site_imports = nothing _;
    site_spaces = nothing _;
    site_calls = nothing _;
  };
  lawful = record {
    bindings = IsDistinct-from_apart _ [] (λ i j d h k. absurd (omega arith));
    exports = IsDistinct-from_apart _ [] (λ i j d h k. absurd (omega arith));
    order = IsDistinct-from_apart _ [] (λ i j d h k. absurd (omega arith));
    kind = record { order = refl; imports = refl; exports = refl; stars = refl; calls = nothing _ };
  };
  short = record {
    requests = short;
    order = omega arith;
    imports = omega arith;
    exports = omega arith;
    stars = omega arith;
    bindings = omega arith;
    sites = omega arith;
    free = omega arith;
    inner = omega arith;
  };
}

-- Modules that only import, without bindings, may stand in a graph.
use Rattle.std.proofs.Common.{◌≡◌, ℕ, zero, suc, ◌<◌, ◌≤◌, ◌^◌, Bool, true, false, nat_eq, List, [], ◌∷◌, length, slice_get, get_or, refl, sym, subst, arith}
use Rattle.std.specs.Prelude.{IfSome}
use Rattle.std.specs.List.{All, IsDistinct, range_with_len}
use Rattle.std.proofs.lemmas.List.Elements.{All-head, All-tail}
use Rattle.std.proofs.lemmas.List.FromFn.{length-range_with_len, get_or-range_with_len}
use Rattle.std.proofs.lemmas.Map.Keys.{IsDistinct-from_apart}
use Rattle.std.proofs.lemmas.Map.Views.{exact_unsigned_eq}
use Rattle.pk_types.specs.declared.facts.Request.{Request}
use Rattle.pk_types.specs.declared.form.Form.TheVariants as form
use Rattle.pk_types.specs.Fitting.{AreFitting}
use Rattle.pk_types.specs.Places.{ArePlacesIn}
use Rattle.plan_run.specs.Importing.{importing}

nothing : {A : Type 0} (P : A → Type 0) → All P []
nothing P = λ k d h. absurd (omega arith)

apart : (a b : ℕ) → a < b → nat_eq a b ≡ false
apart a b h = by (nat_eq a b) refl
  where
    by : (t : Bool) → nat_eq a b ≡ t → nat_eq a b ≡ false
    by true e = absurd (omega (arith, exact_unsigned_eq a b e))
    by false e = e

range_apart : (count : ℕ) → IsDistinct nat_eq (range_with_len 0 count)
range_apart count = IsDistinct-from_apart nat_eq (range_with_len 0 count) (λ i j d h l.
    let short : j < count = omega (arith, length-range_with_len 0 count) in
    apart (get_or (range_with_len 0 count) i d) (get_or (range_with_len 0 count) j d) (omega (arith, get_or-range_with_len 0 count i d (omega arith), get_or-range_with_len 0 count j d short)))

range_places : (requests : List Request) (count : ℕ) → count ≤ length requests → ArePlacesIn requests (range_with_len 0 count)
range_places requests count h = λ k d l.
    let short : k < count = omega (arith, length-range_with_len 0 count) in
    omega (arith, get_or-range_with_len 0 count k d short)

at_place : {A : Type 0} (P : A → Type 0) (items : List A) (place : ℕ) → All P items → IfSome (slice_get items place) P
at_place P [] place all = tt
at_place P (item ∷ items) zero all = All-head P item items all
at_place P (item ∷ items) (suc place) all = at_place P items place (All-tail P item items all)

range_fits : (requests : List Request) (count : ℕ) → length requests < 2 ^ 32 → All (λ request. request.form ≡ form.Import) requests → count ≤ length requests
    → AreFitting (importing requests (range_with_len 0 count))
range_fits requests count short imports few = record {
  places = record {
    order = range_places requests count few;
    stars = nothing _;
    imports = nothing _;
    export_requests = nothing _;
    export_bindings = nothing _;
    site_bindings = nothing _;
    site_imports = nothing _;
    site_spaces = nothing _;
    site_calls = nothing _;
  };
  lawful = record {
    bindings = IsDistinct-from_apart _ [] (λ i j d h k. absurd (omega arith));
    exports = IsDistinct-from_apart _ [] (λ i j d h k. absurd (omega arith));
    order = range_apart count;
    kind = record {
      order = λ k d h. at_place (λ request. request.form ≡ form.Import) requests (get_or (range_with_len 0 count) k d) imports;
      imports = nothing _;
      exports = nothing _;
      stars = nothing _;
      spaces = nothing _;
      names = nothing _;
      calls = nothing _;
    };
  };
  short = record {
    requests = short;
    order = omega (arith, length-range_with_len 0 count);
    imports = omega arith;
    exports = omega arith;
    stars = omega arith;
    bindings = omega arith;
    sites = omega arith;
    free = omega arith;
    inner = omega arith;
  };
}

pub importing_fits : (requests : List Request) (order : List ℕ) (count : ℕ) → length requests < 2 ^ 32 → All (λ request. request.form ≡ form.Import) requests
    → order ≡ range_with_len 0 count → count ≤ length requests → AreFitting (importing requests order)
importing_fits requests order count short imports is few = subst (λ l. AreFitting (importing requests l)) (sym is) (range_fits requests count short imports few)

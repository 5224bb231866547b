-- Modules that only export may stand in a graph.
use Rattle.std.proofs.Common.{◌≡◌, ℕ, zero, suc, ◌<◌, ◌^◌, Bool, true, false, nat_eq, List, [], ◌∷◌, length, map, slice_get, get_or, refl, sym, subst, arith}
use Rattle.std.specs.Prelude.{IfSome}
use Rattle.std.specs.List.{All, Contains, IsDistinct, range_with_len}
use Rattle.std.specs.Str.{bytes_eq}
use Rattle.std.proofs.lemmas.List.Elements.{All-cons, All-head, All-tail, All-weaker}
use Rattle.std.proofs.lemmas.List.FromFn.{length-range_with_len, get_or-range_with_len}
use Rattle.std.proofs.lemmas.Map.Keys.{IsDistinct-from_apart}
use Rattle.std.proofs.lemmas.Map.Views.{exact_unsigned_eq}
use Rattle.pk_types.specs.declared.facts.Binding.{Binding}
use Rattle.pk_types.specs.declared.facts.ExportEntry.{ExportEntry}
use Rattle.pk_types.specs.declared.facts.Facts.{Facts}
use Rattle.pk_types.specs.declared.facts.Kind.{Kind}
use Rattle.pk_types.specs.declared.facts.Kind.TheVariants.{Es}
use Rattle.pk_types.specs.declared.facts.Origin.{Origin}
use Rattle.pk_types.specs.declared.facts.Origin.TheVariants.{Own, Other, Space}
use Rattle.pk_types.specs.declared.facts.Request.{Request}
use Rattle.pk_types.specs.declared.form.Form.TheVariants as form
use Rattle.pk_types.specs.Fitting.{AreFitting}
use Rattle.pk_types.specs.Origins.{origin_requests, origin_bindings}
use Rattle.pk_types.specs.Places.{ArePlacesIn}
use Rattle.exports_run.specs.Exporting.{exporting, IsInPlace}

nothing : {A : Type 0} (P : A → Type 0) → All P []
nothing P = λ k d h. absurd (omega arith)

apart : (a b : ℕ) → a < b → nat_eq a b ≡ false
apart a b h = by (nat_eq a b) refl
  where
    by : (t : Bool) → nat_eq a b ≡ t → nat_eq a b ≡ false
    by true e = absurd (omega (arith, exact_unsigned_eq a b e))
    by false e = e

range_apart : (count : ℕ) → IsDistinct nat_eq (range_with_len 0 count)
range_apart count = IsDistinct-from_apart nat_eq (range_with_len 0 count) (λ i j d h l.
    let short : j < count = omega (arith, length-range_with_len 0 count) in
    apart (get_or (range_with_len 0 count) i d) (get_or (range_with_len 0 count) j d) (omega (arith, get_or-range_with_len 0 count i d (omega arith), get_or-range_with_len 0 count j d short)))

range_below : (count : ℕ) → All (λ number. number < count) (range_with_len 0 count)
range_below count = λ k d l.
    let short : k < count = omega (arith, length-range_with_len 0 count) in
    omega (arith, get_or-range_with_len 0 count k d short)

range_has : (count number : ℕ) → number < count → Contains (range_with_len 0 count) number
range_has count number h = (number, omega (arith, length-range_with_len 0 count), omega (arith, get_or-range_with_len 0 count number number h))

at_place : {A : Type 0} (P : A → Type 0) (items : List A) (place : ℕ) → All P items → IfSome (slice_get items place) P
at_place P [] place all = tt
at_place P (item ∷ items) zero all = All-head P item items all
at_place P (item ∷ items) (suc place) all = at_place P items place (All-tail P item items all)

requests_below : (requests bindings : ℕ) (origin : Origin) → IsInPlace requests bindings origin → All (λ number. number < requests) (origin_requests origin)
requests_below requests bindings (Own binding) h = nothing _
requests_below requests bindings (Other request name) h = All-cons (λ number. number < requests) request [] h (nothing _)
requests_below requests bindings (Space request) h = All-cons (λ number. number < requests) request [] h (nothing _)

bindings_below : (requests bindings : ℕ) (origin : Origin) → IsInPlace requests bindings origin → All (λ number. number < bindings) (origin_bindings origin)
bindings_below requests bindings (Own binding) h = All-cons (λ number. number < bindings) binding [] h (nothing _)
bindings_below requests bindings (Other request name) h = nothing _
bindings_below requests bindings (Space request) h = nothing _

below_same : {A : Type 0} (items : List A) (count : ℕ) (numbers : List ℕ) → length items ≡ count → All (λ number. number < count) numbers → ArePlacesIn items numbers
below_same items count numbers e all = subst (λ n. All (λ number. number < n) numbers) (sym e) all

below_ordered : (count : ℕ) (numbers : List ℕ) → All (λ number. number < count) numbers → All (Contains (range_with_len 0 count)) numbers
below_ordered count numbers all = All-weaker (λ number. number < count) (Contains (range_with_len 0 count)) (range_has count) numbers all

module _ (requests : List Request) (count : ℕ) (exports : List ExportEntry) (stars : List ℕ) (bindings : List Binding) where
  range_fits : length requests ≡ count → count < 2 ^ 32 → All (λ request. request.form ≡ form.Import) requests
      → All (λ entry. IsInPlace count (length bindings) entry.origin) exports → All (λ star. star < count) stars
      → IsDistinct bytes_eq (map (λ entry. entry.name) exports) → IsDistinct bytes_eq (map (λ binding. binding.name) bindings)
      → length exports < 2 ^ 32 → length stars < 2 ^ 32 → length bindings < 2 ^ 32
      → AreFitting (exporting Es requests (range_with_len 0 count) exports stars bindings)
  range_fits each few imports placed starred named bound short_exports short_stars short_bindings = record {
    places = record {
      order = below_same requests count _ each (range_below count);
      stars = below_same requests count _ each starred;
      imports = nothing _;
      export_requests = All-weaker _ _ (λ entry h. below_same requests count _ each (requests_below count (length bindings) entry.origin h)) exports placed;
      export_bindings = All-weaker _ _ (λ entry h. bindings_below count (length bindings) entry.origin h) exports placed;
      site_bindings = nothing _;
      site_imports = nothing _;
      site_spaces = nothing _;
      site_calls = nothing _;
    };
    lawful = record {
      bindings = bound;
      exports = named;
      order = range_apart count;
      kind = record {
        order = λ k d h. at_place (λ request. request.form ≡ form.Import) requests (get_or (range_with_len 0 count) k d) imports;
        imports = nothing _;
        exports = All-weaker _ _ (λ entry h. below_ordered count _ (requests_below count (length bindings) entry.origin h)) exports placed;
        stars = below_ordered count stars starred;
        spaces = nothing _;
        names = nothing _;
        calls = nothing _;
      };
    };
    short = record {
      requests = omega arith;
      order = omega (arith, length-range_with_len 0 count);
      imports = omega arith;
      exports = short_exports;
      stars = short_stars;
      bindings = short_bindings;
      sites = omega arith;
      free = omega arith;
      inner = omega arith;
    };
  }

  pub exporting_fits : (order : List ℕ) → order ≡ range_with_len 0 count → length requests ≡ count → count < 2 ^ 32 → All (λ request. request.form ≡ form.Import) requests
      → All (λ entry. IsInPlace count (length bindings) entry.origin) exports → All (λ star. star < count) stars
      → IsDistinct bytes_eq (map (λ entry. entry.name) exports) → IsDistinct bytes_eq (map (λ binding. binding.name) bindings)
      → length exports < 2 ^ 32 → length stars < 2 ^ 32 → length bindings < 2 ^ 32
      → AreFitting (exporting Es requests order exports stars bindings)
  exporting_fits order is each few imports placed starred named bound short_exports short_stars short_bindings =
      subst (λ l. AreFitting (exporting Es requests l exports stars bindings)) (sym is)
      (range_fits each few imports placed starred named bound short_exports short_stars short_bindings)

pub exporting_same : (facts : Facts) (kind : Kind) (r requests : List Request) (o order : List ℕ) (e exports : List ExportEntry) (s stars : List ℕ) (b bindings : List Binding)
    → facts ≡ exporting kind r o e s b → r ≡ requests → o ≡ order → e ≡ exports → s ≡ stars → b ≡ bindings
    → facts ≡ exporting kind requests order exports stars bindings
exporting_same facts kind r requests o order e exports s stars b bindings is p q t u v = cc

-- Whether a graph fits, by tests that can be computed.
use Rattle.std.proofs.Common.{◌≡◌, ℕ, zero, suc, ◌<◌, ◌^◌, ◌&&◌, Bool, true, false, true≢false, not, nat_eq, nat_lt, bytes_eq, IsTrue, IsSome, is_some, IfSome, List, [], ◌∷◌, length, map, Contains, Option, Some, None, slice_get, refl, sym, ◌∙◌, arith}
use Rattle.std.specs.List.{All, AllByRecursion, IsDistinct}
use Rattle.std.proofs.lemmas.Bool.Decides.{nat_tests}
use Rattle.std.proofs.lemmas.Option.{none-some, same_Some}
use Rattle.std.proofs.lemmas.List.Elements.{All-from_recursion}
use Rattle.pk_types.specs.declared.form.Form.{Form}
use Rattle.pk_types.specs.declared.form.Form.TheVariants as form
use Rattle.pk_types.specs.declared.facts.Facts.{Facts}
use Rattle.pk_types.specs.declared.facts.ImportEntry.{ImportEntry}
use Rattle.pk_types.specs.declared.facts.Request.{Request}
use Rattle.pk_types.specs.declared.graph.Graph.{Graph}
use Rattle.pk_types.specs.declared.graph.Row.{Row}
use Rattle.pk_types.specs.Fitting.{RowFits, Fits}
use Rattle.pk_types.specs.Lawful.{IsImported, IsNamed, AreOrdered, IsLawfulEs, IsLawfulAs}
use Rattle.pk_types.specs.Origins.{origin_requests, origin_bindings}
use Rattle.pk_types.specs.Places.{ArePlacesIn, HasPlaces, HasShortLists}
use Rattle.pk_types.specs.Sites.{site_bindings, site_imports, space_requests, called_requests, is_require, is_call}
use Rattle.graph_laws.proofs.Tests.{has, passes}

abbrev pub passing : {A : Type 0} → (A → Bool) → List A → Bool
passing test [] = true
passing test (x ∷ xs) = test x && passing test xs

and_left : (a b : Bool) → (a && b) ≡ true → a ≡ true
and_left true b e = refl
and_left false b e = absurd (true≢false (sym e))

and_right : (a b : Bool) → (a && b) ≡ true → b ≡ true
and_right true b e = e
and_right false b e = absurd (true≢false (sym e))

each_of : {A : Type 0} (P : A → Type 0) (test : A → Bool) → ((x : A) → test x ≡ true → P x) → (xs : List A) → passing test xs ≡ true → AllByRecursion P xs
each_of P test sound [] e = tt
each_of P test sound (x ∷ xs) e = (sound x (and_left (test x) (passing test xs) e), each_of P test sound xs (and_right (test x) (passing test xs) e))

all_of_test : {A : Type 0} (P : A → Type 0) (test : A → Bool) → ((x : A) → test x ≡ true → P x) → (xs : List A) → passing test xs ≡ true → All P xs
all_of_test P test sound xs e = All-from_recursion P xs (each_of P test sound xs e)

below : (number count : ℕ) → nat_lt number count ≡ true → number < count
below number count e = grind (arith, nat_tests)

abbrev in_list : {A : Type 0} → List A → List ℕ → Bool
in_list items numbers = passing (λ number. nat_lt number (length items)) numbers

pub places_in : {A : Type 0} (items : List A) (numbers : List ℕ) → in_list items numbers ≡ true → ArePlacesIn items numbers
places_in items numbers e = all_of_test (λ number. number < length items) (λ number. nat_lt number (length items)) (λ number. below number (length items)) numbers e

-- all tests of the list pass
abbrev pub AllPass : List Bool → Type 0
AllPass tests = passing (λ test. test) tests ≡ true

pub test_at : (tests : List Bool) → AllPass tests → (place : ℕ) {test : Bool} → slice_get tests place ≡ Some test → test ≡ true
test_at [] e place {test} f = absurd (none-some test f)
test_at (first ∷ tests) e zero {test} f = sym (same_Some first test f) ∙ and_left first (passing (λ b. b) tests) e
test_at (first ∷ tests) e (suc place) {test} f = test_at tests (and_right first (passing (λ b. b) tests) e) place f

-- the places of the facts
abbrev pub place_tests : Facts → List Bool
place_tests facts = in_list facts.requests facts.order ∷ in_list facts.requests facts.stars
    ∷ passing (λ entry. nat_lt entry.request (length facts.requests)) facts.imports
    ∷ passing (λ entry. in_list facts.requests (origin_requests entry.origin)) facts.exports
    ∷ passing (λ entry. in_list facts.bindings (origin_bindings entry.origin)) facts.exports
    ∷ passing (λ site. in_list facts.bindings (site_bindings site.kind)) facts.sites
    ∷ passing (λ site. in_list facts.imports (site_imports site.kind)) facts.sites
    ∷ passing (λ site. in_list facts.requests (space_requests site.kind)) facts.sites
    ∷ passing (λ site. in_list facts.requests (called_requests site.kind)) facts.sites ∷ []

pub has_places : (facts : Facts) → AllPass (place_tests facts) → HasPlaces facts
has_places facts t = record {
  order = places_in facts.requests facts.order (test_at (place_tests facts) t 0 refl);
  stars = places_in facts.requests facts.stars (test_at (place_tests facts) t 1 refl);
  imports = all_of_test (λ entry. entry.request < length facts.requests) (λ entry. nat_lt entry.request (length facts.requests))
      (λ entry. below entry.request (length facts.requests)) facts.imports (test_at (place_tests facts) t 2 refl);
  export_requests = all_of_test (λ entry. ArePlacesIn facts.requests (origin_requests entry.origin)) (λ entry. in_list facts.requests (origin_requests entry.origin))
      (λ entry. places_in facts.requests (origin_requests entry.origin)) facts.exports (test_at (place_tests facts) t 3 refl);
  export_bindings = all_of_test (λ entry. ArePlacesIn facts.bindings (origin_bindings entry.origin)) (λ entry. in_list facts.bindings (origin_bindings entry.origin))
      (λ entry. places_in facts.bindings (origin_bindings entry.origin)) facts.exports (test_at (place_tests facts) t 4 refl);
  site_bindings = all_of_test (λ site. ArePlacesIn facts.bindings (site_bindings site.kind)) (λ site. in_list facts.bindings (site_bindings site.kind))
      (λ site. places_in facts.bindings (site_bindings site.kind)) facts.sites (test_at (place_tests facts) t 5 refl);
  site_imports = all_of_test (λ site. ArePlacesIn facts.imports (site_imports site.kind)) (λ site. in_list facts.imports (site_imports site.kind))
      (λ site. places_in facts.imports (site_imports site.kind)) facts.sites (test_at (place_tests facts) t 6 refl);
  site_spaces = all_of_test (λ site. ArePlacesIn facts.requests (space_requests site.kind)) (λ site. in_list facts.requests (space_requests site.kind))
      (λ site. places_in facts.requests (space_requests site.kind)) facts.sites (test_at (place_tests facts) t 7 refl);
  site_calls = all_of_test (λ site. ArePlacesIn facts.requests (called_requests site.kind)) (λ site. in_list facts.requests (called_requests site.kind))
      (λ site. places_in facts.requests (called_requests site.kind)) facts.sites (test_at (place_tests facts) t 8 refl);
}

-- what a module of ECMAScript may have
abbrev is_import : Form → Bool
is_import form.Import = true
is_import form.Require = false

form_sound : (f : Form) → is_import f ≡ true → f ≡ form.Import
form_sound form.Import e = refl
form_sound form.Require e = absurd (true≢false (sym e))

abbrev pub imports_at : Option Request → Bool
imports_at None = true
imports_at (Some request) = is_import request.form

imported : (at : Option Request) → imports_at at ≡ true → IfSome at (λ request. request.form ≡ form.Import)
imported None e = tt
imported (Some request) e = form_sound request.form e

abbrev pub names_at : Option ImportEntry → Bool
names_at None = true
names_at (Some entry) = is_some entry.name

named : (at : Option ImportEntry) → names_at at ≡ true → IfSome at (λ entry. IsSome entry.name)
named None e = tt
named (Some entry) e = e

abbrev ordered : Facts → List ℕ → Bool
ordered facts requests = passing (has facts.order) requests

is_ordered : (facts : Facts) (requests : List ℕ) → ordered facts requests ≡ true → AreOrdered facts requests
is_ordered facts requests e = all_of_test (Contains facts.order) (has facts.order) (passes facts.order) requests e

not_true : (b : Bool) → not b ≡ true → b ≡ false
not_true true e = absurd (true≢false (sym e))
not_true false e = refl

abbrev pub es_tests : Facts → List Bool
es_tests facts = passing (λ place. imports_at (slice_get facts.requests place)) facts.order ∷ passing (λ entry. has facts.order entry.request) facts.imports
    ∷ passing (λ entry. ordered facts (origin_requests entry.origin)) facts.exports ∷ ordered facts facts.stars
    ∷ passing (λ site. ordered facts (space_requests site.kind)) facts.sites
    ∷ passing (λ site. passing (λ place. names_at (slice_get facts.imports place)) (site_imports site.kind)) facts.sites
    ∷ passing (λ site. not (is_require site.kind)) facts.sites ∷ []

pub lawful_es : (facts : Facts) → AllPass (es_tests facts) → IsLawfulEs facts
lawful_es facts t = record {
  order = all_of_test (IsImported facts) (λ place. imports_at (slice_get facts.requests place)) (λ place. imported (slice_get facts.requests place)) facts.order
      (test_at (es_tests facts) t 0 refl);
  imports = all_of_test (λ entry. Contains facts.order entry.request) (λ entry. has facts.order entry.request)
      (λ entry. passes facts.order entry.request) facts.imports (test_at (es_tests facts) t 1 refl);
  exports = all_of_test (λ entry. AreOrdered facts (origin_requests entry.origin)) (λ entry. ordered facts (origin_requests entry.origin))
      (λ entry. is_ordered facts (origin_requests entry.origin)) facts.exports (test_at (es_tests facts) t 2 refl);
  stars = is_ordered facts facts.stars (test_at (es_tests facts) t 3 refl);
  spaces = all_of_test (λ site. AreOrdered facts (space_requests site.kind)) (λ site. ordered facts (space_requests site.kind))
      (λ site. is_ordered facts (space_requests site.kind)) facts.sites (test_at (es_tests facts) t 4 refl);
  names = all_of_test (λ site. All (IsNamed facts) (site_imports site.kind))
      (λ site. passing (λ place. names_at (slice_get facts.imports place)) (site_imports site.kind))
      (λ site. all_of_test (IsNamed facts) (λ place. names_at (slice_get facts.imports place)) (λ place. named (slice_get facts.imports place)) (site_imports site.kind))
      facts.sites (test_at (es_tests facts) t 5 refl);
  calls = all_of_test (λ site. is_require site.kind ≡ false) (λ site. not (is_require site.kind)) (λ site. not_true (is_require site.kind)) facts.sites
      (test_at (es_tests facts) t 6 refl);
}

abbrev pub called_tests : Facts → List Bool
called_tests facts = passing (λ site. is_call site.kind) facts.sites ∷ []

pub lawful_calls : (facts : Facts) → AllPass (called_tests facts) → All (λ site. IsTrue (is_call site.kind)) facts.sites
lawful_calls facts t =
    all_of_test (λ site. IsTrue (is_call site.kind)) (λ site. is_call site.kind) (λ site e. e) facts.sites (test_at (called_tests facts) t 0 refl)

-- lists are short
abbrev pub lengths : Facts → List ℕ
lengths facts = length facts.requests ∷ length facts.order ∷ length facts.imports ∷ length facts.exports ∷ length facts.stars ∷ length facts.bindings
    ∷ length facts.sites ∷ length facts.free ∷ length facts.inner ∷ []

pub has_short_lists : (facts : Facts) → passing (λ count. nat_lt count (2 ^ 32)) (lengths facts) ≡ true → HasShortLists facts
has_short_lists facts e =
    let s = each_of (λ count. count < 2 ^ 32) (λ count. nat_lt count (2 ^ 32)) (λ count. below count (2 ^ 32)) (lengths facts) e in
    record {
      requests = s.0;
      order = s.1.0;
      imports = s.1.1.0;
      exports = s.1.1.1.0;
      stars = s.1.1.1.1.0;
      bindings = s.1.1.1.1.1.0;
      sites = s.1.1.1.1.1.1.0;
      free = s.1.1.1.1.1.1.1.0;
      inner = s.1.1.1.1.1.1.1.1.0;
    }

-- no two are the same
abbrev pub apart : {A : Type 0} → (A → A → Bool) → List A → Bool
apart same [] = true
apart same (x ∷ xs) = passing (λ y. not (same x y)) xs && apart same xs

pub is_distinct : {A : Type 0} (same : A → A → Bool) (xs : List A) → apart same xs ≡ true → IsDistinct same xs
unfolding IsDistinct
is_distinct same [] e = tt
is_distinct same (x ∷ xs) e = (
  each_of (λ y. same x y ≡ false) (λ y. not (same x y)) (λ y. not_true (same x y)) xs (and_left (passing (λ y. not (same x y)) xs) (apart same xs) e),
  is_distinct same xs (and_right (passing (λ y. not (same x y)) xs) (apart same xs) e),
)

-- a row, and what is asked of it whatever its kind is
abbrev pub row_tests : Graph → Row → List Bool
row_tests graph row = passing (λ test. test) (place_tests row.facts) ∷ passing (λ count. nat_lt count (2 ^ 32)) (lengths row.facts)
    ∷ apart bytes_eq (map (λ binding. binding.name) row.facts.bindings) ∷ apart bytes_eq (map (λ entry. entry.name) row.facts.exports)
    ∷ apart nat_eq row.facts.order ∷ nat_eq (length row.targets) (length row.facts.requests) ∷ in_list graph.rows row.targets ∷ []

same_count : (a b : ℕ) → nat_eq a b ≡ true → a ≡ b
same_count a b e = grind (arith, nat_tests)

pub row_fits : (graph : Graph) (row : Row) → AllPass (row_tests graph row) → IsLawfulAs row.facts.kind row.facts → RowFits graph row
row_fits graph row t l = record {
  facts = record {
    places = has_places row.facts (test_at (row_tests graph row) t 0 refl);
    short = has_short_lists row.facts (test_at (row_tests graph row) t 1 refl);
    lawful = record {
      bindings = is_distinct bytes_eq (map (λ binding. binding.name) row.facts.bindings) (test_at (row_tests graph row) t 2 refl);
      exports = is_distinct bytes_eq (map (λ entry. entry.name) row.facts.exports) (test_at (row_tests graph row) t 3 refl);
      order = is_distinct nat_eq row.facts.order (test_at (row_tests graph row) t 4 refl);
      kind = l;
    };
  };
  each = same_count (length row.targets) (length row.facts.requests) (test_at (row_tests graph row) t 5 refl);
  targets = places_in graph.rows row.targets (test_at (row_tests graph row) t 6 refl);
}

abbrev pub graph_tests : Graph → List Bool
graph_tests graph = in_list graph.rows graph.entries ∷ nat_lt (length graph.rows) (2 ^ 32) ∷ nat_lt (length graph.entries) (2 ^ 32)
    ∷ apart bytes_eq (map (λ row. row.label) graph.rows) ∷ []

pub graph_fits : (graph : Graph) → AllByRecursion (RowFits graph) graph.rows → AllPass (graph_tests graph) → Fits graph
graph_fits graph rows t = record {
  rows = All-from_recursion (RowFits graph) graph.rows rows;
  entries = places_in graph.rows graph.entries (test_at (graph_tests graph) t 0 refl);
  few_rows = below (length graph.rows) (2 ^ 32) (test_at (graph_tests graph) t 1 refl);
  few_entries = below (length graph.entries) (2 ^ 32) (test_at (graph_tests graph) t 2 refl);
  labels = is_distinct bytes_eq (map (λ row. row.label) graph.rows) (test_at (graph_tests graph) t 3 refl);
}

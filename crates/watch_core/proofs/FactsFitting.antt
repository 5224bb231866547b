-- The facts of a module that binds nothing fit.
use Rattle.std.proofs.Common.{◌≡◌, ℕ, ◌<◌, ◌^◌, false, nat_eq, List, [], ◌∷◌, Option, None, Some, length, get_or, slice_get, refl, sym, ap, subst, ◌∙◌, arith, zero-add}
use Rattle.std.specs.List.{All, IsDistinct, range_with_len}
use Rattle.std.specs.Option.{option_map, IfSome}
use Rattle.std.proofs.lemmas.List.{length-map}
use Rattle.std.proofs.lemmas.List.Elements.{All-nil}
use Rattle.std.proofs.lemmas.List.FromFn.{length-range_with_len, get_or-range_with_len}
use Rattle.std.proofs.lemmas.Map.Keys.{IsDistinct-from_apart}
use Rattle.std.proofs.lemmas.Option.{slice_get-map}
use Rattle.pk_types.specs.declared.facts.Facts.{Facts}
use Rattle.pk_types.specs.declared.facts.Request.{Request}
use Rattle.pk_types.specs.declared.form.Form.TheVariants.{Import}
use Rattle.pk_types.specs.Fitting.{AreFitting}
use Rattle.pk_types.specs.Lawful.{IsImported, IsLawfulAs}
use Rattle.bare_modules.specs.Meaning.{kind_of, each_once}
use Rattle.bare_modules.specs.declared.read.ModuleText.{ModuleText}
use Rattle.watch_core.specs.Modules.{imported, facts_of}
use Rattle.watch_core.specs.Visits.{IsModuleTextOf}
use Rattle.watch_core.proofs.FactsRequests.{few_requests}

-- ---- the first numbers

first_at : (count i d : ℕ) → i < length (range_with_len 0 count) → get_or (range_with_len 0 count) i d ≡ i
first_at count i d inside = get_or-range_with_len 0 count i d (omega (arith, length-range_with_len 0 count, inside)) ∙ zero-add i

-- what holds of each number below the count holds of each of them
all_first : (P : ℕ → Type 0) (count : ℕ) → ((number : ℕ) → number < count → P number) → All P (range_with_len 0 count)
all_first P count h = λ i d inside. subst P (sym (first_at count i d inside)) (h i (omega (arith, length-range_with_len 0 count, inside)))

apart : (i j : ℕ) → i < j → nat_eq i j ≡ false
apart i j less = grind arith

distinct_first : (count : ℕ) → IsDistinct nat_eq (range_with_len 0 count)
distinct_first count = IsDistinct-from_apart nat_eq (range_with_len 0 count) (λ i j d less inside.
    ap (λ x. nat_eq x (get_or (range_with_len 0 count) j d)) (first_at count i d (omega arith))
    ∙ ap (λ y. nat_eq i y) (first_at count j d inside)
    ∙ apart i j less)

-- ---- the facts

abbrev import_of : List ℕ → Request
import_of text = record { text = text; form = Import; json = false }

is_imported : (said : ModuleText) (place : ℕ) → IsImported (facts_of said) place
is_imported said place = subst (λ found. IfSome found (λ request. request.form ≡ Import)) (sym (slice_get-map import_of said.requests place)) (by (slice_get said.requests place))
  where
    by : (found : Option (List ℕ)) → IfSome (option_map import_of found) (λ request. request.form ≡ Import)
    by None = tt
    by (Some text) = refl

-- with no declaration it is a module of CommonJS, and nothing is asked for
lawful_kind : (said : ModuleText) (declared : List (List ℕ)) → said.kind ≡ kind_of declared → said.requests ≡ each_once declared → IsLawfulAs said.kind (facts_of said)
lawful_kind said [] kind asked = subst (λ k. IsLawfulAs k (facts_of said)) (sym kind) (record {
  order = ap (λ requests. range_with_len 0 (length requests)) asked;
  imports = refl;
  exports = refl;
  stars = refl;
  calls = All-nil _;
})
lawful_kind said (request ∷ requests) kind asked = subst (λ k. IsLawfulAs k (facts_of said)) (sym kind) (record {
  order = all_first (IsImported (facts_of said)) (length said.requests) (λ place inside. is_imported said place);
  imports = All-nil _;
  exports = All-nil _;
  stars = All-nil _;
  spaces = All-nil _;
  names = All-nil _;
  calls = All-nil _;
})

-- 32 bits number the requests
pub few_enough : (said : ModuleText) → IsModuleTextOf said → length said.requests < 2 ^ 32
few_enough said h =
    let text = h.text in
    omega (arith, h.few, ap length text.asked, few_requests h.bytes text.tokens text.kept text.requests text.read text.statements)

are_fitting : (said : ModuleText) → IsModuleTextOf said → AreFitting (facts_of said)
are_fitting said h =
    let text = h.text in
    let count = length-map said.requests import_of in
    let short = few_enough said h in
    record {
      places = record {
        order = all_first (λ number. number < length (imported said.requests)) (length said.requests) (λ place inside. omega (arith, count, inside));
        stars = All-nil _;
        imports = All-nil _;
        export_requests = All-nil _;
        export_bindings = All-nil _;
        site_bindings = All-nil _;
        site_imports = All-nil _;
        site_spaces = All-nil _;
        site_calls = All-nil _;
      };
      lawful = record {
        bindings = IsDistinct-from_apart _ [] (λ i j d h k. absurd (omega arith));
        exports = IsDistinct-from_apart _ [] (λ i j d h k. absurd (omega arith));
        order = distinct_first (length said.requests);
        kind = lawful_kind said text.requests text.kind text.asked;
      };
      short = record {
        requests = omega (arith, count, short);
        order = omega (arith, length-range_with_len 0 (length said.requests), short);
        imports = omega arith;
        exports = omega arith;
        stars = omega arith;
        bindings = omega arith;
        sites = omega arith;
        free = omega arith;
        inner = omega arith;
      };
    }

-- so do facts that are equal to these
pub fitting : (said : ModuleText) (facts : Facts) → facts ≡ facts_of said → IsModuleTextOf said → AreFitting facts
fitting said facts same h = subst AreFitting (sym same) (are_fitting said h)

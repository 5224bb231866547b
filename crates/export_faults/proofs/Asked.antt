-- The fault of one question.
use Rattle.std.proofs.Common.{◌≡◌, ◌<◌, ℕ, List, [], ◌∷◌, Option, Some, None, option_and_then, ◌⊎◌, inl, inr, slice_get, length, option_map, refl, sym, ap, ap₂, subst, ◌∙◌, arith, IfSome}
use Rattle.std.proofs.lemmas.Option.{none-some, same_Some, slice_get_within}
use Rattle.std.proofs.lemmas.List.Elements.{All-get_or}
use Rattle.pk_types.specs.declared.facts.ImportEntry.{ImportEntry}
use Rattle.pk_types.specs.declared.facts.Origin.{Origin}
use Rattle.pk_types.specs.declared.facts.Origin.TheVariants.{Own, Other, Space}
use Rattle.pk_types.specs.declared.facts.Request.{Request}
use Rattle.pk_types.specs.declared.graph.Graph.{Graph}
use Rattle.pk_types.specs.declared.graph.Row.{Row}
use Rattle.pk_types.specs.Origins.{origin_requests}
use Rattle.pk_types.specs.Places.{ArePlacesIn}
use Rattle.pk_types.specs.Resolving.{Resolves}
use Rattle.pk_types.proofs.OneAnswer.{resolves_once}
use Rattle.export_faults.specs.declared.fault.Asker.{Asker}
use Rattle.export_faults.specs.declared.fault.Asker.TheVariants.{Import, Export}
use Rattle.export_faults.specs.declared.fault.ExportFault.{ExportFault}
use Rattle.export_faults.specs.declared.fault.FaultKind.{FaultKind}
use Rattle.export_faults.specs.declared.question.Question.{Question}
use Rattle.export_faults.specs.Questions.{Asked, asked_by_import, asked_at, asked_by_export, question_of, kind_of}
use Rattle.export_faults.specs.Asking.{asked, IsJudged}
use Rattle.export_faults.specs.Order.{earlier}
use Rattle.export_faults.specs.Faults.{StandsIn, StandsAt, StandsInImports, StandsInExports, AreLeast}
use Rattle.export_faults.proofs.Ordering.{alike}
use Rattle.export_faults.proofs.Least.{least_of_both}

-- nothing is asked, so nothing is asked in vain
pub no_question : (graph : Graph) (number : ℕ) (asker : Asker) (row : Row) → slice_get graph.rows number ≡ Some row → question_of row asker ≡ None
    → AreLeast (StandsAt graph number asker) None
no_question graph number asker row at none = λ fault stands.
    let s = stands.0.0 in
    let same : s.row ≡ row = same_Some _ _ (sym s.at ∙ ap (slice_get graph.rows) stands.0.1 ∙ at) in
    none-some _ (sym none ∙ sym (ap₂ question_of same stands.1) ∙ s.asks)

module _ (graph : Graph) (number : ℕ) (asker : Asker) (row : Row) (question : Asked) (target : ℕ) (kind : Option FaultKind)
    (at : slice_get graph.rows number ≡ Some row) (asks : question_of row asker ≡ Some question) (leads : slice_get row.targets question.request ≡ Some target)
    (judged : IsJudged graph target question.name kind) where
  module _ (fault : ExportFault) (stands : StandsAt graph number asker fault) where
    same_row : stands.0.0.row ≡ row
    same_row = same_Some _ _ (sym stands.0.0.at ∙ ap (slice_get graph.rows) stands.0.1 ∙ at)

    same_question : stands.0.0.question ≡ question
    same_question = same_Some _ _ (sym stands.0.0.asks ∙ ap₂ question_of same_row stands.1 ∙ asks)

    same_target : stands.0.0.target ≡ target
    same_target = same_Some _ _ (sym stands.0.0.leads ∙ ap₂ (λ (r : Row) (q : Asked). slice_get r.targets q.request) same_row same_question ∙ leads)

    same_found : stands.0.0.found ≡ judged.0
    same_found = resolves_once graph target question.name stands.0.0.found judged.0
        (subst (λ t. Resolves graph t question.name stands.0.0.found) same_target
        (subst (λ (q : Asked). Resolves graph stands.0.0.target q.name stands.0.0.found) same_question stands.0.0.resolves)) judged.1

    pub same_kind : kind ≡ Some fault.kind
    same_kind = sym judged.2 ∙ ap kind_of (sym same_found) ∙ stands.0.0.kind

    pub same_place : fault.place ≡ question.place
    same_place = stands.0.0.place ∙ ap (λ (q : Asked). q.place) same_question

-- a question that isn't asked in vain
pub no_fault : (graph : Graph) (number : ℕ) (asker : Asker) (row : Row) (question : Asked) (target : ℕ) → slice_get graph.rows number ≡ Some row
    → question_of row asker ≡ Some question → slice_get row.targets question.request ≡ Some target → IsJudged graph target question.name None
    → AreLeast (StandsAt graph number asker) None
no_fault graph number asker row question target at asks leads judged = λ fault stands.
    none-some _ (same_kind graph number asker row question target None at asks leads judged fault stands)

-- and one that is
pub one_fault : (graph : Graph) (number : ℕ) (asker : Asker) (row : Row) (question : Asked) (target : ℕ) (kind : FaultKind)
    → slice_get graph.rows number ≡ Some row → question_of row asker ≡ Some question → slice_get row.targets question.request ≡ Some target
    → IsJudged graph target question.name (Some kind)
    → AreLeast (StandsAt graph number asker) (Some (record { «module» = number; place = question.place; kind = kind; asker = asker }))
one_fault graph number asker row question target kind at asks leads judged = (
  ((record { row = row; at = at; question = question; asks = asks; place = refl; target = target; leads = leads; found = judged.0; resolves = judged.1; kind = judged.2 }, refl), refl),
  λ fault stands.
      alike fault (record { «module» = number; place = question.place; kind = kind; asker = asker }) stands.0.1
      (same_place graph number asker row question target (Some kind) at asks leads judged fault stands)
      (sym (same_Some _ _ (same_kind graph number asker row question target (Some kind) at asks leads judged fault stands))),
)

-- ---- the requests of questions

pub request_of : (count : ℕ) (question : Option Question) (other : Option Asked) → option_map asked question ≡ other → IfSome other (λ q. q.request < count)
    → IfSome question (λ q. q.request < count)
request_of count None other e p = tt
request_of count (Some question) other e p = subst (λ o. IfSome o (λ q. q.request < count)) (sym e) p

pub import_within : (count : ℕ) (entry : ImportEntry) → entry.request < count → IfSome (asked_by_import entry) (λ q. q.request < count)
import_within count entry h = by entry.name
  where
    by : (name : Option (List ℕ)) → IfSome (option_map (λ (n : List ℕ). let q : Asked = record { place = entry.place; request = entry.request; name = n } in q) name) (λ q. q.request < count)
    by None = tt
    by (Some name) = h

pub export_within : (requests : List Request) (place : ℕ) (origin : Origin) → ArePlacesIn requests (origin_requests origin)
    → IfSome (asked_at place origin) (λ q. q.request < length requests)
export_within requests place (Own binding) h = tt
export_within requests place (Other request name) h = All-get_or (λ r. r < length requests) (request ∷ []) 0 0 (omega arith) h
export_within requests place (Space request) h = tt

-- ---- what asks is one of its module's imports or exports

asks_within : {A B : Type 0} (xs : List A) (place : ℕ) (f : A → Option B) (b : B) → option_and_then f (slice_get xs place) ≡ Some b → place < length xs
asks_within {A} {B} xs place f b e = by (slice_get xs place) refl
  where
    by : (o : Option A) → slice_get xs place ≡ o → place < length xs
    by None none = absurd (none-some _ (sym (ap (option_and_then f) none) ∙ e))
    by (Some x) some = slice_get_within xs place x some

pub import_asks : (graph : Graph) (number : ℕ) (row : Row) (fault : ExportFault) (place : ℕ) → slice_get graph.rows number ≡ Some row → StandsIn graph number fault
    → fault.asker ≡ Import place → place < length row.facts.imports
import_asks graph number row fault place at stands is = asks_within row.facts.imports place asked_by_import stands.0.question
    (sym (ap₂ question_of (same_Some _ _ (sym stands.0.at ∙ ap (slice_get graph.rows) stands.1 ∙ at)) is) ∙ stands.0.asks)

pub export_asks : (graph : Graph) (number : ℕ) (row : Row) (fault : ExportFault) (place : ℕ) → slice_get graph.rows number ≡ Some row → StandsIn graph number fault
    → fault.asker ≡ Export place → place < length row.facts.exports
export_asks graph number row fault place at stands is = asks_within row.facts.exports place asked_by_export stands.0.question
    (sym (ap₂ question_of (same_Some _ _ (sym stands.0.at ∙ ap (slice_get graph.rows) stands.1 ∙ at)) is) ∙ stands.0.asks)

-- ---- those of a module

pub of_module : (graph : Graph) (number : ℕ) (one other : Option ExportFault) → AreLeast (StandsInImports graph number) one → AreLeast (StandsInExports graph number) other
    → AreLeast (StandsIn graph number) (earlier one other)
of_module graph number one other p q =
    least_of_both (StandsInImports graph number) (StandsInExports graph number) (StandsIn graph number) (λ fault s. by fault s fault.asker refl) (λ fault s. s.0) (λ fault s. s.0) one other p q
  where
    by : (fault : ExportFault) → StandsIn graph number fault → (asker : Asker) → fault.asker ≡ asker → StandsInImports graph number fault ⊎ StandsInExports graph number fault
    by fault s (Import place) is = inl (s, (place, is))
    by fault s (Export place) is = inr (s, (place, is))

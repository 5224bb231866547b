-- Names that are declared without a value, as they are told.
use Rattle.std.proofs.Common.{◌≡◌, ◌↔◌, ⊎_elim, ℕ, ◌+◌, ◌<◌, Bool, true, ◌||◌, List, Option, Some, None, length, slice_get, unwrap_or, refl, sym, ap, subst, ◌∙◌, arith, true≢false}
use Rattle.std.proofs.lemmas.Bool.{lt-ltb, ltb-true, false_from_ne_true}
use Rattle.std.proofs.lemmas.Option.{none-some}
use Rattle.pk_types.proofs.Members.{element_at}
use Rattle.pk_types.proofs.ListMembers.{not_so, so_not}
use Rattle.es_outline.specs.declared.mark.Role.{Role}
use Rattle.es_outline.specs.declared.mark.Role.TheVariants as is
use Rattle.es_outline.specs.declared.mark.Part.{Part}
use Rattle.es_outline.specs.declared.mark.Part.TheVariants as part
use Rattle.es_scope.specs.declared.kinds.DeclarationKind.{DeclarationKind}
use Rattle.es_scope.specs.declared.kinds.DeclarationKind.TheVariants as kind
use Rattle.es_scope.specs.Parts.{Encloses}
use Rattle.es_scope.specs.Source.{Source, HasRole}
use Rattle.es_scope.specs.Occurrences.{IsDeclared, IsOccurrence, IsWordOf, BoundBy, is_binder}
use Rattle.es_scope.specs.Frames.{declared_at}
use Rattle.es_scope.specs.SiteRules.{IsGiven, IsInPattern}
use Rattle.es_scope.proofs.Agreeing.{declared_as}
use Rattle.es_parts.specs.declared.enclosing.Surroundings.{Surroundings}
use Rattle.es_parts.specs.Around.{IsInnermost, is_pattern}
use Rattle.es_sites.specs.Tables.{entry, pattern_of, pattern_around}
use Rattle.es_sites.proofs.AroundLaws.{initializing, iterated_mark, either, or_left, or_right}
use Rattle.es_touches.specs.Touches.{IsAlone}
use Rattle.es_touches.specs.Told.{Tables, AreTables, initializes, is_iterated, is_behind, is_given, alone_by, is_alone, alone, renamed_by}
use Rattle.es_touches.proofs.Basics.{one_nearest}

-- a manner that is told of a place is that of its mark
pub declared_told : (source : Source) (place : ℕ) (answer : Option DeclarationKind) → ((how : DeclarationKind) → (answer ≡ Some how) ↔ IsDeclared source place how)
    → answer ≡ declared_at source place
declared_told source place answer h = by answer (declared_at source place) refl refl
  where
    by : (a b : Option DeclarationKind) → answer ≡ a → declared_at source place ≡ b → answer ≡ declared_at source place
    by None None e f = e ∙ sym f
    by (Some how) b e f = e ∙ sym ((declared_as source place how).0 ((h how).0 e))
    by None (Some how) e f = absurd (none-some how (sym e ∙ (h how).1 ((declared_as source place how).1 f)))

pub record IsBoundVar (source : Source) (place : ℕ) : Type 0 where
  pub opening : ℕ
  pub role : HasRole source place is.Bound
  pub bound : BoundBy source place part.Declaration opening

pub var_bound : (source : Source) (place : ℕ) (how : DeclarationKind) → IsDeclared source place how → how ≡ kind.Var → IsBoundVar source place
var_bound source place _ (IsDeclared.by_word how opening t b w) e = record { opening = opening; role = t; bound = b }
var_bound source place _ (IsDeclared.parameter opening t b) e = absurd (cc)
var_bound source place _ (IsDeclared.arrow_parameter opening t b) e = absurd (cc)
var_bound source place _ (IsDeclared.caught opening t b) e = absurd (cc)
var_bound source place _ (IsDeclared.function t) e = absurd (cc)
var_bound source place _ (IsDeclared.class t) e = absurd (cc)
var_bound source place _ (IsDeclared.imported role i t) e = absurd (cc)

pub function_name : (source : Source) (place : ℕ) (how : DeclarationKind) → IsDeclared source place how → how ≡ kind.Function → HasRole source place is.FunctionName
function_name source place _ (IsDeclared.by_word how opening t b w) e = absurd (no_word how _ w e)
  where
    no_word : (how : DeclarationKind) (word : List ℕ) → IsWordOf how word → how ≡ kind.Function → ⊥
    no_word _ _ IsWordOf.var e = absurd (cc)
    no_word _ _ IsWordOf.«let» e = absurd (cc)
    no_word _ _ IsWordOf.const e = absurd (cc)
function_name source place _ (IsDeclared.parameter opening t b) e = absurd (cc)
function_name source place _ (IsDeclared.arrow_parameter opening t b) e = absurd (cc)
function_name source place _ (IsDeclared.caught opening t b) e = absurd (cc)
function_name source place _ (IsDeclared.function t) e = t
function_name source place _ (IsDeclared.class t) e = absurd (cc)
function_name source place _ (IsDeclared.imported role i t) e = absurd (cc)

only_pattern : (which : Part) → is_pattern which ≡ true → which ≡ part.Pattern
only_pattern part.Pattern e = refl
only_pattern _ e = absurd (true≢false (sym e))

module _ (tables : Tables) (are : AreTables tables) (place : ℕ) (inside : place < length tables.source.marks) where
  binder_is : IsInnermost is_binder tables.source.marks place (entry tables.binders place)
  binder_is =
      let there = element_at tables.binders place (omega (arith, inside, are.binders.whole)) in
      subst (λ (n : Option (Option ℕ)). IsInnermost is_binder tables.source.marks place (unwrap_or n None)) (sym there.1) (are.binders.each place there.0 there.1)

  pattern_is : IsInnermost is_pattern tables.source.marks place (pattern_around tables.around place)
  pattern_is =
      let there = element_at tables.around place (omega (arith, inside, are.around.whole)) in
      subst (λ (found : Option Surroundings). IsInnermost is_pattern tables.source.marks place (pattern_of found)) (sym there.1) (are.around.each place there.0 there.1).pattern

  in_pattern : (opening : ℕ) → BoundBy tables.source place part.Declaration opening → (binder pattern : Option ℕ) → IsInnermost is_binder tables.source.marks place binder
      → IsInnermost is_pattern tables.source.marks place pattern → is_behind binder pattern ≡ true → IsInPattern tables.source place opening
  in_pattern opening bound _ _ (IsInnermost.none nowhere) p e = absurd (true≢false (sym e))
  in_pattern opening bound _ _ (IsInnermost.some which at near) (IsInnermost.none nowhere) e = absurd (true≢false (sym e))
  in_pattern opening bound _ _ (IsInnermost.some which at near) (IsInnermost.some other pattern h) e =
      let same = one_nearest is_binder tables.source.marks place at opening which part.Declaration near bound in
      let behind = ltb-true at pattern e in
      record {
        pattern = pattern;
        behind = omega (arith, same, behind);
        encloses = subst (λ (w : Part). Encloses tables.source.marks w pattern place) (only_pattern other h.kind) h.encloses;
      }

  pattern_in : (opening : ℕ) → BoundBy tables.source place part.Declaration opening → (binder pattern : Option ℕ) → IsInnermost is_binder tables.source.marks place binder
      → IsInnermost is_pattern tables.source.marks place pattern → IsInPattern tables.source place opening → is_behind binder pattern ≡ true
  pattern_in opening bound _ _ (IsInnermost.none nowhere) p h = absurd (nowhere part.Declaration opening refl bound.encloses)
  pattern_in opening bound _ _ (IsInnermost.some which at near) (IsInnermost.none nowhere) h = absurd (nowhere part.Pattern h.pattern refl h.encloses)
  pattern_in opening bound _ _ (IsInnermost.some which at near) (IsInnermost.some other pattern k) h =
      let same = one_nearest is_binder tables.source.marks place at opening which part.Declaration near bound in
      let further = k.nearest part.Pattern h.pattern refl h.encloses in
      let before = h.behind in
      lt-ltb at pattern (omega (arith, same, further, before))

  abbrev begun : Bool
  begun = initializes (slice_get tables.source.marks (place + 1))

  abbrev turned : Bool
  turned = is_iterated (slice_get tables.source.marks (place + 1))

  abbrev held : Bool
  held = is_behind (entry tables.binders place) (pattern_around tables.around place)

  so_given : (opening : ℕ) → BoundBy tables.source place part.Declaration opening → is_given tables place ≡ true → IsGiven tables.source place
  so_given opening bound e = ⊎_elim
      (λ first. IsGiven.initialized (initializing (slice_get tables.source.marks (place + 1)) first))
      (λ more. ⊎_elim
      (λ second. IsGiven.iterated (iterated_mark (slice_get tables.source.marks (place + 1)) second))
      (λ third. IsGiven.pattern opening bound (in_pattern opening bound (entry tables.binders place) (pattern_around tables.around place) binder_is pattern_is third))
      (either turned held more))
      (either begun (turned || held) e)

  given_so : IsGiven tables.source place → is_given tables place ≡ true
  given_so (IsGiven.initialized t) = or_left begun (turned || held) (ap initializes t.1)
  given_so (IsGiven.iterated t) = or_right begun (turned || held) (or_left turned held (ap is_iterated t))
  given_so (IsGiven.pattern opening b h) = or_right begun (turned || held) (or_right turned held
      (pattern_in opening b (entry tables.binders place) (pattern_around tables.around place) binder_is pattern_is h))

  alone_as : (how : Option DeclarationKind) → declared_at tables.source place ≡ how → alone_by tables place how ≡ true → IsAlone tables.source place
  alone_as (Some kind.Function) d e = IsAlone.function ((declared_as tables.source place kind.Function).1 d)
  alone_as (Some kind.Var) d e = IsAlone.var ((declared_as tables.source place kind.Var).1 d) (λ given. true≢false (sym (given_so given) ∙ not_so (is_given tables place) e))
  alone_as _ d e = absurd (true≢false (sym e))

  pub alone_there : is_alone tables place ≡ true → IsAlone tables.source place
  alone_there e = alone_as (declared_at tables.source place) refl e

  pub alone_told : IsAlone tables.source place → is_alone tables place ≡ true
  alone_told (IsAlone.function d) = ap (alone_by tables place) ((declared_as tables.source place kind.Function).0 d)
  alone_told (IsAlone.var d n) =
      let bound = var_bound tables.source place kind.Var d refl in
      ap (alone_by tables place) ((declared_as tables.source place kind.Var).0 d)
      ∙ so_not (is_given tables place) (false_from_ne_true (is_given tables place) (λ given. n (so_given bound.opening bound.bound given)))

pub alone_occurs : (source : Source) (place : ℕ) → IsAlone source place → IsOccurrence source place
alone_occurs source place (IsAlone.function d) = IsOccurrence.declared kind.Function d
alone_occurs source place (IsAlone.var d n) = IsOccurrence.declared kind.Var d

-- what the token of such a name is
pub alone_role : (tables : Tables) (place : ℕ) → IsAlone tables.source place
    → (role : Role) × HasRole tables.source place role × (renamed_by tables place role ≡ alone tables place)
alone_role tables place (IsAlone.function d) = (is.FunctionName, function_name tables.source place kind.Function d refl, refl)
alone_role tables place (IsAlone.var d n) = (is.Bound, (var_bound tables.source place kind.Var d refl).role, refl)

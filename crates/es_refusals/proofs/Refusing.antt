-- What is looked up at a place is refused there, and where nothing is found nothing is refused.
use Rattle.std.proofs.Common.{◌≡◌, ◌⊎◌, inl, inr, ⊎_elim, ℕ, ◌+◌, ◌-◌, Bool, true, false, cond, nat_eq, List, Option, Some, None, is_some, slice_get, codes, refl, sym, ap, subst, ◌∙◌, arith, true≢false}
use Rattle.std.specs.Str.{bytes_eq}
use Rattle.std.proofs.lemmas.Bool.{eqb-false, ne_eqb, false_from_ne_true}
use Rattle.std.proofs.lemmas.Option.{none-some, same_Some}
use Rattle.std.proofs.lemmas.Slice.Eq.{bytes_eq-Decides}
use Rattle.pk_types.proofs.Members.{as_long}
use Rattle.es_tree.specs.declared.tokens.ProgramGoal.{ProgramGoal}
use Rattle.es_tree.specs.declared.tokens.ProgramGoal.TheVariants.{Script, Module}
use Rattle.es_outline.specs.declared.mark.Mark.{Mark}
use Rattle.es_outline.specs.declared.mark.Mark.TheVariants as mark
use Rattle.es_outline.specs.declared.mark.Role.{Role}
use Rattle.es_outline.specs.declared.mark.Role.TheVariants as is
use Rattle.es_scope.specs.declared.kinds.Refusal.{Refusal}
use Rattle.es_scope.specs.declared.kinds.Refusal.TheVariants as refusal
use Rattle.es_scope.specs.Source.{Source, HasRole, name_at}
use Rattle.es_scope.specs.Around.{IsTypeof}
use Rattle.es_scope.specs.Asking.{require, ImportsText, HasNoPair, AsksForJson}
use Rattle.es_scope.specs.Named.{is_naming, names_it}
use Rattle.es_scope.specs.Refers.{IsFree, IsFreeNamed}
use Rattle.es_scope.specs.Refused.{IsRefused, IsPlainRequire, IsOutsideFunctions}
use Rattle.es_scope.specs.Telling.{Told, AreScopes}
use Rattle.es_scope.proofs.FoundTable.{occurrence_named}
use Rattle.es_parts.specs.declared.enclosing.Surroundings.{Surroundings}
use Rattle.es_parts.specs.Around.{AreAround}
use Rattle.es_asks.specs.Forwarding.{AreForwarded}
use Rattle.es_asks.specs.Free.{is_free, require_end}
use Rattle.es_asks.specs.Texts.{import_end, has_no_pair, asks_for_json}
use Rattle.es_asks.proofs.FreeLaws.{free_is, require_there, there_require}
use Rattle.es_asks.proofs.TextLaws.{import_there, there_import, has_no_pair_is, json_is}
use Rattle.es_refusals.specs.Around.{is_typeof, goes_on_as_member, called_from}
use Rattle.es_refusals.specs.Refusing.{is_reserved, occurs, is_reserved_here, await_by, require_by, is_hot, free_refusal, name_refusal, other_refusal, refusal_by, refusal_at}
use Rattle.es_refusals.proofs.Calling.{called_is}
use Rattle.es_refusals.proofs.LookingAround.{both_if, if_both, typeof_is, member_is, hot_is, reserved_is, occurs_is}

-- what a choice gives
only_if : (b : Bool) (x r : Refusal) → cond b (Some x) None ≡ Some r → (b ≡ true) × (x ≡ r)
only_if true x r e = (refl, same_Some x r e)
only_if false x r e = absurd (none-some r e)

unless : (b : Bool) (x r : Refusal) → cond b None (Some x) ≡ Some r → (b ≡ false) × (x ≡ r)
unless true x r e = absurd (none-some r e)
unless false x r e = (refl, same_Some x r e)

unless_then : (b : Bool) (rest : Option Refusal) (r : Refusal) → cond b None rest ≡ Some r → (b ≡ false) × (rest ≡ Some r)
unless_then true rest r e = absurd (none-some r e)
unless_then false rest r e = (refl, e)

if_then : (b : Bool) (one : Option Refusal) (r : Refusal) → cond b one None ≡ Some r → (b ≡ true) × (one ≡ Some r)
if_then true one r e = (refl, e)
if_then false one r e = absurd (none-some r e)

either : (b : Bool) (one rest : Option Refusal) (r : Refusal) → cond b one rest ≡ Some r → ((b ≡ true) × (one ≡ Some r)) ⊎ ((b ≡ false) × (rest ≡ Some r))
either true one rest r e = inl (refl, e)
either false one rest r e = inr (refl, e)

some_more : (b : Bool) (x : Refusal) (rest : Option Refusal) → is_some rest ≡ true → is_some (cond b (Some x) rest) ≡ true
some_more true x rest e = refl
some_more false x rest e = e

some_there : (found : Option ℕ) → is_some found ≡ true → (x : ℕ) × (found ≡ Some x)
some_there None e = absurd (true≢false (sym e))
some_there (Some x) e = (x, refl)

module _ (source : Source) (told : Told) (table : List Surroundings) (forwarded : List ℕ) (are : AreScopes source told) (around : AreAround source.marks table)
    (forward : AreForwarded source forwarded) (place : ℕ) where
  -- what is found is refused
  await_is : (r : Refusal) (found : Option Surroundings) → slice_get table place ≡ found → HasRole source place is.Await → await_by found ≡ Some r → IsRefused source place r
  await_is r None m t e = absurd (none-some r e)
  await_is r (Some one) m t e =
      let no = unless one.in_function refusal.TopLevelAwait r e in
      subst (IsRefused source place) no.1
      (IsRefused.top_level_await t (λ which opening kind h. true≢false (sym ((around.each place one m).function.1 (which, opening, kind, h)) ∙ no.0)))

  no_typeof : is_typeof source place ≡ false → ¬ IsTypeof source place
  no_typeof e t = true≢false (sym ((typeof_is source place).1 t) ∙ e)

  plain_so : IsPlainRequire source place → is_typeof source place ≡ false → is_some (require_end source told forwarded place) ≡ true
  plain_so (IsPlainRequire.call value right c) none = ap is_some (there_require source told forwarded are forward place value right c).0
  plain_so (IsPlainRequire.kind t) none = absurd (no_typeof none t)

  require_is : (r : Refusal) (goal : ProgramGoal) → source.goal ≡ goal → IsFreeNamed source place require → require_by source told forwarded place goal ≡ Some r
      → IsRefused source place r
  require_is r Module g free e =
      let no = unless (is_typeof source place) refusal.RequireInModule r e in
      subst (IsRefused source place) no.1 (IsRefused.require_in_module g free (no_typeof no.0))
  require_is r Script g free e = ⊎_elim
      (λ on. subst (IsRefused source place) (same_Some refusal.RequireMember r on.1) (IsRefused.require_member g free ((member_is source (place + 1)).0 on.0)))
      (λ other. let kept = unless_then (is_typeof source place) _ r other.1 in
      let no = unless (is_some (require_end source told forwarded place)) refusal.ComputedRequire r kept.1 in
      subst (IsRefused source place) no.1 (IsRefused.computed_require g free
      (λ plain. true≢false (sym (plain_so plain kept.0) ∙ no.0))
      (λ on. true≢false (sym ((member_is source (place + 1)).1 on) ∙ other.0))))
      (either (goes_on_as_member source (place + 1)) (Some refusal.RequireMember) _ r e)

  free_so : (r : Refusal) → IsFree source place → free_refusal source told forwarded place (name_at source place) ≡ Some r → IsRefused source place r
  free_so r free e = ⊎_elim
      (λ one. require_is r source.goal refl (free, (bytes_eq-Decides (name_at source place) (codes "require")).0 one.0) one.1)
      (λ other. ⊎_elim
      (λ one. let is = only_if (called_from source.marks place place) refusal.Eval r one.1 in
      subst (IsRefused source place) is.1 (IsRefused.eval (free, (bytes_eq-Decides (name_at source place) (codes "eval")).0 one.0) ((called_is source place).0 is.0)))
      (λ last. let one = if_then (bytes_eq (name_at source place) (codes "module")) _ r last.1 in
      let is = only_if (is_hot source place) refusal.ModuleHot r one.1 in
      let hot = (hot_is source place).0 is.0 in
      subst (IsRefused source place) is.1 (IsRefused.module_hot (free, (bytes_eq-Decides (name_at source place) (codes "module")).0 one.0) hot.0 hot.1))
      (either (bytes_eq (name_at source place) (codes "eval")) _ _ r other.1))
      (either (bytes_eq (name_at source place) (codes "require")) _ _ r e)

  name_so : (r : Refusal) → name_refusal source told forwarded place ≡ Some r → IsRefused source place r
  name_so r e = ⊎_elim
      (λ one. let sides = both_if (is_reserved (name_at source place)) (occurs source forwarded place) one.0 in
      subst (IsRefused source place) (same_Some refusal.ReservedName r one.1)
      (IsRefused.reserved_name ((occurs_is source forwarded forward place).0 sides.1) ((reserved_is (name_at source place)).0 sides.0)))
      (λ other. let one = if_then (is_free source told forwarded place) _ r other.1 in free_so r ((free_is source told forwarded are forward place).0 one.0) one.1)
      (either (is_reserved_here source forwarded place) _ _ r e)

  import_so : (r : Refusal) → HasRole source place is.ImportCall → cond (is_some (import_end source place)) None (Some refusal.ComputedImport) ≡ Some r → IsRefused source place r
  import_so r t e =
      let no = unless (is_some (import_end source place)) refusal.ComputedImport r e in
      subst (IsRefused source place) no.1 (IsRefused.computed_import t
      (λ value right i. true≢false (sym (ap is_some (there_import source place value right i).0) ∙ no.0)))

  attribute_so : (r : Refusal) → HasRole source place is.Attributes → other_refusal source table place is.Attributes ≡ Some r → IsRefused source place r
  attribute_so r t e =
      let beyond = unless_then (nat_eq place 0) _ r e in
      let apart = eqb-false place 0 beyond.0 in
      let next : place - 1 + 1 ≡ place = omega (arith, apart) in
      let some = unless_then (has_no_pair source (place - 1)) _ r beyond.1 in
      let no = unless (asks_for_json source (place - 1)) refusal.ImportAttribute r some.1 in
      subst (IsRefused source place) no.1 (IsRefused.import_attribute (place - 1) next (subst (λ k. HasRole source k is.Attributes) (sym next) t)
      (λ none. true≢false (sym ((has_no_pair_is source (place - 1)).1 none) ∙ some.0))
      (λ json. true≢false (sym ((json_is source (place - 1)).1 json) ∙ no.0)))

  other_so : (r : Refusal) (role : Role) → HasRole source place role → other_refusal source table place role ≡ Some r → IsRefused source place r
  other_so r is.Await t e = await_is r (slice_get table place) refl t e
  other_so r is.ImportCall t e = import_so r t e
  other_so r is.ImportMeta t e = subst (IsRefused source place) (same_Some refusal.ImportMeta r e) (IsRefused.import_meta t)
  other_so r is.With t e = subst (IsRefused source place) (same_Some refusal.With r e) (IsRefused.«with» t)
  other_so r is.Label t e =
      let is = only_if (is_reserved (name_at source place)) refusal.ReservedName r e in
      subst (IsRefused source place) is.1 (IsRefused.reserved_label t ((reserved_is (name_at source place)).0 is.0))
  other_so r is.Attributes t e = attribute_so r t e
  other_so r _ t e = absurd (none-some r e)

  token_so : (r : Refusal) (role : Role) (naming : Bool) → is_naming role ≡ naming → HasRole source place role
      → cond naming (name_refusal source told forwarded place) (other_refusal source table place role) ≡ Some r → IsRefused source place r
  token_so r role true n t e = name_so r e
  token_so r role false n t e = other_so r role t e

  refusal_so : (r : Refusal) (found : Option Mark) → slice_get source.marks place ≡ found → refusal_by source told table forwarded place found ≡ Some r → IsRefused source place r
  refusal_so r (Some (mark.Token role token)) m e = token_so r role (is_naming role) refl (token, m) e
  refusal_so r _ m e = absurd (none-some r e)

  pub refusal_is : (r : Refusal) → refusal_at source told table forwarded place ≡ Some r → IsRefused source place r
  refusal_is r e = refusal_so r (slice_get source.marks place) refl e

  -- what is refused is found
  by_name : (found : Option Mark) → names_it found ≡ true → refusal_by source told table forwarded place found ≡ name_refusal source told forwarded place
  by_name (Some (mark.Token role token)) n = ap (λ b. cond b (name_refusal source told forwarded place) (other_refusal source table place role)) n
  by_name _ n = absurd (true≢false (sym n))

  name_met : names_it (slice_get source.marks place) ≡ true → is_some (name_refusal source told forwarded place) ≡ true
      → is_some (refusal_at source told table forwarded place) ≡ true
  name_met n e = ap is_some (by_name (slice_get source.marks place) n) ∙ e

  free_met : (name : List ℕ) → IsFreeNamed source place name → is_some (free_refusal source told forwarded place name) ≡ true
      → is_some (refusal_at source told table forwarded place) ≡ true
  free_met name free e =
      name_met (occurrence_named source place free.0.occurs)
      (some_more (is_reserved_here source forwarded place) refusal.ReservedName _
      (ap (λ b. is_some (cond b (free_refusal source told forwarded place (name_at source place)) None)) ((free_is source told forwarded are forward place).1 free.0)
      ∙ ap (λ n. is_some (free_refusal source told forwarded place n)) free.1 ∙ e))

  token_met : (role : Role) (t : HasRole source place role) (x : Refusal) → is_naming role ≡ false → other_refusal source table place role ≡ Some x
      → is_some (refusal_at source told table forwarded place) ≡ true
  token_met role t x n e =
      ap is_some (ap (refusal_by source told table forwarded place) t.1
      ∙ ap (λ b. cond b (name_refusal source told forwarded place) (other_refusal source table place role)) n ∙ e)

  require_met : (goal : ProgramGoal) → source.goal ≡ goal → IsFreeNamed source place require → is_some (require_by source told forwarded place goal) ≡ true
      → is_some (refusal_at source told table forwarded place) ≡ true
  require_met goal g free e = free_met require free (ap (λ (g : ProgramGoal). is_some (require_by source told forwarded place g)) g ∙ e)

  no_plain : ¬ IsPlainRequire source place → (is_typeof source place ≡ false) × (is_some (require_end source told forwarded place) ≡ false)
  no_plain none = (
    false_from_ne_true (is_typeof source place) (λ e. none (IsPlainRequire.kind ((typeof_is source place).0 e))),
    false_from_ne_true (is_some (require_end source told forwarded place))
        (λ e. let one = some_there (require_end source told forwarded place) e in
        none (IsPlainRequire.call _ one.0 (require_there source told forwarded are forward place one.0 one.1))),
  )

  computed_met : source.goal ≡ Script → IsFreeNamed source place require → ¬ IsPlainRequire source place → is_some (refusal_at source told table forwarded place) ≡ true
  computed_met g free none =
      let no = no_plain none in
      require_met Script g free (some_more (goes_on_as_member source (place + 1)) refusal.RequireMember _
      (ap (λ b. is_some (cond b None (cond (is_some (require_end source told forwarded place)) None (Some refusal.ComputedRequire)))) no.0
      ∙ ap (λ b. is_some (cond b None (Some refusal.ComputedRequire))) no.1))

  import_met : HasRole source place is.ImportCall → ((value : List ℕ) (right : ℕ) → ¬ ImportsText source place value right)
      → is_some (refusal_at source told table forwarded place) ≡ true
  import_met t none =
      token_met is.ImportCall t refusal.ComputedImport refl (ap (λ b. cond b None (Some refusal.ComputedImport))
      (false_from_ne_true (is_some (import_end source place))
      (λ e. let one = some_there (import_end source place) e in none _ one.0 (import_there source place one.0 one.1))))

  attribute_met : (request : ℕ) → request + 1 ≡ place → HasRole source (request + 1) is.Attributes → ¬ HasNoPair source request
      → ¬ AsksForJson source request → is_some (refusal_at source told table forwarded place) ≡ true
  attribute_met request next t some other =
      let back : request ≡ place - 1 = omega (arith, next) in
      let beyond : nat_eq place 0 ≡ false = ne_eqb place 0 (λ none. omega (arith, none, next)) in
      let pairs : has_no_pair source (place - 1) ≡ false =
      subst (λ k. has_no_pair source k ≡ false) back (false_from_ne_true (has_no_pair source request) (λ e. some ((has_no_pair_is source request).0 e))) in
      let json : asks_for_json source (place - 1) ≡ false =
      subst (λ k. asks_for_json source k ≡ false) back (false_from_ne_true (asks_for_json source request) (λ e. other ((json_is source request).0 e))) in
      token_met is.Attributes (subst (λ k. HasRole source k is.Attributes) next t) refusal.ImportAttribute refl
      (ap (λ b. cond b None (cond (has_no_pair source (place - 1)) None (cond (asks_for_json source (place - 1)) None (Some refusal.ImportAttribute)))) beyond
      ∙ ap (λ b. cond b None (cond (asks_for_json source (place - 1)) None (Some refusal.ImportAttribute))) pairs
      ∙ ap (λ b. cond b None (Some refusal.ImportAttribute)) json)

  await_met : HasRole source place is.Await → IsOutsideFunctions source place → is_some (refusal_at source told table forwarded place) ≡ true
  await_met t out =
      let there = as_long source.marks table place (mark.Token is.Await t.0) t.1 around.whole in
      let no : there.0.in_function ≡ false = false_from_ne_true there.0.in_function
      (λ e. let inside = (around.each place there.0 there.1).function.0 e in out inside.0 inside.1 inside.2 inside.3) in
      token_met is.Await t refusal.TopLevelAwait refl (ap await_by there.1 ∙ ap (λ b. cond b None (Some refusal.TopLevelAwait)) no)

  pub refused_met : (r : Refusal) → IsRefused source place r → is_some (refusal_at source told table forwarded place) ≡ true
  refused_met _ (IsRefused.top_level_await t out) = await_met t out
  refused_met _ (IsRefused.computed_import t none) = import_met t none
  refused_met _ (IsRefused.computed_require g free plain member) = computed_met g free plain
  refused_met _ (IsRefused.eval free called) =
      free_met (codes "eval") free (ap (λ b. is_some (cond b (Some refusal.Eval) None)) ((called_is source place).1 called))
  refused_met _ (IsRefused.import_meta t) = token_met is.ImportMeta t refusal.ImportMeta refl refl
  refused_met _ (IsRefused.«with» t) = token_met is.With t refusal.With refl refl
  refused_met _ (IsRefused.require_in_module g free kept) =
      require_met Module g free (ap (λ b. is_some (cond b None (Some refusal.RequireInModule)))
      (false_from_ne_true (is_typeof source place) (λ e. kept ((typeof_is source place).0 e))))
  refused_met _ (IsRefused.require_member g free member) =
      require_met Script g free (ap (λ b. is_some (cond b (Some refusal.RequireMember) (cond (is_typeof source place) None
      (cond (is_some (require_end source told forwarded place)) None (Some refusal.ComputedRequire))))) ((member_is source (place + 1)).1 member))
  refused_met _ (IsRefused.module_hot free dot named) =
      free_met (codes "module") free (ap (λ b. is_some (cond b (Some refusal.ModuleHot) None)) ((hot_is source place).1 (dot, named)))
  refused_met _ (IsRefused.reserved_name o n) =
      let here = if_both (is_reserved (name_at source place)) (occurs source forwarded place) ((reserved_is (name_at source place)).1 n)
      ((occurs_is source forwarded forward place).1 o) in
      name_met (occurrence_named source place o)
      (ap (λ b. is_some (cond b (Some refusal.ReservedName) (cond (is_free source told forwarded place) (free_refusal source told forwarded place (name_at source place)) None))) here)
  refused_met _ (IsRefused.reserved_label t n) =
      token_met is.Label t refusal.ReservedName refl (ap (λ b. cond b (Some refusal.ReservedName) None) ((reserved_is (name_at source place)).1 n))
  refused_met _ (IsRefused.import_attribute request next t some other) = attribute_met request next t some other

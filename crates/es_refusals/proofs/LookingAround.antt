-- What is looked up around an occurrence of a name is what is defined of it.
use Rattle.std.proofs.Common.{◌≡◌, ◌↔◌, ◌⊎◌, inl, inr, ⊎_elim, ℕ, ◌+◌, ◌-◌, Bool, true, false, not, cond, nat_eq, List, Option, Some, None, is_some, length, take, slice_get, codes, refl, sym, ap, subst, ◌∙◌, arith, true≢false}
use Rattle.std.specs.Str.{bytes_eq}
use Rattle.std.proofs.lemmas.Bool.{ne_eqb, false_from_ne_true}
use Rattle.std.proofs.lemmas.Option.{none-some}
use Rattle.std.proofs.lemmas.Slice.Eq.{bytes_eq-Decides}
use Rattle.pk_types.specs.Numbers.{has}
use Rattle.pk_types.proofs.ListMembers.{has-true, absent, not_so, so_not}
use Rattle.es_outline.specs.declared.mark.Mark.{Mark}
use Rattle.es_outline.specs.declared.mark.Mark.TheVariants as mark
use Rattle.es_outline.specs.declared.mark.Role.TheVariants as is
use Rattle.es_scope.specs.declared.kinds.DeclarationKind.{DeclarationKind}
use Rattle.es_scope.specs.Source.{Source, HasRole, IsMark, spelled_at, name_at}
use Rattle.es_scope.specs.Around.{GoesOn, IsTypeof, IsBehindPrefix}
use Rattle.es_scope.specs.Frames.{declared_at, frame_at, mark_declares}
use Rattle.es_scope.specs.Occurrences.{IsDeclared, IsOccurrence}
use Rattle.es_scope.specs.Refused.{GoesOnAsMember, CallsIfThere, IsReservedName, reserved_start}
use Rattle.es_scope.proofs.Agreeing.{declared_as}
use Rattle.es_asks.specs.Forwarding.{AreForwarded}
use Rattle.es_asks.specs.Texts.{spells}
use Rattle.es_refusals.specs.Around.{is_prefix, is_dot, goes_on, is_behind_typeof, is_typeof, calls_if_there, member_by, goes_on_as_member}
use Rattle.es_refusals.specs.Refusing.{is_reserved, occurs_by, occurs, is_hot}
use Rattle.es_refusals.proofs.Calling.{beyond_first}

pub both_if : (b c : Bool) → cond b c false ≡ true → (b ≡ true) × (c ≡ true)
both_if true c e = (refl, e)
both_if false c e = absurd (true≢false (sym e))

pub if_both : (b c : Bool) → b ≡ true → c ≡ true → cond b c false ≡ true
if_both true c e f = f
if_both false c e f = absurd (true≢false (sym e))

module _ (source : Source) where
  prefix_is : (place : ℕ) (found : Option Mark) → slice_get source.marks place ≡ found → is_prefix found ≡ true → HasRole source place is.Prefix
  prefix_is place (Some (mark.Token is.Prefix token)) m e = (token, m)
  prefix_is place _ m e = absurd (true≢false (sym e))

  dot_is : (place : ℕ) (found : Option Mark) → slice_get source.marks place ≡ found → is_dot found ≡ true → HasRole source place is.Dot
  dot_is place (Some (mark.Token is.Dot token)) m e = (token, m)
  dot_is place _ m e = absurd (true≢false (sym e))

  -- `typeof` of just a name
  goes_on_is : (place : ℕ) (found : Option Mark) → slice_get source.marks place ≡ found → goes_on found ≡ true → GoesOn source place ⊎ IsMark source place mark.Assigned
  goes_on_is place (Some (mark.Token is.Dot token)) m e = inl (GoesOn.dot (token, m))
  goes_on_is place (Some (mark.Token is.Suffixes token)) m e = inl (GoesOn.suffix (token, m))
  goes_on_is place (Some mark.Call) m e = inl (GoesOn.call m)
  goes_on_is place (Some mark.Tag) m e = inl (GoesOn.tag m)
  goes_on_is place (Some mark.Assigned) m e = inr m
  goes_on_is place _ m e = absurd (true≢false (sym e))

  goes_on_so : (place : ℕ) → GoesOn source place → goes_on (slice_get source.marks place) ≡ true
  goes_on_so place (GoesOn.dot t) = ap goes_on t.1
  goes_on_so place (GoesOn.suffix t) = ap goes_on t.1
  goes_on_so place (GoesOn.call m) = ap goes_on m
  goes_on_so place (GoesOn.tag m) = ap goes_on m

  behind_is : (place : ℕ) → is_behind_typeof source place ≡ true → IsBehindPrefix source place (codes "typeof")
  behind_is place e =
      let beyond = beyond_first place (nat_eq place 0) _ refl e in
      let sides = both_if (is_prefix (slice_get source.marks (place - 1))) (spells source (place - 1) (codes "typeof")) beyond.1 in
      let some = beyond.0 in
      record {
        before = place - 1;
        next = omega arith;
        prefix = prefix_is (place - 1) (slice_get source.marks (place - 1)) refl sides.0;
        spells = (bytes_eq-Decides (spelled_at source (place - 1)) (codes "typeof")).0 sides.1;
      }

  so_behind : (place : ℕ) → IsBehindPrefix source place (codes "typeof") → is_behind_typeof source place ≡ true
  so_behind place b =
      let next = b.next in
      let back : b.before ≡ place - 1 = omega (arith, next) in
      let beyond : nat_eq place 0 ≡ false = ne_eqb place 0 (λ none. omega (arith, none, next)) in
      ap (λ none. cond none false (cond (is_prefix (slice_get source.marks (place - 1))) (spells source (place - 1) (codes "typeof")) false)) beyond
      ∙ if_both (is_prefix (slice_get source.marks (place - 1))) (spells source (place - 1) (codes "typeof"))
      (subst (λ k. is_prefix (slice_get source.marks k) ≡ true) back (ap is_prefix b.prefix.1))
      (subst (λ k. spells source k (codes "typeof") ≡ true) back ((bytes_eq-Decides (spelled_at source b.before) (codes "typeof")).1 b.spells))

  pub typeof_is : (place : ℕ) → (is_typeof source place ≡ true) ↔ IsTypeof source place
  typeof_is place = (
    λ e. let sides = both_if (is_behind_typeof source place) (not (goes_on (slice_get source.marks (place + 1)))) e in
        let stops = not_so (goes_on (slice_get source.marks (place + 1))) sides.1 in
        record {
          prefix = behind_is place sides.0;
          whole = λ on. true≢false (sym (goes_on_so (place + 1) on) ∙ stops);
          kept = λ m. true≢false (sym (ap goes_on m) ∙ stops);
        },
    λ t. if_both (is_behind_typeof source place) (not (goes_on (slice_get source.marks (place + 1)))) (so_behind place t.prefix)
        (so_not (goes_on (slice_get source.marks (place + 1))) (false_from_ne_true (goes_on (slice_get source.marks (place + 1)))
        (λ on. ⊎_elim t.whole t.kept (goes_on_is (place + 1) (slice_get source.marks (place + 1)) refl on)))),
  )

  -- members
  calls_is : (place : ℕ) → (calls_if_there source place ≡ true) ↔ CallsIfThere source place
  calls_is place = (
    λ e. let sides = both_if (spells source place (codes "?.")) (spells source (place + 1) (codes "(")) e in
        ((bytes_eq-Decides (spelled_at source place) (codes "?.")).0 sides.0, (bytes_eq-Decides (spelled_at source (place + 1)) (codes "(")).0 sides.1),
    λ calls. if_both (spells source place (codes "?.")) (spells source (place + 1) (codes "("))
        ((bytes_eq-Decides (spelled_at source place) (codes "?.")).1 calls.0) ((bytes_eq-Decides (spelled_at source (place + 1)) (codes "(")).1 calls.1),
  )

  member_by_is : (place : ℕ) (found : Option Mark) → slice_get source.marks place ≡ found → member_by source place found ≡ true → GoesOnAsMember source place
  member_by_is place (Some (mark.Token is.Dot token)) m e = GoesOnAsMember.dot (token, m)
  member_by_is place (Some (mark.Token is.Suffixes token)) m e =
      GoesOnAsMember.other (token, m) (λ calls. true≢false (sym ((calls_is place).1 calls) ∙ not_so (calls_if_there source place) e))
  member_by_is place _ m e = absurd (true≢false (sym e))

  so_member : (place : ℕ) → GoesOnAsMember source place → goes_on_as_member source place ≡ true
  so_member place (GoesOnAsMember.dot t) = ap (member_by source place) t.1
  so_member place (GoesOnAsMember.other t none) =
      ap (member_by source place) t.1 ∙ so_not (calls_if_there source place) (false_from_ne_true (calls_if_there source place) (λ calls. none ((calls_is place).0 calls)))

  pub member_is : (place : ℕ) → (goes_on_as_member source place ≡ true) ↔ GoesOnAsMember source place
  member_is place = (λ e. member_by_is place (slice_get source.marks place) refl e, λ on. so_member place on)

  pub hot_is : (place : ℕ) → (is_hot source place ≡ true) ↔ (HasRole source (place + 1) is.Dot × (name_at source (place + 2) ≡ codes "hot"))
  hot_is place = (
    λ e. let sides = both_if (is_dot (slice_get source.marks (place + 1))) (bytes_eq (name_at source (place + 2)) (codes "hot")) e in
        (dot_is (place + 1) (slice_get source.marks (place + 1)) refl sides.0, (bytes_eq-Decides (name_at source (place + 2)) (codes "hot")).0 sides.1),
    λ hot. if_both (is_dot (slice_get source.marks (place + 1))) (bytes_eq (name_at source (place + 2)) (codes "hot")) (ap is_dot hot.0.1)
        ((bytes_eq-Decides (name_at source (place + 2)) (codes "hot")).1 hot.1),
  )

-- reserved names
pub reserved_is : (name : List ℕ) → (is_reserved name ≡ true) ↔ IsReservedName name
reserved_is name = (
  λ e. sym ((bytes_eq-Decides reserved_start (take (length reserved_start) name)).0 e),
  λ r. (bytes_eq-Decides reserved_start (take (length reserved_start) name)).1 (sym r),
)

-- occurrences
some_how : (told : Option DeclarationKind) → is_some told ≡ true → (how : DeclarationKind) × (told ≡ Some how)
some_how None e = absurd (true≢false (sym e))
some_how (Some how) e = (how, refl)

pub declared_same : (source : Source) (place : ℕ) (answer : Option DeclarationKind) → ((how : DeclarationKind) → (answer ≡ Some how) ↔ IsDeclared source place how)
    → is_some answer ≡ is_some (declared_at source place)
declared_same source place None h = sym (false_from_ne_true (is_some (declared_at source place))
    (λ some. let told = some_how (declared_at source place) some in none-some told.0 ((h told.0).1 ((declared_as source place told.0).1 told.1))))
declared_same source place (Some how) h = sym (ap is_some ((declared_as source place how).0 ((h how).0 refl)))

module _ (source : Source) (forwarded : List ℕ) (forward : AreForwarded source forwarded) (place : ℕ) where
  declared_occurs : is_some (declared_at source place) ≡ true → IsOccurrence source place
  declared_occurs e = let told = some_how (declared_at source place) e in IsOccurrence.declared told.0 ((declared_as source place told.0).1 told.1)

  occurs_by_is : (found : Option Mark) → slice_get source.marks place ≡ found → occurs_by source forwarded place found ≡ true → IsOccurrence source place
  occurs_by_is (Some (mark.Token is.Reference token)) m e = IsOccurrence.referred (token, m)
  occurs_by_is (Some (mark.Token is.Exported token)) m e =
      IsOccurrence.exported (token, m)
      (λ from. true≢false (sym (has-true forwarded place ((forward place).1 ((token, m), from))) ∙ not_so (has forwarded place) e))
  occurs_by_is _ m e = declared_occurs e

  declared_by_is : (found : Option Mark) → slice_get source.marks place ≡ found → is_some (declared_at source place) ≡ true → occurs_by source forwarded place found ≡ true
  declared_by_is (Some (mark.Token is.Reference token)) m e = refl
  declared_by_is (Some (mark.Token is.Exported token)) m e =
      absurd (true≢false (sym e ∙ ap (λ (f : Option Mark). is_some (mark_declares source f (frame_at source place))) m))
  declared_by_is _ m e = e

  so_occurs : IsOccurrence source place → occurs source forwarded place ≡ true
  so_occurs (IsOccurrence.declared how d) = declared_by_is (slice_get source.marks place) refl (ap is_some ((declared_as source place how).0 d))
  so_occurs (IsOccurrence.referred t) = ap (occurs_by source forwarded place) t.1
  so_occurs (IsOccurrence.exported t own) =
      ap (occurs_by source forwarded place) t.1 ∙ so_not (has forwarded place) (absent forwarded place (λ c. own ((forward place).0 c).1))

  pub occurs_is : (occurs source forwarded place ≡ true) ↔ IsOccurrence source place
  occurs_is = (λ e. occurs_by_is (slice_get source.marks place) refl e, λ o. so_occurs o)

-- The use of a graph, read off from all that is known.
use Rattle.std.proofs.Common.{◌≡◌, ◌↔◌, ◌⊎◌, inl, inr, ⊎_elim, ℕ, zero, suc, ◌+◌, ◌<◌, Bool, true, false, List, [], ◌∷◌, ◌++◌, length, get_or, Contains, Some, slice_get, refl, sym, ap, subst, ◌∙◌, length-append, arith}
use Rattle.std.proofs.lemmas.List.Elements.{Contains-append_left, Contains-push, Contains-push_cases}
use Rattle.std.proofs.Math.Seq.{get_or-append_seam}
use Rattle.std.proofs.lemmas.Bool.{cases_lt}
use Rattle.std.proofs.lemmas.List.{get_or_append_left}
use Rattle.std.proofs.lemmas.Option.{same_Some, slice_get-get_or, slice_get_within, get_or_from_slice_get}
use Rattle.pk_types.specs.declared.graph.Graph.{Graph}
use Rattle.pk_types.specs.declared.plan.Used.{Used as Use}
use Rattle.pk_types.specs.ExportedNames.{AreInByteOrder}
use Rattle.pk_types.specs.Use.{IsUsed, IsWhole, HasUse}
use Rattle.pk_types.proofs.Members.{at_front, at_right}
use Rattle.pk_types.proofs.Parts.{none_within}
use Rattle.prune_graph.specs.declared.through.Through.{Through}
use Rattle.prune_graph.specs.Gathering.{HasRequests, IsNamed, IsSpaced, IsUnused, Gains}
use Rattle.prune_graph.proofs.Gaining.{gains_none, gains_same, gains_then, keeps_requests}
use Rattle.export_usage.specs.declared.facts.Fact.{Fact}
use Rattle.export_usage.specs.declared.facts.Fact.TheVariants.{Reached, Exposed, Space, Used}
use Rattle.export_usage.specs.declared.facts.Facts.{Facts}
use Rattle.export_usage.specs.Claims.{KnowsOf}
use Rattle.export_usage.specs.Reading.{IsInRange, SaysName, SaysSpace, AreByModule, IsRead}
use Rattle.export_usage.specs.Spreading.{IsAll}
use Rattle.export_usage.proofs.Least.{used_known, whole_known}
use Rattle.export_usage.proofs.OneName.{name_at, number_within}

-- ---- facts, one after the other

abbrev pub OneSaysName : List (List ℕ) → List Fact → ℕ → List ℕ → Type 0
OneSaysName texts facts number name = (fact : Fact) × Contains facts fact × SaysName texts fact number name

abbrev pub OneSaysSpace : List Fact → ℕ → Type 0
OneSaysSpace facts number = (fact : Fact) × Contains facts fact × SaysSpace fact number

module _ (texts : List (List ℕ)) where
  pub said_none : (through : Through) → Gains through (OneSaysName texts []) (OneSaysSpace []) through
  said_none through = gains_none through (OneSaysName texts []) (OneSaysSpace []) (λ number name one. none_within one.0 one.1) (λ number one. none_within one.0 one.1)

  pub said_more : (old between new : Through) (facts more : List Fact) (fact : Fact) → more ≡ facts ++ fact ∷ [] → Gains old (OneSaysName texts facts) (OneSaysSpace facts) between
      → Gains between (SaysName texts fact) (SaysSpace fact) new → Gains old (OneSaysName texts more) (OneSaysSpace more) new
  said_more old between new facts more fact is first second = gains_same old new
      (λ number name. OneSaysName texts facts number name ⊎ SaysName texts fact number name) (OneSaysName texts more)
      (λ number. OneSaysSpace facts number ⊎ SaysSpace fact number) (OneSaysSpace more)
      (gains_then old between new (OneSaysName texts facts) (SaysName texts fact) (OneSaysSpace facts) (SaysSpace fact) first second)
      (λ number name. (
        λ either. ⊎_elim (λ one. (one.0, old_one one.0 one.1, one.2)) (λ says. (fact, new_one, says)) either,
        λ one. ⊎_elim (λ was. inl (one.0, was, one.2)) (λ same. inr (subst (λ f. SaysName texts f number name) (sym same) one.2)) (cases one.0 one.1),
      ))
      (λ number. (
        λ either. ⊎_elim (λ one. (one.0, old_one one.0 one.1, one.2)) (λ says. (fact, new_one, says)) either,
        λ one. ⊎_elim (λ was. inl (one.0, was, one.2)) (λ same. inr (subst (λ f. SaysSpace f number) (sym same) one.2)) (cases one.0 one.1),
      ))
    where
      old_one : (one : Fact) → Contains facts one → Contains more one
      old_one one m = subst (λ l. Contains l one) (sym is) (Contains-append_left facts (fact ∷ []) one m)

      new_one : Contains more fact
      new_one = subst (λ l. Contains l fact) (sym is) (Contains-push facts fact)

      cases : (one : Fact) → Contains more one → Contains facts one ⊎ (fact ≡ one)
      cases one m = Contains-push_cases facts fact one (subst (λ l. Contains l one) is m)

  pub by_module : (none through : Through) (facts : List Fact) (count : ℕ) → IsUnused count none → Gains none (OneSaysName texts facts) (OneSaysSpace facts) through
      → AreByModule texts facts count through
  by_module none through facts count unused gains = record {
    requests = keeps_requests none through (OneSaysName texts facts) (OneSaysSpace facts) count gains unused.requests;
    names = λ number name. (
      λ m. ⊎_elim (λ old. absurd (unused.names number name old)) (λ one. one) ((gains.names number name).0 m),
      λ one. (gains.names number name).1 (inr one),
    );
    spaces = λ number. (
      λ m. ⊎_elim (λ old. absurd (unused.spaces number old)) (λ one. one) ((gains.spaces number).0 m),
      λ one. (gains.spaces number).1 (inr one),
    );
  }

-- ---- the whole

module _ (graph : Graph) (facts : Facts) (all : IsAll graph facts) where
  pub in_range : (fact : Fact) → KnowsOf facts fact → IsInRange facts.names (length graph.rows) fact
  in_range (Reached number) known = (all.truth (Reached number) known).0
  in_range (Exposed number) known = (all.truth (Exposed number) known).0
  in_range (Space number) known = (all.truth (Space number) known).0
  in_range (Used number place) known = let h = all.truth (Used number place) known in (h.2.0, number_within facts.names h.0 place h.1)

  said_used : (number : ℕ) (name : List ℕ) (fact : Fact) → KnowsOf facts fact → SaysName facts.names fact number name → IsUsed graph number name
  said_used number name (Reached other) known says = absurd says
  said_used number name (Exposed other) known says = absurd says
  said_used number name (Space other) known says = absurd says
  said_used number name (Used other place) known says =
      let h = all.truth (Used other place) known in
      subst (λ n. IsUsed graph n name) says.0 (subst (IsUsed graph other) (sym (name_at facts.names h.0 place h.1) ∙ says.1) h.2.1)

  said_whole : (number : ℕ) (fact : Fact) → KnowsOf facts fact → SaysSpace fact number → IsWhole graph number
  said_whole number (Reached other) known says = absurd says
  said_whole number (Exposed other) known says = absurd says
  said_whole number (Space other) known says = subst (IsWhole graph) says (all.truth (Space other) known).1
  said_whole number (Used other place) known says = absurd says

  pub has_use : (through : Through) (used : Use) → AreByModule facts.names facts.known.keys (length graph.rows) through → IsRead (length graph.rows) through used → HasUse graph used
  has_use through used by read = record {
    each_names = read.each_names;
    each_whole = read.each_whole;
    order = λ number names at. (read.names number names at).0;
    names = λ number names at name. (
      λ m. let one = (by.names number name).0 (((read.names number names at).1 name).0 m) in said_used number name one.0 one.1 one.2,
      λ u.
          let k = used_known graph facts all.entries all.followed number name u in
          ((read.names number names at).1 name).1 ((by.names number name).1 (Used number k.0, k.2, (refl, name_at facts.names name k.0 k.1))),
    );
    whole = λ number. (
      λ e. let one = (by.spaces number).0 ((read.whole number).0 e) in said_whole number one.0 one.1 one.2,
      λ w. (read.whole number).1 ((by.spaces number).1 (Space number, whole_known graph facts all.entries all.followed number w, refl)),
    );
  }

-- ---- the record

past_end : (flags : List Bool) (number : ℕ) → get_or flags number false ≡ true → number < length flags
past_end [] number e = cc
past_end (flag ∷ flags) zero e = omega arith
past_end (flag ∷ flags) (suc number) e = let rest = past_end flags number e in omega (arith, rest)

pub whole_read : (through : Through) (whole : List Bool) (count : ℕ) → HasRequests count through → length whole ≡ count
    → ((number : ℕ) → number < count → get_or whole number false ≡ get_or through.spaces.items number false)
    → (number : ℕ) → (slice_get whole number ≡ Some true) ↔ IsSpaced through number
whole_read through whole count has each same number = (
  λ e.
      let h : number < count = omega (arith, each, slice_get_within whole number true e) in
      sym (same number h) ∙ get_or_from_slice_get whole number true false e,
  λ s.
      let h : number < count = omega (arith, has.spaces, past_end through.spaces.items number s) in
      slice_get-get_or whole number false (omega (arith, each, h)) ∙ ap Some (same number h ∙ s),
)

-- ---- one module more

abbrev pub AreNamesAt : Through → ℕ → List (List ℕ) → Type 0
AreNamesAt through number names = AreInByteOrder names × ((name : List ℕ) → Contains names name ↔ IsNamed through number name)

pub names_more : (through : Through) (lists more : List (List (List ℕ))) (list : List (List ℕ)) (count : ℕ) → more ≡ lists ++ list ∷ [] → length lists ≡ count
    → ((k : ℕ) (names : List (List ℕ)) → slice_get lists k ≡ Some names → AreNamesAt through k names) → AreNamesAt through count list
    → (k : ℕ) (names : List (List ℕ)) → slice_get more k ≡ Some names → AreNamesAt through k names
names_more through lists more list count is each before last k names e =
    let at = subst (λ l. slice_get l k ≡ Some names) is e in
    ⊎_elim (λ less. before k names (at_front lists (list ∷ []) k names at less))
    (λ least.
    let within = slice_get_within (lists ++ list ∷ []) k names at in
    let here : k ≡ 0 + length lists = omega (arith, least, within, length-append lists (list ∷ [])) in
    let same = same_Some list names (sym (at_right lists (list ∷ []) 0 list refl) ∙ ap (slice_get (lists ++ list ∷ [])) (sym here) ∙ at) in
    subst (AreNamesAt through k) same (subst (λ n. AreNamesAt through n list) (omega (arith, here, each)) last))
    (cases_lt k (length lists))

pub whole_more : (flags more spaces : List Bool) (flag : Bool) (count : ℕ) → more ≡ flags ++ flag ∷ [] → length flags ≡ count
    → ((k : ℕ) → k < count → get_or flags k false ≡ get_or spaces k false) → flag ≡ get_or spaces count false
    → (k : ℕ) → k < count + 1 → get_or more k false ≡ get_or spaces k false
whole_more flags more spaces flag count is each before last k h = ap (λ l. get_or l k false) is ∙ ⊎_elim
    (λ less. get_or_append_left flags (flag ∷ []) false k (omega (arith, less, each)) ∙ before k less)
    (λ least. let here : k ≡ length flags = omega (arith, h, least, each) in
    ap (λ n. get_or (flags ++ flag ∷ []) n false) here ∙ get_or-append_seam flags flag [] false ∙ last ∙ ap (λ n. get_or spaces n false) (omega (arith, here, each)))
    (cases_lt k count)

-- The lists of a scope, one item more at a time.
use Rattle.std.proofs.Common.{◌≡◌, ◌≢◌, ◌↔◌, ⊎_elim, ◌<◌, ◌+◌, suc, zero, ℕ, Bool, true, false, List, [], ◌∷◌, ◌++◌, length, get_or, take, map, filter, flat_map, Some, slice_get, Contains, refl, sym, ap, subst, ◌∙◌, arith, append_assoc, add-one, set, Vec, Global, ◌==◌, slice_index}
use Rattle.std.specs.List.{All, range_with_len}
use Rattle.std.specs.Ordering.{nat_cmp}
use Rattle.std.specs.declared.cmp.Ordering.TheVariants.{Less}
use Rattle.std.specs.Cmp.Lexicographic.{slice_cmp}
use Rattle.std.proofs.lemmas.Grind.{flat_map-append, get_or-set_at}
use Rattle.std.proofs.lemmas.List.{take_more, append-nil, get_or-take, length-take, get_or-set_other, length-set}
use Rattle.std.proofs.lemmas.List.Elements.{Contains-append_left, Contains-push, Contains-push_cases, Contains-get_or, All-push}
use Rattle.std.proofs.lemmas.List.Quantifiers.{all_pairs_push}
use Rattle.std.proofs.lemmas.Option.{slice_get-get_or, slice_get_within, get_or_from_slice_get}
use Rattle.std.proofs.lemmas.Bool.{eq-eqb, eqb-true}
use Rattle.pk_types.proofs.ListMembers.{same_or_not}
use Rattle.emit_body.specs.declared.getters.Getter.{Getter}
use Rattle.emit_body.specs.declared.getters.Variable.{Variable}
use Rattle.hoist_rename.proofs.Rows.{passes_more, fails_more}
use Rattle.pk_types.specs.declared.facts.Binding.{Binding}
use Rattle.pk_types.specs.declared.found.Found.{Found}
use Rattle.pk_types.specs.declared.found.Found.TheVariants.{Nothing, Ambiguous}
use Rattle.pk_types.specs.ExportedNames.{AreInByteOrder, ExportedNames}
use Rattle.pk_types.specs.Resolving.{Resolves}
use Rattle.module_spelling.specs.Layout.{Layout}
use Rattle.module_spelling.specs.Spelled.{SpellsName}
use Rattle.scope_getters.specs.Gaining.{FindsSome, IsGetter, AddsGetter}
use Rattle.scope_getters.specs.Scopes.{variables_of, AreGetters}
use Rattle.scope_getters.proofs.CellGains.{one_found}

variable : Binding → List ℕ → Variable
variable binding name = record { kind = binding.kind; name = name }

variables_suc : (bindings : List Binding) (names : List (List ℕ)) (place : ℕ) (binding : Binding) (name : List ℕ) → place < length bindings → place < length names
    → binding ≡ get_or bindings place binding → name ≡ get_or names place name
    → variables_of (take (suc place) bindings) names ≡ variables_of (take place bindings) names ++ record { kind = binding.kind; name = name } ∷ []
variables_suc [] names place binding name h k b n = absurd (omega arith)
variables_suc (first ∷ bindings) [] place binding name h k b n = absurd (omega arith)
variables_suc (first ∷ bindings) (top ∷ names) zero binding name h k b n =
    λ j. (record { kind = (sym b j).kind; name = sym n j } ∷ [])
variables_suc (first ∷ bindings) (top ∷ names) (suc place) binding name h k b n =
    ap (λ l. record { kind = first.kind; name = top } ∷ l) (variables_suc bindings names place binding name (omega arith) (omega arith) b n)

pub variables_more : (old : List Variable) (bindings : List Binding) (names : List (List ℕ)) (place : ℕ) (binding : Binding) (name : List ℕ)
    → place < length bindings → length names ≡ length bindings → binding ≡ get_or bindings place binding → name ≡ get_or names place name
    → (old ++ variables_of (take place bindings) names) ++ record { kind = binding.kind; name = name } ∷ [] ≡ old ++ variables_of (take (place + 1) bindings) names
variables_more old bindings names place binding name h each b n =
    append_assoc old (variables_of (take place bindings) names) (record { kind = binding.kind; name = name } ∷ [])
    ∙ ap (λ l. old ++ l) (sym (variables_suc bindings names place binding name h (omega arith) b n))
    ∙ ap (λ k. old ++ variables_of (take k bindings) names) (sym (add-one place))

-- one more member
pub flat_more : {X Y : Type 0} (f : X → List Y) (xs : List X) (place : ℕ) (x : X) → place < length xs → x ≡ get_or xs place x
    → flat_map f (take (place + 1) xs) ≡ flat_map f (take place xs) ++ f x
flat_more f xs place x within is =
    ap (flat_map f) (take_more xs place x within ∙ ap (λ y. take place xs ++ y ∷ []) (sym is)) ∙ flat_map-append f (take place xs) (x ∷ [])
    ∙ ap (λ l. flat_map f (take place xs) ++ l) (append-nil (f x))

map_push : {X Y : Type 0} (f : X → Y) (xs : List X) (x : X) → map f (xs ++ x ∷ []) ≡ map f xs ++ f x ∷ []
map_push f [] x = refl
map_push f (y ∷ xs) x = ap (λ l. f y ∷ l) (map_push f xs x)

-- one more place
pub kept_more : (f : ℕ → List ℕ) (test : ℕ → Bool) (place : ℕ) (old : List (List ℕ)) → test place ≡ true
    → old ++ map f (filter test (range_with_len 0 (place + 1))) ≡ (old ++ map f (filter test (range_with_len 0 place))) ++ f place ∷ []
kept_more f test place old e =
    ap (λ l. old ++ map f l) (passes_more test place e) ∙ ap (λ l. old ++ l) (map_push f (filter test (range_with_len 0 place)) place)
    ∙ sym (append_assoc old (map f (filter test (range_with_len 0 place))) (f place ∷ []))

pub left_out : (f : ℕ → List ℕ) (test : ℕ → Bool) (place : ℕ) (old : List (List ℕ)) → test place ≡ false
    → old ++ map f (filter test (range_with_len 0 (place + 1))) ≡ old ++ map f (filter test (range_with_len 0 place))
left_out f test place old e = ap (λ l. old ++ map f l) (fails_more test place e)

-- ---- getters

abbrev pub getter_names : List Getter → List (List ℕ)
getter_names getters = map (λ getter. getter.name) getters

-- the getters of the first names
pub record AreFirstGetters (layout : Layout) (root : ℕ) (names : List (List ℕ)) (getters : List Getter) : Type 0 where
  pub each : (name : List ℕ) → Contains (getter_names getters) name ↔ (Contains names name × FindsSome layout.graph root name)
  pub order : AreInByteOrder (getter_names getters)
  pub spelled : All (λ getter. SpellsName layout root root getter.name getter.spelling) getters

pub no_getters : (layout : Layout) (root : ℕ) (getters : List Getter) → getters ≡ [] → AreFirstGetters layout root [] getters
no_getters layout root getters is = subst (AreFirstGetters layout root []) (sym is) (record {
  each = λ name. (λ c. let never : ⊥ = omega (arith, c.1) in absurd never, λ c. let never : ⊥ = omega (arith, c.0.1) in absurd never);
  order = λ i j d h k. let never : ⊥ = omega (arith, k) in absurd never;
  spelled = λ k d h. let never : ⊥ = omega (arith, h) in absurd never;
})

module _ (layout : Layout) (root : ℕ) (names : List (List ℕ)) (place : ℕ) (name : List ℕ) (within : place < length names) (is : name ≡ get_or names place name) where
  first_names : take (place + 1) names ≡ take place names ++ name ∷ []
  first_names = take_more names place name within ∙ ap (λ n. take place names ++ n ∷ []) (sym is)

  with_getter : (old : List Getter) (getter : Getter) → AreInByteOrder names → AreFirstGetters layout root (take place names) old → IsGetter layout root name getter
      → AreFirstGetters layout root (take place names ++ name ∷ []) (old ++ getter ∷ [])
  with_getter old getter order are one =
      let named : getter_names (old ++ getter ∷ []) ≡ getter_names old ++ name ∷ [] = map_push (λ g. g.name) old getter ∙ ap (λ n. getter_names old ++ n ∷ []) one.named in
      record {
        each = λ other. (
          λ c. ⊎_elim (λ was. let h = (are.each other).0 was in (Contains-append_left (take place names) (name ∷ []) other h.0, h.1))
              (λ here. (subst (Contains (take place names ++ name ∷ [])) here (Contains-push (take place names) name), subst (FindsSome layout.graph root) here one.finds))
              (Contains-push_cases (getter_names old) name other (subst (λ l. Contains l other) named c)),
          λ h. subst (λ l. Contains l other) (sym named)
              (⊎_elim (λ was. Contains-append_left (getter_names old) (name ∷ []) other ((are.each other).1 (was, h.1)))
              (λ here. subst (Contains (getter_names old ++ name ∷ [])) here (Contains-push (getter_names old) name))
              (Contains-push_cases (take place names) name other h.0)),
        );
        order = subst AreInByteOrder (sym named) (all_pairs_push (λ n m. slice_cmp nat_cmp n m ≡ Less) (getter_names old) name are.order
            (λ k d h. before (get_or (getter_names old) k d) ((are.each (get_or (getter_names old) k d)).0 (Contains-get_or (getter_names old) k d h)).0));
        spelled = All-push (λ g. SpellsName layout root root g.name g.spelling) old getter are.spelled one.spelled;
      }
    where
      before : (other : List ℕ) → Contains (take place names) other → slice_cmp nat_cmp other name ≡ Less
      before other c =
          let first : c.0 < place = omega (arith, c.1, length-take place names) in
          let there : slice_get names c.0 ≡ Some other = slice_get-get_or names c.0 other (omega (arith, first, within)) ∙ ap Some (sym (get_or-take place names c.0 other first) ∙ c.2) in
          let at : get_or names c.0 name ≡ other = get_or_from_slice_get names c.0 other name there in
          subst (λ n. slice_cmp nat_cmp n name ≡ Less) at (subst (λ n. slice_cmp nat_cmp (get_or names c.0 name) n ≡ Less) (sym is) (order c.0 place name first within))

  without_getter : (old : List Getter) → AreFirstGetters layout root (take place names) old → ¬ FindsSome layout.graph root name
      → AreFirstGetters layout root (take place names ++ name ∷ []) old
  without_getter old are none = record {
    each = λ other. (
      λ c. let h = (are.each other).0 c in (Contains-append_left (take place names) (name ∷ []) other h.0, h.1),
      λ h. ⊎_elim (λ was. (are.each other).1 (was, h.1)) (λ here. absurd (none (subst (FindsSome layout.graph root) (sym here) h.1)))
          (Contains-push_cases (take place names) name other h.0),
    );
    order = are.order;
    spelled = are.spelled;
  }

  pub getters_more : (old new : List Getter) → AreInByteOrder names → AreFirstGetters layout root (take place names) old → AddsGetter layout root name old new
      → AreFirstGetters layout root (take (place + 1) names) new
  getters_more old new order are adds = subst (λ l. AreFirstGetters layout root l new) (sym first_names) (⊎_elim
      (λ (one : (getter : Getter) × IsGetter layout root name getter × (new ≡ old ++ getter ∷ [])).
      subst (AreFirstGetters layout root (take place names ++ name ∷ [])) (sym one.2) (with_getter old one.0 order are one.1))
      (λ (none : (¬ FindsSome layout.graph root name) × (new ≡ old)).
      subst (AreFirstGetters layout root (take place names ++ name ∷ [])) (sym none.1) (without_getter old are none.0)) adds)

pub all_getters : (layout : Layout) (root : ℕ) (names : List (List ℕ)) (getters : List Getter) → ExportedNames layout.graph root names
    → AreFirstGetters layout root names getters → AreGetters layout root getters
all_getters layout root names getters exported are = record {
  names = record {
    each = λ name. (
      λ c. let h = (are.each name).0 c in ((exported.each name).0 h.0, h.1),
      λ h. (are.each name).1 ((exported.each name).1 h.0, h.1),
    );
    order = are.order;
  };
  spelled = are.spelled;
}

-- a name that stands for nothing, or for several things, has no getter
pub no_getter : (layout : Layout) (root : ℕ) (name : List ℕ) (one : Found) → Resolves layout.graph root name one → (one ≢ Nothing → one ≢ Ambiguous → ⊥)
    → ¬ FindsSome layout.graph root name
no_getter layout root name one resolves none = λ finds.
    let same = one_found layout.graph root name finds.0 one finds.1.resolves resolves in
    none (λ e. finds.1.something (same ∙ e)) (λ e. finds.1.one (same ∙ e))

-- ---- the modules of each set

pub one_member : (roots : List ℕ) (sets new : List (Vec ℕ Global)) (member root : ℕ) (old pushed : Vec ℕ Global) → slice_index roots member ≡ root → root < length sets
    → new ≡ set sets root pushed → slice_get sets root ≡ Some old → pushed.items ≡ old.items ++ member ∷ []
    → ((other : ℕ) (list : Vec ℕ Global) → slice_get sets other ≡ Some list → list.items ≡ filter (λ m. slice_index roots m == other) (range_with_len 0 member))
    → (other : ℕ) (list : Vec ℕ Global) → slice_get new other ≡ Some list → list.items ≡ filter (λ m. slice_index roots m == other) (range_with_len 0 (member + 1))
one_member roots sets new member root old pushed is within put at more are other list there = ⊎_elim
    (λ (here : other ≡ root).
    let same : pushed ≡ list = sym (get_or-set_at sets root other pushed list here within) ∙ ap (λ l. get_or l other list) (sym put) ∙ get_or_from_slice_get new other list list there in
    let was : old.items ≡ filter (λ m. slice_index roots m == other) (range_with_len 0 member) = are other old (ap (slice_get sets) here ∙ at) in
    ap (λ (v : Vec ℕ Global). v.items) (sym same) ∙ more ∙ ap (λ l. l ++ member ∷ []) was
    ∙ sym (passes_more (λ m. slice_index roots m == other) member (eq-eqb (slice_index roots member) other (is ∙ sym here))))
    (λ (apart : other ≢ root).
    let inside : other < length sets = omega (arith, slice_get_within new other list there, ap (λ (l : List (Vec ℕ Global)). length l) put, length-set sets root pushed) in
    let same : get_or sets other list ≡ list = sym (get_or-set_other sets root other pushed list apart) ∙ ap (λ l. get_or l other list) (sym put) ∙ get_or_from_slice_get new other list list there in
    are other list (slice_get-get_or sets other list inside ∙ ap Some same)
    ∙ sym (fails_more (λ m. slice_index roots m == other) member (not_same (slice_index roots member) other (λ e. apart (sym e ∙ is)))))
    (same_or_not other root)
  where
    not_same : (a b : ℕ) → (a ≡ b → ⊥) → (a == b) ≡ false
    not_same a b apart = by (a == b) refl
      where
        by : (t : Bool) → (a == b) ≡ t → (a == b) ≡ false
        by true e = absurd (apart (eqb-true a b e))
        by false e = e

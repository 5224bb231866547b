-- An indirect export leads to what the name that it names leads to: the pair that it adds to those gone through would lead back to that name.
use Rattle.std.proofs.Common.{◌≡◌, ◌≢◌, ◌⊎◌, inl, inr, ℕ, List, [], ◌∷◌, ◌++◌, length, get_or, Contains, Some, slice_get, refl, ap, subst, ◌∙◌, arith}
use Rattle.std.proofs.lemmas.List.Elements.{Contains-append_left, Contains-append_right, Contains-append_cases}
use Rattle.pk_types.specs.declared.facts.Kind.TheVariants.{Es}
use Rattle.pk_types.specs.declared.facts.Origin.TheVariants.{Other}
use Rattle.pk_types.specs.declared.graph.Graph.{Graph}
use Rattle.pk_types.specs.declared.graph.Row.{Row}
use Rattle.pk_types.specs.declared.found.Found.{Found}
use Rattle.pk_types.specs.declared.found.Found.TheVariants.{Nothing}
use Rattle.pk_types.specs.Resolving.{Pair, origin_of, kind_at, IsFirst, ResolvesTo, StarsLeadTo}
use Rattle.pk_types.specs.Reexports.{FindsOne}
use Rattle.pk_types.proofs.OneAnswer.{first_es, at_circle, at_indirect}
use Rattle.pk_types.proofs.ListMembers.{same_or_not}
use Rattle.pk_types.proofs.Parts.{Contains-one, one_only, none_within}

tail_of : List ℕ → List ℕ
tail_of [] = []
tail_of (x ∷ xs) = xs

lists_or_not : (xs ys : List ℕ) → (xs ≡ ys) ⊎ (xs ≢ ys)
unfolding tail_of
lists_or_not [] [] = inl refl
lists_or_not [] (y ∷ ys) = inr (λ e. omega (arith, ap length e))
lists_or_not (x ∷ xs) [] = inr (λ e. omega (arith, ap length e))
lists_or_not (x ∷ xs) (y ∷ ys) = elim (same_or_not x y) [
  | inl e ↦ elim (lists_or_not xs ys) [ inl f ↦ inl (ap (λ z. z ∷ xs) e ∙ ap (λ l. y ∷ l) f) | inr n ↦ inr (λ q. n (ap tail_of q)) ]
  | inr n ↦ inr (λ q. n (ap (λ l. get_or l 0 0) q))
]

module _ (graph : Graph) (home request last : ℕ) (exported named : List ℕ) (row : Row) (at : slice_get graph.rows home ≡ Some row)
    (kind : row.facts.kind ≡ Es) (origin : origin_of row.facts exported ≡ Some (Other request named)) (leads : slice_get row.targets request ≡ Some last)
    (es : kind_at graph last ≡ Some Es) (home_es : kind_at graph home ≡ Some Es) where
  -- the same pairs were gone through, but for that of the indirect export
  record Rel (one two : List Pair) : Type 0 where
    mark : Contains two (home, exported)
    into : (p : Pair) → Contains one p → Contains two p
    back : (p : Pair) → Contains two p → Contains one p ⊎ ((home ≡ p.0) × (exported ≡ p.1))

  push : (one two : List Pair) (p : Pair) → Rel one two → Rel (one ++ p ∷ []) (two ++ p ∷ [])
  push one two p r = record {
    mark = Contains-append_left two (p ∷ []) (home, exported) r.mark;
    into = λ q m. elim (Contains-append_cases one (p ∷ []) q m) [
      | inl c ↦ Contains-append_left two (p ∷ []) q (r.into q c)
      | inr c ↦ Contains-append_right two (p ∷ []) q c
    ];
    back = λ q m. elim (Contains-append_cases two (p ∷ []) q m) [
      | inl c ↦ elim (r.back q c) [ inl d ↦ inl (Contains-append_left one (p ∷ []) q d) | inr e ↦ inr e ]
      | inr c ↦ inl (Contains-append_right one (p ∷ []) q c)
    ];
  }

  abbrev Goes : List Pair → List Pair → ℕ → List ℕ → Found → List Pair → Type 0
  Goes one two number name found end = (after : List Pair) × ResolvesTo graph two number name found after × Rel end after
      × ((p : Pair) → Contains one p → Contains end p)

  abbrev StarsGo : List Pair → List Pair → List ℕ → List ℕ → List ℕ → Found → Found → List Pair → Type 0
  StarsGo one two targets name stars so_far found end = (after : List Pair) × StarsLeadTo graph two targets name stars so_far found after × Rel end after
      × ((p : Pair) → Contains one p → Contains end p)

  marked : (one two : List Pair) → Rel one two → Rel (one ++ (home, exported) ∷ []) two
  marked one two r = record {
    mark = r.mark;
    into = λ q m. elim (Contains-append_cases one ((home, exported) ∷ []) q m) [
      | inl c ↦ r.into q c
      | inr c ↦ subst (Contains two) (one_only {A = Pair} (home, exported) q c) r.mark
    ];
    back = λ q m. elim (r.back q m) [ inl d ↦ inl (Contains-append_left one ((home, exported) ∷ []) q d) | inr e ↦ inr e ];
  }

  -- the pair of the indirect export itself
  at_home : (one two : List Pair) → Rel one two → ¬ Contains one (home, exported) → (found : Found) (end : List Pair)
      → ResolvesTo graph one home exported found end → Contains (one ++ (home, exported) ∷ []) (last, named) → Goes one two home exported found end
  at_home one two r first found end d there =
      let i = at_indirect graph one home exported row request last named found end (record { at = at; kind = kind; first = first }) origin leads d in
      let c = at_circle graph (one ++ (home, exported) ∷ []) last named found end es there i in
      subst (λ f. Goes one two home exported f end) c.0 (
        two,
        ResolvesTo.circular two home exported home_es r.mark,
        subst (λ l. Rel l two) c.1 (marked one two r),
        subst (λ l. (p : Pair) → Contains one p → Contains l p) c.1 (λ p m. Contains-append_left one ((home, exported) ∷ []) p m),
      )

  at_pair : (one two : List Pair) → Rel one two → (number : ℕ) (name : List ℕ) → home ≡ number → exported ≡ name → ¬ Contains one (number, name)
      → (found : Found) (end : List Pair) → ResolvesTo graph one number name found end → Contains (one ++ (number, name) ∷ []) (last, named)
      → Goes one two number name found end
  at_pair one two r number name e f = subst
      (λ n. ¬ Contains one (n, name) → (found : Found) (end : List Pair) → ResolvesTo graph one n name found end
      → Contains (one ++ (n, name) ∷ []) (last, named) → Goes one two n name found end)
      e (subst (λ w. ¬ Contains one (home, w) → (found : Found) (end : List Pair) → ResolvesTo graph one home w found end
      → Contains (one ++ (home, w) ∷ []) (last, named) → Goes one two home w found end)
      f (at_home one two r))

  -- a pair is that of the indirect export, or it is new to both
  new_or_home : (one two : List Pair) → Rel one two → (number : ℕ) (name : List ℕ) → ¬ Contains one (number, name)
      → (¬ Contains two (number, name)) ⊎ ((home ≡ number) × (exported ≡ name))
  new_or_home one two r number name n = decide (same_or_not home number) (lists_or_not exported name)
    where
      decide : (home ≡ number) ⊎ (home ≢ number) → (exported ≡ name) ⊎ (exported ≢ name) → (¬ Contains two (number, name)) ⊎ ((home ≡ number) × (exported ≡ name))
      decide (inl e) (inl f) = inr (e, f)
      decide (inl e) (inr f) = inl (λ m. elim (r.back (number, name) m) [ inl c ↦ n c | inr q ↦ f q.1 ])
      decide (inr e) f = inl (λ m. elim (r.back (number, name) m) [ inl c ↦ n c | inr q ↦ e q.0 ])

  grown : (one : List Pair) (p : Pair) (end : List Pair) → ((q : Pair) → Contains (one ++ p ∷ []) q → Contains end q) → (q : Pair) → Contains one q → Contains end q
  grown one p end g q m = g q (Contains-append_left one (p ∷ []) q m)

  -- the rule of a module that is asked for the first time, with the other list
  by_rule : (one two : List Pair) → Rel one two → (number : ℕ) (name : List ℕ) (w : Row) (found : Found) (end : List Pair) → IsFirst graph one number name w
      → ResolvesTo graph one number name found end → Contains (one ++ (number, name) ∷ []) (last, named)
      → (IsFirst graph two number name w → Goes one two number name found end) → Goes one two number name found end
  by_rule one two r number name w found end f d there rule = elim (new_or_home one two r number name f.first) [
    | inl n ↦ rule (record { at = f.at; kind = f.kind; first = n })
    | inr e ↦ at_pair one two r number name e.0 e.1 f.first found end d there
  ]

  mutual
    sim : (one two : List Pair) → Rel one two → (number : ℕ) (name : List ℕ) (found : Found) (end : List Pair) → ResolvesTo graph one number name found end
        → Contains (one ++ (number, name) ∷ []) (last, named) → Goes one two number name found end
    sim _ two r _ _ _ _ (ResolvesTo.foreign one number name k e n) there = (two, ResolvesTo.foreign two number name k e n, r, λ p m. m)
    sim _ two r _ _ _ _ (ResolvesTo.circular one number name e c) there = (two, ResolvesTo.circular two number name e (r.into (number, name) c), r, λ p m. m)
    sim _ two r _ _ _ _ (ResolvesTo.own one number name w binding f o) there =
        by_rule one two r number name w _ _ f (ResolvesTo.own one number name w binding f o) there (λ g. (
          two ++ (number, name) ∷ [],
          ResolvesTo.own two number name w binding g o,
          push one two (number, name) r,
          λ p m. Contains-append_left one ((number, name) ∷ []) p m,
        ))
    sim _ two r _ _ _ _ (ResolvesTo.space one number name w place target f o t) there =
        by_rule one two r number name w _ _ f (ResolvesTo.space one number name w place target f o t) there (λ g. (
          two ++ (number, name) ∷ [],
          ResolvesTo.space two number name w place target g o t,
          push one two (number, name) r,
          λ p m. Contains-append_left one ((number, name) ∷ []) p m,
        ))
    sim _ two r _ _ _ _ (ResolvesTo.indirect one number name w place target other found end f o t d) there =
        let s = sim (one ++ (number, name) ∷ []) (two ++ (number, name) ∷ []) (push one two (number, name) r) target other found end d
        (Contains-append_left (one ++ (number, name) ∷ []) ((target, other) ∷ []) (last, named) there) in
        by_rule one two r number name w found end f (ResolvesTo.indirect one number name w place target other found end f o t d) there
        (λ g. (s.0, ResolvesTo.indirect two number name w place target other found s.0 g o t s.1, s.2, grown one (number, name) end s.3))
    sim _ two r _ _ _ _ (ResolvesTo.no_default one number name w f o h) there =
        by_rule one two r number name w _ _ f (ResolvesTo.no_default one number name w f o h) there (λ g. (
          two ++ (number, name) ∷ [],
          ResolvesTo.no_default two number name w g o h,
          push one two (number, name) r,
          λ p m. Contains-append_left one ((number, name) ∷ []) p m,
        ))
    sim _ two r _ _ _ _ (ResolvesTo.by_stars one number name w found end f o h d) there =
        let s = sim_stars (one ++ (number, name) ∷ []) (two ++ (number, name) ∷ []) (push one two (number, name) r) w.targets name w.facts.stars Nothing found end d there in
        by_rule one two r number name w found end f (ResolvesTo.by_stars one number name w found end f o h d) there
        (λ g. (s.0, ResolvesTo.by_stars two number name w found s.0 g o h s.1, s.2, grown one (number, name) end s.3))

    sim_stars : (one two : List Pair) → Rel one two → (targets name stars : List ℕ) (so_far found : Found) (end : List Pair)
        → StarsLeadTo graph one targets name stars so_far found end → Contains one (last, named) → StarsGo one two targets name stars so_far found end
    sim_stars _ two r _ _ _ _ _ _ (StarsLeadTo.ended one targets name found) there = (two, StarsLeadTo.ended two targets name found, r, λ p m. m)
    sim_stars _ two r _ _ _ _ _ _ (StarsLeadTo.passed one targets name star target stars so_far found end k t e n d) there =
        let s = sim_stars one two r targets name stars so_far found end d there in
        (s.0, StarsLeadTo.passed two targets name star target stars so_far found s.0 k t e n s.1, s.2, s.3)
    sim_stars _ two r _ _ _ _ _ _ (StarsLeadTo.joins one between targets name star target stars so_far first found end t k d j e) there =
        let s = sim one two r target name first between d (Contains-append_left one ((target, name) ∷ []) (last, named) there) in
        let u = sim_stars between s.0 s.2 targets name stars _ found end e (s.3 (last, named) there) in
        (u.0, StarsLeadTo.joins two s.0 targets name star target stars so_far first found u.0 t k s.1 j u.1, u.2, λ p m. u.3 p (s.3 p m))
    sim_stars _ two r _ _ _ _ _ _ (StarsLeadTo.conflicts one end targets name star target stars so_far first t k d j) there =
        let s = sim one two r target name first end d (Contains-append_left one ((target, name) ∷ []) (last, named) there) in
        (s.0, StarsLeadTo.conflicts two s.0 targets name star target stars so_far first t k s.1 j, s.2, s.3)

  at_first : Rel [] ((home, exported) ∷ [])
  at_first = record {
    mark = Contains-one (home, exported);
    into = λ p m. none_within p m;
    back = λ p m. let e = one_only {A = Pair} (home, exported) p m in inr (ap (λ q. q.0) e, ap (λ q. q.1) e);
  }

  pub with_pair : (found : Found) (end : List Pair) → ResolvesTo graph [] last named found end
      → (after : List Pair) × ResolvesTo graph ((home, exported) ∷ []) last named found after
  with_pair found end d = let s = sim [] ((home, exported) ∷ []) at_first last named found end d (Contains-one (last, named)) in (s.0, s.1)

-- the target is a module of ECMAScript, or it has any name whatever was gone through
es_or_any : (graph : Graph) (before : List Pair) (number : ℕ) (name : List ℕ) (found : Found) (end : List Pair) → ResolvesTo graph before number name found end
    → (kind_at graph number ≡ Some Es) ⊎ ((other : List Pair) → ResolvesTo graph other number name found other)
es_or_any graph _ _ _ _ _ (ResolvesTo.foreign before number name k e n) = inr (λ other. ResolvesTo.foreign other number name k e n)
es_or_any graph _ _ _ _ _ (ResolvesTo.circular before number name e c) = inl e
es_or_any graph _ _ _ _ _ (ResolvesTo.own before number name row binding f o) = inl (first_es graph before number name row f)
es_or_any graph _ _ _ _ _ (ResolvesTo.space before number name row request target f o t) = inl (first_es graph before number name row f)
es_or_any graph _ _ _ _ _ (ResolvesTo.indirect before number name row request target other found end f o t d) = inl (first_es graph before number name row f)
es_or_any graph _ _ _ _ _ (ResolvesTo.no_default before number name row f o h) = inl (first_es graph before number name row f)
es_or_any graph _ _ _ _ _ (ResolvesTo.by_stars before number name row found end f o h d) = inl (first_es graph before number name row f)

pub indirect_finds : (graph : Graph) (number request target : ℕ) (exported name : List ℕ) (row : Row) (found : Found) → slice_get graph.rows number ≡ Some row
    → row.facts.kind ≡ Es → origin_of row.facts exported ≡ Some (Other request name) → slice_get row.targets request ≡ Some target
    → FindsOne graph target name found → FindsOne graph number exported found
indirect_finds graph number request target exported name row found at kind o t f =
    let first : IsFirst graph [] number exported row = record { at = at; kind = kind; first = λ c. none_within (number, exported) c } in
    let s : (after : List Pair) × ResolvesTo graph ((number, exported) ∷ []) target name found after =
    elim (es_or_any graph [] target name found f.resolves.0 f.resolves.1) [
      | inl es ↦ with_pair graph number request target exported name row at kind o t es (first_es graph [] number exported row first) found f.resolves.0 f.resolves.1
      | inr any ↦ ((number, exported) ∷ [], any ((number, exported) ∷ []))
    ] in
    record {
      resolves = (s.0, ResolvesTo.indirect [] number exported row request target name found s.0 first o t s.1);
      something = f.something;
      one = f.one;
    }

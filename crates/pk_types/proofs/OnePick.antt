-- There is one list of picks, and so one way to split.
use Rattle.std.proofs.Common.{◌≡◌, ◌⊎◌, inl, inr, ℕ, ℤ, ◌≤◌, ◌<ℤ◌, Bool, true, false, ◌&&◌, true≢false, nat_le, List, [], ◌∷◌, length, refl, sym, ap, subst, ◌∙◌, arith, ⊎_elim, Option, Some, None}
use Rattle.std.specs.List.{Contains}
use Rattle.std.specs.Cmp.Lexicographic.{bytes_decides}
use Rattle.std.proofs.lemmas.Bool.{cases_Bool, cases_lt, le-leb, leb-true}
use Rattle.std.proofs.lemmas.Int.{ints}
use Rattle.std.specs.Int.Signed.{<ℤ_irrefl}
use Rattle.std.proofs.lemmas.Cmp.{nat_list_cmp_total, tied_itself}
use Rattle.std.proofs.lemmas.List.Elements.{All-contains}
use Rattle.pk_types.specs.declared.graph.Graph.{Graph}
use Rattle.pk_types.specs.declared.plan.Chunks.{Chunks}
use Rattle.pk_types.specs.declared.settings.SplitConfig.{SplitConfig}
use Rattle.pk_types.specs.Numbers.{are_same}
use Rattle.pk_types.specs.SplitStates.{SplitState, chunk_at, first_state}
use Rattle.pk_types.specs.SplitCandidates.{Candidate, path_of}
use Rattle.pk_types.specs.SplitPicks.{IsSplitChunk, HoldsJust, reused, made, after_pick, IsPick, IsAhead, by_priority, by_gain, by_name, by_path, IsBefore}
use Rattle.pk_types.specs.Splitting.{ArePicks, ended, picked, PicksEndIn, chunks_of, IsSplit}
use Rattle.pk_types.proofs.ListMembers.{here, there, one_of, none_in, both, first_so, second_so}

below_itself : (number : ℤ) → number <ℤ number → ⊥
below_itself number less = <ℤ_irrefl less

both_below : (number other : ℤ) → number <ℤ other → other <ℤ number → ⊥
both_below number other less also = omega (arith, ints)

before_itself : (text : List ℕ) → IsBefore text text → ⊥
before_itself text less = let tie = tied_itself nat_list_cmp_total text in let wrong : ⊥ = cc in wrong

both_before : (text other : List ℕ) → IsBefore text other → IsBefore other text → ⊥
both_before text other one two = before_itself text (nat_list_cmp_total.trans text other text one two)

-- of two candidates at most one is ahead
pub one_ahead : (graph : Graph) (candidate other : Candidate) → IsAhead graph candidate other → IsAhead graph other candidate → ⊥
one_ahead graph candidate other (by_priority less) (by_priority also) = both_below other.cache_group.priority candidate.cache_group.priority less also
one_ahead graph candidate other (by_priority less) (by_gain same _) = below_itself candidate.cache_group.priority (subst (λ z. z <ℤ candidate.cache_group.priority) same less)
one_ahead graph candidate other (by_priority less) (by_name same _ _) = below_itself candidate.cache_group.priority (subst (λ z. z <ℤ candidate.cache_group.priority) same less)
one_ahead graph candidate other (by_priority less) (by_path same _ _ _) = below_itself candidate.cache_group.priority (subst (λ z. z <ℤ candidate.cache_group.priority) same less)
one_ahead graph candidate other (by_gain same _) (by_priority less) = below_itself other.cache_group.priority (subst (λ z. z <ℤ other.cache_group.priority) same less)
one_ahead graph candidate other (by_name same _ _) (by_priority less) = below_itself other.cache_group.priority (subst (λ z. z <ℤ other.cache_group.priority) same less)
one_ahead graph candidate other (by_path same _ _ _) (by_priority less) = below_itself other.cache_group.priority (subst (λ z. z <ℤ other.cache_group.priority) same less)
one_ahead graph candidate other (by_gain _ more) (by_gain _ also) = omega arith
one_ahead graph candidate other (by_gain _ more) (by_name _ same _) = omega arith
one_ahead graph candidate other (by_gain _ more) (by_path _ same _ _) = omega arith
one_ahead graph candidate other (by_name _ same _) (by_gain _ more) = omega arith
one_ahead graph candidate other (by_path _ same _ _) (by_gain _ more) = omega arith
one_ahead graph candidate other (by_name _ _ before) (by_name _ _ also) = both_before candidate.cache_group.name other.cache_group.name before also
one_ahead graph candidate other (by_name _ _ before) (by_path _ _ same _) = before_itself candidate.cache_group.name (subst (IsBefore candidate.cache_group.name) same before)
one_ahead graph candidate other (by_path _ _ same _) (by_name _ _ before) = before_itself other.cache_group.name (subst (IsBefore other.cache_group.name) same before)
one_ahead graph candidate other (by_path _ _ _ lesser) (by_path _ _ _ also) =
    both_before (path_of graph lesser.0) (path_of graph also.0)
    (All-contains (λ second. IsBefore (path_of graph lesser.0) (path_of graph second)) other.modules also.0 lesser.2 also.1)
    (All-contains (λ second. IsBefore (path_of graph also.0) (path_of graph second)) candidate.modules lesser.0 also.2 lesser.1)

-- there is one pick
pub one_pick : (graph : Graph) (config : SplitConfig) (state : SplitState) (pick other : Candidate) → IsPick graph config state pick → IsPick graph config state other → pick ≡ other
one_pick graph config state pick other one two = ⊎_elim (λ same. sym same)
    (λ ahead. ⊎_elim (λ same. same) (λ also. absurd (one_ahead graph pick other ahead also)) (two.greatest pick one.qualifies))
    (one.greatest other two.qualifies)

-- and one chunk that it goes into
pub one_chunk : (state : SplitState) (candidate : Candidate) (split other : ℕ) → IsSplitChunk state candidate split → IsSplitChunk state candidate other → split ≡ other
one_chunk state candidate split other (reused _ reuses just least) (reused _ reuses' just' least') =
    let low = least other just' in let high = least' split just in omega arith
one_chunk state candidate split other (reused _ reuses just least) (made none) = absurd (none reuses split just)
one_chunk state candidate split other (made none) (reused _ reuses just least) = absurd (none reuses other just)
one_chunk state candidate split other (made none) (made none') = refl

-- the least of the numbers that passes, if one does
abbrev IsLeast : (ℕ → Bool) → List ℕ → ℕ → Type 0
IsLeast test numbers number = Contains numbers number × (test number ≡ true) × ((other : ℕ) → Contains numbers other → test other ≡ true → number ≤ other)

least_of : (test : ℕ → Bool) (numbers : List ℕ) → ((number : ℕ) × IsLeast test numbers number) ⊎ ((other : ℕ) → Contains numbers other → test other ≡ false)
least_of test [] = inr (λ other c. absurd (none_in other c))
least_of test (first ∷ rest) = by (least_of test rest) (cases_Bool (test first))
  where
    by : ((number : ℕ) × IsLeast test rest number) ⊎ ((other : ℕ) → Contains rest other → test other ≡ false) → (test first ≡ true) ⊎ (test first ≡ false)
        → ((number : ℕ) × IsLeast test (first ∷ rest) number) ⊎ ((other : ℕ) → Contains (first ∷ rest) other → test other ≡ false)
    by (inr none) (inr fails) = inr (λ other c. ⊎_elim (λ same. ap test (sym same) ∙ fails) (λ d. none other d) (one_of first rest other c))
    by (inr none) (inl passes) = inl (
      first,
      (
        here first rest,
        passes,
        λ other c also. ⊎_elim (λ same. omega arith)
            (λ d. absurd (true≢false (sym also ∙ none other d))) (one_of first rest other c),
      ),
    )
    by (inl (number, (among, good, least))) (inr fails) = inl (
      number,
      (
        there first rest number among,
        good,
        λ other c also. ⊎_elim
            (λ same. absurd (true≢false (sym also ∙ (ap test (sym same) ∙ fails)))) (λ d. least other d also) (one_of first rest other c),
      ),
    )
    by (inl (number, (among, good, least))) (inl passes) = ⊎_elim
        (λ low. inl (first, (here first rest, passes, λ other c also. ⊎_elim (λ same. omega arith) (λ d. let above = least other d also in omega arith) (one_of first rest other c))))
        (λ high. inl (number, (there first rest number among, good, λ other c also. ⊎_elim (λ same. omega arith) (λ d. least other d also) (one_of first rest other c))))
        (cases_lt first number)

-- there is one: whether a chunk holds just the modules can be told
pub some_chunk : (state : SplitState) (candidate : Candidate) → (split : ℕ) × IsSplitChunk state candidate split
some_chunk state candidate = by (cases_Bool candidate.cache_group.reuse) (least_of test candidate.chunks)
  where
    test : ℕ → Bool
    test chunk = nat_le state.entries chunk && are_same (chunk_at state chunk) candidate.modules

    passes : (chunk : ℕ) → HoldsJust state candidate chunk → test chunk ≡ true
    passes chunk just = both (nat_le state.entries chunk) (are_same (chunk_at state chunk) candidate.modules) (le-leb state.entries chunk just.1)
        ((bytes_decides (chunk_at state chunk) candidate.modules).1 just.2)

    holds : (chunk : ℕ) → Contains candidate.chunks chunk → test chunk ≡ true → HoldsJust state candidate chunk
    holds chunk c good = (
      c,
      leb-true state.entries chunk (first_so (nat_le state.entries chunk) (are_same (chunk_at state chunk) candidate.modules) good),
      (bytes_decides (chunk_at state chunk) candidate.modules).0 (second_so (nat_le state.entries chunk) (are_same (chunk_at state chunk) candidate.modules) good),
    )

    by : (candidate.cache_group.reuse ≡ true) ⊎ (candidate.cache_group.reuse ≡ false)
        → ((number : ℕ) × IsLeast test candidate.chunks number) ⊎ ((other : ℕ) → Contains candidate.chunks other → test other ≡ false)
        → (split : ℕ) × IsSplitChunk state candidate split
    by (inr fresh) found = (length state.modules, made (λ reuses. absurd (true≢false (sym reuses ∙ fresh))))
    by (inl reuses) (inl (number, (among, good, least))) = (number, reused number reuses (holds number among good) (λ other just. least other just.0 (passes other just)))
    by (inl reuses) (inr none) = (length state.modules, made (λ again other just. true≢false (sym (passes other just) ∙ none other just.0)))

-- so there is one last state
pub one_last : (graph : Graph) (config : SplitConfig) (first last other : SplitState) (picks others : List Candidate) → ArePicks graph config first picks last
    → ArePicks graph config first others other → (picks ≡ others) × (last ≡ other)
one_last graph config first last other picks others (ended _ none) (ended _ none') = (refl, refl)
one_last graph config first last other picks others (ended _ none) (picked _ _ pick rest split is into after) = absurd (none pick is.qualifies)
one_last graph config first last other picks others (picked _ _ pick rest split is into after) (ended _ none) = absurd (none pick is.qualifies)
one_last graph config first last other picks others (picked _ _ pick rest split is into after) (picked _ _ pick' rest' split' is' into' after') =
    let same = one_pick graph config first pick pick' is is' in
    let chunk = one_chunk first pick split split' into (subst (λ z. IsSplitChunk first z split') (sym same) into') in
    let moved : ArePicks graph config (after_pick first pick split) rest' other = subst (λ z. ArePicks graph config (after_pick first z split) rest' other) (sym same)
    (subst (λ z. ArePicks graph config (after_pick first pick' z) rest' other) (sym chunk) after') in
    let later = one_last graph config (after_pick first pick split) last other rest rest' after moved in
    ((λ i. same i ∷ later.0 i), later.1)

one_end : (graph : Graph) (config : Option SplitConfig) (first last other : SplitState) → PicksEndIn graph config first last → PicksEndIn graph config first other → last ≡ other
one_end graph None first last other one two = sym one ∙ two
one_end graph (Some config) first last other (picks, are) (others, are') = (one_last graph config first last other picks others are are').1

-- and one list of chunks
pub one_split : (graph : Graph) (config : Option SplitConfig) (entries : ℕ) (placed : List (List ℕ)) (chunks other : Chunks)
    → IsSplit graph config entries placed chunks → IsSplit graph config entries placed other → chunks ≡ other
one_split graph config entries placed chunks other one two =
    one.finished ∙ (ap chunks_of (one_end graph config (first_state entries placed) one.last two.last one.picks two.picks) ∙ sym two.finished)

-- Which of two candidates is picked first.
use Rattle.std.proofs.Common.{◌≡◌, ◌⊎◌, inl, inr, ⊎_elim, ℕ, ℤ, zero, suc, ◌+◌, ◌<◌, ◌≤◌, ◌<ℤ◌, ◌≤ℤ◌, true≢false, List, [], ◌∷◌, length, map, take, get_or, refl, sym, ap, subst, ◌∙◌, arith, slice_get, option_map, unwrap_or, Option, Some, None}
use Rattle.std.specs.List.{Contains, IsDistinct, range_with_len}
use Rattle.std.specs.Str.{bytes_eq}
use Rattle.std.specs.Cmp.Lexicographic.{bytes_decides, slice_cmp, texts_ties}
use Rattle.std.specs.Ordering.{nat_cmp, is_eq, ordering_reverse}
use Rattle.std.specs.declared.cmp.Ordering.{Ordering}
use Rattle.std.specs.declared.cmp.Ordering.TheVariants.{Less, Equal, Greater}
use Rattle.std.proofs.lemmas.Bool.{cases_eq, cases_lt}
use Rattle.std.proofs.lemmas.Int.{ints}
use Rattle.std.proofs.lemmas.Cmp.{nat_list_cmp_total, tied_itself}
use Rattle.std.proofs.lemmas.List.{get_or_default, get_or-map, length-map}
use Rattle.std.proofs.lemmas.List.Elements.{All-contains, Contains-get_or}
use Rattle.std.proofs.lemmas.List.Sums.{sum_by_more}
use Rattle.std.proofs.lemmas.Option.{slice_get_read}
use Rattle.std.proofs.lemmas.Map.Keys.{apart_from_distinct}
use Rattle.pk_types.specs.declared.graph.Graph.{Graph}
use Rattle.pk_types.specs.declared.graph.Row.{Row}
use Rattle.pk_types.specs.declared.settings.CacheGroup.{CacheGroup}
use Rattle.pk_types.specs.declared.settings.SplitConfig.{SplitConfig}
use Rattle.pk_types.specs.CacheGroups.{AreNamedApart}
use Rattle.pk_types.specs.Numbers.{are_same}
use Rattle.pk_types.specs.SplitStates.{SplitState}
use Rattle.pk_types.specs.SplitCandidates.{Candidate, IsCandidate, bytes_of, is_movable, chunks_with, modules_with, path_of}
use Rattle.pk_types.specs.SplitPicks.{IsAhead, by_priority, by_gain, by_name, by_path, IsBefore, HasLesserPath, Qualifies}
use Rattle.pk_types.proofs.ListMembers.{unfiltered, second_so}
use Rattle.pk_types.proofs.SplitLaws.{modules_in_range}
use Rattle.split_chunks.specs.Choices.{candidate_of, HasBytes, IsLeast, SharePath, AreTied, IsSoFar, IsBetter}
use Rattle.split_chunks.specs.declared.choice.Choice.{Choice}

less_trans : (a b c : ℤ) → a <ℤ b → b <ℤ c → a <ℤ c
less_trans a b c low high = omega (arith, ints)

before_trans : (one two three : List ℕ) → IsBefore one two → IsBefore two three → IsBefore one three
before_trans one two three low high = nat_list_cmp_total.trans one two three low high

pub same_text : (one two : List ℕ) → slice_cmp nat_cmp one two ≡ Equal → one ≡ two
same_text one two e = (bytes_decides one two).0 (texts_ties one two ∙ ap is_eq e)

pub behind_text : (one two : List ℕ) → slice_cmp nat_cmp one two ≡ Greater → IsBefore two one
behind_text one two e = nat_list_cmp_total.antisymm two one ∙ ap ordering_reverse e

-- before, or the same, or behind
pub before_or : (one two : List ℕ) → ¬ IsBefore one two → IsBefore two one ⊎ (one ≡ two)
before_or one two isnt = by (slice_cmp nat_cmp one two) refl
  where
    by : (r : Ordering) → slice_cmp nat_cmp one two ≡ r → IsBefore two one ⊎ (one ≡ two)
    by Less e = absurd (isnt e)
    by Equal e = inr (same_text one two e)
    by Greater e = inl (behind_text one two e)

module _ (graph : Graph) where
  -- a path that is least comes before what another comes before
  pub least_before : (modules : List ℕ) (least member : ℕ) → IsLeast graph modules least → Contains modules member → (text : List ℕ) → IsBefore text (path_of graph least) → IsBefore text (path_of graph member)
  least_before modules least member is c text low = ⊎_elim
      (λ behind. before_trans text (path_of graph least) (path_of graph member) low behind)
      (λ same. subst (IsBefore text) (sym same) low)
      (before_or (path_of graph member) (path_of graph least) (is.least member c))

  pub lesser : (candidate other : Candidate) (least second : ℕ) → IsLeast graph candidate.modules least → IsLeast graph other.modules second
      → IsBefore (path_of graph least) (path_of graph second) → HasLesserPath graph candidate other
  lesser candidate other least second is is' low = (
    least,
    is.among,
    λ k d inside. least_before other.modules second (get_or other.modules k d) is' (Contains-get_or other.modules k d inside) (path_of graph least) low,
  )

  -- of three candidates
  lesser_trans : (one two three : Candidate) → HasLesserPath graph one two → HasLesserPath graph two three → HasLesserPath graph one three
  lesser_trans one two three (member, among, low) (second, also, high) = (
    member,
    among,
    λ k d inside. before_trans (path_of graph member) (path_of graph second) (path_of graph (get_or three.modules k d))
        (All-contains (λ x. IsBefore (path_of graph member) (path_of graph x)) two.modules second low also) (high k d inside),
  )

  pub ahead_trans : (one two three : Candidate) → IsAhead graph one two → IsAhead graph two three → IsAhead graph one three
  ahead_trans one two three (by_priority a) (by_priority b) = by_priority (less_trans three.cache_group.priority two.cache_group.priority one.cache_group.priority b a)
  ahead_trans one two three (by_priority a) (by_gain e _) = by_priority (subst (λ z. z <ℤ one.cache_group.priority) e a)
  ahead_trans one two three (by_priority a) (by_name e _ _) = by_priority (subst (λ z. z <ℤ one.cache_group.priority) e a)
  ahead_trans one two three (by_priority a) (by_path e _ _ _) = by_priority (subst (λ z. z <ℤ one.cache_group.priority) e a)
  ahead_trans one two three (by_gain e _) (by_priority b) = by_priority (subst (λ z. three.cache_group.priority <ℤ z) (sym e) b)
  ahead_trans one two three (by_name e _ _) (by_priority b) = by_priority (subst (λ z. three.cache_group.priority <ℤ z) (sym e) b)
  ahead_trans one two three (by_path e _ _ _) (by_priority b) = by_priority (subst (λ z. three.cache_group.priority <ℤ z) (sym e) b)
  ahead_trans one two three (by_gain e g) (by_gain f h) = by_gain (e ∙ f) (omega arith)
  ahead_trans one two three (by_gain e g) (by_name f h _) = by_gain (e ∙ f) (omega arith)
  ahead_trans one two three (by_gain e g) (by_path f h _ _) = by_gain (e ∙ f) (omega arith)
  ahead_trans one two three (by_name e g _) (by_gain f h) = by_gain (e ∙ f) (omega arith)
  ahead_trans one two three (by_path e g _ _) (by_gain f h) = by_gain (e ∙ f) (omega arith)
  ahead_trans one two three (by_name e g n) (by_name f h m) = by_name (e ∙ f) (g ∙ h) (before_trans one.cache_group.name two.cache_group.name three.cache_group.name n m)
  ahead_trans one two three (by_name e g n) (by_path f h m _) = by_name (e ∙ f) (g ∙ h) (subst (IsBefore one.cache_group.name) m n)
  ahead_trans one two three (by_path e g n _) (by_name f h m) = by_name (e ∙ f) (g ∙ h) (subst (λ z. IsBefore z three.cache_group.name) (sym n) m)
  ahead_trans one two three (by_path e g n p) (by_path f h m q) = by_path (e ∙ f) (g ∙ h) (n ∙ m) (lesser_trans one two three p q)

-- cache groups of one name are one
same_group : (groups : List CacheGroup) → AreNamedApart groups → (one two : CacheGroup) → Contains groups one → Contains groups two → one.name ≡ two.name → one ≡ two
same_group groups apart one two (i, low, at) (j, high, at') same = ⊎_elim
    (λ before. absurd (never one two i j before low high at at' same))
    (λ not_before. ⊎_elim
    (λ e. sym at ∙ get_or_default groups i one two low ∙ ap (λ k. get_or groups k two) e ∙ at')
    (λ ne. absurd (never two one j i (omega arith) high low at' at (sym same)))
    (cases_eq i j))
    (cases_lt i j)
  where
    name_at : (k : ℕ) (it : CacheGroup) → k < length groups → get_or groups k it ≡ it → get_or (map (λ group. group.name) groups) k it.name ≡ it.name
    name_at k it inside e = get_or-map (λ (group : CacheGroup). group.name) groups k it it.name inside ∙ ap (λ group. group.name) e

    never : (a b : CacheGroup) (i j : ℕ) → i < j → i < length groups → j < length groups → get_or groups i a ≡ a → get_or groups j b ≡ b → a.name ≡ b.name → ⊥
    never a b i j before low high at at' same =
        let long = length-map groups (λ (group : CacheGroup). group.name) in
        let less : slice_cmp nat_cmp (get_or (map (λ group. group.name) groups) i a.name) (get_or (map (λ group. group.name) groups) j a.name) ≡ Less = apart i j a.name before (omega arith) in
        let is : get_or (map (λ group. group.name) groups) j a.name ≡ b.name = get_or_default (map (λ group. group.name) groups) j a.name b.name (omega arith) ∙ name_at j b high at' in
        let itself : IsBefore a.name a.name = subst (IsBefore a.name) (is ∙ sym same) (subst (λ z. IsBefore z (get_or (map (λ group. group.name) groups) j a.name)) (name_at i a low at) less) in
        let tie = tied_itself nat_list_cmp_total a.name in
        let wrong : ⊥ = cc in wrong

-- modules of one path are one
same_module : (graph : Graph) → IsDistinct bytes_eq (map (λ row. row.label) graph.rows) → (one two : ℕ) → one < length graph.rows → two < length graph.rows → path_of graph one ≡ path_of graph two → one ≡ two
same_module graph distinct one two low high same = ⊎_elim
    (λ before. absurd (never one two before high same))
    (λ not_before. ⊎_elim (λ e. e) (λ ne. absurd (never two one (omega arith) low (sym same))) (cases_eq one two))
    (cases_lt one two)
  where
    label_at : (rows : List Row) (k : ℕ) → k < length rows → get_or (map (λ row. row.label) rows) k [] ≡ unwrap_or (option_map (λ row. row.label) (slice_get rows k)) []
    label_at [] k inside = absurd (omega arith)
    label_at (row ∷ rows) zero inside = refl
    label_at (row ∷ rows) (suc k) inside = label_at rows k (omega arith)

    never : (i j : ℕ) → i < j → j < length graph.rows → path_of graph i ≡ path_of graph j → ⊥
    never i j before inside e =
        let long = length-map graph.rows (λ (row : Row). row.label) in
        let apart = apart_from_distinct bytes_eq (map (λ row. row.label) graph.rows) i j [] distinct before (omega arith) in
        let equal : get_or (map (λ row. row.label) graph.rows) i [] ≡ get_or (map (λ row. row.label) graph.rows) j [] = label_at graph.rows i (omega arith) ∙ e ∙ sym (label_at graph.rows j inside) in
        true≢false (sym ((bytes_decides _ _).1 equal) ∙ apart)

module _ (graph : Graph) (config : SplitConfig) (state : SplitState) (distinct : IsDistinct bytes_eq (map (λ row. row.label) graph.rows)) (named : AreNamedApart config.groups) where
  -- candidates of which neither goes before the other are one
  pub tied_same : (candidate other : Candidate) → IsCandidate graph config state candidate → IsCandidate graph config state other → AreTied graph candidate other → candidate ≡ other
  tied_same candidate other is is' tied =
      let group = same_group config.groups named candidate.cache_group other.cache_group is.cache_group is'.cache_group tied.name in
      let share = tied.share in
      let member = same_module graph distinct share.member share.second
      (modules_in_range graph config state candidate is share.member share.among)
      (modules_in_range graph config state other is' share.second share.second_among) share.path in
      let chunks : candidate.chunks ≡ other.chunks = sym (moved candidate is share.member share.among)
      ∙ (λ i. chunks_with state (group i) (member i)) ∙ moved other is' share.second share.second_among in
      let modules : candidate.modules ≡ other.modules = is.modules ∙ (λ i. modules_with graph state (group i) (chunks i)) ∙ sym is'.modules in
      λ i. record { cache_group = group i; chunks = chunks i; modules = modules i }
    where
      moved : (candidate : Candidate) → IsCandidate graph config state candidate → (member : ℕ) → Contains candidate.modules member → chunks_with state candidate.cache_group member ≡ candidate.chunks
      moved candidate is member c = (bytes_decides (chunks_with state candidate.cache_group member) candidate.chunks).0
          (second_so (is_movable graph state candidate.cache_group member) (are_same (chunks_with state candidate.cache_group member) candidate.chunks) (unfiltered _ (range_with_len 0 (length graph.rows)) member (subst (λ list. Contains list member) is.modules c)).1)

  module _ (choice : Choice) (counted : HasBytes graph choice) where
    -- a first one that qualifies
    pub better_first : Qualifies graph config state (candidate_of choice) → IsBetter graph config state None choice (Some choice)
    better_first good = record {
      so_far = (good, counted);
      yields = λ candidate yields q. absurd (yields q);
      yields_it = λ q. inl refl;
    }

    -- one that does not qualify
    pub better_none : (best : Option Choice) → IsSoFar graph config state best → ¬ Qualifies graph config state (candidate_of choice) → IsBetter graph config state best choice best
    better_none best so_far bad = record {
      so_far = so_far;
      yields = λ candidate yields. yields;
      yields_it = λ q. absurd (bad q);
    }

    -- one that goes before the best so far
    pub better_ahead : (best : Choice) → IsSoFar graph config state (Some best) → Qualifies graph config state (candidate_of choice)
        → IsAhead graph (candidate_of choice) (candidate_of best) → IsBetter graph config state (Some best) choice (Some choice)
    better_ahead best so_far good ahead = record {
      so_far = (good, counted);
      yields = λ candidate yields q. inr (⊎_elim
          (λ same. subst (IsAhead graph (candidate_of choice)) (sym same) ahead)
          (λ behind. ahead_trans graph (candidate_of choice) (candidate_of best) candidate ahead behind)
          (yields q));
      yields_it = λ q. inl refl;
    }

    -- one that does not
    pub better_behind : (best : Choice) → IsSoFar graph config state (Some best) → IsCandidate graph config state (candidate_of choice)
        → (IsAhead graph (candidate_of best) (candidate_of choice) ⊎ AreTied graph (candidate_of choice) (candidate_of best)) → IsBetter graph config state (Some best) choice (Some best)
    better_behind best so_far is either = record {
      so_far = so_far;
      yields = λ candidate yields. yields;
      yields_it = λ q. ⊎_elim (λ ahead. inr ahead) (λ tied. inl (tied_same (candidate_of choice) (candidate_of best) is so_far.0.is_candidate tied)) either;
    }

-- ---- sizes, and the least path

pub bytes_more : (graph : Graph) (modules : List ℕ) (at : ℕ) (row : Row) → at < length modules → get_or modules at 0 < length graph.rows → row ≡ get_or graph.rows (get_or modules at 0) row
    → bytes_of graph (take (at + 1) modules) ≡ bytes_of graph (take at modules) + row.size
bytes_more graph modules at row inside low read =
    sum_by_more (λ member. unwrap_or (option_map (λ row. row.size) (slice_get graph.rows member)) 0) modules at 0 inside
    ∙ ap (λ found. bytes_of graph (take at modules) + unwrap_or (option_map (λ (row : Row). row.size) found) 0) (slice_get_read graph.rows (length graph.rows) (get_or modules at 0) row refl low read)

pub least_of_all : (graph : Graph) (modules : List ℕ) (least count : ℕ) → length modules ≤ count
    → ((k : ℕ) → k < count → ¬ IsBefore (path_of graph (get_or modules k 0)) (path_of graph least)) → (member : ℕ) → Contains modules member → ¬ IsBefore (path_of graph member) (path_of graph least)
least_of_all graph modules least count all each member (k, inside, at) before =
    each k (omega arith) (subst (λ z. IsBefore (path_of graph z) (path_of graph least)) (sym at ∙ get_or_default modules k member 0 inside) before)

-- the least so far, with one more
pub least_more : (graph : Graph) (modules : List ℕ) (least next at : ℕ) → at < length modules
    → ((k : ℕ) → k < at → ¬ IsBefore (path_of graph (get_or modules k 0)) (path_of graph least)) → ((next ≡ get_or modules at 0) × IsBefore (path_of graph next) (path_of graph least)) ⊎ ((next ≡ least) × (¬ IsBefore (path_of graph (get_or modules at 0)) (path_of graph least)))
    → (k : ℕ) → k < at + 1 → ¬ IsBefore (path_of graph (get_or modules k 0)) (path_of graph next)
least_more graph modules least next at inside so_far (inl (same, lower)) k low before = ⊎_elim
    (λ early. so_far k early (before_trans (path_of graph (get_or modules k 0)) (path_of graph next) (path_of graph least) before lower))
    (λ late. let is : k ≡ at = omega arith in itself (path_of graph next) (subst (λ z. IsBefore (path_of graph z) (path_of graph next)) (ap (λ z. get_or modules z 0) is ∙ sym same) before))
    (cases_lt k at)
  where
    itself : (text : List ℕ) → ¬ IsBefore text text
    itself text less = let tie = tied_itself nat_list_cmp_total text in let wrong : ⊥ = cc in wrong
least_more graph modules least next at inside so_far (inr (same, isnt)) k low before = ⊎_elim
    (λ early. so_far k early (subst (λ z. IsBefore (path_of graph (get_or modules k 0)) (path_of graph z)) same before))
    (λ late. let is : k ≡ at = omega arith in isnt (subst (λ z. IsBefore (path_of graph z) (path_of graph least)) (ap (λ z. get_or modules z 0) is) (subst (λ z. IsBefore (path_of graph (get_or modules k 0)) (path_of graph z)) same before)))
    (cases_lt k at)

-- two least paths of which the first does not come before the second
pub not_lesser : (graph : Graph) (candidate other : Candidate) (least second : ℕ) → IsLeast graph candidate.modules least → IsLeast graph other.modules second
    → ¬ IsBefore (path_of graph least) (path_of graph second) → HasLesserPath graph other candidate ⊎ SharePath graph candidate.modules other.modules
not_lesser graph candidate other least second is is' isnt = ⊎_elim
    (λ behind. inl (lesser graph other candidate second least is' is behind))
    (λ same. inr (record { member = least; second = second; among = is.among; second_among = is'.among; path = same }))
    (before_or (path_of graph least) (path_of graph second) isnt)

pub before_paths : (one two text other : List ℕ) → one ≡ text → two ≡ other → IsBefore one two → IsBefore text other
before_paths one two text other e f before = subst (λ z. IsBefore z other) e (subst (IsBefore one) f before)

pub level : (a b : ℤ) → a ≤ℤ b → b ≤ℤ a → a ≡ b
level a b low high = omega (arith, ints)

-- There is one way to hoist.
use Rattle.std.proofs.Common.{◌≡◌, ◌≢◌, ◌⊎◌, ℕ, zero, suc, ◌<◌, ◌≤◌, ◌==◌, Bool, List, [], length, sym, ap, subst, ◌∙◌, arith, inl, inr, ⊎_elim, nat_lt, slice_index, slice_index_or, ext_get_or}
use Rattle.std.specs.List.{Contains, range_with_len}
use Rattle.std.proofs.lemmas.Bool.{cases_lt, ltb-true, lt-ltb, eqb-true, eq-eqb}
use Rattle.std.proofs.lemmas.Option.{slice_get-get_or}
use Rattle.pk_types.specs.declared.plan.Hoists.{Hoists}
use Rattle.pk_types.specs.HoistSets.{Scene, MayShare, IsHoistSet, IsRoot, AreHoistSets, set_of, taken_before}
use Rattle.pk_types.specs.HoistItems.{AreItems, AreHoists}
use Rattle.pk_types.proofs.ListMembers.{one_of, none_in, filtered, unfiltered, in_range, range_of, same_or_not}
use Rattle.pk_types.proofs.OneWalk.{one_walk}

pub in_set : (roots : List ℕ) (root member : ℕ) → member < length roots → slice_index roots member ≡ root → Contains (set_of roots root) member
in_set roots root member inside same = filtered (λ number. slice_index roots number == root) (range_with_len 0 (length roots)) member
    (in_range 0 (length roots) member (omega arith) (omega arith)) (eq-eqb (slice_index roots member) root same)

pub of_set : (roots : List ℕ) (root member : ℕ) → Contains (set_of roots root) member → slice_index roots member ≡ root
of_set roots root member c = eqb-true (slice_index roots member) root (unfiltered (λ number. slice_index roots number == root) (range_with_len 0 (length roots)) member c).1

abbrev Agrees : List ℕ → List ℕ → ℕ → Type 0
Agrees roots others bound = (member : ℕ) → member < length roots → slice_index roots member < bound → slice_index others member ≡ slice_index roots member

module _ (scene : Scene) (concatenate : Bool) (roots others : List ℕ) (one : AreHoistSets scene concatenate roots) (two : AreHoistSets scene concatenate others)
    (root : ℕ) (agrees : Agrees roots others root) (agrees' : Agrees others roots root) where
  same_length : length roots ≡ length others
  same_length = one.each ∙ sym two.each

  -- what is taken in the one is taken in the other
  taken_too : (member : ℕ) → Contains (taken_before others root) member → Contains (taken_before roots root) member
  taken_too member c =
      let from = unfiltered (λ number. nat_lt (slice_index others number) root) (range_with_len 0 (length others)) member c in
      let inside = (range_of 0 (length others) member from.0).1 in
      let long = same_length in
      let less = ltb-true (slice_index others member) root from.1 in
      let same = agrees' member (omega (arith, inside)) less in
      filtered (λ number. nat_lt (slice_index roots number) root) (range_with_len 0 (length roots)) member
      (in_range 0 (length roots) member (omega arith) (omega (arith, inside))) (lt-ltb (slice_index roots member) root (omega arith))

  carried : (members : List ℕ) → IsHoistSet scene (taken_before roots root) root members → IsHoistSet scene (taken_before others root) root members
  carried members set = record {
    holds_root = set.holds_root;
    joins = λ member c apart. let may = set.joins member c apart in
        record {
          kind = may.kind;
          free = λ taken. may.free (taken_too member taken);
          chunks = may.chunks;
          no_entry = may.no_entry;
          no_import_target = may.no_import_target;
          not_required = may.not_required;
          not_whole = may.not_whole;
        };
    requesters = set.requesters;
  }

  next_root : (member : ℕ) → member < length roots → slice_index roots member ≡ root → slice_index others member ≡ root
  next_root member inside same = ⊎_elim (λ e. e) (λ apart. absurd (wrong apart)) (same_or_not (slice_index others member) root)
    where
      low : root ≤ member
      low = let below = one.in_order member inside in omega arith

      long : length roots ≡ length others
      long = same_length

      here_root : IsRoot scene concatenate roots root
      here_root = subst (IsRoot scene concatenate roots) same (one.rooted member inside)

      its_own : slice_index others root ≡ root
      its_own = ⊎_elim
          (λ less. let back = agrees' root (omega (arith, low, long)) less in let mine = here_root.itself in absurd (clash (slice_index others root) root less (sym back ∙ mine)))
          (λ above. let below = two.in_order root (omega (arith, low, long)) in omega arith) (cases_lt (slice_index others root) root)
        where
          clash : (small large : ℕ) → small < large → small ≡ large → ⊥
          clash small large less e = omega arith

      there_root : IsRoot scene concatenate others root
      there_root = subst (IsRoot scene concatenate others) its_own (two.rooted root (omega (arith, low, long)))

      wrong : slice_index others member ≢ root → ⊥
      wrong apart =
          let no_share : ¬ MayShare scene concatenate root = λ may. apart (of_set others root member
          ((there_root.shared may).greatest (set_of roots root) (carried (set_of roots root) (here_root.shared may).is_set) member (in_set roots root member inside same))) in
          let alone = subst (λ list. Contains list member) (here_root.alone no_share) (in_set roots root member inside same) in
          ⊎_elim (λ e. apart (ap (slice_index others) (sym e) ∙ its_own)) (none_in member) (one_of root [] member alone)

agree_upto : (scene : Scene) (concatenate : Bool) (roots others : List ℕ) → AreHoistSets scene concatenate roots → AreHoistSets scene concatenate others
    → (bound : ℕ) → Agrees roots others bound × Agrees others roots bound
agree_upto scene concatenate roots others one two zero = (λ member inside less. absurd (omega arith), λ member inside less. absurd (omega arith))
agree_upto scene concatenate roots others one two (suc bound) =
    let before = agree_upto scene concatenate roots others one two bound in (
      λ member inside less. ⊎_elim (λ low. before.0 member inside low)
          (λ high. let same : slice_index roots member ≡ bound = omega arith in next_root scene concatenate roots others one two bound before.0 before.1 member inside same ∙ sym same)
          (cases_lt (slice_index roots member) bound),
      λ member inside less. ⊎_elim (λ low. before.1 member inside low)
          (λ high. let same : slice_index others member ≡ bound = omega arith in next_root scene concatenate others roots two one bound before.1 before.0 member inside same ∙ sym same)
          (cases_lt (slice_index others member) bound),
    )

-- one list of roots
pub one_rooting : (scene : Scene) (concatenate : Bool) (roots others : List ℕ) → AreHoistSets scene concatenate roots → AreHoistSets scene concatenate others → roots ≡ others
one_rooting scene concatenate roots others one two = ext_get_or 0 roots others (one.each ∙ sym two.each)
    (λ member inside. let low = one.in_order member inside in
    sym ((agree_upto scene concatenate roots others one two (suc member)).0 member inside (omega arith)))

-- one way to hoist
pub one_hoisting : (scene : Scene) (concatenate : Bool) (hoists others : Hoists) → AreHoists scene concatenate hoists → AreHoists scene concatenate others → hoists ≡ others
one_hoisting scene concatenate hoists others one two = λ i. record { root = rooting i; items = listing i }
  where
    rooting : hoists.root ≡ others.root
    rooting = one_rooting scene concatenate hoists.root others.root one.sets two.sets

    long : length hoists.items ≡ length others.items
    long = one.each ∙ (ap length rooting ∙ sym two.each)

    listing : hoists.items ≡ others.items
    listing = ext_get_or [] hoists.items others.items long (λ member inside. by member inside (same_or_not (slice_index hoists.root member) member))
      where
        by : (member : ℕ) → member < length hoists.items → (slice_index hoists.root member ≡ member) ⊎ (slice_index hoists.root member ≢ member)
            → slice_index_or hoists.items member [] ≡ slice_index_or others.items member []
        by member inside (inl root) = one_walk scene.active (set_of hoists.root member) member (slice_index_or hoists.items member []) (slice_index_or others.items member [])
            (one.items member (slice_index_or hoists.items member []) (slice_get-get_or hoists.items member [] inside) root)
            (subst (λ list. AreItems scene.active (set_of list member) member (slice_index_or others.items member [])) (sym rooting)
            (two.items member (slice_index_or others.items member []) (slice_get-get_or others.items member [] (omega (arith, long, inside)))
            (subst (λ list. slice_index list member ≡ member) rooting root)))
        by member inside (inr apart) = one.others member (slice_index_or hoists.items member []) (slice_get-get_or hoists.items member [] inside) apart
            ∙ sym (two.others member (slice_index_or others.items member []) (slice_get-get_or others.items member [] (omega (arith, long, inside)))
            (subst (λ list. slice_index list member ≢ member) rooting apart))

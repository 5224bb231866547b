-- Ids, given names and items: each definition has at most one answer.
use Rattle.std.proofs.Common.{◌≡◌, ℕ, zero, suc, ◌+◌, ◌%◌, ◌<◌, ◌≤◌, List, [], ◌∷◌, ◌++◌, length, refl, sym, ap, ap₂, subst, ◌∙◌, arith, ⊎_elim, take, slice_index, slice_index_or, get_or, ext_get_or}
use Rattle.std.specs.List.{Contains}
use Rattle.std.proofs.lemmas.Bool.{cases_order}
use Rattle.std.proofs.lemmas.List.{take_more_same}
use Rattle.pk_types.specs.declared.plan.Active.{Active}
use Rattle.pk_types.specs.declared.plan.Item.{Item}
use Rattle.pk_types.specs.declared.plan.Item.TheVariants.{Segment, Evaluate}
use Rattle.pk_types.specs.ModuleIds.{id_count, IsNextFree, AreGivenInOrder}
use Rattle.pk_types.specs.GivenNames.{numbered_name, IsGivenFor, unchanged, renamed, GivesInOrder}
use Rattle.pk_types.specs.HoistSets.{edges_at}
use Rattle.pk_types.specs.HoistItems.{Visits, Follows, visit, ended, passed, entered, noted, AreItems}

-- the next free number is one
pub one_next_free : (taken : List ℕ) (start number other : ℕ) → IsNextFree taken start number → IsNextFree taken start other → number ≡ other
one_next_free taken start number other one two = ⊎_elim
    (λ same. one.at ∙ (ap (λ steps. (start + steps) % id_count) same ∙ sym two.at))
    (⊎_elim (λ fewer. absurd (one.free (subst (Contains taken) (sym one.at) (two.first one.steps fewer))))
    (λ fewer. absurd (two.free (subst (Contains taken) (sym two.at) (one.first two.steps fewer)))))
    (cases_order one.steps two.steps)

-- so is the name that is given
pub one_given : (taken : List (List ℕ)) (name given other : List ℕ) → IsGivenFor taken name given → IsGivenFor taken name other → given ≡ other
one_given taken name given other (unchanged free) (unchanged also) = refl
one_given taken name given other (unchanged free) (renamed number needed above left first) = absurd (free needed)
one_given taken name given other (renamed number needed above left first) (unchanged free) = absurd (free needed)
one_given taken name given other (renamed number needed above left first) (renamed more also over open_still before) = ⊎_elim
    (λ same. ap (numbered_name name) same)
    (⊎_elim (λ fewer. absurd (left (before number above fewer))) (λ fewer. absurd (open_still (first more over fewer))))
    (cases_order number more)

-- lists whose items follow from those before them
module _ {X : Type 0} (d : X) (xs ys : List X) (long : length xs ≡ length ys)
    (next : (place : ℕ) → place < length xs → take place xs ≡ take place ys → get_or xs place d ≡ get_or ys place d) where
  prefixes : (place : ℕ) → place ≤ length xs → take place xs ≡ take place ys
  prefixes zero inside = refl
  prefixes (suc place) inside =
      let before = prefixes place (omega arith) in
      let more = take_more_same xs ys place d (omega arith) (omega arith) before (next place (omega arith) before) in
      let one : place + 1 ≡ suc place = omega arith in
      subst (λ k. take k xs ≡ take k ys) one more

  pub same_lists : xs ≡ ys
  same_lists = ext_get_or d xs ys long (λ place inside. next place inside (prefixes place (omega arith)))

-- numbers and names that are given in order
pub one_numbering : (starts numbers others : List ℕ) → AreGivenInOrder starts numbers → AreGivenInOrder starts others → numbers ≡ others
one_numbering starts numbers others (long, next) (long', next') = same_lists 0 numbers others (omega arith)
    (λ place inside before. one_next_free (take place numbers) (slice_index starts place) (slice_index numbers place) (slice_index others place)
    (next place (omega arith)) (subst (λ taken. IsNextFree taken (slice_index starts place) (slice_index others place)) (sym before) (next' place (omega arith))))

pub one_naming : (avoided names given others : List (List ℕ)) → GivesInOrder avoided names given → GivesInOrder avoided names others → given ≡ others
one_naming avoided names given others one two = same_lists [] given others (one.each ∙ sym two.each)
    (λ place inside before. let long = one.each in
    one_given (avoided ++ take place given) (slice_index_or names place []) (slice_index_or given place []) (slice_index_or others place [])
    (one.next place (omega arith))
    (subst (λ list. IsGivenFor (avoided ++ list) (slice_index_or names place []) (slice_index_or others place [])) (sym before) (two.next place (omega arith))))

mutual
  -- and the walk
  one_visit : (active : Active) (members before after then : List ℕ) (member : ℕ) (items others : List Item) → Visits active members before member items after
      → Visits active members before member others then → (items ≡ others) × (after ≡ then)
  one_visit active members before after then member items others (visit _ _ _ first follows) (visit _ _ _ second follows') =
      let same = one_follow active members (before ++ member ∷ []) after then (edges_at active member) first second follows follows' in
      (ap (λ list. list ++ Segment member ∷ []) same.0, same.1)

  one_follow : (active : Active) (members before after then targets : List ℕ) (items others : List Item) → Follows active members before targets items after
      → Follows active members before targets others then → (items ≡ others) × (after ≡ then)
  one_follow active members before after then targets items others (ended _) (ended _) = (refl, refl)
  one_follow active members before after then targets items others (passed _ _ target rest some old follows) (passed _ _ _ _ some' old' follows') =
      one_follow active members before after then rest some some' follows follows'
  one_follow active members before after then targets items others (passed _ _ target rest some old follows) (entered _ between' _ _ _ some' more' fresh' within' visits' follows') = absurd (fresh' old)
  one_follow active members before after then targets items others (passed _ _ target rest some old follows) (noted _ _ _ _ some' fresh' outside' follows') = absurd (fresh' old)
  one_follow active members before after then targets items others (entered _ between _ target rest some more fresh within visits follows) (passed _ _ _ _ some' old' follows') = absurd (fresh old')
  one_follow active members before after then targets items others (entered _ between _ target rest some more fresh within visits follows) (entered _ between' _ _ _ some' more' fresh' within' visits' follows') =
      let first = one_visit active members before between between' target some some' visits visits' in
      let second = one_follow active members between after then rest more more' follows (subst (λ list. Follows active members list rest more' then) (sym first.1) follows') in
      (ap₂ (λ list other. list ++ other) first.0 second.0, second.1)
  one_follow active members before after then targets items others (entered _ between _ target rest some more fresh within visits follows) (noted _ _ _ _ some' fresh' outside' follows') = absurd (outside' within)
  one_follow active members before after then targets items others (noted _ _ target rest some fresh outside follows) (passed _ _ _ _ some' old' follows') = absurd (fresh old')
  one_follow active members before after then targets items others (noted _ _ target rest some fresh outside follows) (entered _ between' _ _ _ some' more' fresh' within' visits' follows') = absurd (outside within')
  one_follow active members before after then targets items others (noted _ _ target rest some fresh outside follows) (noted _ _ _ _ some' fresh' outside' follows') =
      let same = one_follow active members (before ++ target ∷ []) after then rest some some' follows follows' in
      (ap (λ list. Evaluate target ∷ list) same.0, same.1)

-- a root has one list of items
pub one_walk : (active : Active) (members : List ℕ) (root : ℕ) (items others : List Item) → AreItems active members root items → AreItems active members root others → items ≡ others
one_walk active members root items others (after, visits) (then, visits') = (one_visit active members [] after then root items others visits visits').0

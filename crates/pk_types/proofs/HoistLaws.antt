-- Laws of hoisted sets.
use Rattle.std.proofs.Common.{◌≡◌, ◌≢◌, ◌↔◌, ◌⊎◌, ℕ, ◌<◌, Bool, true, List, [], ◌++◌, length, inl, inr, ⊎_elim, refl, sym, subst, ◌∙◌, Option, Some, None, slice_get, slice_index, slice_index_or}
use Rattle.std.specs.List.{Contains}
use Rattle.std.proofs.lemmas.List.Elements.{Contains-append_left, Contains-append_right, Contains-append_cases}
use Rattle.std.proofs.lemmas.List.{get_or_default}
use Rattle.std.proofs.lemmas.Bool.{cases_Bool}
use Rattle.std.proofs.lemmas.Option.{get_or_from_slice_get}
use Rattle.pk_types.specs.declared.facts.Kind.{Kind}
use Rattle.pk_types.specs.declared.facts.Kind.TheVariants.{Es, Cjs, Json}
use Rattle.pk_types.specs.declared.graph.Graph.{Graph}
use Rattle.pk_types.specs.declared.plan.Active.{Active}
use Rattle.pk_types.specs.declared.plan.Chunks.{Chunks}
use Rattle.pk_types.specs.declared.plan.Used.{Used}
use Rattle.pk_types.specs.Numbers.{has}
use Rattle.pk_types.specs.Resolving.{kind_at}
use Rattle.pk_types.specs.ActiveEdges.{IsActive, IsLedTo}
use Rattle.pk_types.specs.ChunkGroups.{IsInClosure}
use Rattle.pk_types.specs.ModuleIds.{is_in_chunks}
use Rattle.pk_types.specs.HoistSets.{Scene, IsHoistSet, IsGreatestSet, IsReachedModule, IsRequester, IsInChunk, IsInSomeChunk, MayShare, IsRoot, AreHoistSets, set_of}
use Rattle.pk_types.specs.HoistPaths.{IsTarget, IsInGroup, IsReachedInside, root_itself, along}
use Rattle.pk_types.proofs.ListMembers.{same_or_not, one_of, none_in, any_true, true-any, has-true, true-has, in_row}
use Rattle.pk_types.proofs.OneHoist.{in_set, of_set}

-- two greatest sets have the same members
pub one_greatest : (scene : Scene) (taken : List ℕ) (root : ℕ) (members others : List ℕ) → IsGreatestSet scene taken root members
    → IsGreatestSet scene taken root others → (member : ℕ) → Contains members member ↔ Contains others member
one_greatest scene taken root members others one other member = (other.greatest members one.is_set member, one.greatest others other.is_set member)

-- two sets of a root are one set together, so there is a greatest one wherever there are finitely many modules
pub together : (scene : Scene) (taken : List ℕ) (root : ℕ) (members others : List ℕ) → IsHoistSet scene taken root members
    → IsHoistSet scene taken root others → IsHoistSet scene taken root (members ++ others)
together scene taken root members others one other = record {
  holds_root = Contains-append_left members others root one.holds_root;
  joins = λ member c apart. ⊎_elim (λ l. one.joins member l apart) (λ r. other.joins member r apart) (Contains-append_cases members others member c);
  requesters = λ member from c apart asks. ⊎_elim (λ l. Contains-append_left members others from (one.requesters member from l apart asks))
      (λ r. Contains-append_right members others from (other.requesters member from r apart asks)) (Contains-append_cases members others member c);
}

-- the entries lead to a target, and to all that its closure has
target_led : (graph : Graph) (used : Used) (active : Active) → IsActive graph used active → (target : ℕ) → IsTarget graph active target → IsLedTo graph active.edges target
target_led graph used active is target (inl entry) = IsLedTo.entry target entry
target_led graph used active is target (inr (from, reached, calls)) = IsLedTo.imported from target ((is.reached from).0 reached) calls

closure_led : (graph : Graph) (used : Used) (active : Active) → IsActive graph used active → (target : ℕ) → IsTarget graph active target
    → (member : ℕ) → IsInClosure graph active.edges target member → IsLedTo graph active.edges member
closure_led graph used active is target is_target _ IsInClosure.itself = target_led graph used active is target is_target
closure_led graph used active is target is_target member (IsInClosure.along from _ targets led at c) =
    IsLedTo.along from member targets (closure_led graph used active is target is_target from led) at c
closure_led graph used active is target is_target member (IsInClosure.required from _ led calls) =
    IsLedTo.required from member (closure_led graph used active is target is_target from led) calls

-- an active edge, from a module that the entries lead to
asked : (graph : Graph) (used : Used) (active : Active) → IsActive graph used active → (from to : ℕ) (targets : List ℕ) → IsLedTo graph active.edges from
    → slice_get active.edges from ≡ Some targets → Contains targets to → IsRequester active from to
asked graph used active is from to targets led at c =
    ((is.reached from).1 led, subst (λ list. Contains list to) (sym (get_or_from_slice_get active.edges from targets [] at)) c)

module _ (scene : Scene) (is : IsActive scene.graph scene.used scene.active) where
  -- each member that is in the closure of some target is reached from the root inside the set
  pub reached_inside : (taken : List ℕ) (root : ℕ) (members : List ℕ) → IsHoistSet scene taken root members
      → (target member : ℕ) → IsTarget scene.graph scene.active target → IsInClosure scene.graph scene.active.edges target member
      → Contains members member → IsReachedInside scene.active members root member
  reached_inside taken root members set target _ is_target IsInClosure.itself c =
      ⊎_elim (λ same. subst (IsReachedInside scene.active members root) (sym same) root_itself)
      (λ apart. ⊎_elim (λ entry. absurd ((set.joins target c apart).no_entry entry)) (λ called. absurd ((set.joins target c apart).no_import_target called)) is_target)
      (same_or_not target root)
  reached_inside taken root members set target member is_target (IsInClosure.along from _ targets led at inside) c =
      let asks = asked scene.graph scene.used scene.active is from member targets (closure_led scene.graph scene.used scene.active is target is_target from led) at inside in
      ⊎_elim (λ same. subst (IsReachedInside scene.active members root) (sym same) root_itself)
      (λ apart. along from member (reached_inside taken root members set target from is_target led (set.requesters member from c apart asks)) c asks.1)
      (same_or_not member root)
  reached_inside taken root members set target member is_target (IsInClosure.required from _ led calls) c =
      let reached : IsReachedModule scene.active from = (is.reached from).1 (closure_led scene.graph scene.used scene.active is target is_target from led) in
      ⊎_elim (λ same. subst (IsReachedInside scene.active members root) (sym same) root_itself)
      (λ apart. absurd ((set.joins member c apart).not_required (from, reached, calls))) (same_or_not member root)

-- whether a module stands in a chunk can be told
in_chunk_told : (chunks : Chunks) (member : ℕ) → is_in_chunks chunks member ≡ true → IsInSomeChunk chunks member
in_chunk_told chunks member told =
    let found = true-any (λ modules. has modules member) chunks.modules told in
    let place = found.1 in
    (place.0, subst (λ list. Contains list member) (sym (get_or_default chunks.modules place.0 [] found.0 place.1 ∙ place.2)) (true-has found.0 member found.2))

told_in_chunk : (chunks : Chunks) (member : ℕ) → IsInSomeChunk chunks member → is_in_chunks chunks member ≡ true
told_in_chunk chunks member (chunk, c) =
    let inside = in_row chunks.modules chunk member c in
    any_true (λ modules. has modules member) chunks.modules (slice_index_or chunks.modules chunk [])
    (chunk, inside, get_or_default chunks.modules chunk (slice_index_or chunks.modules chunk []) [] inside) (has-true (slice_index_or chunks.modules chunk []) member c)

-- whether it is one of ECMAScript, too
es_or_not : (kind : Option Kind) → (kind ≡ Some Es) ⊎ (kind ≢ Some Es)
es_or_not None = inr (λ e. let wrong : ⊥ = cc in wrong)
es_or_not (Some Es) = inl refl
es_or_not (Some Cjs) = inr (λ e. let wrong : ⊥ = cc in wrong)
es_or_not (Some Json) = inr (λ e. let wrong : ⊥ = cc in wrong)

-- so whether a module shares its scope
shares_or_not : (scene : Scene) (concatenate : Bool) (root : ℕ) → MayShare scene concatenate root ⊎ (¬ MayShare scene concatenate root)
shares_or_not scene concatenate root = ⊎_elim
    (λ on. ⊎_elim
    (λ kind. ⊎_elim
    (λ placed. inl (record { concatenates = on; kind = kind; placed = in_chunk_told scene.chunks root placed }))
    (λ unplaced. inr (λ may. let placed = told_in_chunk scene.chunks root may.placed in let wrong : ⊥ = cc in wrong))
    (cases_Bool (is_in_chunks scene.chunks root)))
    (λ other. inr (λ may. other may.kind))
    (es_or_not (kind_at scene.graph root)))
    (λ off. inr (λ may. let on = may.concatenates in let wrong : ⊥ = cc in wrong))
    (cases_Bool concatenate)

module _ (scene : Scene) (concatenate : Bool) (roots : List ℕ) (sets : AreHoistSets scene concatenate roots) where
  -- the root of a module is a root
  root_of : (root : ℕ) → Contains roots root → IsRoot scene concatenate roots root
  root_of root (place, inside, at) = subst (IsRoot scene concatenate roots) (get_or_default roots place 0 root inside ∙ at) (sets.rooted place inside)

  -- a set with another member than its root is a greatest one
  another_shares : (root member : ℕ) → IsRoot scene concatenate roots root → Contains (set_of roots root) member → member ≢ root → MayShare scene concatenate root
  another_shares root member is c apart = ⊎_elim (λ may. may)
      (λ none. absurd (⊎_elim (λ same. apart (sym same)) (none_in member) (one_of root [] member (subst (λ list. Contains list member) (is.alone none) c))))
      (shares_or_not scene concatenate root)

  -- each set is reached from its root inside the set
  pub each_reached : IsActive scene.graph scene.used scene.active → ((chunk member : ℕ) → IsInChunk scene.chunks chunk member → IsInGroup scene.graph scene.active member)
      → (root member : ℕ) → Contains roots root → Contains (set_of roots root) member → IsReachedInside scene.active (set_of roots root) root member
  each_reached active loaded root member among c = ⊎_elim
      (λ same. subst (IsReachedInside scene.active (set_of roots root) root) (sym same) root_itself)
      (λ apart.
      let is = root_of root among in
      let may = another_shares root member is c apart in
      let set = (is.shared may).is_set in
      let placed = may.placed in
      let group = loaded placed.0 member (((set.joins member c apart).chunks placed.0).1 placed.1) in
      reached_inside scene active _ root (set_of roots root) set group.0 member group.1 group.2 c)
      (same_or_not member root)

  -- what a reached module of another set asks for is a root
  pub evaluated_root : (from target : ℕ) → from < length roots → target < length roots → IsRequester scene.active from target
      → slice_index roots from ≢ slice_index roots target → slice_index roots target ≡ target
  evaluated_root from target inside within asks differ = ⊎_elim (λ same. sym same)
      (λ apart.
      let root = slice_index roots target in
      let c = in_set roots root target within refl in
      let is = sets.rooted target within in
      let set = (is.shared (another_shares root target is c apart)).is_set in
      absurd (differ (of_set roots root from (set.requesters target from c apart asks))))
      (same_or_not target (slice_index roots target))

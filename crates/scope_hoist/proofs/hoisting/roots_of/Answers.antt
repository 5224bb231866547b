use Rattle.std.proofs.Common.{◌≡◌, ◌<◌, ◌↔◌, ℕ, true, false, Some, slice_get, get_or, length, sym, ap, subst, ◌∙◌}
use Rattle.std.specs.List.{Contains}
use Rattle.scope_hoist.specs.Scopes.{AreTransposed, AreHomes, AreSharing}
use Rattle.scope_hoist.specs.Rooting.{HaveSets}
use Rattle.scope_hoist.proofs.HoistedSets.{barred_low, asks_low, hoist_sets}
use Rattle.scope_hoist.proofs.hoisting.roots_of.Goals as goal

pub joining-requires-clause-barred : goal.joining-requires-clause-barred
joining-requires-clause-barred c = subst (λ l. (k : ℕ) → (d : ℕ) → k < length l → Rattle.std.specs.Prelude.slice_index_or l k d < length c.as_slice-2.result.now) (sym c.as_slice-3.ensures.value)
    (barred_low c.args.graph.now c.args.active.now c.requires.fits c.requires.«active» c.len-count.result c.len-count.ensures c.in_ok-barred.barred.items c.in_ok-barred.ensures
    (length c.as_slice-2.result.now) (ap length c.as_slice-2.ensures.value ∙ c.in_ok-sharing.ensures.each))

pub transposed-requires-clause-within : goal.transposed-requires-clause-within
transposed-requires-clause-within c = asks_low c.args.graph.now c.args.active.now c.requires.fits c.requires.«active» c.len-count.result c.len-count.ensures c.as_slice-5.result.now
    (subst (Rattle.scope_hoist.specs.Scopes.AreRequests c.args.active.now) (sym c.as_slice-5.ensures.value) c.in_ok-asks.ensures) c.len-count.result c.len-count.ensures

pub roots-requires-clause-ground : goal.roots-requires-clause-ground
roots-requires-clause-ground c =
    let asks = c.in_ok-asks.asks.items in
    let long : length asks ≡ length c.args.graph.now.rows = c.in_ok-asks.ensures.each ∙ c.requires.«active».each_edges in
    record {
      within = asks_low c.args.graph.now c.args.active.now c.requires.fits c.requires.«active» c.len-count.result c.len-count.ensures asks c.in_ok-asks.ensures (length asks) long;
      transposed = subst (λ n. AreTransposed asks n c.in_ok-requesters.requesters.items) (c.len-count.ensures ∙ sym long)
          (subst (λ l. AreTransposed l c.len-count.result c.in_ok-requesters.requesters.items) c.as_slice-5.ensures.value c.in_ok-requesters.ensures);
      each_home = c.in_ok-homes.ensures.each ∙ c.len-count.ensures ∙ sym long;
    }

pub returns : goal.returns
returns c =
    let graph = c.args.graph.now in
    let active = c.args.active.now in
    let used = c.args.used.now in
    let chunks = c.args.chunks.now in
    let homes = c.in_ok-homes.homes.items in
    let shares = c.in_ok-sharing.sharing.items in
    let barred = c.in_ok-barred.barred.items in
    let may_join = c.in_ok-may_join.may_join.items in
    let asks = c.in_ok-asks.asks.items in
    let roots = c.in_ok-roots.roots.items in
    hoist_sets (record { graph = graph; active = active; used = used; chunks = chunks }) c.args.concatenate asks homes may_join shares barred roots c.in_ok-asks.ensures
    (subst (λ n. AreHomes chunks n homes) c.len-count.ensures c.in_ok-homes.ensures) (subst (λ l. AreSharing graph l c.args.concatenate shares) c.as_slice.ensures.value c.in_ok-sharing.ensures)
    c.in_ok-barred.ensures
    (λ member. subst (λ l. (get_or may_join member false ≡ true) ↔ ((get_or l member false ≡ true) × (¬ Contains barred member) × ¬ (slice_get used.whole member ≡ Some true))) c.as_slice-2.ensures.value
    (subst (λ l. (get_or may_join member false ≡ true) ↔ ((get_or c.as_slice-2.result.now member false ≡ true) × (¬ Contains l member) × ¬ (slice_get used.whole member ≡ Some true))) c.as_slice-3.ensures.value
    (subst (λ l. (get_or may_join member false ≡ true) ↔ ((get_or c.as_slice-2.result.now member false ≡ true) × (¬ Contains c.as_slice-3.result.now member) × ¬ (slice_get l member ≡ Some true))) c.as_slice-4.ensures
    (c.in_ok-may_join.ensures.flags member))))
    (c.in_ok-asks.ensures.each ∙ c.requires.«active».each_edges)
    (subst (λ l. HaveSets asks homes l shares roots) c.as_slice-7.ensures.value (subst (λ l. HaveSets asks homes c.as_slice-7.result.now l roots) c.as_slice-6.ensures.value c.in_ok-roots.ensures))

use Rattle.std.proofs.Common.{◌≡◌, ◌<◌, ◌-◌, ◌++◌, ◌∷◌, [], ℕ, true, not, Contains, length, take, append-nil, refl, ap, sym, subst, ◌∙◌}
use Rattle.pk_types.specs.declared.graph.Graph.{Graph}
use Rattle.pk_text.specs.declared.text.Key.{Key}
use Rattle.pk_types.specs.Resolving.{Pair}
use Rattle.pk_types.specs.Reexports.{FindsOne}
use Rattle.std.specs.List.{list_any}
use Rattle.indexmap.specs.IndexSet.{insert_key}
use Rattle.export_names.specs.Searching.{names_within, pairs, same_pair}
use Rattle.export_names.proofs.Asking.{any_pair, pairs_inserted, same_self}
use Rattle.export_names.proofs.Unvisited.{fewer}
use Rattle.stop_search.specs.Searching.{asks, Follows}
use Rattle.stop_search.proofs.Waiting.{asks_pushed}
use Rattle.stop_search.proofs.Searching.{IsSearch, left_over, starts, both, again, onward, onward_less, ends, fresh_pair, old_pair}
use Rattle.stop_search.proofs.search.follow_all.Goals as goal

pub loop-asked-init : goal.loop-asked-init
loop-asked-init c =
    let waiting = ap asks c.in_ok-push.ensures.items ∙ asks_pushed c.new-waiting.result.items _ ∙ ap (λ l. asks l ++ (c.args.module, c.args.name.now) ∷ []) c.new-waiting.ensures.items in
    record {
      same = refl;
      search = starts c.args.resolver.now c.args.found.now c.args.module c.args.name.now (c.args.module, c.args.name.now) (pairs c.new-visited.result.keys)
          (asks c.push.new.self.items) c.new-stops.result.items refl refl (ap pairs c.new-visited.ensures.empty) waiting c.new-stops.ensures.items
          c.requires.«module» c.requires.found;
    }

pub follow-requires : goal.follow-requires
follow-requires c =
    let asked : Pair = (c.in-Some.asked.number, c.in-Some.asked.name.now) in
    let popped = ap asks c.in-Some.ensures.items ∙ asks_pushed c.pop.new.self.items c.in-Some.asked in
    let ready = both c.args.resolver.now c.args.found.now c.args.module c.args.name.now (pairs c.loop-asked.visited.keys) (asks c.loop-asked.waiting.items)
    (asks c.pop.new.self.items) asked c.loop-asked.stops.items popped c.loop-asked.invariant.search in
    record {
      «module» = subst (λ (g : Graph). asked.0 < length g.rows) (sym c.loop-asked.invariant.same) ready.1.number_within;
      found = subst (λ (g : Graph). FindsOne g asked.0 asked.1 c.args.found.now) (sym c.loop-asked.invariant.same) ready.1.finds;
    }

pub loop-asked-smaller-in-Continue-branch-3 : goal.loop-asked-smaller-in-Continue-branch-3
loop-asked-smaller-in-Continue-branch-3 c =
    let graph = c.args.resolver.now in
    let found = c.args.found.now in
    let first = c.args.name.now in
    let asked : Pair = (c.in-Some.asked.number, c.in-Some.asked.name.now) in
    let keys = c.loop-asked.visited.keys in
    let key : ℕ × Key = (c.in-Some.asked.number, record { 0 = c.as_slice.result }) in
    let popped = ap asks c.in-Some.ensures.items ∙ asks_pushed c.pop.new.self.items c.in-Some.asked in
    let ready = both graph found c.args.module first (pairs keys) (asks c.loop-asked.waiting.items) (asks c.pop.new.self.items) asked c.loop-asked.stops.items popped
    c.loop-asked.invariant.search in
    let given : Pair = (c.in-Some.asked.number, c.as_slice.result.now) in
    let same : given ≡ asked = ap (λ n. (c.in-Some.asked.number, n)) c.as_slice.ensures in
    let now = ap pairs c.in_ok-is_first.ensures.keys ∙ pairs_inserted keys key in
    let told = subst (λ (p : Pair). not (list_any (same_pair p) (pairs keys)) ≡ true) same (ap not (sym (any_pair key keys)) ∙ sym c.in_ok-is_first.ensures.added ∙ c.if-is_first.true) in
    let fresh = fresh_pair (pairs keys) (pairs c.insert.new.self.keys) asked told (subst (λ (p : Pair). pairs c.insert.new.self.keys ≡ insert_key same_pair (pairs keys) p) same now) in
    let follows = subst (λ (g : Graph). Follows g found asked (asks c.pop.new.self.items) (asks c.follow.new.waiting.items) c.loop-asked.stops.items c.follow.new.stops.items)
    c.loop-asked.invariant.same c.in_ok-follow.ensures.follows in
    subst (λ v. left_over graph first v (asks c.follow.new.waiting.items) < left_over graph first (pairs keys) (asks c.loop-asked.waiting.items)) (sym fresh.2)
    (onward_less graph found c.args.module first (pairs keys) (asks c.loop-asked.waiting.items) (asks c.pop.new.self.items) asked c.loop-asked.stops.items popped
    c.loop-asked.invariant.search (asks c.follow.new.waiting.items) c.follow.new.stops.items follows
    (fewer (pairs keys) asked.0 asked.1 (names_within graph first) (length graph.rows) (same_self asked) fresh.0 ready.1.within ready.1.number_within))

pub loop-asked-preserved-in-Continue-branch-3 : goal.loop-asked-preserved-in-Continue-branch-3
loop-asked-preserved-in-Continue-branch-3 c =
    let graph = c.args.resolver.now in
    let found = c.args.found.now in
    let first = c.args.name.now in
    let asked : Pair = (c.in-Some.asked.number, c.in-Some.asked.name.now) in
    let keys = c.loop-asked.visited.keys in
    let key : ℕ × Key = (c.in-Some.asked.number, record { 0 = c.as_slice.result }) in
    let popped = ap asks c.in-Some.ensures.items ∙ asks_pushed c.pop.new.self.items c.in-Some.asked in
    let given : Pair = (c.in-Some.asked.number, c.as_slice.result.now) in
    let same : given ≡ asked = ap (λ n. (c.in-Some.asked.number, n)) c.as_slice.ensures in
    let now = ap pairs c.in_ok-is_first.ensures.keys ∙ pairs_inserted keys key in
    let told = subst (λ (p : Pair). not (list_any (same_pair p) (pairs keys)) ≡ true) same (ap not (sym (any_pair key keys)) ∙ sym c.in_ok-is_first.ensures.added ∙ c.if-is_first.true) in
    let fresh = fresh_pair (pairs keys) (pairs c.insert.new.self.keys) asked told (subst (λ (p : Pair). pairs c.insert.new.self.keys ≡ insert_key same_pair (pairs keys) p) same now) in
    let follows = subst (λ (g : Graph). Follows g found asked (asks c.pop.new.self.items) (asks c.follow.new.waiting.items) c.loop-asked.stops.items c.follow.new.stops.items)
    c.loop-asked.invariant.same c.in_ok-follow.ensures.follows in
    record {
      same = c.in_ok-follow.ensures.same ∙ c.loop-asked.invariant.same;
      search = subst (λ v. IsSearch graph found c.args.module first v (asks c.follow.new.waiting.items) c.follow.new.stops.items) (sym fresh.2)
          (onward graph found c.args.module first (pairs keys) (asks c.loop-asked.waiting.items) (asks c.pop.new.self.items) asked c.loop-asked.stops.items popped
          c.loop-asked.invariant.search (asks c.follow.new.waiting.items) c.follow.new.stops.items fresh.1 follows);
    }

pub loop-asked-preserved : goal.loop-asked-preserved
loop-asked-preserved c =
    let graph = c.args.resolver.now in
    let found = c.args.found.now in
    let first = c.args.name.now in
    let asked : Pair = (c.in-Some.asked.number, c.in-Some.asked.name.now) in
    let keys = c.loop-asked.visited.keys in
    let key : ℕ × Key = (c.in-Some.asked.number, record { 0 = c.as_slice.result }) in
    let popped = ap asks c.in-Some.ensures.items ∙ asks_pushed c.pop.new.self.items c.in-Some.asked in
    let given : Pair = (c.in-Some.asked.number, c.as_slice.result.now) in
    let same : given ≡ asked = ap (λ n. (c.in-Some.asked.number, n)) c.as_slice.ensures in
    let now = ap pairs c.in_ok-is_first.ensures.keys ∙ pairs_inserted keys key in
    let old = old_pair (pairs keys) (pairs c.insert.new.self.keys) given (ap not (sym (any_pair key keys)) ∙ sym c.in_ok-is_first.ensures.added ∙ c.if-is_first.false) now in
    record {
      same = c.loop-asked.invariant.same;
      search = subst (λ v. IsSearch graph found c.args.module first v (asks c.pop.new.self.items) c.loop-asked.stops.items) (sym old.1)
          (again graph found c.args.module first (pairs keys) (asks c.loop-asked.waiting.items) (asks c.pop.new.self.items) asked c.loop-asked.stops.items popped
          c.loop-asked.invariant.search (subst (Contains (pairs keys)) same old.0));
    }

pub returns-clause-stops : goal.returns-clause-stops
returns-clause-stops c =
    let visited = pairs c.loop-asked.visited.keys in
    let none : c.loop-asked.waiting.items ≡ [] =
    c.in_default.ensures.items ∙ append-nil c.pop.new.self.items ∙ c.in_default.ensures.rest ∙ ap (λ n. take (n - 1) c.loop-asked.waiting.items) c.in_default.ensures.cases.0 in
    (visited, ends c.args.resolver.now c.args.found.now c.args.module c.args.name.now visited (asks c.loop-asked.waiting.items) c.loop-asked.stops.items (ap asks none) c.loop-asked.invariant.search)

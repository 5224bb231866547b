-- The addresses of a graph whose modules are numbered as they are first seen.
use Rattle.std.proofs.Common.{◌≡◌, ℕ, ◌+◌, ◌<◌, ◌≤◌, inl, List, [], ◌∷◌, ◌++◌, length, map, Option, Some, None, slice_get, option_map, option_and_then, refl, sym, ap, subst, ◌∙◌, arith}
use Rattle.std.proofs.lemmas.Option.{same_Some, none-some, slice_get-map, option_and_then_some}
use Rattle.std.proofs.lemmas.List.{append-nil, append_assoc, length_push}
use Rattle.pk_types.specs.declared.graph.Graph.{Graph}
use Rattle.pk_types.specs.declared.graph.Row.{Row}
use Rattle.module_graph.specs.Addresses.{target_of, followed, module_at, HasAddress}
use Rattle.module_graph.specs.Shortlex.{ComesBefore, IsAtMost}
use Rattle.module_graph.specs.ModuleOrder.{IsModuleOrder}
use Rattle.module_graph.specs.Sightings.{count_after, AreSeenInOrder, RowsAreSeenInOrder}
use Rattle.module_graph.proofs.Shortlex.{before_trans, at_most_before, before_at_most, at_most_trans, at_most_push}
use Rattle.module_graph.proofs.Order.{sees, sees_rows}

abbrev targets_of : Row → List ℕ
targets_of row = row.targets

target_from : (row : Option Row) (targets : List ℕ) (request n : ℕ) → option_map targets_of row ≡ Some targets → slice_get targets request ≡ Some n → option_and_then (λ r. slice_get r.targets request) row ≡ Some n
target_from None targets request n e f = absurd (none-some targets e)
target_from (Some row) targets request n e f = subst (λ l. slice_get l request ≡ Some n) (sym (same_Some row.targets targets e)) f

module _ (graph : Graph) where
  followed_push : (requests : List ℕ) (start m request n : ℕ) → followed graph start requests ≡ Some m → target_of graph m request ≡ Some n → followed graph start (requests ++ request ∷ []) ≡ Some n
  followed_push [] start m request n e f =
      let t : target_of graph start request ≡ Some n = subst (λ i. target_of graph i request ≡ Some n) (sym (same_Some start m e)) f in
      ap (λ o. option_and_then (λ next. Some next) o) t
  followed_push (first ∷ requests) start m request n e f =
      option_and_then_some (λ next. followed graph next requests) (target_of graph start first) m e
      (λ next t g. ap (λ o. option_and_then (λ next. followed graph next (requests ++ request ∷ [])) o) t ∙ followed_push requests next m request n g f)

  module_at_push : (address : List ℕ) (m request n : ℕ) → module_at graph address ≡ Some m → target_of graph m request ≡ Some n → module_at graph (address ++ request ∷ []) ≡ Some n
  module_at_push [] m request n e f = absurd (none-some m e)
  module_at_push (entry ∷ requests) m request n e f =
      option_and_then_some (λ first. followed graph first requests) (slice_get graph.entries entry) m e
      (λ first t g. ap (λ o. option_and_then (λ first. followed graph first (requests ++ request ∷ [])) o) t ∙ followed_push requests first m request n g f)

  leads : (k request n number : ℕ) (targets address : List ℕ) → slice_get (map targets_of graph.rows) k ≡ Some targets → slice_get targets request ≡ Some n → number ≡ 0 + k → HasAddress graph number address → HasAddress graph n (address ++ request ∷ [])
  leads k request n number targets address e f p has =
      let q : k ≡ number = omega arith in
      module_at_push address number request n has (subst (λ i. target_of graph i request ≡ Some n) q (target_from (slice_get graph.rows k) targets request n (sym (slice_get-map targets_of graph.rows k) ∙ e) f))

  entry_leads : (k n place : ℕ) → slice_get graph.entries k ≡ Some n → place ≡ 0 + k → HasAddress graph n ([] ++ place ∷ [])
  entry_leads k n place e p =
      let q : k ≡ place = omega arith in
      ap (λ o. option_and_then (λ first. Some first) o) (subst (λ i. slice_get graph.entries i ≡ Some n) q e)

  some_number : (address : List ℕ) (n : ℕ) → HasAddress graph n address → 0 < length address
  some_number [] n e = absurd (none-some n e)
  some_number (entry ∷ requests) n e = omega arith

  -- the addresses are at most those of all sightings
  record Bounds (at : ℕ → List ℕ) : Type 0 where
    entry : (k n : ℕ) → slice_get graph.entries k ≡ Some n → IsAtMost (at n) (k ∷ [])
    target : (m request n : ℕ) → target_of graph m request ≡ Some n → IsAtMost (at n) (at m ++ request ∷ [])

  along : (at : ℕ → List ℕ) → Bounds at → (requests before : List ℕ) (m n : ℕ) → IsAtMost (at m) before → followed graph m requests ≡ Some n → IsAtMost (at n) (before ++ requests)
  along at bounds [] before m n h e = subst (λ l. IsAtMost (at n) l) (sym (append-nil before)) (subst (λ i. IsAtMost (at i) before) (same_Some m n e) h)
  along at bounds (request ∷ requests) before m n h e =
      option_and_then_some (λ next. followed graph next requests) (target_of graph m request) n e
      (λ next t g. subst (λ l. IsAtMost (at n) l) (append_assoc before (request ∷ []) requests)
      (along at bounds requests (before ++ request ∷ []) next n
      (at_most_trans (at next) (at m ++ request ∷ []) (before ++ request ∷ []) (bounds.target m request next t) (at_most_push (at m) before request h)) g))

  least : (at : ℕ → List ℕ) → Bounds at → (address : List ℕ) (n : ℕ) → HasAddress graph n address → IsAtMost (at n) address
  least at bounds [] n e = absurd (none-some n e)
  least at bounds (entry ∷ requests) n e =
      option_and_then_some (λ first. followed graph first requests) (slice_get graph.entries entry) n e
      (λ first t g. along at bounds requests (entry ∷ []) first n (bounds.entry entry first t) g)

  target_row : (row : Option Row) (request n : ℕ) → option_and_then (λ r. slice_get r.targets request) row ≡ Some n → (targets : List ℕ) × (option_map targets_of row ≡ Some targets) × (slice_get targets request ≡ Some n)
  target_row None request n e = absurd (none-some n e)
  target_row (Some row) request n e = (row.targets, refl, e)

  -- where modules are numbered as they are first seen, their order is that of their least addresses
  pub is_module_order : AreSeenInOrder 0 graph.entries → RowsAreSeenInOrder 0 (count_after 0 graph.entries) (map targets_of graph.rows) (length graph.rows) → IsModuleOrder graph
  is_module_order first next =
      let has : ℕ → List ℕ → Type 0 = HasAddress graph in
      let s = sees has graph.entries (λ n. []) 0 0 [] first (record { has = λ n h. absurd (omega arith); ascending = λ m n l h. absurd (omega arith) }) entry_leads (λ n place h l. absurd (omega arith)) in
      let above : (n number place : ℕ) → n < count_after 0 graph.entries → 0 ≤ number → number < count_after 0 graph.entries → ComesBefore (s.0 n) (s.0 number ++ place ∷ []) =
      λ n number place h l b. before_trans (s.0 n) (length graph.entries ∷ []) (s.0 number ++ place ∷ []) (s.1.precedes n (length graph.entries) h (omega arith))
      (inl (omega (arith, length_push (s.0 number) place, some_number (s.0 number) number (s.1.ascends.has number b)))) in
      let r = sees_rows has (map targets_of graph.rows) s.0 0 (count_after 0 graph.entries) (length graph.rows) next s.1.ascends leads above in
      let at : ℕ → List ℕ = r.0 in
      let bounds : Bounds r.0 = record {
        entry = λ k n e. let here = s.1.seen k n k e (omega arith) in subst (λ a. IsAtMost a (k ∷ [])) (sym (r.1.kept n here.0)) here.1;
        target = λ m request n e. let t = target_row (slice_get graph.rows m) request n e in
            (r.1.seen m request n m t.0 (slice_get-map targets_of graph.rows m ∙ t.1) t.2 (omega arith)).1;
      } in
      record {
        addressed = λ n h. (r.0 n, record { has = r.1.ascends.has n h; least = λ other e. least r.0 bounds other n e });
        ascending = λ m n before after l h a b. at_most_before before (r.0 m) after (a.least (r.0 m) (r.1.ascends.has m (omega arith)))
            (before_at_most (r.0 m) (r.0 n) after (r.1.ascends.ascending m n l h) (least r.0 bounds after n b.has));
      }

-- Stops that are kept, once those of one name more are found.
use Rattle.std.proofs.Common.{◌≡◌, ℕ, Bool, true, false, cond, List, Some, refl, sym, ap, subst, ◌∙◌}
use Rattle.std.proofs.lemmas.Option.{same_Some}
use Rattle.indexmap.specs.IndexMap.{IndexMap, get, Updates}
use Rattle.pk_text.specs.declared.text.Key.{Key}
use Rattle.pk_types.specs.declared.graph.Graph.{Graph}
use Rattle.pk_types.specs.Resolving.{Pair}
use Rattle.pk_types.specs.StopSearch.{HasStops}
use Rattle.export_names.proofs.Asking.{same_exact}
use Rattle.prune_graph.specs.Known.{is_same_key, AreKnown}

pub one_more : {S : Type 0} (graph : Graph) (old new : IndexMap (ℕ × Key) (List ℕ) S) (key : ℕ × Key) (stops : List ℕ) → AreKnown graph old
    → HasStops graph key.0 key.1.0.now stops → Updates is_same_key old new key (Some stops) → AreKnown graph new
one_more graph old new key stops known has updates other there is = by (is_same_key key other) refl
  where
    by : (b : Bool) → is_same_key key other ≡ b → HasStops graph other.0 other.1.0.now there
    by true e =
        let same = same_exact (key.0, key.1.0.now) (other.0, other.1.0.now) e in
        subst (λ (p : Pair). HasStops graph p.0 p.1 there) same
        (subst (HasStops graph key.0 key.1.0.now) (same_Some stops there (sym (ap (λ b. cond b (Some stops) (get is_same_key old other)) e) ∙ sym (updates.0 other) ∙ is)) has)
    by false e = known other there (sym (ap (λ b. cond b (Some stops) (get is_same_key old other)) e) ∙ sym (updates.0 other) ∙ is)

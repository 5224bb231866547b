-- Facts that are equal by the test are the same.
use Rattle.std.proofs.Common.{◌≡◌, inl, ◌&&◌, Bool, true, false, cond, nat_eq, [], ◌∷◌, ◌++◌, Contains, refl, sym, ap, subst, ◌∙◌, append-nil}
use Rattle.std.specs.List.{list_any}
use Rattle.std.proofs.lemmas.Bool.{true≢false}
use Rattle.std.proofs.lemmas.List.Elements.{Contains-push, Contains-push_cases}
use Rattle.std.proofs.lemmas.Map.Views.{Contains-from_any, exact_unsigned_eq}
use Rattle.indexmap.specs.IndexSet.{insert_key}
use Rattle.export_usage.specs.contracts.facts.FactPartialEq.TheImpl as equal
use Rattle.export_usage.specs.declared.facts.Fact.{Fact}
use Rattle.export_usage.specs.declared.facts.Fact.TheVariants.{Reached, Exposed, Space, Used}
use Rattle.export_usage.specs.declared.facts.Facts.{Facts}
use Rattle.export_usage.specs.Putting.{IsPut}

abbrev pub is_same : Fact → Fact → Bool
is_same fact other = (equal.eq-value).it fact other

both_true : (a b : Bool) → (a && b) ≡ true → (a ≡ true) × (b ≡ true)
both_true true true e = (refl, refl)
both_true true false e = absurd (true≢false (sym e))
both_true false b e = absurd (true≢false (sym e))

same_fact : (fact other : Fact) → is_same fact other ≡ true → fact ≡ other
same_fact (Reached a) (Reached b) e = ap Reached (exact_unsigned_eq a b e)
same_fact (Reached a) (Exposed b) e = absurd (true≢false (sym e))
same_fact (Reached a) (Space b) e = absurd (true≢false (sym e))
same_fact (Reached a) (Used b d) e = absurd (true≢false (sym e))
same_fact (Exposed a) (Reached b) e = absurd (true≢false (sym e))
same_fact (Exposed a) (Exposed b) e = ap Exposed (exact_unsigned_eq a b e)
same_fact (Exposed a) (Space b) e = absurd (true≢false (sym e))
same_fact (Exposed a) (Used b d) e = absurd (true≢false (sym e))
same_fact (Space a) (Reached b) e = absurd (true≢false (sym e))
same_fact (Space a) (Exposed b) e = absurd (true≢false (sym e))
same_fact (Space a) (Space b) e = ap Space (exact_unsigned_eq a b e)
same_fact (Space a) (Used b d) e = absurd (true≢false (sym e))
same_fact (Used a c) (Reached b) e = absurd (true≢false (sym e))
same_fact (Used a c) (Exposed b) e = absurd (true≢false (sym e))
same_fact (Used a c) (Space b) e = absurd (true≢false (sym e))
same_fact (Used a c) (Used b d) e =
    let both = both_true (nat_eq a b) (nat_eq c d) e in
    ap (λ n. Used n c) (exact_unsigned_eq a b both.0) ∙ ap (Used b) (exact_unsigned_eq c d both.1)

pub is_put : (old new : Facts) (fact : Fact) → new.known.keys ≡ insert_key is_same old.known.keys fact → new.names ≡ old.names → IsPut old fact new
is_put old new fact put names = by (list_any (is_same fact) old.known.keys) refl
  where
    by : (b : Bool) → list_any (is_same fact) old.known.keys ≡ b → IsPut old fact new
    by true e =
        let is : new.known.keys ≡ old.known.keys = put ∙ ap (λ b. cond b old.known.keys (old.known.keys ++ fact ∷ [])) e in
        record {
          names = names;
          more = [];
          behind = is ∙ sym (append-nil old.known.keys);
          known = subst (λ l. Contains l fact) (sym is) (Contains-from_any same_fact fact old.known.keys e);
          only = λ other m. inl (subst (λ l. Contains l other) is m);
        }
    by false e =
        let is : new.known.keys ≡ old.known.keys ++ fact ∷ [] = put ∙ ap (λ b. cond b old.known.keys (old.known.keys ++ fact ∷ [])) e in
        record {
          names = names;
          more = fact ∷ [];
          behind = is;
          known = subst (λ l. Contains l fact) (sym is) (Contains-push old.known.keys fact);
          only = λ other m. Contains-push_cases old.known.keys fact other (subst (λ l. Contains l other) is m);
        }

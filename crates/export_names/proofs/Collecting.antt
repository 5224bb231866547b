-- What an insert into a set of names adds.
use Rattle.std.proofs.Common.{◌≡◌, ◌≢◌, ◌↔◌, ℕ, ◌+◌, ◌<◌, ◌⊎◌, inl, inr, ⊎_elim, Bool, true, false, cond, List, [], ◌∷◌, ◌++◌, length, get_or, take, map, refl, sym, ap, subst, ◌∙◌, arith}
use Rattle.std.specs.List.{Contains, list_any}
use Rattle.std.specs.Str.{bytes_eq}
use Rattle.std.specs.Cmp.Lexicographic.{bytes_decides}
use Rattle.std.proofs.lemmas.Bool.{true≢false}
use Rattle.std.proofs.lemmas.List.{map_more, map-append}
use Rattle.std.proofs.lemmas.List.Elements.{Contains-append_left, Contains-push, Contains-push_cases}
use Rattle.indexmap.specs.IndexSet.{insert_key}
use Rattle.indexmap.proofs.CallerLemmas.{Contains-insert_key}
use Rattle.pk_types.specs.declared.facts.ExportEntry.{ExportEntry}
use Rattle.pk_types.specs.declared.graph.Graph.{Graph}
use Rattle.pk_text.specs.declared.text.Key.{Key}
use Rattle.pk_types.specs.ExportedNames.{ExportsItself}
use Rattle.pk_types.specs.Resolving.{default_name}
use Rattle.export_names.proofs.Indexing.{any_name}
use Rattle.export_names.specs.Collected.{key_names, IsGiven, HasMore, IsCollected}

-- an insert of a key is one of its name
pub key_inserted : (keys : List Key) (key : Key) → key_names (insert_key (λ (key other : Key). bytes_eq key.0.now other.0.now) keys key) ≡ insert_key bytes_eq (key_names keys) key.0.now
key_inserted keys key = by (list_any (λ (other : Key). bytes_eq key.0.now other.0.now) keys) refl
  where
    by : (b : Bool) → list_any (λ (other : Key). bytes_eq key.0.now other.0.now) keys ≡ b
        → key_names (insert_key (λ (key other : Key). bytes_eq key.0.now other.0.now) keys key) ≡ insert_key bytes_eq (key_names keys) key.0.now
    by true e = ap (λ b. key_names (cond b keys (keys ++ key ∷ []))) e ∙ sym (ap (λ b. cond b (key_names keys) (key_names keys ++ key.0.now ∷ [])) (sym (any_name key.0.now keys) ∙ e))
    by false e =
        ap (λ b. key_names (cond b keys (keys ++ key ∷ []))) e ∙ map-append (λ (key : Key). key.0.now) keys (key ∷ [])
        ∙ sym (ap (λ b. cond b (key_names keys) (key_names keys ++ key.0.now ∷ [])) (sym (any_name key.0.now keys) ∙ e))

-- an inserted name is added to those that were there
pub inserted : (names : List (List ℕ)) (new name : List ℕ) → Contains (insert_key bytes_eq names new) name ↔ (Contains names name ⊎ (new ≡ name))
inserted names new name = by (list_any (bytes_eq new) names) refl
  where
    put : Contains (insert_key bytes_eq names new) new
    put = Contains-insert_key bytes_eq (λ one other h. (bytes_decides one other).0 h) names new

    by : (b : Bool) → list_any (bytes_eq new) names ≡ b → Contains (insert_key bytes_eq names new) name ↔ (Contains names name ⊎ (new ≡ name))
    by true e =
        let is = ap (λ t. cond t names (names ++ new ∷ [])) e in (
          λ there. inl (subst (λ l. Contains l name) is there),
          λ one. ⊎_elim (λ old. subst (λ l. Contains l name) (sym is) old) (λ same. subst (λ n. Contains (insert_key bytes_eq names new) n) same put) one,
        )
    by false e =
        let is = ap (λ t. cond t names (names ++ new ∷ [])) e in (
          λ there. Contains-push_cases names new name (subst (λ l. Contains l name) is there),
          λ one. ⊎_elim (λ old. subst (λ l. Contains l name) (sym is) (Contains-append_left names (new ∷ []) name old)) (λ same. subst (λ n. Contains (insert_key bytes_eq names new) n) same put) one,
        )

-- ---- the exports of one module

pub given_none : (with_default : Bool) (name : List ℕ) → IsGiven [] with_default name → ⊥
given_none with_default name given = omega (arith, given.0.1)

-- one more export, whose name counts
pub given_one : (exports : List ExportEntry) (index : ℕ) (entry : ExportEntry) (with_default : Bool) → index < length exports → entry ≡ get_or exports index entry
    → ((with_default ≡ true) ⊎ (entry.name ≢ default_name)) → (before names more : List (List ℕ)) → HasMore before (IsGiven (take index exports) with_default) names
    → more ≡ insert_key bytes_eq names entry.name → HasMore before (IsGiven (take (index + 1) exports) with_default) more
given_one exports index entry with_default within at counts before names more so_far is name = (to, from)
  where
    longer : map (λ entry. entry.name) (take (index + 1) exports) ≡ map (λ entry. entry.name) (take index exports) ++ entry.name ∷ []
    longer = map_more (λ entry. entry.name) exports index entry within ∙ ap (λ e. map (λ entry. entry.name) (take index exports) ++ e.name ∷ []) (sym at)

    to : Contains more name → Contains before name ⊎ IsGiven (take (index + 1) exports) with_default name
    to there = ⊎_elim
        (λ old. ⊎_elim (λ was. inl was)
        (λ given. inr (subst (λ l. Contains l name) (sym longer) (Contains-append_left (map (λ entry. entry.name) (take index exports)) (entry.name ∷ []) name given.0), given.1))
        ((so_far name).0 old))
        (λ same. inr (
          subst (λ l. Contains l name) (sym longer) (subst (Contains (map (λ entry. entry.name) (take index exports) ++ entry.name ∷ [])) same
              (Contains-push (map (λ entry. entry.name) (take index exports)) entry.name)),
          subst (λ n. (with_default ≡ true) ⊎ (n ≢ default_name)) same counts,
        ))
        ((inserted names entry.name name).0 (subst (λ l. Contains l name) is there))

    from : Contains before name ⊎ IsGiven (take (index + 1) exports) with_default name → Contains more name
    from one = subst (λ l. Contains l name) (sym is) ((inserted names entry.name name).1 (⊎_elim
        (λ was. inl ((so_far name).1 (inl was)))
        (λ given. ⊎_elim (λ old. inl ((so_far name).1 (inr (old, given.1)))) (λ same. inr same)
        (Contains-push_cases (map (λ entry. entry.name) (take index exports)) entry.name name (subst (λ l. Contains l name) longer given.0)))
        one))

-- one more export, whose name does not count
pub given_no_one : (exports : List ExportEntry) (index : ℕ) (entry : ExportEntry) (with_default : Bool) → index < length exports → entry ≡ get_or exports index entry
    → with_default ≡ false → entry.name ≡ default_name → (before names : List (List ℕ)) → HasMore before (IsGiven (take index exports) with_default) names
    → HasMore before (IsGiven (take (index + 1) exports) with_default) names
given_no_one exports index entry with_default within at off default before names so_far name = (to, from)
  where
    longer : map (λ entry. entry.name) (take (index + 1) exports) ≡ map (λ entry. entry.name) (take index exports) ++ entry.name ∷ []
    longer = map_more (λ entry. entry.name) exports index entry within ∙ ap (λ e. map (λ entry. entry.name) (take index exports) ++ e.name ∷ []) (sym at)

    to : Contains names name → Contains before name ⊎ IsGiven (take (index + 1) exports) with_default name
    to there = ⊎_elim (λ was. inl was)
        (λ given. inr (subst (λ l. Contains l name) (sym longer) (Contains-append_left (map (λ entry. entry.name) (take index exports)) (entry.name ∷ []) name given.0), given.1))
        ((so_far name).0 there)

    from : Contains before name ⊎ IsGiven (take (index + 1) exports) with_default name → Contains names name
    from one = (so_far name).1 (⊎_elim (λ was. inl was)
        (λ given. ⊎_elim (λ old. inr (old, given.1))
        (λ same. ⊎_elim (λ on. absurd (true≢false (sym on ∙ off))) (λ other. absurd (other (sym same ∙ default))) given.1)
        (Contains-push_cases (map (λ entry. entry.name) (take index exports)) entry.name name (subst (λ l. Contains l name) longer given.0)))
        one)

-- ---- the modules

pub collected_none : (graph : Graph) (asked : ℕ) (keys : List Key) → keys ≡ [] → (name : List ℕ) → Contains (key_names keys) name ↔ IsCollected graph asked [] name
collected_none graph asked keys none name =
    (λ there. absurd (no (subst (λ l. Contains (key_names l) name) none there)), λ one. absurd (omega (arith, one.1.1)))
  where
    no : Contains [] name → ⊥
    no there = omega (arith, there.1)

pub collected_more : (graph : Graph) (asked : ℕ) (modules : List ℕ) (number : ℕ) (exports : List ExportEntry) (is_asked : Bool) (before names : List (List ℕ))
    → (is_asked ≡ true) ↔ (number ≡ asked)
    → ((name : List ℕ) → Contains (map (λ entry. entry.name) exports) name ↔ ExportsItself graph number name)
    → ((name : List ℕ) → Contains before name ↔ IsCollected graph asked modules name) → HasMore before (IsGiven exports is_asked) names
    → (name : List ℕ) → Contains names name ↔ IsCollected graph asked (modules ++ number ∷ []) name
collected_more graph asked modules number exports is_asked before names same each so_far more name = (to, from)
  where
    to : Contains names name → IsCollected graph asked (modules ++ number ∷ []) name
    to there = ⊎_elim
        (λ was. let old = (so_far name).0 was in (old.0, Contains-append_left modules (number ∷ []) old.0 old.1, old.2, old.3))
        (λ given. (number, Contains-push modules number, (each name).0 given.0, ⊎_elim (λ on. inl (same.0 on)) (λ other. inr other) given.1))
        ((more name).0 there)

    from : IsCollected graph asked (modules ++ number ∷ []) name → Contains names name
    from one = (more name).1 (⊎_elim
        (λ old. inl ((so_far name).1 (one.0, old, one.2, one.3)))
        (λ e. inr ((each name).1 (subst (λ n. ExportsItself graph n name) (sym e) one.2), ⊎_elim (λ own. inl (same.1 (e ∙ own))) (λ other. inr other) one.3))
        (Contains-push_cases modules number one.0 one.1))

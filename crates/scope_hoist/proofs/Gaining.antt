-- Lists that gain numbers.
use Rattle.std.proofs.Common.{◌≡◌, ◌≢◌, ◌⊎◌, ◌↔◌, inl, inr, ⊎_elim, ℕ, ◌+◌, ◌<◌, ◌≤◌, true, false, true≢false, Some, List, [], ◌∷◌, ◌++◌, length, take, get_or, refl, sym, ap, subst, ◌∙◌, arith, slice_get}
use Rattle.std.proofs.Math.ListN.{set}
use Rattle.std.specs.List.{Contains}
use Rattle.std.proofs.lemmas.Bool.{cases_eq}
use Rattle.std.proofs.lemmas.Option.{slice_get_within, same_Some}
use Rattle.std.proofs.lemmas.List.{length-set, length-take-le, get_or-take, get_or-set_same, get_or-set_other, take_more}
use Rattle.std.proofs.lemmas.List.Elements.{Contains-append_left, Contains-append_right, Contains-push_cases}
use Rattle.pk_types.specs.ChunkGroups.{AreAll}
use Rattle.pk_types.specs.HoistSets.{IsInChunk}
use Rattle.pk_types.specs.declared.plan.Chunks.{Chunks}
use Rattle.pk_types.specs.declared.plan.Active.{Active}
use Rattle.pk_types.specs.HoistSets.{IsRequester}
use Rattle.pk_types.proofs.ListMembers.{here, none_in, in_row}
use Rattle.chunk_groups.proofs.Gathering.{all_same}
use Rattle.scope_hoist.specs.Scopes.{AreTransposed, AreRequests, GainsNumber}

pub gains_nothing : (number : ℕ) (lists : List (List ℕ)) → GainsNumber [] number lists lists
gains_nothing number lists = record {
  each = refl;
  lists = λ place other. (λ c. inl c, λ either. ⊎_elim (λ c. c) (λ two. absurd (none_in place two.1)) either);
}

pub gains_more : (places : List ℕ) (at number : ℕ) (old mid : List (List ℕ)) (line : List ℕ) → GainsNumber (take at places) number old mid → at < length places
    → get_or places at 0 < length mid → line ≡ get_or mid (get_or places at 0) [] ++ number ∷ [] → GainsNumber (take (at + 1) places) number old (set mid (get_or places at 0) line)
gains_more places at number old mid line so_far inside low is = record {
  each = length-set mid (get_or places at 0) line ∙ so_far.each;
  lists = λ place other. ⊎_elim
      (λ e. subst (λ p. Contains (get_or (set mid (get_or places at 0) line) p []) other ↔ (Contains (get_or old p []) other ⊎ ((other ≡ number) × Contains (take (at + 1) places) p))) (sym e) (here_too other))
      (λ ne. elsewhere place other ne)
      (cases_eq place (get_or places at 0));
}
  where
    read : get_or (set mid (get_or places at 0) line) (get_or places at 0) [] ≡ get_or mid (get_or places at 0) [] ++ number ∷ []
    read = get_or-set_same mid (get_or places at 0) line [] low ∙ is

    later : (place : ℕ) → Contains (take at places) place → Contains (take (at + 1) places) place
    later place c = subst (λ l. Contains l place) (sym (take_more places at 0 inside)) (Contains-append_left (take at places) (get_or places at 0 ∷ []) place c)

    last : Contains (take (at + 1) places) (get_or places at 0)
    last = subst (λ l. Contains l (get_or places at 0)) (sym (take_more places at 0 inside)) (Contains-append_right (take at places) (get_or places at 0 ∷ []) (get_or places at 0) (here (get_or places at 0) []))

    here_too : (other : ℕ) → Contains (get_or (set mid (get_or places at 0) line) (get_or places at 0) []) other
        ↔ (Contains (get_or old (get_or places at 0) []) other ⊎ ((other ≡ number) × Contains (take (at + 1) places) (get_or places at 0)))
    here_too other = (
      λ c. ⊎_elim
          (λ before. ⊎_elim (λ o. inl o) (λ two. inr (two.0, last)) ((so_far.lists (get_or places at 0) other).0 before))
          (λ e. inr (sym e, last))
          (Contains-push_cases (get_or mid (get_or places at 0) []) number other (subst (λ l. Contains l other) read c)),
      λ either. subst (λ l. Contains l other) (sym read) (⊎_elim
          (λ o. Contains-append_left (get_or mid (get_or places at 0) []) (number ∷ []) other ((so_far.lists (get_or places at 0) other).1 (inl o)))
          (λ two. Contains-append_right (get_or mid (get_or places at 0) []) (number ∷ []) other (subst (Contains (number ∷ [])) (sym two.0) (here number [])))
          either),
    )

    elsewhere : (place other : ℕ) → place ≢ get_or places at 0 → Contains (get_or (set mid (get_or places at 0) line) place []) other
        ↔ (Contains (get_or old place []) other ⊎ ((other ≡ number) × Contains (take (at + 1) places) place))
    elsewhere place other ne =
        let same = get_or-set_other mid (get_or places at 0) place line [] ne in
        let before = so_far.lists place other in (
          λ c. ⊎_elim (λ o. inl o) (λ two. inr (two.0, later place two.1)) (before.0 (subst (λ l. Contains l other) same c)),
          λ either. subst (λ l. Contains l other) (sym same) (before.1 (⊎_elim (λ o. inl o) (λ two. inr (
            two.0,
            ⊎_elim (λ c. c) (λ e. absurd (ne (sym e)))
                (Contains-push_cases (take at places) (get_or places at 0) place (subst (λ l. Contains l place) (take_more places at 0 inside) two.1)),
          )) either)),
        )

-- ---- lists the other way round

pub transposed_none : (given : List (List ℕ)) (count : ℕ) (lines : List (List ℕ)) → length lines ≡ count → ((place : ℕ) → get_or lines place [] ≡ [])
    → AreTransposed (take 0 given) count lines
transposed_none given count lines each empty = record {
  each = each;
  lists = λ number other low. (λ c. absurd (none_in other (subst (λ l. Contains l other) (empty number) c)), λ c. absurd (none_in number c));
}

pub transposed_more : (given : List (List ℕ)) (count at : ℕ) (places : List ℕ) (old new : List (List ℕ)) → AreTransposed (take at given) count old → at < length given
    → places ≡ get_or given at [] → GainsNumber places at old new → AreTransposed (take (at + 1) given) count new
transposed_more given count at places old new so_far inside is gains = record {
  each = gains.each ∙ so_far.each;
  lists = λ number other low. (
    λ c. ⊎_elim
        (λ before.
        let was = (so_far.lists number other low).0 before in
        let h : other < at = short at other number (omega (arith, inside)) was in
        subst (λ l. Contains l number) (get_or-take at given other [] h ∙ sym (get_or-take (at + 1) given other [] (omega (arith, h)))) was)
        (λ two. subst (λ o. Contains (get_or (take (at + 1) given) o []) number) (sym two.0)
        (subst (λ l. Contains l number) (is ∙ sym (get_or-take (at + 1) given at [] (omega arith))) two.1))
        ((gains.lists number other).0 c),
    λ c.
        let h : other < at + 1 = short (at + 1) other number (omega (arith, inside)) c in
        (gains.lists number other).1 (⊎_elim
        (λ e. inr (e, subst (λ l. Contains l number) (get_or-take (at + 1) given other [] h ∙ ap (λ o. get_or given o []) e ∙ sym is) c))
        (λ ne. inl ((so_far.lists number other low).1
        (subst (λ l. Contains l number) (get_or-take (at + 1) given other [] h ∙ sym (get_or-take at given other [] (omega (arith, h, ne)))) c)))
        (cases_eq other at)),
  );
}
  where
    short : (count other number : ℕ) → count ≤ length given → Contains (get_or (take count given) other []) number → other < count
    short count other number h c = let low = in_row (take count given) other number c in let long = length-take-le count given h in omega (arith, low, long)

-- ---- requests

pub requests_here : (active : Active) (from : ℕ) (targets : List ℕ) → slice_get active.reached from ≡ Some true → targets ≡ get_or active.edges from []
    → (target : ℕ) → Contains targets target ↔ IsRequester active from target
requests_here active from targets reached is target = (λ c. (reached, subst (λ l. Contains l target) is c), λ asks. subst (λ l. Contains l target) (sym is) asks.1)

pub requests_none : (active : Active) (from : ℕ) (targets : List ℕ) → slice_get active.reached from ≡ Some false → targets ≡ []
    → (target : ℕ) → Contains targets target ↔ IsRequester active from target
requests_none active from targets unreached none target = (
  λ c. absurd (none_in target (subst (λ l. Contains l target) none c)),
  λ asks. absurd (true≢false (same_Some true false (sym asks.0 ∙ unreached))),
)

pub all_requests : (active : Active) (asks : List (List ℕ)) → length active.reached ≡ length active.edges → length asks ≡ length active.reached
    → ((k : ℕ) → k < length active.reached → (target : ℕ) → Contains (get_or asks k []) target ↔ IsRequester active k target) → AreRequests active asks
all_requests active asks both each lists = record {
  each = each ∙ both;
  lists = λ from target. (
    λ c. (lists from (let h = in_row asks from target c in omega (arith, h, each)) target).0 c,
    λ requester. (lists from (slice_get_within active.reached from true requester.0) target).1 requester,
  );
}

-- ---- the chunks of one more module are in order

module _ (chunks : Chunks) (count : ℕ) (first old : List (List ℕ)) (line : List ℕ) (at : ℕ) where
  abbrev pub IsHome : List (List ℕ) → ℕ → Type 0
  IsHome homes k = AreAll (λ chunk. IsInChunk chunks chunk k) (get_or homes k [])

  pub home_done : AreTransposed chunks.modules count first → at < count → length old ≡ count → ((k : ℕ) → k < at → IsHome old k)
      → ((k : ℕ) → at ≤ k → get_or old k [] ≡ get_or first k []) → AreAll (Contains (get_or old at [])) line
      → (k : ℕ) → k < at + 1 → IsHome (set old at line) k
  home_done transposed inside each done waits all k h = ⊎_elim
      (λ e. subst (IsHome (set old at line)) (sym e) (subst (AreAll (λ chunk. IsInChunk chunks chunk at)) (sym (get_or-set_same old at line [] (omega (arith, inside, each))))
      (all_same (Contains (get_or old at [])) (λ chunk. IsInChunk chunks chunk at) line all (λ chunk. (
        λ c. (transposed.lists at chunk inside).0 (subst (λ l. Contains l chunk) (waits at (omega arith)) c),
        λ c. subst (λ l. Contains l chunk) (sym (waits at (omega arith))) ((transposed.lists at chunk inside).1 c),
      )))))
      (λ ne. subst (AreAll (λ chunk. IsInChunk chunks chunk k)) (sym (get_or-set_other old at k line [] ne)) (done k (omega (arith, h, ne))))
      (cases_eq k at)

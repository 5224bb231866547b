-- What is used through requests, once more is.
use Rattle.std.proofs.Common.{◌≡◌, ◌↔◌, ◌⊎◌, inl, inr, ⊎_elim, ℕ, ◌<◌, Bool, true, false, cond, List, [], ◌∷◌, ◌++◌, ◌||◌, length, get_or, refl, sym, ap, subst, ◌∙◌, arith}
use Rattle.std.proofs.Math.ListN.{set}
use Rattle.std.specs.Borrow.{Bor}
use Rattle.std.specs.List.{Contains, list_any}
use Rattle.std.specs.Str.{bytes_eq}
use Rattle.std.proofs.lemmas.Bool.{cases_eq}
use Rattle.std.proofs.lemmas.List.{map-append, map-set, length-map, get_or-map, get_or-set_same, get_or-set_other}
use Rattle.indexmap.specs.IndexSet.{IndexSet, insert_key}
use Rattle.export_names.proofs.Collecting.{inserted}
use Rattle.prune_graph.specs.declared.through.Through.{Through}
use Rattle.prune_graph.specs.Gathering.{the_names, name_lists, IsNamed, IsSpaced, HasRequests, Gains, IsTheName, IsTheSpace, IsNoName, IsNoSpace}

-- ---- one name

any_name : (name : Bor (List ℕ)) (names : List (Bor (List ℕ))) → list_any (λ (other : Bor (List ℕ)). bytes_eq name.now other.now) names ≡ list_any (bytes_eq name.now) (the_names names)
any_name name [] = refl
any_name name (first ∷ names) = ap (λ b. bytes_eq name.now first.now || b) (any_name name names)

pub names_inserted : (names : List (Bor (List ℕ))) (name : Bor (List ℕ))
    → the_names (insert_key (λ (name other : Bor (List ℕ)). bytes_eq name.now other.now) names name) ≡ insert_key bytes_eq (the_names names) name.now
names_inserted names name = by (list_any (λ (other : Bor (List ℕ)). bytes_eq name.now other.now) names) refl
  where
    by : (b : Bool) → list_any (λ (other : Bor (List ℕ)). bytes_eq name.now other.now) names ≡ b
        → the_names (insert_key (λ (name other : Bor (List ℕ)). bytes_eq name.now other.now) names name) ≡ insert_key bytes_eq (the_names names) name.now
    by true e = ap (λ b. the_names (cond b names (names ++ name ∷ []))) e
        ∙ sym (ap (λ b. cond b (the_names names) (the_names names ++ name.now ∷ [])) (sym (any_name name names) ∙ e))
    by false e =
        ap (λ b. the_names (cond b names (names ++ name ∷ []))) e ∙ map-append (λ (name : Bor (List ℕ)). name.now) names (name ∷ [])
        ∙ sym (ap (λ b. cond b (the_names names) (the_names names ++ name.now ∷ [])) (sym (any_name name names) ∙ e))

module _ {S : Type 0} (sets : List (IndexSet (Bor (List ℕ)) S)) (place : ℕ) (within : place < length sets) where
  pub list_read : (set : IndexSet (Bor (List ℕ)) S) → set ≡ get_or sets place set → get_or (name_lists sets) place [] ≡ the_names set.keys
  list_read set at = get_or-map (λ (one : IndexSet (Bor (List ℕ)) S). the_names one.keys) sets place set [] within ∙ ap (λ (one : IndexSet (Bor (List ℕ)) S). the_names one.keys) (sym at)

  module _ (before after : IndexSet (Bor (List ℕ)) S) (at : before ≡ get_or sets place before) (name : Bor (List ℕ))
      (put : after.keys ≡ insert_key (λ (name other : Bor (List ℕ)). bytes_eq name.now other.now) before.keys name) where
    is_now : name_lists (set sets place after) ≡ set (name_lists sets) place (the_names after.keys)
    is_now = map-set (λ (one : IndexSet (Bor (List ℕ)) S). the_names one.keys) sets place after

    here : get_or (name_lists (set sets place after)) place [] ≡ insert_key bytes_eq (get_or (name_lists sets) place []) name.now
    here = ap (λ l. get_or l place []) is_now
        ∙ get_or-set_same (name_lists sets) place (the_names after.keys) [] (omega (arith, length-map sets (λ (one : IndexSet (Bor (List ℕ)) S). the_names one.keys)))
        ∙ ap the_names put ∙ names_inserted before.keys name ∙ ap (λ l. insert_key bytes_eq l name.now) (sym (list_read before at))

    there : (request : ℕ) → ¬ (request ≡ place) → get_or (name_lists (set sets place after)) request [] ≡ get_or (name_lists sets) request []
    there request other = ap (λ l. get_or l request []) is_now ∙ get_or-set_other (name_lists sets) place request (the_names after.keys) [] other

    pub list_gains : (request : ℕ) (named : List ℕ)
        → Contains (get_or (name_lists (set sets place after)) request []) named ↔ (Contains (get_or (name_lists sets) request []) named ⊎ IsTheName place name.now request named)
    list_gains request named = ⊎_elim
        (λ e. subst (λ k. Contains (get_or (name_lists (set sets place after)) k []) named ↔ (Contains (get_or (name_lists sets) k []) named ⊎ IsTheName place name.now k named)) (sym e) (
          λ m. ⊎_elim (λ was. inl was) (λ same. inr (refl, same)) ((inserted (get_or (name_lists sets) place []) name.now named).0 (subst (λ l. Contains l named) here m)),
          λ either. subst (λ l. Contains l named) (sym here)
              ((inserted (get_or (name_lists sets) place []) name.now named).1 (⊎_elim (λ was. inl was) (λ one. inr one.1) either)),
        ))
        (λ ne. (
          λ m. inl (subst (λ l. Contains l named) (there request ne) m),
          λ either. subst (λ l. Contains l named) (sym (there request ne)) (⊎_elim (λ was. was) (λ one. absurd (ne (sym one.0))) either),
        ))
        (cases_eq request place)

pub name_gained : (old new : Through) (place : ℕ) (name : List ℕ)
    → ((request : ℕ) (named : List ℕ) → IsNamed new request named ↔ (IsNamed old request named ⊎ IsTheName place name request named))
    → length new.names.items ≡ length old.names.items → new.spaces.items ≡ old.spaces.items → Gains old (IsTheName place name) IsNoSpace new
name_gained old new place name each count same = record {
  names = each;
  spaces = λ request. (
    λ s. inl (subst (λ (l : List Bool). get_or l request false ≡ true) same s),
    λ either. subst (λ (l : List Bool). get_or l request false ≡ true) (sym same) (⊎_elim (λ was. was) (λ none. absurd none) either),
  );
  each_names = count;
  each_spaces = ap length same;
}

-- ---- one namespace

pub space_gained : (old new : Through) (place : ℕ) → place < length old.spaces.items → new.names ≡ old.names → new.spaces.items ≡ set old.spaces.items place true
    → length new.spaces.items ≡ length old.spaces.items → Gains old IsNoName (IsTheSpace place) new
space_gained old new place within same put count = record {
  names = λ request name. (
    λ m. inl (subst (λ l. Contains (get_or (name_lists l.items) request []) name) same m),
    λ either. subst (λ l. Contains (get_or (name_lists l.items) request []) name) (sym same) (⊎_elim (λ was. was) (λ none. absurd none) either),
  );
  spaces = λ request. ⊎_elim
      (λ e. subst (λ k. IsSpaced new k ↔ (IsSpaced old k ⊎ IsTheSpace place k)) (sym e) (
        λ s. inr refl,
        λ either. ap (λ l. get_or l place false) put ∙ get_or-set_same old.spaces.items place true false within,
      ))
      (λ ne.
      let other = ap (λ l. get_or l request false) put ∙ get_or-set_other old.spaces.items place request true false ne in (
        λ s. inl (sym other ∙ s),
        λ either. other ∙ ⊎_elim (λ was. was) (λ one. absurd (ne (sym one))) either,
      ))
      (cases_eq request place);
  each_names = ap (λ l. length l.items) same;
  each_spaces = count;
}

-- ---- in turn

pub gains_none : (through : Through) (IsName : ℕ → List ℕ → Type 0) (IsSpace : ℕ → Type 0) → ((request : ℕ) (name : List ℕ) → ¬ IsName request name)
    → ((request : ℕ) → ¬ IsSpace request) → Gains through IsName IsSpace through
gains_none through IsName IsSpace no_name no_space = record {
  names = λ request name. (λ m. inl m, λ either. ⊎_elim (λ was. was) (λ one. absurd (no_name request name one)) either);
  spaces = λ request. (λ s. inl s, λ either. ⊎_elim (λ was. was) (λ one. absurd (no_space request one)) either);
  each_names = refl;
  each_spaces = refl;
}

pub gains_same : (old new : Through) (IsName Named : ℕ → List ℕ → Type 0) (IsSpace Spaced : ℕ → Type 0) → Gains old IsName IsSpace new
    → ((request : ℕ) (name : List ℕ) → IsName request name ↔ Named request name) → ((request : ℕ) → IsSpace request ↔ Spaced request) → Gains old Named Spaced new
gains_same old new IsName Named IsSpace Spaced gains names spaces = record {
  names = λ request name. (
    λ m. ⊎_elim (λ was. inl was) (λ one. inr ((names request name).0 one)) ((gains.names request name).0 m),
    λ either. (gains.names request name).1 (⊎_elim (λ was. inl was) (λ one. inr ((names request name).1 one)) either),
  );
  spaces = λ request. (
    λ m. ⊎_elim (λ was. inl was) (λ one. inr ((spaces request).0 one)) ((gains.spaces request).0 m),
    λ either. (gains.spaces request).1 (⊎_elim (λ was. inl was) (λ one. inr ((spaces request).1 one)) either),
  );
  each_names = gains.each_names;
  each_spaces = gains.each_spaces;
}

pub gains_then : (old between new : Through) (IsName Named : ℕ → List ℕ → Type 0) (IsSpace Spaced : ℕ → Type 0) → Gains old IsName IsSpace between
    → Gains between Named Spaced new → Gains old (λ request name. IsName request name ⊎ Named request name) (λ request. IsSpace request ⊎ Spaced request) new
gains_then old between new IsName Named IsSpace Spaced first second = record {
  names = λ request name. (
    λ m. ⊎_elim (λ b. ⊎_elim (λ was. inl was) (λ one. inr (inl one)) ((first.names request name).0 b)) (λ one. inr (inr one)) ((second.names request name).0 m),
    λ either. (second.names request name).1 (⊎_elim (λ was. inl ((first.names request name).1 (inl was)))
        (λ one. ⊎_elim (λ a. inl ((first.names request name).1 (inr a))) (λ b. inr b) one) either),
  );
  spaces = λ request. (
    λ m. ⊎_elim (λ b. ⊎_elim (λ was. inl was) (λ one. inr (inl one)) ((first.spaces request).0 b)) (λ one. inr (inr one)) ((second.spaces request).0 m),
    λ either. (second.spaces request).1 (⊎_elim (λ was. inl ((first.spaces request).1 (inl was)))
        (λ one. ⊎_elim (λ a. inl ((first.spaces request).1 (inr a))) (λ b. inr b) one) either),
  );
  each_names = second.each_names ∙ first.each_names;
  each_spaces = second.each_spaces ∙ first.each_spaces;
}

pub keeps_requests : (old new : Through) (IsName : ℕ → List ℕ → Type 0) (IsSpace : ℕ → Type 0) (count : ℕ) → Gains old IsName IsSpace new → HasRequests count old
    → HasRequests count new
keeps_requests old new IsName IsSpace count gains has = record { names = gains.each_names ∙ has.names; spaces = gains.each_spaces ∙ has.spaces }

-- Places that export by a name by which one before does.
use Rattle.std.proofs.Common.{◌≡◌, ◌<◌, ◌+◌, ◌||◌, ◌⊎◌, inl, inr, ⊎_elim, ◌↔◌, ℕ, zero, suc, Bool, true, false, not, cond, List, [], ◌∷◌, ◌++◌, Option, Some, None, is_some, length, nat_lt, refl, sym, ap, subst, ◌∙◌, arith, add-one, true≢false}
use Rattle.std.specs.List.{Contains, position_or_len}
use Rattle.std.specs.Str.{bytes_eq}
use Rattle.std.specs.Cmp.Lexicographic.{bytes_decides}
use Rattle.std.proofs.lemmas.Bool.{lt-ltb, cond-true, or_cases, or_left, or_right}
use Rattle.std.proofs.lemmas.Option.{none-some, same_Some}
use Rattle.std.proofs.lemmas.List.Quantifiers.{position-Some}
use Rattle.std.proofs.lemmas.List.Elements.{Contains-append_cases, Contains-append_left, Contains-append_right}
use Rattle.pk_text.specs.Places.{place_of}
use Rattle.pk_types.proofs.ListMembers.{here, one_of, none_in}
use Rattle.es_scope.specs.Source.{name_at}
use Rattle.es_scope.specs.Known.{Known}
use Rattle.es_scope.specs.Declaring.{default}
use Rattle.es_scope.specs.Exporting.{IsExportedTwice}
use Rattle.es_exports.specs.declared.names.Names.{Names}
use Rattle.es_exports.specs.Seeing.{Seen, says_outer, says_own, says_default}
use Rattle.es_exports.specs.Saying.{name_of, name_if, names_at, is_seen, is_again, with_name, with_names, seen_at, is_again_at}
use Rattle.es_exports.specs.declared.said.Said.{Said}
use Rattle.es_exports.specs.declared.said.Said.TheVariants as said
use Rattle.es_exports.proofs.Marks.{chosen, is_there}
use Rattle.es_exports.proofs.Facts.{AreSeen}
use Rattle.es_exports.proofs.Naming.{IsSaid, said_exports, exports_said}

-- ---- texts that have a place

further : (text name : List ℕ) (texts : List (List ℕ)) → bytes_eq name text ≡ false → (text ≡ name) ⊎ Contains texts name → Contains texts name
further text name texts unlike (inl same) = absurd (true≢false (sym ((bytes_decides name text).1 (sym same)) ∙ unlike))
further text name texts unlike (inr c) = c

placed_by : (text name : List ℕ) (texts : List (List ℕ)) (b : Bool) → bytes_eq name text ≡ b → (text ≡ name) ⊎ Contains texts name
    → (Contains texts name → position_or_len (bytes_eq name) texts < length texts)
    → cond (not b) (1 + position_or_len (bytes_eq name) texts) 0 < suc (length texts)
placed_by text name texts true e h rest = omega arith
placed_by text name texts false e h rest = let below = rest (further text name texts e h) in omega arith

placed : (texts : List (List ℕ)) (name : List ℕ) → Contains texts name → position_or_len (bytes_eq name) texts < length texts
placed [] name c = absurd (none_in name c)
placed (text ∷ texts) name c = placed_by text name texts (bytes_eq name text) refl (one_of text texts name c) (placed texts name)

has_place : (texts : List (List ℕ)) (name : List ℕ) → Contains texts name → is_some (place_of texts name) ≡ true
has_place texts name c =
    ap is_some (cond-true (nat_lt (position_or_len (bytes_eq name) texts) (length texts)) (Some (position_or_len (bytes_eq name) texts)) None
    (lt-ltb (position_or_len (bytes_eq name) texts) (length texts) (placed texts name c)))

place_has : (texts : List (List ℕ)) (name : List ℕ) → is_some (place_of texts name) ≡ true → Contains texts name
place_has texts name e =
    let found = is_there (place_of texts name) e in
    let at = position-Some (bytes_eq name) texts found.0 name found.1 in
    (found.0, at.0, sym ((bytes_decides name _).0 at.1))

with_by : (texts : List (List ℕ)) (text name : List ℕ) (b : Bool) → is_some (place_of texts text) ≡ b
    → Contains (cond b texts (texts ++ text ∷ [])) name ↔ (Contains texts name ⊎ (text ≡ name))
with_by texts text name true e = (
  λ c. inl c,
  λ h. ⊎_elim (λ c. c) (λ same. subst (Contains texts) same (place_has texts text e)) h,
)
with_by texts text name false e = (
  λ c. ⊎_elim (λ old. inl old) (λ last. ⊎_elim (λ same. inr same) (λ none. absurd (none_in name none)) (one_of text [] name last))
      (Contains-append_cases texts (text ∷ []) name c),
  λ h. ⊎_elim (λ c. Contains-append_left texts (text ∷ []) name c)
      (λ same. Contains-append_right texts (text ∷ []) name (subst (Contains (text ∷ [])) same (here text []))) h,
)

in_with : (texts : List (List ℕ)) (found : Option (List ℕ)) (name : List ℕ) → Contains (with_name texts found) name ↔ (Contains texts name ⊎ (found ≡ Some name))
in_with texts None name = (λ c. inl c, λ h. ⊎_elim (λ c. c) (λ e. absurd (none-some name e)) h)
in_with texts (Some text) name =
    let both = with_by texts text name (is_some (place_of texts text)) refl in (
      λ c. ⊎_elim (λ old. inl old) (λ same. inr (ap (λ (t : List ℕ). Some t) same)) (both.0 c),
      λ h. both.1 (⊎_elim (λ old. inl old) (λ e. inr (same_Some text name e)) h),
    )

-- one of the names
data HasName (names : Names) (name : List ℕ) : Type 0 where
  has_outer : names.outer ≡ Some name → HasName names name
  has_own : names.own ≡ Some name → HasName names name
  has_default : names.default ≡ Some name → HasName names name

in_all : (texts : List (List ℕ)) (names : Names) (name : List ℕ) → Contains (with_names texts names) name → Contains texts name ⊎ HasName names name
in_all texts names name c = ⊎_elim
    (λ c. ⊎_elim (λ c. ⊎_elim (λ old. inl old) (λ e. inr (HasName.has_outer e)) ((in_with texts names.outer name).0 c)) (λ e. inr (HasName.has_own e))
    ((in_with (with_name texts names.outer) names.own name).0 c))
    (λ e. inr (HasName.has_default e)) ((in_with (with_name (with_name texts names.outer) names.own) names.default name).0 c)

old_in_all : (texts : List (List ℕ)) (names : Names) (name : List ℕ) → Contains texts name → Contains (with_names texts names) name
old_in_all texts names name c =
    (in_with (with_name (with_name texts names.outer) names.own) names.default name).1
    (inl ((in_with (with_name texts names.outer) names.own name).1 (inl ((in_with texts names.outer name).1 (inl c)))))

new_in_all : (texts : List (List ℕ)) (names : Names) (name : List ℕ) → HasName names name → Contains (with_names texts names) name
new_in_all texts names name (HasName.has_outer e) =
    (in_with (with_name (with_name texts names.outer) names.own) names.default name).1
    (inl ((in_with (with_name texts names.outer) names.own name).1 (inl ((in_with texts names.outer name).1 (inr e)))))
new_in_all texts names name (HasName.has_own e) =
    (in_with (with_name (with_name texts names.outer) names.own) names.default name).1
    (inl ((in_with (with_name texts names.outer) names.own name).1 (inr e)))
new_in_all texts names name (HasName.has_default e) = (in_with (with_name (with_name texts names.outer) names.own) names.default name).1 (inr e)

-- ---- the names of places

if_there : (seen : Seen) (says : Bool) (said : Said) (name : List ℕ) → name_if seen.source says said ≡ Some name
    → (says ≡ true) × (name_of seen.source said ≡ name)
if_there seen says said name e =
    let taken = chosen says (Some (name_of seen.source said)) name e in (taken.0, same_Some (name_of seen.source said) name taken.1)

has_said : (seen : Seen) (place : ℕ) (name : List ℕ) → HasName (names_at seen place) name → IsSaid seen place name
has_said seen place name (HasName.has_outer e) =
    let there = if_there seen (says_outer seen.source place) (said.At (place + 2)) name e in subst (IsSaid seen place) there.1 (IsSaid.at_outer there.0)
has_said seen place name (HasName.has_own e) =
    let there = if_there seen (says_own seen place) (said.At place) name e in subst (IsSaid seen place) there.1 (IsSaid.at_own there.0)
has_said seen place name (HasName.has_default e) =
    let there = if_there seen (says_default seen.source place) said.Default name e in subst (IsSaid seen place) there.1 (IsSaid.at_default there.0)

said_has : (seen : Seen) (place : ℕ) (name : List ℕ) → IsSaid seen place name → HasName (names_at seen place) name
said_has seen place _ (IsSaid.at_outer e) = HasName.has_outer (cond-true (says_outer seen.source place) (Some (name_at seen.source (place + 2))) None e)
said_has seen place _ (IsSaid.at_own e) = HasName.has_own (cond-true (says_own seen place) (Some (name_at seen.source place)) None e)
said_has seen place _ (IsSaid.at_default e) = HasName.has_default (cond-true (says_default seen.source place) (Some default) None e)

here_or_earlier : (place limit : ℕ) → place < suc limit → (place < limit) ⊎ (limit ≡ place)
here_or_earlier place limit h = grind arith

-- a place before the limit says the name
IsSaidBefore : Seen → ℕ → List ℕ → Type 0
IsSaidBefore seen limit name = (place : ℕ) × (place < limit) × IsSaid seen place name

seen_before : (seen : Seen) (limit : ℕ) (name : List ℕ) → Contains (seen_at seen limit) name → IsSaidBefore seen limit name
unfolding seen_at IsSaidBefore
seen_before seen zero name c = absurd (none_in name c)
seen_before seen (suc limit) name c = ⊎_elim
    (λ old. let found = seen_before seen limit name old in (found.0, let before = found.1 in omega arith, found.2))
    (λ now. (limit, omega arith, has_said seen limit name now))
    (in_all (seen_at seen limit) (names_at seen limit) name c)

before_seen : (seen : Seen) (limit place : ℕ) (name : List ℕ) → place < limit → IsSaid seen place name → Contains (seen_at seen limit) name
unfolding seen_at
before_seen seen zero place name before h = absurd (omega arith)
before_seen seen (suc limit) place name before h = ⊎_elim
    (λ earlier. old_in_all (seen_at seen limit) (names_at seen limit) name (before_seen seen limit place name earlier h))
    (λ same. new_in_all (seen_at seen limit) (names_at seen limit) name (said_has seen limit name (subst (λ p. IsSaid seen p name) (sym same) h)))
    (here_or_earlier place limit before)

-- ---- seen again

seen_there : (texts : List (List ℕ)) (found : Option (List ℕ)) → is_seen texts found ≡ true → (name : List ℕ) × (found ≡ Some name) × Contains texts name
seen_there texts None e = absurd (true≢false (sym e))
seen_there texts (Some name) e = (name, refl, place_has texts name e)

seen_here : (texts : List (List ℕ)) (found : Option (List ℕ)) (name : List ℕ) → found ≡ Some name → Contains texts name → is_seen texts found ≡ true
seen_here texts found name e c = ap (is_seen texts) e ∙ has_place texts name c

again_there : (texts : List (List ℕ)) (names : Names) → is_again texts names ≡ true → (name : List ℕ) × HasName names name × Contains texts name
again_there texts names e = ⊎_elim
    (λ outer. let found = seen_there texts names.outer outer in (found.0, HasName.has_outer found.1, found.2))
    (λ other. ⊎_elim
    (λ own. let found = seen_there texts names.own own in (found.0, HasName.has_own found.1, found.2))
    (λ last. let found = seen_there texts names.default last in (found.0, HasName.has_default found.1, found.2))
    (or_cases (is_seen texts names.own) (is_seen texts names.default) other))
    (or_cases (is_seen texts names.outer) (is_seen texts names.own || is_seen texts names.default) e)

again_here : (texts : List (List ℕ)) (names : Names) (name : List ℕ) → HasName names name → Contains texts name → is_again texts names ≡ true
again_here texts names name (HasName.has_outer e) c =
    or_left (is_seen texts names.outer) (is_seen texts names.own || is_seen texts names.default) (seen_here texts names.outer name e c)
again_here texts names name (HasName.has_own e) c =
    or_right (is_seen texts names.outer) (is_seen texts names.own || is_seen texts names.default)
    (or_left (is_seen texts names.own) (is_seen texts names.default) (seen_here texts names.own name e c))
again_here texts names name (HasName.has_default e) c =
    or_right (is_seen texts names.outer) (is_seen texts names.own || is_seen texts names.default)
    (or_right (is_seen texts names.own) (is_seen texts names.default) (seen_here texts names.default name e c))

module _ (known : Known) (seen : Seen) (are : AreSeen known seen) where
  pub twice_there : (place : ℕ) → is_again_at seen place ≡ true → IsExportedTwice seen.source place
  unfolding IsSaidBefore
  twice_there place e =
      let found = again_there (seen_at seen place) (names_at seen place) e in
      let earlier = seen_before seen place found.0 found.2 in
      record {
        earlier = earlier.0;
        name = found.0;
        before = earlier.1;
        here = said_exports known seen are place found.0 (has_said seen place found.0 found.1);
        there = said_exports known seen are earlier.0 found.0 earlier.2;
      }

  pub twice_here : (place : ℕ) → IsExportedTwice seen.source place → is_again_at seen place ≡ true
  twice_here place h =
      again_here (seen_at seen place) (names_at seen place) h.name (said_has seen place h.name (exports_said known seen are place h.name h.here))
      (before_seen seen place h.earlier h.name h.before (exports_said known seen are h.earlier h.name h.there))

-- ---- from place to place

pub none_seen : (seen : Seen) (texts : List (List ℕ)) → texts ≡ [] → texts ≡ seen_at seen 0
unfolding seen_at
none_seen seen texts none = none

pub more_seen : (seen : Seen) (place : ℕ) (names : Names) (old new : List (List ℕ)) → old ≡ seen_at seen place → names ≡ names_at seen place
    → new ≡ with_names old names → new ≡ seen_at seen (place + 1)
unfolding seen_at
more_seen seen place names old new so_far is sees =
    sees ∙ ap (λ (texts : List (List ℕ)). with_names texts names) so_far ∙ ap (with_names (seen_at seen place)) is ∙ ap (seen_at seen) (sym (add-one place))

-- it is asked of the names that were seen
pub again_is : (seen : Seen) (place : ℕ) (texts : List (List ℕ)) (names : Names) (again : Bool) → texts ≡ seen_at seen place → names ≡ names_at seen place
    → again ≡ is_again texts names → again ≡ is_again_at seen place
again_is seen place texts names again so_far is told =
    told ∙ ap (λ (l : List (List ℕ)). is_again l names) so_far ∙ ap (is_again (seen_at seen place)) is

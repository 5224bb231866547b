-- The first name that is declared twice, by what is noted of the places before.
use Rattle.std.proofs.Common.{◌≡◌, ◌<◌, ◌≤◌, ◌+◌, ℕ, true, false, List, [], Some, None, length, get_or, slice_get, refl, sym, ap, subst, ◌∙◌, ⊎_elim, inl, inr, arith, add-one, true≢false}
use Rattle.std.specs.List.{Contains}
use Rattle.std.specs.Str.{bytes_eq}
use Rattle.std.specs.Cmp.Lexicographic.{bytes_decides}
use Rattle.std.proofs.lemmas.Bool.{cases_eq, cases_lt}
use Rattle.std.proofs.lemmas.Option.{same_Some, slice_get_within, slice_get-get_or}
use Rattle.std.proofs.lemmas.List.Quantifiers.{position-Some}
use Rattle.pk_text.specs.Places.{place_of}
use Rattle.pk_types.proofs.ListMembers.{none_in}
use Rattle.es_outline.specs.declared.mark.Mark.{Mark}
use Rattle.es_outline.specs.declared.mark.Role.{Role}
use Rattle.es_outline.specs.declared.mark.Role.TheVariants as is
use Rattle.es_scope.specs.declared.kinds.DeclarationKind.{DeclarationKind}
use Rattle.es_scope.specs.declared.frame.Frame.{Frame}
use Rattle.es_scope.specs.Source.{Source, HasRole, name_at}
use Rattle.es_scope.specs.Occurrences.{IsDeclared, is_import}
use Rattle.es_scope.specs.Frames.{frames_at, behind, behind_any}
use Rattle.es_scope.specs.Named.{AreNumbered, is_naming, names_it}
use Rattle.es_scope.specs.Twice.{IsLexicalIn, IsVarIn, Clash, IsTwice, IsFirstTwice}
use Rattle.es_scope.specs.Claims.{lexical_at, vars_at}
use Rattle.es_scope.specs.Noting.{Keys, Notes, claim_at, Clashes, AreMore, Takes, IsClaimed, AreClaimed, AreNoted}
use Rattle.es_scope.proofs.Claiming.{lexical_in, var_in}

-- ---- numbers of names

import_names : (role : Role) → is_import role ≡ true → is_naming role ≡ true
import_names is.Imported e = refl
import_names is.ImportedDefault e = refl
import_names is.ImportedSpace e = refl
import_names _ e = absurd (true≢false (sym e))

-- a place where a name is declared
record IsNamed (source : Source) (place : ℕ) : Type 0 where
  role : Role
  has : HasRole source place role
  naming : is_naming role ≡ true

declared_name : (source : Source) (place : ℕ) (how : DeclarationKind) → IsDeclared source place how → IsNamed source place
declared_name source place how (IsDeclared.by_word _ opening t b w) = record { role = is.Bound; has = t; naming = refl }
declared_name source place _ (IsDeclared.parameter opening t b) = record { role = is.Bound; has = t; naming = refl }
declared_name source place _ (IsDeclared.arrow_parameter opening t b) = record { role = is.Bound; has = t; naming = refl }
declared_name source place _ (IsDeclared.caught opening t b) = record { role = is.Bound; has = t; naming = refl }
declared_name source place _ (IsDeclared.function t) = record { role = is.FunctionName; has = t; naming = refl }
declared_name source place _ (IsDeclared.class t) = record { role = is.ClassName; has = t; naming = refl }
declared_name source place _ (IsDeclared.imported role r t) = record { role = role; has = t; naming = import_names role r }

lexical_name : (source : Source) (scope place : ℕ) → IsLexicalIn source scope place → IsNamed source place
lexical_name source scope place (IsLexicalIn.by_kind how l d b) = declared_name source place how d
lexical_name source scope place (IsLexicalIn.function d b n) = declared_name source place _ d

var_name : (source : Source) (scope place : ℕ) → IsVarIn source scope place → IsNamed source place
var_name source scope place (IsVarIn.var to d w b l) = declared_name source place _ d
var_name source scope place (IsVarIn.function d b h) = declared_name source place _ d

both_names : (source : Source) (scope earlier place : ℕ) → Clash source scope earlier place → IsNamed source earlier × IsNamed source place
both_names source scope earlier place (Clash.both a b) = (lexical_name source scope earlier a, lexical_name source scope place b)
both_names source scope earlier place (Clash.first a b) = (lexical_name source scope earlier a, var_name source scope place b)
both_names source scope earlier place (Clash.second a b) = (var_name source scope earlier a, lexical_name source scope place b)

named_inside : (source : Source) (place : ℕ) → IsNamed source place → place < length source.marks
named_inside source place named = slice_get_within source.marks place _ named.has.1

one_name : (texts : List (List ℕ)) (name other : List ℕ) (number : ℕ) → place_of texts name ≡ Some number → place_of texts other ≡ Some number → name ≡ other
one_name texts name other number e f =
    let here = position-Some (bytes_eq name) texts number [] e in
    let there = position-Some (bytes_eq other) texts number [] f in
    (bytes_decides name _).0 here.1 ∙ sym ((bytes_decides other _).0 there.1)

module _ (source : Source) (texts : List (List ℕ)) (numbers : List ℕ) (numbered : AreNumbered source texts numbers) where
  number_of : (place : ℕ) → IsNamed source place → slice_get numbers place ≡ place_of texts (name_at source place)
  number_of place named = numbered.each place (ap names_it named.has.1 ∙ named.naming)

  same_name : (place other number : ℕ) → IsNamed source place → IsNamed source other → slice_get numbers place ≡ Some number → slice_get numbers other ≡ Some number
      → name_at source place ≡ name_at source other
  same_name place other number named also e f =
      one_name texts (name_at source place) (name_at source other) number (sym (number_of place named) ∙ e) (sym (number_of other also) ∙ f)

  same_number : (place other number : ℕ) → IsNamed source place → IsNamed source other → name_at source place ≡ name_at source other → slice_get numbers other ≡ Some number
      → slice_get numbers place ≡ Some number
  same_number place other number named also same f = number_of place named ∙ ap (place_of texts) same ∙ sym (number_of other also) ∙ f

  pub number_there : (place : ℕ) (items : List ℕ) → items ≡ numbers → place < length source.marks → slice_get numbers place ≡ Some (get_or items place 0)
  number_there place items same inside =
      ap (λ (list : List ℕ). slice_get list place) (sym same)
      ∙ slice_get-get_or items place 0 (let long = ap length same in omega (arith, inside, long, numbered.whole))

  -- ---- one place

  module _ (place number : ℕ) (notes : Notes) (here : slice_get numbers place ≡ Some number) (noted : AreNoted source numbers place notes) where
    is_twice : (scope : ℕ) (claimed : ℕ → List ℕ) (before : IsClaimed claimed numbers place scope number) → Clash source scope before.place place → IsTwice source place
    is_twice scope claimed before clash =
        let named = both_names source scope before.place place clash in
        record {
          scope = scope;
          earlier = before.place;
          before = before.before;
          clash = clash;
          same = same_name before.place place number named.0 named.1 before.numbered here;
        }

    pub clash_twice : Clashes notes (claim_at source number place) → IsTwice source place
    clash_twice (Clashes.both (scope, c, k)) =
        let before = (noted.lexical scope number).0 k in
        is_twice scope (lexical_at source) before (Clash.both ((lexical_in source before.place scope).1 before.claims) ((lexical_in source place scope).1 c))
    clash_twice (Clashes.first (scope, c, k)) =
        let before = (noted.lexical scope number).0 k in
        is_twice scope (lexical_at source) before (Clash.first ((lexical_in source before.place scope).1 before.claims) ((var_in source place scope).1 c))
    clash_twice (Clashes.second (scope, c, k)) =
        let before = (noted.vars scope number).0 k in
        is_twice scope (vars_at source) before (Clash.second ((var_in source before.place scope).1 before.claims) ((lexical_in source place scope).1 c))

    clash_by : (scope earlier : ℕ) → earlier < place → slice_get numbers earlier ≡ Some number → Clash source scope earlier place
        → Clashes notes (claim_at source number place)
    clash_by scope earlier before numbered_so (Clash.both a b) =
        Clashes.both (scope, (lexical_in source place scope).0 b, (noted.lexical scope number).1 (record { place = earlier; before = before; claims = (lexical_in source earlier scope).0 a; numbered = numbered_so }))
    clash_by scope earlier before numbered_so (Clash.first a b) =
        Clashes.first (scope, (var_in source place scope).0 b, (noted.lexical scope number).1 (record { place = earlier; before = before; claims = (lexical_in source earlier scope).0 a; numbered = numbered_so }))
    clash_by scope earlier before numbered_so (Clash.second a b) =
        Clashes.second (scope, (lexical_in source place scope).0 b, (noted.vars scope number).1 (record { place = earlier; before = before; claims = (var_in source earlier scope).0 a; numbered = numbered_so }))

    twice_clash : IsTwice source place → Clashes notes (claim_at source number place)
    twice_clash twice =
        let named = both_names source twice.scope twice.earlier place twice.clash in
        clash_by twice.scope twice.earlier twice.before (same_number twice.earlier place number named.0 named.1 twice.same here) twice.clash

-- ---- one place more

claimed_more : (claimed : ℕ → List ℕ) (numbers : List ℕ) (place number : ℕ) (old new : Keys) → slice_get numbers place ≡ Some number
    → AreClaimed claimed numbers place old → AreMore old (claimed place) number new → AreClaimed claimed numbers (place + 1) new
claimed_more claimed numbers place number old new here before more scope other = (
  λ c. ⊎_elim
      (λ had. let there = (before scope other).0 had in
      record { place = there.place; before = omega (arith, there.before); claims = there.claims; numbered = there.numbered })
      (λ now. record { place = place; before = omega arith; claims = now.0; numbered = here ∙ ap Some now.1 })
      ((more scope other).0 c),
  λ there. ⊎_elim
      (λ same. (more scope other).1 (inr (
        subst (λ (p : ℕ). Contains (claimed p) scope) same there.claims,
        same_Some number other (sym here ∙ ap (slice_get numbers) (sym same) ∙ there.numbered),
      )))
      (λ apart. let low : there.place < place = omega (arith, there.before, apart) in
      (more scope other).1 (inl ((before scope other).1 (record { place = there.place; before = low; claims = there.claims; numbered = there.numbered }))))
      (cases_eq there.place place),
)

-- what is known where the marks before the place are gone through
pub record IsSearched (source : Source) (numbers : List ℕ) (place : ℕ) (frames : List Frame) (notes : Notes) : Type 0 where
  pub parts : frames ≡ frames_at source.marks place
  pub noted : AreNoted source numbers place notes
  pub none : (other : ℕ) → other < place → IsTwice source other → ⊥

no_keys : (claimed : ℕ → List ℕ) (numbers : List ℕ) → AreClaimed claimed numbers 0 []
no_keys claimed numbers scope number = (λ c. absurd (none_in (scope, number) c), λ there. absurd (omega (arith, there.before)))

pub searched_none : (source : Source) (numbers : List ℕ) (frames : List Frame) (notes : Notes) → frames ≡ [] → notes ≡ record { lexical = []; vars = [] }
    → IsSearched source numbers 0 frames notes
unfolding frames_at
searched_none source numbers frames notes none empty = record {
  parts = none;
  noted = subst (AreNoted source numbers 0) (sym empty) (record { lexical = no_keys (lexical_at source) numbers; vars = no_keys (vars_at source) numbers });
  none = λ other before twice. omega (arith, before);
}

module _ (source : Source) (texts : List (List ℕ)) (numbers : List ℕ) (numbered : AreNumbered source texts numbers) (place number : ℕ) (frames : List Frame) (notes new : Notes)
    (here : slice_get numbers place ≡ Some number) (searched : IsSearched source numbers place frames notes) where
  pub searched_more : (last : List Frame) → last ≡ frames_at source.marks (place + 1) → Takes notes (claim_at source number place) new false
      → IsSearched source numbers (place + 1) last new
  searched_more last parts taken =
      let adds = taken.noted refl in
      record {
        parts = parts;
        noted = record {
          lexical = claimed_more (lexical_at source) numbers place number notes.lexical new.lexical here searched.noted.lexical adds.lexical;
          vars = claimed_more (vars_at source) numbers place number notes.vars new.vars here searched.noted.vars adds.vars;
        };
        none = λ other before twice. ⊎_elim
            (λ same. true≢false (sym (taken.told.1 (twice_clash source texts numbers numbered place number notes here searched.noted (subst (IsTwice source) same twice)))))
            (λ apart. searched.none other (omega (arith, before, apart)) twice)
            (cases_eq other place);
      }

  pub first_there : Takes notes (claim_at source number place) new true → IsFirstTwice source (Some place)
  first_there taken = IsFirstTwice.some place (clash_twice source texts numbers numbered place number notes here searched.noted (taken.told.0 refl))
      (λ other twice. ⊎_elim (λ before. absurd (searched.none other before twice)) (λ h. h) (cases_lt other place))

pub never : (source : Source) (numbers : List ℕ) (place : ℕ) (frames : List Frame) (notes : Notes) → IsSearched source numbers place frames notes → length source.marks ≤ place
    → IsFirstTwice source None
never source numbers place frames notes searched whole = IsFirstTwice.none (λ other twice.
    let named = both_names source twice.scope twice.earlier other twice.clash in
    let inside = named_inside source other named.1 in
    searched.none other (omega (arith, inside, whole)) twice)

pub frames_more : (source : Source) (place : ℕ) (frames last : List Frame) (one_mark : Mark) → slice_get source.marks place ≡ Some one_mark → frames ≡ frames_at source.marks place
    → last ≡ behind one_mark place frames → last ≡ frames_at source.marks (place + 1)
unfolding frames_at
frames_more source place frames last one_mark here before passed =
    passed ∙ ap (behind one_mark place) before ∙ ap (λ m. behind_any m place (frames_at source.marks place)) (sym here) ∙ ap (frames_at source.marks) (sym (add-one place))

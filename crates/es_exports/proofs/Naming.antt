-- The names by which places export.
use Rattle.std.proofs.Common.{◌≡◌, ◌+◌, ◌&&◌, ◌||◌, not, ◌⊎◌, inl, inr, ⊎_elim, ℕ, Bool, true, false, cond, List, Some, None, is_some, refl, ap, subst}
use Rattle.std.proofs.lemmas.Bool.{and_parts, and_from, or_cases, or_left, or_right, not-true, not_from_false}
use Rattle.std.proofs.lemmas.Option.{none-some, same_Some}
use Rattle.es_outline.specs.declared.mark.Part.TheVariants as part
use Rattle.es_outline.specs.declared.mark.Mark.TheVariants as mark
use Rattle.es_scope.specs.Source.{Source, IsMark, name_at}
use Rattle.es_scope.specs.Known.{Known}
use Rattle.es_scope.specs.Declaring.{IsDefault, default}
use Rattle.es_scope.specs.Exporting.{ExportedAs, ExportsSpace, ExportsAll, ExportsName}
use Rattle.es_exports.specs.declared.said.Said.{Said}
use Rattle.es_exports.specs.declared.said.Said.TheVariants as said
use Rattle.es_exports.specs.Seeing.{Seen, role_at, begun_before, is_outer, is_exported, is_star, is_default, exports_declared, says_outer, says_own, says_default, is_all, is_space}
use Rattle.es_exports.specs.Saying.{name_of, said_at}
use Rattle.es_exports.proofs.Marks.{outer_here, outer_there, no_outer_here, no_outer_there, exported_here, exported_there, star_is, default_is, before_here, before_there}
use Rattle.es_exports.proofs.Facts.{AreSeen}
use Rattle.es_exports.proofs.Declared as declared

-- ---- `export *` and `export default`

module _ (source : Source) (place : ℕ) where
  pub space_there : is_space source place ≡ true → ExportsSpace source place
  space_there e =
      let both = and_parts (is_star (begun_before source place)) (is_outer (role_at source (place + 2))) e in
      let before = before_there source place part.ExportStar (star_is (begun_before source place) both.0) in
      record { opening = before.0; begins = before.1; place_is = before.2; named = outer_there source (place + 2) both.1 }

  star_here : (opening : ℕ) → IsMark source opening (mark.Begin part.ExportStar) → place ≡ opening + 2 → is_star (begun_before source place) ≡ true
  star_here opening m e = ap is_star (before_here source opening place part.ExportStar m e)

  pub space_here : ExportsSpace source place → is_space source place ≡ true
  space_here h =
      and_from (is_star (begun_before source place)) (is_outer (role_at source (place + 2))) (star_here h.opening h.begins h.place_is) (outer_here source (place + 2) h.named)

  pub all_there : is_all source place ≡ true → ExportsAll source place
  all_there e =
      let both = and_parts (is_star (begun_before source place)) (not (is_outer (role_at source (place + 2)))) e in
      let before = before_there source place part.ExportStar (star_is (begun_before source place) both.0) in
      record {
        opening = before.0;
        begins = before.1;
        place_is = before.2;
        unnamed = no_outer_there source (place + 2) (not-true (is_outer (role_at source (place + 2))) both.1);
      }

  pub all_here : ExportsAll source place → is_all source place ≡ true
  all_here h =
      and_from (is_star (begun_before source place)) (not (is_outer (role_at source (place + 2)))) (star_here h.opening h.begins h.place_is)
      (not_from_false (is_outer (role_at source (place + 2))) (no_outer_here source (place + 2) h.unnamed))

  pub default_there : says_default source place ≡ true → (opening : ℕ) × IsDefault source opening place
  default_there e =
      let before = before_there source place part.ExportDefault (default_is (begun_before source place) e) in
      (before.0, record { begins = before.1; place_is = before.2 })

  pub default_here : (opening : ℕ) → IsDefault source opening place → says_default source place ≡ true
  default_here opening h = ap is_default (before_here source opening place part.ExportDefault h.begins h.place_is)

-- the place says the name
pub data IsSaid (seen : Seen) (place : ℕ) : List ℕ → Type 0 where
  at_outer : says_outer seen.source place ≡ true → IsSaid seen place (name_at seen.source (place + 2))
  at_own : says_own seen place ≡ true → IsSaid seen place (name_at seen.source place)
  at_default : says_default seen.source place ≡ true → IsSaid seen place default

module _ (known : Known) (seen : Seen) (are : AreSeen known seen) where
  outer_said : (place : ℕ) → says_outer seen.source place ≡ true → ExportsName seen.source place (name_at seen.source (place + 2))
  outer_said place e =
      let both = and_parts (is_exported (role_at seen.source place) || is_star (begun_before seen.source place)) (is_outer (role_at seen.source (place + 2))) e in
      ⊎_elim
      (λ listed. ExportsName.listed (name_at seen.source (place + 2)) (exported_there seen.source place listed)
      (ExportedAs.renamed (outer_there seen.source (place + 2) both.1)))
      (λ star. ExportsName.space (space_there seen.source place
      (and_from (is_star (begun_before seen.source place)) (is_outer (role_at seen.source (place + 2))) star both.1)))
      (or_cases (is_exported (role_at seen.source place)) (is_star (begun_before seen.source place)) both.0)

  own_said : (place : ℕ) → says_own seen place ≡ true → ExportsName seen.source place (name_at seen.source place)
  own_said place e = ⊎_elim
      (λ listed. let both = and_parts (is_exported (role_at seen.source place)) (not (is_outer (role_at seen.source (place + 2)))) listed in
      ExportsName.listed (name_at seen.source place) (exported_there seen.source place both.0)
      (ExportedAs.same (no_outer_there seen.source (place + 2) (not-true (is_outer (role_at seen.source (place + 2))) both.1))))
      (λ declaration. ExportsName.declared (declared.exports_there known seen are place declaration))
      (or_cases (is_exported (role_at seen.source place) && not (is_outer (role_at seen.source (place + 2)))) (exports_declared seen place) e)

  pub said_exports : (place : ℕ) (name : List ℕ) → IsSaid seen place name → ExportsName seen.source place name
  said_exports place _ (IsSaid.at_outer e) = outer_said place e
  said_exports place _ (IsSaid.at_own e) = own_said place e
  said_exports place _ (IsSaid.at_default e) = let there = default_there seen.source place e in ExportsName.by_default there.0 there.1

  pub exports_said : (place : ℕ) (name : List ℕ) → ExportsName seen.source place name → IsSaid seen place name
  exports_said place _ (ExportsName.listed _ t (ExportedAs.same none)) = IsSaid.at_own
      (or_left (is_exported (role_at seen.source place) && not (is_outer (role_at seen.source (place + 2)))) (exports_declared seen place)
      (and_from (is_exported (role_at seen.source place)) (not (is_outer (role_at seen.source (place + 2)))) (exported_here seen.source place t)
      (not_from_false (is_outer (role_at seen.source (place + 2))) (no_outer_here seen.source (place + 2) none))))
  exports_said place _ (ExportsName.listed _ t (ExportedAs.renamed outer)) = IsSaid.at_outer
      (and_from (is_exported (role_at seen.source place) || is_star (begun_before seen.source place)) (is_outer (role_at seen.source (place + 2)))
      (or_left (is_exported (role_at seen.source place)) (is_star (begun_before seen.source place)) (exported_here seen.source place t))
      (outer_here seen.source (place + 2) outer))
  exports_said place _ (ExportsName.space h) = IsSaid.at_outer
      (and_from (is_exported (role_at seen.source place) || is_star (begun_before seen.source place)) (is_outer (role_at seen.source (place + 2)))
      (or_right (is_exported (role_at seen.source place)) (is_star (begun_before seen.source place))
      (and_parts (is_star (begun_before seen.source place)) (is_outer (role_at seen.source (place + 2))) (space_here seen.source place h)).0)
      (outer_here seen.source (place + 2) h.named))
  exports_said place _ (ExportsName.declared h) = IsSaid.at_own
      (or_right (is_exported (role_at seen.source place) && not (is_outer (role_at seen.source (place + 2)))) (exports_declared seen place)
      (declared.exports_here known seen are place h))
  exports_said place _ (ExportsName.by_default opening h) = IsSaid.at_default (default_here seen.source place opening h)

-- ---- one of the names

said_by : (seen : Seen) (place : ℕ) (name : Said) (outer own by_default : Bool) → says_outer seen.source place ≡ outer → says_own seen place ≡ own
    → says_default seen.source place ≡ by_default
    → cond outer (Some (said.At (place + 2))) (cond own (Some (said.At place)) (cond by_default (Some said.Default) None)) ≡ Some name
    → IsSaid seen place (name_of seen.source name)
said_by seen place name true own by_default e f g h =
    subst (λ s. IsSaid seen place (name_of seen.source s)) (same_Some (said.At (place + 2)) name h) (IsSaid.at_outer e)
said_by seen place name false true by_default e f g h =
    subst (λ s. IsSaid seen place (name_of seen.source s)) (same_Some (said.At place) name h) (IsSaid.at_own f)
said_by seen place name false false true e f g h =
    subst (λ s. IsSaid seen place (name_of seen.source s)) (same_Some said.Default name h) (IsSaid.at_default g)
said_by seen place name false false false e f g h = absurd (none-some name h)

pub said_there : (seen : Seen) (place : ℕ) (name : Said) → said_at seen place ≡ Some name → IsSaid seen place (name_of seen.source name)
said_there seen place name e =
    said_by seen place name (says_outer seen.source place) (says_own seen place) (says_default seen.source place) refl refl refl e

some_said : (outer own by_default : Bool) (a b c : Said) → (outer ≡ true) ⊎ ((own ≡ true) ⊎ (by_default ≡ true))
    → is_some (cond outer (Some a) (cond own (Some b) (cond by_default (Some c) None))) ≡ true
some_said true own by_default a b c h = refl
some_said false true by_default a b c h = refl
some_said false false true a b c h = refl
some_said false false false a b c (inl e) = e
some_said false false false a b c (inr (inl e)) = e
some_said false false false a b c (inr (inr e)) = e

pub said_here : (seen : Seen) (place : ℕ) (name : List ℕ) → IsSaid seen place name → is_some (said_at seen place) ≡ true
said_here seen place name h =
    some_said (says_outer seen.source place) (says_own seen place) (says_default seen.source place) (said.At (place + 2)) (said.At place) said.Default (one h)
  where
    one : {name : List ℕ} → IsSaid seen place name
        → (says_outer seen.source place ≡ true) ⊎ ((says_own seen place ≡ true) ⊎ (says_default seen.source place ≡ true))
    one (IsSaid.at_outer e) = inl e
    one (IsSaid.at_own e) = inr (inl e)
    one (IsSaid.at_default e) = inr (inr e)

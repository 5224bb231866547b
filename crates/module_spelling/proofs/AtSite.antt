-- The sites of a module: what each names is there, where the module's places are, and each has what goes with it.
use Rattle.std.proofs.Common.{◌≡◌, ◌<◌, ◌+◌, ℕ, List, [], ◌∷◌, ◌++◌, length, get_or, take, sym, ap, subst, ◌∙◌}
use Rattle.std.specs.List.{AllZip}
use Rattle.std.proofs.lemmas.List.{take_more}
use Rattle.std.proofs.lemmas.List.Elements.{All-get_or}
use Rattle.pk_types.specs.declared.facts.Site.{Site}
use Rattle.pk_types.specs.declared.graph.Row.{Row}
use Rattle.pk_types.specs.Places.{ArePlacesIn, HasPlaces}
use Rattle.pk_types.specs.Sites.{site_bindings, site_imports, space_requests, called_requests}
use Rattle.module_spelling.specs.SiteFits.{SiteFits}

pub site_fits : (row : Row) → HasPlaces row.facts → (place : ℕ) (site : Site) → place < length row.facts.sites → site ≡ get_or row.facts.sites place site
    → SiteFits row site.kind
site_fits row places place site h is =
    subst (λ (s : Site). SiteFits row s.kind) (sym is) (record {
      bindings = All-get_or (λ (s : Site). ArePlacesIn row.facts.bindings (site_bindings s.kind)) row.facts.sites place site h places.site_bindings;
      imports = All-get_or (λ (s : Site). ArePlacesIn row.facts.imports (site_imports s.kind)) row.facts.sites place site h places.site_imports;
      spaces = All-get_or (λ (s : Site). ArePlacesIn row.facts.requests (space_requests s.kind)) row.facts.sites place site h places.site_spaces;
      calls = All-get_or (λ (s : Site). ArePlacesIn row.facts.requests (called_requests s.kind)) row.facts.sites place site h places.site_calls;
    })

-- one more pair of two lists
zip_push : {X Y : Type 0} (R : X → Y → Type 0) (xs : List X) (ys : List Y) (x : X) (y : Y) → AllZip R xs ys → R x y → AllZip R (xs ++ x ∷ []) (ys ++ y ∷ [])
zip_push R [] [] x y h r = (r, tt)
zip_push R [] (z ∷ ys) x y h r = absurd h
zip_push R (z ∷ xs) [] x y h r = absurd h
zip_push R (z ∷ xs) (w ∷ ys) x y h r = (h.0, zip_push R xs ys x y h.1 r)

-- one more of the first items of a list, and what goes with it
pub zip_more : {X Y : Type 0} (R : X → Y → Type 0) (xs : List X) (ys : List Y) (place : ℕ) (x : X) (y : Y) → place < length xs → x ≡ get_or xs place x
    → AllZip R (take place xs) ys → R x y → AllZip R (take (place + 1) xs) (ys ++ y ∷ [])
zip_more R xs ys place x y within is h r =
    subst (λ l. AllZip R l (ys ++ y ∷ [])) (ap (λ z. take place xs ++ z ∷ []) is ∙ sym (take_more xs place x within)) (zip_push R (take place xs) ys x y h r)

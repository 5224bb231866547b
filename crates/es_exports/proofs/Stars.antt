-- The places of `export * from`, and how far exports may stand.
use Rattle.std.proofs.Common.{◌≡◌, ◌<◌, ◌+◌, ℕ, true, List, Option, Some, None, is_some, length, ap, ◌∙◌, arith}
use Rattle.std.proofs.lemmas.Bool.{cond-true}
use Rattle.std.proofs.lemmas.Option.{slice_get_within}
use Rattle.es_outline.specs.declared.mark.Role.TheVariants as is
use Rattle.es_scope.specs.Source.{Source}
use Rattle.es_scope.specs.Known.{Known}
use Rattle.es_scope.specs.Exporting.{ExportsName, IsExportedTwice}
use Rattle.es_scope.specs.FactsOf.{IsStar}
use Rattle.es_parts.specs.Around.{is_any}
use Rattle.es_exports.specs.declared.inside.Inside.{Inside}
use Rattle.es_exports.specs.Seeing.{Seen, is_all, part_around}
use Rattle.es_exports.specs.Noting.{AreInside}
use Rattle.es_exports.specs.Origins.{request_in, star_at}
use Rattle.es_exports.specs.Saying.{is_again_at}
use Rattle.es_exports.proofs.Marks.{chosen, role_within}
use Rattle.es_exports.proofs.Facts.{AreSeen, innermost_there, innermost_here}
use Rattle.es_exports.proofs.Declared as declared
use Rattle.es_exports.proofs.Naming as names
use Rattle.es_exports.proofs.Requests as requests
use Rattle.es_exports.proofs.Ending.{innermost_around}
use Rattle.es_exports.proofs.Again.{twice_here}

module _ (known : Known) (seen : Seen) (inside : Inside) (are : AreSeen known seen) (tables : AreInside seen inside) where
  pub star_there : (place number : ℕ) → star_at seen inside place ≡ Some number → IsStar seen.source known place number
  star_there place number e =
      let taken = chosen (is_all seen.source place) (request_in seen inside (part_around seen place)) number e in
      record {
        all = names.all_there seen.source place taken.0;
        request = requests.request_in_there known seen inside are tables place number (part_around seen place)
            (λ opening at. innermost_there is_any seen.source.marks place opening (part_around seen place) (innermost_around known seen are place) at) taken.1;
      }

  pub star_here : (place number : ℕ) → IsStar seen.source known place number
      → (place < length seen.source.marks + 2) × (is_some (star_at seen inside place) ≡ true)
  star_here place number h =
      let begins = slice_get_within seen.source.marks h.all.opening _ h.all.begins in
      let found = requests.request_in_here known seen inside are tables place number (part_around seen place)
      (λ which opening d. innermost_here is_any seen.source.marks place opening which (part_around seen place) (innermost_around known seen are place) d) h.request in (
        let is = h.all.place_is in omega arith,
        ap (λ (o : Option ℕ). is_some o) (cond-true (is_all seen.source place) (request_in seen inside (part_around seen place)) None
            (names.all_here seen.source place h.all) ∙ found.1),
      )

name_within : (source : Source) (place : ℕ) (name : List ℕ) → ExportsName source place name → place < length source.marks + 2
name_within source place name (ExportsName.listed _ t said) = let before = role_within source place is.Exported t in omega arith
name_within source place _ (ExportsName.space h) = let before = role_within source (place + 2) is.Outer h.named in omega arith
name_within source place _ (ExportsName.declared h) = let before = declared.exports_within source place h in omega arith
name_within source place _ (ExportsName.by_default opening h) =
    let begins = slice_get_within source.marks opening _ h.begins in let is = h.place_is in omega arith

pub again_here : (known : Known) (seen : Seen) → AreSeen known seen → (place : ℕ) → IsExportedTwice seen.source place
    → (place < length seen.source.marks + 2) × (is_again_at seen place ≡ true)
again_here known seen are place h = (name_within seen.source place h.name h.here, twice_here known seen are place h)

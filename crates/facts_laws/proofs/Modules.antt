-- What a module declares and uses stands in the order of its requests.
use Rattle.std.proofs.Common.{◌≡◌, ℕ, [], ◌∷◌, slice_get}
use Rattle.std.specs.List.{All, Contains}
use Rattle.std.proofs.lemmas.List.Elements.{All-nil, All-cons}
use Rattle.es_tree.specs.declared.tokens.ProgramGoal.TheVariants.{Module}
use Rattle.pk_types.specs.declared.facts.Facts.{Facts}
use Rattle.pk_types.specs.declared.facts.Origin.{Origin}
use Rattle.pk_types.specs.Origins.{origin_requests}
use Rattle.pk_types.specs.Lawful.{IsLawfulEs}
use Rattle.es_scope.specs.Source.{Source}
use Rattle.es_scope.specs.Known.{known_of}
use Rattle.es_scope.specs.Asking.{RequestOf}
use Rattle.es_scope.specs.Declaring.{IsImport, IsRequestOf}
use Rattle.es_scope.specs.Exporting.{Exportable, ComesFrom, IsExport}
use Rattle.es_scope.specs.FactsOf.{IsStar, AreFacts}
use Rattle.facts_laws.proofs.Listing.{all_items}
use Rattle.facts_laws.proofs.Marks.{some_so}
use Rattle.facts_laws.proofs.Requests.{is_ordered, order_imported}
use Rattle.facts_laws.proofs.Sites.{spaces_of, imports_named, no_require}

module _ (source : Source) (facts : Facts) (are : AreFacts source facts) where
  in_order : (place number : ℕ) → IsRequestOf source (known_of facts) place number → Contains facts.order number
  in_order place number h =
      let found = some_so (RequestOf source place) (slice_get facts.requests number) h in
      is_ordered source facts.requests are.requests facts.order are.order place number found.0 found.1 found.2

  one_in_order : (place number : ℕ) → IsRequestOf source (known_of facts) place number → All (Contains facts.order) (number ∷ [])
  one_in_order place number h = All-cons (Contains facts.order) number [] (in_order place number h) (All-nil (Contains facts.order))

  origin_in_order : (place : ℕ) (what : Exportable) (origin : Origin) → ComesFrom source (known_of facts) place what origin
      → All (Contains facts.order) (origin_requests origin)
  origin_in_order place _ _ (ComesFrom.own declaration number not_imported named) = All-nil (Contains facts.order)
  origin_in_order place _ _ (ComesFrom.imported declaration said request name imports of) = one_in_order declaration request of
  origin_in_order place _ _ (ComesFrom.imported_space declaration said request imports of) = one_in_order declaration request of
  origin_in_order place _ _ (ComesFrom.foreign request name of) = one_in_order place request of
  origin_in_order place _ _ (ComesFrom.space request of) = one_in_order place request of
  origin_in_order place _ _ (ComesFrom.unnamed number named) = All-nil (Contains facts.order)

  pub is_lawful_module : source.goal ≡ Module → IsLawfulEs facts
  is_lawful_module goal = record {
    order = order_imported source facts.requests are.requests facts.order are.order;
    imports = all_items (IsImport source (known_of facts)) facts.imports are.imports (λ entry. Contains facts.order entry.request)
        (λ place entry h. in_order place entry.request h.request);
    exports = all_items (IsExport source (known_of facts)) facts.exports are.exports (λ entry. All (Contains facts.order) (origin_requests entry.origin))
        (λ place entry h. origin_in_order place h.what entry.origin h.origin);
    stars = all_items (IsStar source (known_of facts)) facts.stars are.stars (Contains facts.order)
        (λ place number h. in_order place number h.request);
    spaces = spaces_of source (known_of facts) goal (Contains facts.order)
        (λ declaration number request e h. is_ordered source facts.requests are.requests facts.order are.order declaration number request e h)
        facts.sites are.sites;
    names = imports_named source (known_of facts) facts.sites are.sites;
    calls = no_require source (known_of facts) goal facts.sites are.sites;
  }

-- The exports of a text, where each part of them was found.
use Rattle.std.proofs.Common.{◌≡◌, ◌+◌, ℕ, List, Option, length}
use Rattle.pk_types.specs.declared.facts.ExportEntry.{ExportEntry}
use Rattle.es_scope.specs.Source.{Source}
use Rattle.es_scope.specs.Telling.{Told, AreScopes}
use Rattle.es_scope.specs.Known.{Known}
use Rattle.es_scope.specs.Exporting.{IsExport, IsExportedTwice, ExportsUndeclared}
use Rattle.es_scope.specs.FactsOf.{IsStar}
use Rattle.es_parts.specs.declared.enclosing.Surroundings.{Surroundings}
use Rattle.es_parts.specs.Around.{AreAround}
use Rattle.es_parts.specs.Binding.{AreBinders}
use Rattle.es_asks.specs.declared.asked.Asked.{Asked}
use Rattle.es_asks.specs.Numbering.{AreAsked}
use Rattle.es_declares.specs.declared.declarations.Declarations.{Declarations}
use Rattle.es_declares.specs.Numbering.{AreDeclarations, known_by}
use Rattle.es_exports.specs.declared.inside.Inside.{Inside}
use Rattle.es_exports.specs.Exported.{AreExports}
use Rattle.es_exports.specs.Seeing.{Seen}
use Rattle.es_exports.specs.Saying.{is_again_at}
use Rattle.es_exports.specs.Entries.{Entries}
use Rattle.es_exports.specs.Noting.{AreNoted, AreInside}
use Rattle.es_exports.specs.Origins.{of_named, entry_at, star_at, exports_undeclared}
use Rattle.es_exports.specs.Passing.{those, IsFirstOf}
use Rattle.es_exports.proofs.Facts.{AreSeen}
use Rattle.es_exports.proofs.Listing.{are_those, first_place}
use Rattle.es_exports.proofs.Entering.{entry_there, entry_here, undeclared_there, undeclared_here}
use Rattle.es_exports.proofs.Again.{twice_there}
use Rattle.es_exports.proofs.Stars.{star_there, star_here, again_here}

-- what the tables tell
abbrev pub seen_of : Source → Told → List Surroundings → List (Option ℕ) → Asked → Declarations → Seen
seen_of source told around binders asked declarations = record {
  source = source;
  told = told;
  around = around;
  binders = binders;
  numbers = asked.numbers.items;
  binding_of = declarations.binding_of.items;
  default_binding = declarations.default_binding;
}

pub are_seen : (source : Source) (told : Told) (around : List Surroundings) (binders : List (Option ℕ)) (asked : Asked) (declarations : Declarations)
    → AreScopes source told → AreAround source.marks around → AreBinders source.marks binders → AreAsked source asked
    → AreDeclarations source asked.requests told.texts declarations
    → AreSeen (known_by asked.requests declarations) (seen_of source told around binders asked declarations)
are_seen source told around binders asked declarations s a b n d = record {
  scopes = s;
  around = a;
  binders = b;
  whole = n.whole;
  numbers = n.numbers;
  binding_whole = d.binding_whole;
  binding_numbers = d.binding_numbers;
  default_number = d.default_number;
}

pub are_exports : (known : Known) (seen : Seen) (inside : Inside) (named : Entries) (entries : List ExportEntry) (stars : List ℕ) (twice undeclared : Option ℕ)
    → AreSeen known seen → AreInside seen inside → AreNoted (of_named seen inside) (length seen.source.marks) named
    → entries ≡ those (entry_at seen inside named) (length seen.source.marks)
    → stars ≡ those (star_at seen inside) (length seen.source.marks + 2)
    → IsFirstOf (is_again_at seen) (length seen.source.marks + 2) twice
    → IsFirstOf (exports_undeclared seen inside) (length seen.source.marks) undeclared
    → AreExports seen.source known (record { entries = entries; stars = stars; twice = twice; undeclared = undeclared })
are_exports known seen inside named entries stars twice undeclared are tables names_are e s t u = record {
  entries = are_those (IsExport seen.source known) (entry_at seen inside named) (entry_there known seen inside named are tables names_are)
      (length seen.source.marks) entries (entry_here known seen inside named are tables names_are) e;
  stars = are_those (IsStar seen.source known) (star_at seen inside) (star_there known seen inside are tables)
      (length seen.source.marks + 2) stars (star_here known seen inside are tables) s;
  twice = first_place (IsExportedTwice seen.source) (is_again_at seen) (length seen.source.marks + 2) twice (twice_there known seen are) (again_here known seen are) t;
  undeclared = first_place (ExportsUndeclared seen.source) (exports_undeclared seen inside) (length seen.source.marks) undeclared
      (undeclared_there known seen inside are tables) (undeclared_here known seen inside are tables) u;
}

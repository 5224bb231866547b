-- The entries of exports, and the names that the top doesn't declare.
use Rattle.std.proofs.Common.{◌≡◌, ◌<◌, ◌&&◌, not, ℕ, true, false, List, Option, Some, None, is_some, length, slice_get, refl, sym, ap, subst, ◌∙◌, arith, true≢false}
use Rattle.std.proofs.lemmas.Bool.{and_parts, and_from, not-true, not_from_false, both_ways, false_from_ne_true}
use Rattle.std.proofs.lemmas.Option.{none-some, same_Some}
use Rattle.pk_text.specs.Places.{place_of}
use Rattle.es_outline.specs.declared.mark.Role.TheVariants as is
use Rattle.pk_types.specs.declared.facts.ExportEntry.{ExportEntry}
use Rattle.es_scope.specs.Source.{Source, HasRole, name_at}
use Rattle.es_scope.specs.Scopes.{Declares}
use Rattle.es_scope.specs.Named.{names_it}
use Rattle.es_scope.specs.Firsts.{told, IsFirst}
use Rattle.es_scope.specs.Known.{Known}
use Rattle.es_scope.specs.Exporting.{IsExport, ExportsUndeclared}
use Rattle.es_scope.proofs.LookingUp.{declares_within}
use Rattle.es_exports.specs.declared.inside.Inside.{Inside}
use Rattle.es_exports.specs.declared.said.Said.{Said}
use Rattle.es_exports.specs.declared.said.Whence.{Whence}
use Rattle.es_exports.specs.Seeing.{Seen, role_at, start_at, is_exported}
use Rattle.es_exports.specs.Saying.{name_of, origin_of, said_at}
use Rattle.es_exports.specs.Entries.{Entries}
use Rattle.es_exports.specs.Noting.{AreNoted, AreInside}
use Rattle.es_exports.specs.Origins.{of_named, whence_at, entry_of, entry_at, exports_from, is_undeclared, exports_undeclared}
use Rattle.es_exports.proofs.Marks.{some_there, role_within, exported_here, exported_there, start_there, start_here}
use Rattle.es_exports.proofs.Facts.{AreSeen}
use Rattle.es_exports.proofs.Naming.{said_there, said_here, said_exports, exports_said}
use Rattle.es_exports.proofs.Requests as requests
use Rattle.es_exports.proofs.Exporting.{whence_there}
use Rattle.es_exports.proofs.Found.{whence_here}

all_some : (source : Source) (name : Option Said) (from : Option Whence) (start : Option ℕ) → is_some name ≡ true → is_some from ≡ true → is_some start ≡ true
    → is_some (entry_of source name from start) ≡ true
all_some source (Some name) (Some from) (Some start) e f g = refl
all_some source (Some name) (Some from) None e f g = absurd (true≢false (sym g))
all_some source (Some name) None start e f g = absurd (true≢false (sym f))
all_some source None from start e f g = absurd (true≢false (sym e))

module _ (known : Known) (seen : Seen) (inside : Inside) (named : Entries) (are : AreSeen known seen) (tables : AreInside seen inside)
    (names_are : AreNoted (of_named seen inside) (length seen.source.marks) named) where
  entry_by : (place : ℕ) (entry : ExportEntry) (name : Option Said) (from : Option Whence) (start : Option ℕ) → said_at seen place ≡ name
      → whence_at seen inside named place ≡ from → start_at seen.source place ≡ start → entry_of seen.source name from start ≡ Some entry
      → IsExport seen.source known place entry
  entry_by place entry (Some name) (Some from) (Some start) n f s e =
      let exporting = whence_there known seen inside named are tables names_are place from f in
      subst (IsExport seen.source known place) (same_Some (record { name = name_of seen.source name; origin = origin_of seen.source from; place = start }) entry e)
      (record {
        what = exporting.what;
        named = said_exports known seen are place (name_of seen.source name) (said_there seen place name n);
        exports = exporting.exports;
        origin = exporting.origin;
        starts = start_there seen.source place start s;
      })
  entry_by place entry (Some name) (Some from) None n f s e = absurd (none-some entry e)
  entry_by place entry (Some name) None start n f s e = absurd (none-some entry e)
  entry_by place entry None from start n f s e = absurd (none-some entry e)

  pub entry_there : (place : ℕ) (entry : ExportEntry) → entry_at seen inside named place ≡ Some entry → IsExport seen.source known place entry
  entry_there place entry e =
      entry_by place entry (said_at seen place) (whence_at seen inside named place) (start_at seen.source place) refl refl refl e

  pub entry_here : (place : ℕ) (entry : ExportEntry) → IsExport seen.source known place entry
      → (place < length seen.source.marks) × (is_some (entry_at seen inside named place) ≡ true)
  entry_here place entry h =
      let starts = h.starts in (
        role_within seen.source place starts.0 (starts.1, starts.2),
        all_some seen.source (said_at seen place) (whence_at seen inside named place) (start_at seen.source place)
            (said_here seen place entry.name (exports_said known seen are place entry.name h.named))
            (whence_here known seen inside named are tables names_are place h.what entry.origin h.exports h.origin)
            (ap (λ (o : Option ℕ). is_some o) (start_here seen.source place entry.place h.starts)),
      )

-- ---- names that the top doesn't declare

none_told : (source : Source) (name : List ℕ) (found : Option ℕ) → IsFirst source (length source.marks) 0 name found → is_some found ≡ false
    → (declaration : ℕ) → ¬ Declares source 0 name declaration
none_told source name _ (IsFirst.none none) e declaration d = none declaration (declares_within source 0 name declaration d) d
none_told source name _ (IsFirst.some place before d first) e declaration other = true≢false e

told_none : (source : Source) (name : List ℕ) (found : Option ℕ) → IsFirst source (length source.marks) 0 name found
    → ((declaration : ℕ) → ¬ Declares source 0 name declaration) → is_some found ≡ false
told_none source name _ (IsFirst.none none) h = refl
told_none source name _ (IsFirst.some place before d first) h = absurd (h place d)

module _ (known : Known) (seen : Seen) (inside : Inside) (are : AreSeen known seen) (tables : AreInside seen inside) where
  number_is : (place number : ℕ) → HasRole seen.source place is.Exported → slice_get seen.told.numbers place ≡ Some number
      → place_of seen.told.texts (name_at seen.source place) ≡ Some number
  number_is place number t e = sym (are.scopes.numbered.each place (ap names_it t.1)) ∙ e

  first_is : (place number : ℕ) → HasRole seen.source place is.Exported → slice_get seen.told.numbers place ≡ Some number
      → IsFirst seen.source (length seen.source.marks) 0 (name_at seen.source place) (told seen.told.firsts 0 number)
  first_is place number t e = are.scopes.firsts 0 number (name_at seen.source place) (number_is place number t e)

  undeclared_by : (place : ℕ) (found : Option ℕ) → HasRole seen.source place is.Exported → slice_get seen.told.numbers place ≡ found
      → is_undeclared seen found ≡ true → (declaration : ℕ) → ¬ Declares seen.source 0 (name_at seen.source place) declaration
  undeclared_by place None t n e = absurd (true≢false (sym e))
  undeclared_by place (Some number) t n e =
      none_told seen.source (name_at seen.source place) (told seen.told.firsts 0 number) (first_is place number t n)
      (not-true (is_some (told seen.told.firsts 0 number)) e)

  pub undeclared_there : (place : ℕ) → exports_undeclared seen inside place ≡ true → ExportsUndeclared seen.source place
  undeclared_there place e =
      let both = and_parts (is_exported (role_at seen.source place))
      (not (exports_from seen inside place) && is_undeclared seen (slice_get seen.told.numbers place)) e in
      let further = and_parts (not (exports_from seen inside place)) (is_undeclared seen (slice_get seen.told.numbers place)) both.1 in
      let exported = exported_there seen.source place both.0 in
      record {
        exported = exported;
        own = λ f. both_ways (exports_from seen inside place) (not-true (exports_from seen inside place) further.0)
            (requests.from_here known seen inside are tables place (role_within seen.source place is.Exported exported) f);
        undeclared = undeclared_by place (slice_get seen.told.numbers place) exported refl further.1;
      }

  pub undeclared_here : (place : ℕ) → ExportsUndeclared seen.source place
      → (place < length seen.source.marks) × (exports_undeclared seen inside place ≡ true)
  undeclared_here place h =
      let before = role_within seen.source place is.Exported h.exported in
      let number = some_there seen.told.numbers place (let long = are.scopes.numbered.whole in omega arith) in (
        before,
        and_from (is_exported (role_at seen.source place)) (not (exports_from seen inside place) && is_undeclared seen (slice_get seen.told.numbers place))
            (exported_here seen.source place h.exported)
            (and_from (not (exports_from seen inside place)) (is_undeclared seen (slice_get seen.told.numbers place))
            (not_from_false (exports_from seen inside place)
            (false_from_ne_true (exports_from seen inside place) (λ e. h.own (requests.from_there known seen inside are tables place e))))
            (ap (is_undeclared seen) number.1
            ∙ not_from_false (is_some (told seen.told.firsts 0 number.0))
            (told_none seen.source (name_at seen.source place) (told seen.told.firsts 0 number.0) (first_is place number.0 h.exported number.1) h.undeclared))),
      )

-- What a place imports is what is looked up.
use Rattle.std.proofs.Common.{◌≡◌, ℕ, ◌+◌, ◌-◌, nat_le, Bool, true, false, cond, List, Option, Some, None, slice_get, refl, sym, ap, subst, ◌∙◌, arith}
use Rattle.std.proofs.lemmas.Bool.{false≢true}
use Rattle.std.proofs.lemmas.Option.{none-some, same_Some}
use Rattle.es_tree.specs.declared.tokens.Token.{Token}
use Rattle.es_outline.specs.declared.mark.Mark.{Mark}
use Rattle.es_outline.specs.declared.mark.Mark.TheVariants as mark
use Rattle.es_outline.specs.declared.mark.Role.{Role}
use Rattle.es_outline.specs.declared.mark.Role.TheVariants as is
use Rattle.pk_types.specs.declared.facts.Request.{Request}
use Rattle.pk_types.specs.declared.facts.ImportEntry.{ImportEntry}
use Rattle.es_scope.specs.Source.{Source, HasRole}
use Rattle.es_scope.specs.Declaring.{Imports, StartsAt}
use Rattle.es_declares.specs.declared.imported.Wanted.{Wanted}
use Rattle.es_declares.specs.declared.imported.Wanted.TheVariants as wanted
use Rattle.es_declares.specs.Found.{IsItemAt}
use Rattle.es_declares.specs.Inside.{IsRequestNumber}
use Rattle.es_declares.specs.Importing.{is_shorthand, is_outer, before, is_shorthand_at, outer_at, space_at, role_wants, mark_wants, wanted_at, said_at, name_of, start_of, entry_from, entry_of, IsImportBy}
use Rattle.es_declares.proofs.UnnamedLaws.{item_found}

-- places before
before_by : (count place other : ℕ) (b : Bool) → nat_le count place ≡ b → cond b (Some (place - count)) None ≡ Some other → other + count ≡ place
before_by count place other false b e = absurd (none-some other e)
before_by count place other true b e = let same = same_Some (place - count) other e in grind arith

before_is : (count place other : ℕ) → before count place ≡ Some other → other + count ≡ place
before_is count place other e = before_by count place other (nat_le count place) refl e

before_at : (count place other : ℕ) (b : Bool) → nat_le count place ≡ b → other + count ≡ place → cond b (Some (place - count)) None ≡ Some other
before_at count place other true b e = ap Some (omega arith)
before_at count place other false b e = absurd (grind arith)

is_before : (count place other : ℕ) → other + count ≡ place → before count place ≡ Some other
is_before count place other e = before_at count place other (nat_le count place) refl e

shorthand_mark : (found : Option Mark) → is_shorthand found ≡ true → found ≡ Some mark.Shorthand
shorthand_mark (Some mark.Shorthand) e = refl
shorthand_mark _ e = absurd (false≢true e)

outer_token : (found : Option Mark) → is_outer found ≡ true → (token : Token) × (found ≡ Some (mark.Token is.Outer token))
outer_token (Some (mark.Token is.Outer token)) e = (token, refl)
outer_token _ e = absurd (false≢true e)

module _ (source : Source) (place : ℕ) where
  abbrev AreImported : Wanted → Type 0
  AreImported what = Imports source place (name_of source what) (said_at what)

  -- what is found is imported
  short_there : (found : Option ℕ) → before 1 place ≡ found → is_shorthand_at source found ≡ true → HasRole source place is.Imported → AreImported (wanted.Named place)
  short_there None b e t = absurd (false≢true e)
  short_there (Some earlier) b e t = Imports.same earlier (before_is 1 place earlier b) t (shorthand_mark (slice_get source.marks earlier) e)

  outer_by : (earlier : ℕ) (what : Wanted) (b : Bool) → is_outer (slice_get source.marks earlier) ≡ b → earlier + 2 ≡ place → cond b (Some (wanted.Named earlier)) None ≡ Some what
      → HasRole source place is.Imported → AreImported what
  outer_by earlier what false b far e t = absurd (none-some what e)
  outer_by earlier what true b far e t =
      subst AreImported (same_Some (wanted.Named earlier) what e) (Imports.renamed earlier far t (outer_token (slice_get source.marks earlier) b))

  outer_there : (found : Option ℕ) (what : Wanted) → before 2 place ≡ found → outer_at source found ≡ Some what → HasRole source place is.Imported → AreImported what
  outer_there None what b e t = absurd (none-some what e)
  outer_there (Some earlier) what b e t = outer_by earlier what (is_outer (slice_get source.marks earlier)) refl (before_is 2 place earlier b) e t

  imported_there : (short : Bool) (what : Wanted) → is_shorthand_at source (before 1 place) ≡ short
      → cond short (Some (wanted.Named place)) (outer_at source (before 2 place)) ≡ Some what → HasRole source place is.Imported → AreImported what
  imported_there true what s e t = subst AreImported (same_Some (wanted.Named place) what e) (short_there (before 1 place) refl s t)
  imported_there false what s e t = outer_there (before 2 place) what refl e t

  space_there : (found : Option ℕ) (what : Wanted) → before 2 place ≡ found → space_at found ≡ Some what → HasRole source place is.ImportedSpace → AreImported what
  space_there None what b e t = absurd (none-some what e)
  space_there (Some star) what b e t = subst AreImported (same_Some (wanted.Space star) what e) (Imports.space star (before_is 2 place star b) t)

  role_there : (role : Role) (what : Wanted) → HasRole source place role → role_wants source place role ≡ Some what → AreImported what
  role_there is.Imported what t e = imported_there (is_shorthand_at source (before 1 place)) what refl e t
  role_there is.ImportedDefault what t e = subst AreImported (same_Some (wanted.Default place) what e) (Imports.by_default t)
  role_there is.ImportedSpace what t e = space_there (before 2 place) what refl e t
  role_there _ what t e = absurd (none-some what e)

  mark_there : (found : Option Mark) (what : Wanted) → slice_get source.marks place ≡ found → mark_wants source place found ≡ Some what → AreImported what
  mark_there (Some (mark.Token role token)) what m e = role_there role what (token, m) e
  mark_there _ what m e = absurd (none-some what e)

  -- and what is imported is found, with where it starts
  abbrev IsFoundOf : Option Wanted → Type 0
  IsFoundOf found = (what : Wanted) × (start : ℕ) × (found ≡ Some what) × (start_of (slice_get source.marks (said_at what)) ≡ Some start)

  by_role : (role : Role) → HasRole source place role → IsFoundOf (role_wants source place role) → IsFoundOf (wanted_at source place)
  by_role role t found = (found.0, found.1, ap (mark_wants source place) t.1 ∙ found.2, found.3)

  renamed_here : (outer : ℕ) (short : Bool) → HasRole source place is.Imported → outer + 2 ≡ place → HasRole source outer is.Outer
      → IsFoundOf (cond short (Some (wanted.Named place)) (outer_at source (before 2 place)))
  renamed_here outer true t far o = (wanted.Named place, t.0.start, refl, ap start_of t.1)
  renamed_here outer false t far o =
      (wanted.Named outer, o.0.start, ap (outer_at source) (is_before 2 place outer far) ∙ ap (λ (m : Option Mark). cond (is_outer m) (Some (wanted.Named outer)) None) o.1, ap start_of o.1)

  imported_here : (name : Option (List ℕ)) (said start : ℕ) → Imports source place name said → StartsAt source said start → IsFoundOf (wanted_at source place)
  imported_here _ _ start (Imports.same earlier far t short) starts = by_role is.Imported t (
    wanted.Named place,
    t.0.start,
    ap (λ (found : Option ℕ). cond (is_shorthand_at source found) (Some (wanted.Named place)) (outer_at source (before 2 place))) (is_before 1 place earlier far)
        ∙ ap (λ (m : Option Mark). cond (is_shorthand m) (Some (wanted.Named place)) (outer_at source (before 2 place))) short,
    ap start_of t.1,
  )
  imported_here _ _ start (Imports.renamed outer far t o) starts =
      by_role is.Imported t (renamed_here outer (is_shorthand_at source (before 1 place)) t far o)
  imported_here _ _ start (Imports.by_default t) starts = by_role is.ImportedDefault t (wanted.Default place, t.0.start, refl, ap start_of t.1)
  imported_here _ _ start (Imports.space star far t) starts =
      by_role is.ImportedSpace t (wanted.Space star, starts.1.start, ap space_at (is_before 2 place star far), ap start_of starts.2)

  start_token : (found : Option Mark) (start : ℕ) → start_of found ≡ Some start → (role : Role) × (token : Token) × (found ≡ Some (mark.Token role token)) × (start ≡ token.start)
  start_token (Some (mark.Token role token)) start e = (role, token, refl, sym (same_Some token.start start e))
  start_token _ start e = absurd (none-some start e)

  module _ (requests : List Request) where
    entry_by : (what : Wanted) (request : ℕ) (start : Option ℕ) (entry : ImportEntry) → AreImported what → start_of (slice_get source.marks (said_at what)) ≡ start
        → IsRequestNumber source requests place (Some request) → entry_from source what request start ≡ Some entry → IsImportBy source requests place entry
    entry_by what request None entry imported s number e = absurd (none-some entry e)
    entry_by what request (Some start) entry imported s (IsRequestNumber.some _ known) e =
        subst (IsImportBy source requests place) (same_Some (record { request = request; name = name_of source what; place = start }) entry e) (record {
          said = said_at what;
          imports = imported;
          starts = start_token (slice_get source.marks (said_at what)) start s;
          request = known;
        })

    entry_there : (found : Option Wanted) (request : Option ℕ) (entry : ImportEntry) → wanted_at source place ≡ found → IsRequestNumber source requests place request
        → entry_of source found request ≡ Some entry → IsImportBy source requests place entry
    entry_there None request entry f number e = absurd (none-some entry e)
    entry_there (Some what) None entry f number e = absurd (none-some entry e)
    entry_there (Some what) (Some request) entry f number e =
        entry_by what request (start_of (slice_get source.marks (said_at what))) entry (mark_there (slice_get source.marks place) what refl f) refl number e

    number_here : (request : Option ℕ) → IsRequestNumber source requests place request → (entry : ImportEntry) → IsImportBy source requests place entry
        → (number : ℕ) × (request ≡ Some number)
    number_here _ (IsRequestNumber.none never) entry h = absurd (never entry.request h.request)
    number_here _ (IsRequestNumber.some number known) entry h = (number, refl)

    entry_here : (request : Option ℕ) → IsRequestNumber source requests place request → (entry : ImportEntry) → IsImportBy source requests place entry
        → (other : ImportEntry) × (entry_of source (wanted_at source place) request ≡ Some other)
    entry_here request number entry h =
        let found = imported_here entry.name h.said entry.place h.imports h.starts in
        let some = number_here request number entry h in (
          record { request = some.0; name = name_of source found.0; place = found.1 },
          ap (λ (w : Option Wanted). entry_of source w request) found.2 ∙ ap (entry_of source (Some found.0)) some.1 ∙ ap (entry_from source found.0 some.0) found.3,
        )

    pub entry_is : (what : Option Wanted) (request : Option ℕ) (told : Option ImportEntry) → what ≡ wanted_at source place → IsRequestNumber source requests place request
        → told ≡ entry_of source what request → IsItemAt (IsImportBy source requests) place told
    entry_is what request told what_is number is =
        let same : told ≡ entry_of source (wanted_at source place) request = is ∙ ap (λ (w : Option Wanted). entry_of source w request) what_is in
        item_found (IsImportBy source requests) place told
        (λ entry e. entry_there (wanted_at source place) request entry refl number (sym same ∙ e))
        (λ entry h. let some = entry_here request number entry h in (some.0, same ∙ some.1))

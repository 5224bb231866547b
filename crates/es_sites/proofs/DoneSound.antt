-- What is told that the module does at a place, it does.
use Rattle.std.proofs.Common.{◌≡◌, ◌≢◌, ⊎_elim, ℕ, ◌+◌, ◌-◌, ◌<◌, Bool, true, false, ◌||◌, cond, nat_eq, List, Option, Some, None, length, slice_get, unwrap_or, codes, refl, sym, ap, subst, ◌∙◌, arith, true≢false}
use Rattle.std.specs.Prelude.{IsSomeAnd}
use Rattle.std.specs.Str.{bytes_eq}
use Rattle.std.specs.Option.{option_or}
use Rattle.std.proofs.lemmas.Bool.{eq-eqb}
use Rattle.std.proofs.lemmas.Option.{none-some, same_Some, slice_get_within}
use Rattle.std.proofs.lemmas.Slice.Eq.{bytes_eq-Decides}
use Rattle.pk_types.proofs.Members.{element_at}
use Rattle.es_tree.specs.declared.tokens.ProgramGoal.{ProgramGoal}
use Rattle.es_tree.specs.declared.tokens.ProgramGoal.TheVariants.{Script, Module}
use Rattle.es_outline.specs.declared.mark.Mark.{Mark}
use Rattle.es_outline.specs.declared.mark.Mark.TheVariants as mark
use Rattle.es_outline.specs.declared.mark.Role.{Role}
use Rattle.es_outline.specs.declared.mark.Role.TheVariants as is
use Rattle.es_outline.specs.declared.mark.Part.TheVariants as part
use Rattle.pk_types.specs.declared.facts.Ref.{Ref}
use Rattle.pk_types.specs.declared.facts.Ref.TheVariants as ref
use Rattle.pk_types.specs.declared.facts.Request.{Request}
use Rattle.es_scope.specs.declared.kinds.DeclarationKind.{DeclarationKind}
use Rattle.es_scope.specs.declared.kinds.DeclarationKind.TheVariants as kind
use Rattle.es_scope.specs.Source.{Source, IsMark, HasRole, spelled_at}
use Rattle.es_scope.specs.Occurrences.{IsDeclared, IsOccurrence, IsWordOf, BoundBy, IsAssigned}
use Rattle.es_scope.specs.Asking.{AsksFor, ImportsText, CallsRequire}
use Rattle.es_scope.specs.Declaring.{default_binding}
use Rattle.es_scope.specs.Known.{Known}
use Rattle.es_scope.specs.Named.{is_naming, names_it}
use Rattle.es_scope.specs.SiteRules.{RefersTo, RefersToSpace, IsGiven, Does, CallsFor, is_initial}
use Rattle.es_scope.proofs.FoundTable.{occurrence_named}
use Rattle.es_asks.specs.Numbering.{IsNumber}
use Rattle.es_declares.specs.Numbering.{IsBindingNumber}
use Rattle.es_sites.specs.declared.meaning.Meaning.{Meaning}
use Rattle.es_sites.specs.declared.meaning.Meaning.TheVariants as meaning
use Rattle.es_sites.specs.declared.done.Act.TheVariants as act
use Rattle.es_sites.specs.declared.done.Done.{Done}
use Rattle.es_sites.specs.Marks.{is_reference, is_member, is_read}
use Rattle.es_sites.specs.Tables.{Tables, AreTables, known, entry, declaration_around}
use Rattle.es_sites.specs.Meant.{meant}
use Rattle.es_sites.specs.Done.{just, used, begun, written, is_given, bound, is_default, begun_default, unnamed, right_of, called_by, called_for, called, done_by, written_before, done_by_token, done_by_mark, done_with, done_at, kind_of}
use Rattle.es_sites.proofs.Opened.{around_bound}
use Rattle.es_sites.proofs.InsideLaws.{some_with}
use Rattle.es_sites.proofs.MeantLaws.{IsMeant, meant_is, one_role}
use Rattle.es_sites.proofs.AroundLaws.{is_so_read, member_is, is_so_member, referring, either}
use Rattle.es_sites.proofs.GivenLaws.{is_so_given, is_so_default, right_is}

abbrev pub DoesIt : Source → Known → ℕ → Done → Type 0
DoesIt source k place one = Does source k place one.first one.last (kind_of source one)

-- what the module does there, or a call there
pub data IsDoing (source : Source) (k : Known) (place : ℕ) (one : Done) : Type 0 where
  does_it : source.goal ≡ Module → DoesIt source k place one → IsDoing source k place one
  calls_it : one.first ≡ place → CallsFor source k place one.last (kind_of source one) → IsDoing source k place one

does_so : (source : Source) (k : Known) (place : ℕ) (one other : Done) → DoesIt source k place one → Some one ≡ Some other → DoesIt source k place other
does_so source k place one other h e = subst (λ (d : Done). DoesIt source k place d) (same_Some one other e) h

-- ---- names

module _ (source : Source) (k : Known) (place : ℕ) where
  used_name : (to : Ref) → RefersTo source k place to → HasRole source place is.Reference → (b : Bool) → is_read source place ≡ b → (one : Done)
      → cond b (Some (just place (act.Read to))) None ≡ Some one → DoesIt source k place one
  used_name to r t true e one h = does_so source k place (just place (act.Read to)) one (Does.reads place to t (is_so_read source place e) r) h
  used_name to r t false e one h = absurd (none-some one h)

  used_space : (request : ℕ) → RefersToSpace source k place request → HasRole source place is.Reference → (b : Bool) → is_member source place ≡ b → (one : Done)
      → cond b (Some (record { first = place; last = place + 2; act = act.Member request })) (Some (just place (act.Space request))) ≡ Some one → DoesIt source k place one
  used_space request r t true e one h =
      does_so source k place (record { first = place; last = place + 2; act = act.Member request }) one (Does.member place request (is_so_member source place t e) r) h
  used_space request r t false e one h = does_so source k place (just place (act.Space request)) one
      (Does.space place request t (λ m. true≢false (sym (member_is source place m) ∙ e)) r) h

  used_does : HasRole source place is.Reference → (told : Option Meaning) → IsMeant source k place told → (one : Done) → used source place told ≡ Some one
      → DoesIt source k place one
  used_does t _ (IsMeant.named to r) one h = used_name to r t (is_read source place) refl one h
  used_does t _ (IsMeant.spaced request r) one h = used_space request r t (is_member source place) refl one h
  used_does t _ (IsMeant.nothing no_ref no_space) one h = absurd (none-some one h)

  begun_ref : (how : DeclarationKind) → IsDeclared source place how → is_initial how ≡ true → (to : Ref) → RefersTo source k place to → (one : Done)
      → begun place (Some (meaning.Name to)) ≡ Some one → DoesIt source k place one
  begun_ref how d i (ref.Own binding) r one h = does_so source k place (just place (act.Init binding)) one (Does.begins place binding how d i r) h
  begun_ref how d i (ref.Imported number) r one h = absurd (none-some one h)

  begun_does : (how : DeclarationKind) → IsDeclared source place how → is_initial how ≡ true → (told : Option Meaning) → IsMeant source k place told → (one : Done)
      → begun place told ≡ Some one → DoesIt source k place one
  begun_does how d i _ (IsMeant.named to r) one h = begun_ref how d i to r one h
  begun_does how d i _ (IsMeant.spaced request r) one h = absurd (none-some one h)
  begun_does how d i _ (IsMeant.nothing no_ref no_space) one h = absurd (none-some one h)

  given_does : IsDeclared source place kind.Var → IsGiven source place → (told : Option Meaning) → IsMeant source k place told → (one : Done)
      → written place told ≡ Some one → DoesIt source k place one
  given_does d g _ (IsMeant.named to r) one h = does_so source k place (just place (act.Write to)) one (Does.gives place to d g r) h
  given_does d g _ (IsMeant.spaced request r) one h = absurd (none-some one h)
  given_does d g _ (IsMeant.nothing no_ref no_space) one h = absurd (none-some one h)

  written_does : HasRole source place is.Reference → IsAssigned source place → (told : Option Meaning) → IsMeant source k place told → (one : Done)
      → written place told ≡ Some one → DoesIt source k (place + 1) one
  written_does t a _ (IsMeant.named to r) one h = does_so source k (place + 1) (just place (act.Write to)) one (Does.writes place to t a r) h
  written_does t a _ (IsMeant.spaced request r) one h = absurd (none-some one h)
  written_does t a _ (IsMeant.nothing no_ref no_space) one h = absurd (none-some one h)

word_is : (how : DeclarationKind) (word said : List ℕ) → IsWordOf how said → bytes_eq word said ≡ true → IsWordOf how word
word_is how word said w e = subst (IsWordOf how) (sym ((bytes_eq-Decides word said).0 e)) w

-- ---- calls

is_naming_of : (source : Source) (place : ℕ) (role : Role) → HasRole source place role → IsOccurrence source place → is_naming role ≡ true
is_naming_of source place role t occurs = sym (ap names_it t.1) ∙ occurrence_named source place occurs

-- an `import()` that asks is of a text
record IsImportOf (source : Source) (place : ℕ) : Type 0 where
  value : List ℕ
  right : ℕ
  imports : ImportsText source place value right

asks_import : (source : Source) (place : ℕ) → HasRole source place is.ImportCall → (request : Request) → AsksFor source place request → IsImportOf source place
asks_import source place t _ (AsksFor.declared value r s other) = let same = one_role source place is.ImportCall is.Request t r in absurd (cc)
asks_import source place t _ (AsksFor.json value r s both) = let same = one_role source place is.ImportCall is.Request t r in absurd (cc)
asks_import source place t _ (AsksFor.imported value right i) = record { value = value; right = right; imports = i }
asks_import source place t _ (AsksFor.required value right g c) = absurd (true≢false (sym (is_naming_of source place is.ImportCall t c.free.0.occurs)))

-- anything else that asks and is no declaration calls `require`
record IsRequireOf (source : Source) (place : ℕ) : Type 0 where
  value : List ℕ
  right : ℕ
  goal : source.goal ≡ Script
  calls : CallsRequire source place value right

asks_require : (source : Source) (place : ℕ) (role : Role) → HasRole source place role → role ≢ is.Request → role ≢ is.ImportCall → (request : Request)
    → AsksFor source place request → IsRequireOf source place
asks_require source place role t not_request not_import _ (AsksFor.declared value r s other) = absurd (not_request (one_role source place role is.Request t r))
asks_require source place role t not_request not_import _ (AsksFor.json value r s both) = absurd (not_request (one_role source place role is.Request t r))
asks_require source place role t not_request not_import _ (AsksFor.imported value right i) = absurd (not_import (one_role source place role is.ImportCall t i.word))
asks_require source place role t not_request not_import _ (AsksFor.required value right g c) = record { value = value; right = right; goal = g; calls = c }

abbrev pub CallsIt : Source → Known → ℕ → Done → Type 0
CallsIt source k place one = (one.first ≡ place) × CallsFor source k place one.last (kind_of source one)

calls_so : (source : Source) (k : Known) (place : ℕ) (one other : Done) → CallsIt source k place one → Some one ≡ Some other → CallsIt source k place other
calls_so source k place one other h e = subst (λ (d : Done). CallsIt source k place d) (same_Some one other e) h

module _ (source : Source) (k : Known) (place number : ℕ) (asks : IsSomeAnd (slice_get k.requests number) (AsksFor source place)) where
  calls_import : HasRole source place is.ImportCall → (one : Done) → called_by source place is.ImportCall number ≡ Some one → CallsIt source k place one
  calls_import t one h =
      let found = some_with (slice_get k.requests number) (AsksFor source place) asks in
      let i = asks_import source place t found.0 found.2 in
      let right = right_is source (place + 1) i.right i.value i.imports.argument in
      calls_so source k place (record { first = place; last = right_of source (place + 1); act = act.Import number }) one
      (refl, CallsFor.import place number (right_of source (place + 1)) i.value (subst (λ (r : ℕ). ImportsText source place i.value r) right i.imports) asks) h

  calls_require : (role : Role) → HasRole source place role → role ≢ is.Request → role ≢ is.ImportCall → (one : Done)
      → Some (record { first = place; last = right_of source (place + 2); act = act.Require number }) ≡ Some one → CallsIt source k place one
  calls_require role t not_request not_import one h =
      let found = some_with (slice_get k.requests number) (AsksFor source place) asks in
      let i = asks_require source place role t not_request not_import found.0 found.2 in
      let right = right_is source (place + 2) i.right i.value i.calls.argument in
      calls_so source k place (record { first = place; last = right_of source (place + 2); act = act.Require number }) one
      (refl, CallsFor.require place number (right_of source (place + 2)) i.value i.goal (subst (λ (r : ℕ). CallsRequire source place i.value r) right i.calls) asks) h

  calls_by : (role : Role) → HasRole source place role → (one : Done) → called_by source place role number ≡ Some one → CallsIt source k place one
  calls_by is.Request t one h = absurd (none-some one h)
  calls_by is.ImportCall t one h = calls_import t one h
  calls_by _ t one h = calls_require _ t (λ same. absurd (cc)) (λ same. absurd (cc)) one h

module _ (tables : Tables) (are : AreTables tables) (place : ℕ) where
  calls_for : (role : Role) → HasRole tables.source place role → (number : Option ℕ) → IsNumber tables.source tables.asked.requests place number → (one : Done)
      → called_for tables.source place role number ≡ Some one → CallsIt tables.source (known tables) place one
  calls_for role t _ (IsNumber.none nowhere) one h = absurd (none-some one h)
  calls_for role t _ (IsNumber.some number asks) one h = calls_by tables.source (known tables) place number asks role t one h

  pub number_there : place < length tables.source.marks → IsNumber tables.source tables.asked.requests place (entry tables.asked.numbers.items place)
  number_there inside =
      let there = element_at tables.asked.numbers.items place (omega (arith, inside, are.asked.whole)) in
      subst (λ (n : Option (Option ℕ)). IsNumber tables.source tables.asked.requests place (unwrap_or n None)) (sym there.1) (are.asked.numbers place there.0 there.1)

  within : (role : Role) → HasRole tables.source place role → place < length tables.source.marks
  within role t = slice_get_within tables.source.marks place (mark.Token role t.0) t.1

  called_does : (role : Role) → HasRole tables.source place role → (one : Done) → called tables place role ≡ Some one → CallsIt tables.source (known tables) place one
  called_does role t one h = calls_for role t (entry tables.asked.numbers.items place) (number_there (within role t)) one h

  -- ---- declarations

  bound_word : (opening : ℕ) → HasRole tables.source place is.Bound → BoundBy tables.source place part.Declaration opening → (is_var is_other given : Bool)
      → bytes_eq (spelled_at tables.source (opening + 1)) (codes "var") ≡ is_var
      → (bytes_eq (spelled_at tables.source (opening + 1)) (codes "let") || bytes_eq (spelled_at tables.source (opening + 1)) (codes "const")) ≡ is_other
      → is_given tables place opening ≡ given → (one : Done)
      → cond is_var (cond given (written place (meant tables place)) None) (cond is_other (begun place (meant tables place)) None) ≡ Some one
      → DoesIt tables.source (known tables) place one
  bound_word opening t b true is_other true v o g one h =
      let d = IsDeclared.by_word kind.Var opening t b (word_is kind.Var (spelled_at tables.source (opening + 1)) (codes "var") IsWordOf.var v) in
      given_does tables.source (known tables) place d (is_so_given tables are place opening (within is.Bound t) b g) (meant tables place)
      (meant_is tables are place (IsOccurrence.declared kind.Var d)) one h
  bound_word opening t b true is_other false v o g one h = absurd (none-some one h)
  bound_word opening t b false true given v o g one h = ⊎_elim
      (λ first. let d = IsDeclared.by_word kind.Let opening t b (word_is kind.Let (spelled_at tables.source (opening + 1)) (codes "let") IsWordOf.«let» first) in
      begun_does tables.source (known tables) place kind.Let d refl (meant tables place) (meant_is tables are place (IsOccurrence.declared kind.Let d)) one h)
      (λ second. let d = IsDeclared.by_word kind.Const opening t b (word_is kind.Const (spelled_at tables.source (opening + 1)) (codes "const") IsWordOf.const second) in
      begun_does tables.source (known tables) place kind.Const d refl (meant tables place) (meant_is tables are place (IsOccurrence.declared kind.Const d)) one h)
      (either (bytes_eq (spelled_at tables.source (opening + 1)) (codes "let")) (bytes_eq (spelled_at tables.source (opening + 1)) (codes "const")) o)
  bound_word opening t b false false given v o g one h = absurd (none-some one h)

  bound_does : HasRole tables.source place is.Bound → (found : Option ℕ) → declaration_around tables.source place ≡ found → (one : Done)
      → bound tables place found ≡ Some one → DoesIt tables.source (known tables) place one
  bound_does t None e one h = absurd (none-some one h)
  bound_does t (Some opening) e one h = bound_word opening t (around_bound tables.source place opening e) _ _ _ refl refl refl one h

  default_does : (found : Option ℕ) → IsBindingNumber (known tables) default_binding found → is_default tables place ≡ true → (one : Done)
      → begun_default place found ≡ Some one → DoesIt tables.source (known tables) place one
  default_does _ (IsBindingNumber.none nowhere) e one h = absurd (none-some one h)
  default_does _ (IsBindingNumber.some number n) e one h =
      let is = is_so_default tables are place e in
      does_so tables.source (known tables) place (just place (act.Init number)) one (Does.begins_unnamed place number is.how is.binds is.kept n) h

  unnamed_does : (b : Bool) → is_default tables place ≡ b → (one : Done) → cond b (begun_default place tables.declarations.default_binding) None ≡ Some one
      → DoesIt tables.source (known tables) place one
  unnamed_does true e one h = default_does tables.declarations.default_binding are.declared.default_number e one h
  unnamed_does false e one h = absurd (none-some one h)

  -- ---- the place

  token_does : (role : Role) → HasRole tables.source place role → tables.source.goal ≡ Module → (one : Done) → done_by tables place role ≡ Some one
      → IsDoing tables.source (known tables) place one
  token_does is.Reference t g one h =
      IsDoing.does_it g (used_does tables.source (known tables) place t (meant tables place) (meant_is tables are place (IsOccurrence.referred t)) one h)
  token_does is.Bound t g one h = IsDoing.does_it g (bound_does t (declaration_around tables.source place) refl one h)
  token_does is.ClassName t g one h = IsDoing.does_it g (begun_does tables.source (known tables) place kind.Class (IsDeclared.class t) refl (meant tables place)
      (meant_is tables are place (IsOccurrence.declared kind.Class (IsDeclared.class t))) one h)
  token_does is.ImportCall t g one h = let c = called_does is.ImportCall t one h in IsDoing.calls_it c.0 c.1
  token_does _ t g one h = absurd (none-some one h)

  module_does : (role : Role) → HasRole tables.source place role → tables.source.goal ≡ Module → (first : Option Done) → unnamed tables place ≡ first → (one : Done)
      → option_or first (done_by tables place role) ≡ Some one → IsDoing tables.source (known tables) place one
  module_does role t g None e one h = token_does role t g one h
  module_does role t g (Some other) e one h = IsDoing.does_it g (unnamed_does (is_default tables place) refl one (e ∙ h))

  goal_does : (role : Role) → HasRole tables.source place role → (goal : ProgramGoal) → tables.source.goal ≡ goal → (one : Done)
      → done_by_token goal tables place role ≡ Some one → IsDoing tables.source (known tables) place one
  goal_does role t Script g one h = let c = called_does role t one h in IsDoing.calls_it c.0 c.1
  goal_does role t Module g one h = module_does role t g (unnamed tables place) refl one h

module _ (tables : Tables) (are : AreTables tables) where
  before_does : (place : ℕ) → IsAssigned tables.source place → (b : Bool) → is_reference (slice_get tables.source.marks place) ≡ b → (one : Done)
      → cond b (written place (meant tables place)) None ≡ Some one → DoesIt tables.source (known tables) (place + 1) one
  before_does place a true e one h =
      let t = referring (slice_get tables.source.marks place) e in
      written_does tables.source (known tables) place t a (meant tables place) (meant_is tables are place (IsOccurrence.referred t)) one h
  before_does place a false e one h = absurd (none-some one h)

  assigned_does : (place : ℕ) → IsMark tables.source place mark.Assigned → tables.source.goal ≡ Module → (b : Bool) → nat_eq place 0 ≡ b → (one : Done)
      → cond b None (written_before tables (place - 1)) ≡ Some one → IsDoing tables.source (known tables) place one
  assigned_does place a g true e one h = absurd (none-some one h)
  assigned_does place a g false e one h =
      let above : place ≢ 0 = λ same. true≢false (sym (eq-eqb place 0 same) ∙ e) in
      let at : place - 1 + 1 ≡ place = omega (arith, above) in
      IsDoing.does_it g (subst (λ (p : ℕ). DoesIt tables.source (known tables) p one) at
      (before_does (place - 1) (ap (slice_get tables.source.marks) at ∙ a) (is_reference (slice_get tables.source.marks (place - 1))) refl one h))

  goal_assigned : (place : ℕ) → IsMark tables.source place mark.Assigned → (goal : ProgramGoal) → tables.source.goal ≡ goal → (one : Done)
      → done_by_mark goal tables place ≡ Some one → IsDoing tables.source (known tables) place one
  goal_assigned place a Script g one h = absurd (none-some one h)
  goal_assigned place a Module g one h = assigned_does place a g (nat_eq place 0) refl one h

  mark_does : (place : ℕ) (found : Option Mark) → slice_get tables.source.marks place ≡ found → (one : Done) → done_with tables place found ≡ Some one
      → IsDoing tables.source (known tables) place one
  mark_does place (Some (mark.Token role token)) at one h = goal_does tables are place role (token, at) tables.source.goal refl one h
  mark_does place (Some mark.Assigned) at one h = goal_assigned place at tables.source.goal refl one h
  mark_does place _ at one h = absurd (none-some one h)

  pub done_does : (place : ℕ) (one : Done) → done_at tables place ≡ Some one → IsDoing tables.source (known tables) place one
  unfolding done_at
  done_does place one h = mark_does place (slice_get tables.source.marks place) refl one h

-- What the module does at a place is told.
use Rattle.std.proofs.Common.{◌≡◌, ◌≢◌, ℕ, ◌+◌, ◌-◌, Bool, true, false, ◌||◌, cond, nat_eq, List, Option, Some, None, slice_get, codes, refl, sym, ap, subst, ◌∙◌, arith, true≢false}
use Rattle.std.specs.Prelude.{IsSomeAnd}
use Rattle.std.specs.Str.{bytes_eq}
use Rattle.std.specs.Option.{option_or}
use Rattle.std.proofs.lemmas.Bool.{eqb-true}
use Rattle.std.proofs.lemmas.Option.{none-some, same_Some, slice_get_within}
use Rattle.es_tree.specs.declared.tokens.Token.{Token}
use Rattle.es_tree.specs.declared.tokens.ProgramGoal.{ProgramGoal}
use Rattle.es_tree.specs.declared.tokens.ProgramGoal.TheVariants.{Script, Module}
use Rattle.es_outline.specs.declared.mark.Mark.{Mark}
use Rattle.es_outline.specs.declared.mark.Mark.TheVariants as mark
use Rattle.es_outline.specs.declared.mark.Role.{Role}
use Rattle.es_outline.specs.declared.mark.Role.TheVariants as is
use Rattle.es_outline.specs.declared.mark.Part.TheVariants as part
use Rattle.pk_types.specs.declared.facts.BindKind.{BindKind}
use Rattle.pk_types.specs.declared.facts.BindKind.TheVariants as bind
use Rattle.pk_types.specs.declared.facts.Ref.{Ref}
use Rattle.pk_types.specs.declared.facts.Ref.TheVariants as ref
use Rattle.pk_types.specs.declared.facts.SiteKind.{SiteKind}
use Rattle.es_scope.specs.declared.kinds.DeclarationKind.{DeclarationKind}
use Rattle.es_scope.specs.declared.kinds.DeclarationKind.TheVariants as kind
use Rattle.es_scope.specs.Source.{Source, IsMark, HasRole, spelled_at, token_of}
use Rattle.es_scope.specs.Occurrences.{IsDeclared, IsOccurrence, IsWordOf, BoundBy}
use Rattle.es_scope.specs.Asking.{AsksFor, ImportsText, CallsRequire}
use Rattle.es_scope.specs.Declaring.{BindsUnnamed, default_binding}
use Rattle.es_scope.specs.Known.{IsBindingNamed}
use Rattle.es_scope.specs.Named.{is_naming, names_it}
use Rattle.es_scope.specs.SiteRules.{RefersTo, RefersToSpace, IsGiven, Does, CallsFor, is_initial}
use Rattle.es_scope.proofs.FoundTable.{occurrence_named}
use Rattle.es_asks.specs.Numbering.{IsNumber}
use Rattle.es_declares.specs.Numbering.{IsBindingNumber}
use Rattle.es_sites.specs.declared.done.Act.TheVariants as act
use Rattle.es_sites.specs.declared.done.Done.{Done}
use Rattle.es_sites.specs.Marks.{token_at, is_reference, is_member, is_read}
use Rattle.es_sites.specs.Tables.{Tables, AreTables, known, entry}
use Rattle.es_sites.specs.Meant.{meant}
use Rattle.es_sites.specs.Done.{just, used, begun, written, is_given, bound_by, bound, is_default, begun_default, unnamed, right_of, called_by, called_for, called, done_by, written_before, done_by_token, done_by_mark, done_with, done_at}
use Rattle.es_sites.proofs.Opened.{bound_around}
use Rattle.es_sites.proofs.InsideLaws.{some_with}
use Rattle.es_sites.proofs.MeantLaws.{meant_is, told_ref, told_own, told_space}
use Rattle.es_sites.proofs.AroundLaws.{read_is, member_is, is_so_member, not_true}
use Rattle.es_sites.proofs.GivenLaws.{given_is, binding_default, right_is}
use Rattle.es_sites.proofs.DoneSound.{number_there}

-- a token stands at the place
pub record HasToken (source : Source) (place : ℕ) : Type 0 where
  pub token : Token
  pub at : token_at source place ≡ Some token

-- something is told that goes from one token to another
pub record IsSpanned (source : Source) (told : Option Done) : Type 0 where
  pub one : Done
  pub is : told ≡ Some one
  pub starts : HasToken source one.first
  pub ends : HasToken source one.last

spanned_so : (source : Source) (told : Option Done) (one : Done) → told ≡ Some one → HasToken source one.first → HasToken source one.last → IsSpanned source told
spanned_so source told one e first last = record { one = one; is = e; starts = first; ends = last }

-- ---- what has no name comes first

just_there : (place : ℕ) (b : Bool) (default : Option ℕ) (one : Done) → cond b (begun_default place default) None ≡ Some one → (one.first ≡ place) × (one.last ≡ place)
just_there place true (Some binding) one e =
    let same = same_Some (just place (act.Init binding)) one e in (sym (ap (λ (d : Done). d.first) same), sym (ap (λ (d : Done). d.last) same))
just_there place true None one e = absurd (none-some one e)
just_there place false default one e = absurd (none-some one e)

module _ (tables : Tables) (place : ℕ) (token : HasToken tables.source place) where
  first_spanned : (first : Option Done) → unnamed tables place ≡ first → (other : Option Done) → IsSpanned tables.source other → IsSpanned tables.source (option_or first other)
  first_spanned None e other h = h
  first_spanned (Some one) e other h =
      let at = just_there place (is_default tables place) tables.declarations.default_binding one e in
      spanned_so tables.source (Some one) one refl (subst (HasToken tables.source) (sym at.0) token) (subst (HasToken tables.source) (sym at.1) token)

  or_spanned : (role : Role) → IsSpanned tables.source (done_by tables place role) → IsSpanned tables.source (option_or (unnamed tables place) (done_by tables place role))
  or_spanned role h = first_spanned (unnamed tables place) refl (done_by tables place role) h

  unnamed_spanned : (role : Role) → IsSpanned tables.source (unnamed tables place) → IsSpanned tables.source (option_or (unnamed tables place) (done_by tables place role))
  unnamed_spanned role h =
      spanned_so tables.source (option_or (unnamed tables place) (done_by tables place role)) h.one (ap (λ (o : Option Done). option_or o (done_by tables place role)) h.is) h.starts h.ends

-- by the mark at the place
by_token : (tables : Tables) (place : ℕ) (role : Role) → HasRole tables.source place role → (goal : ProgramGoal) → tables.source.goal ≡ goal
    → IsSpanned tables.source (done_by_token goal tables place role) → IsSpanned tables.source (done_at tables place)
unfolding done_at
by_token tables place role t goal g h =
    subst (λ (m : Option Mark). IsSpanned tables.source (done_with tables place m)) (sym t.1)
    (subst (λ (p : ProgramGoal). IsSpanned tables.source (done_by_token p tables place role)) (sym g) h)

by_assigned : (tables : Tables) (place : ℕ) → IsMark tables.source place mark.Assigned → tables.source.goal ≡ Module
    → IsSpanned tables.source (done_by_mark Module tables place) → IsSpanned tables.source (done_at tables place)
unfolding done_at
by_assigned tables place a g h =
    subst (λ (m : Option Mark). IsSpanned tables.source (done_with tables place m)) (sym a)
    (subst (λ (p : ProgramGoal). IsSpanned tables.source (done_by_mark p tables place)) (sym g) h)

by_role : (tables : Tables) (place : ℕ) (role : Role) → HasRole tables.source place role → tables.source.goal ≡ Module → IsSpanned tables.source (done_by tables place role)
    → IsSpanned tables.source (done_at tables place)
by_role tables place role t g h = by_token tables place role t Module g (or_spanned tables place (record { token = t.0; at = ap token_of t.1 }) role h)

-- ---- words

var_word : (how : DeclarationKind) (word : List ℕ) → IsWordOf how word → how ≡ kind.Var → word ≡ codes "var"
var_word _ _ IsWordOf.var e = refl
var_word _ _ IsWordOf.«let» e = absurd (cc)
var_word _ _ IsWordOf.const e = absurd (cc)

-- `let` or `const`, and not `var`
initial_word : (how : DeclarationKind) (word : List ℕ) → IsWordOf how word → is_initial how ≡ true
    → (bytes_eq word (codes "var") ≡ false) × ((bytes_eq word (codes "let") || bytes_eq word (codes "const")) ≡ true)
initial_word _ _ IsWordOf.var e = absurd (true≢false (sym e))
initial_word _ _ IsWordOf.«let» e = (refl, refl)
initial_word _ _ IsWordOf.const e = (refl, refl)

-- ---- calls

require_role : (source : Source) (place number : ℕ) (role : Role) → is_naming role ≡ true
    → called_by source place role number ≡ Some (record { first = place; last = right_of source (place + 2); act = act.Require number })
require_role source place number is.Request e = absurd (true≢false (sym e))
require_role source place number is.ImportCall e = absurd (true≢false (sym e))
require_role source place number _ e = refl

-- the mark of an occurrence
occurring : (source : Source) (place : ℕ) → IsOccurrence source place → (found : Option Mark) → slice_get source.marks place ≡ found
    → (role : Role) × HasRole source place role × (is_naming role ≡ true)
occurring source place occurs (Some (mark.Token role token)) e = (role, (token, e), sym (ap names_it e) ∙ occurrence_named source place occurs)
occurring source place occurs _ e = absurd (true≢false (sym (sym (ap names_it e) ∙ occurrence_named source place occurs)))

module _ (tables : Tables) (are : AreTables tables) (place : ℕ) where
  -- ---- names that are used

  read_told : HasRole tables.source place is.Reference → (to : Ref) → RefersTo tables.source (known tables) place to → is_read tables.source place ≡ true
      → (other : Ref) × (done_by tables place is.Reference ≡ Some (just place (act.Read other)))
  read_told t to r e =
      let told = told_ref tables.source (known tables) place to r (meant tables place) (meant_is tables are place (IsOccurrence.referred t)) in
      (told.0, ap (used tables.source place) told.1 ∙ ap (λ b. cond b (Some (just place (act.Read told.0))) None) e)

  space_told : HasRole tables.source place is.Reference → (request : ℕ) → RefersToSpace tables.source (known tables) place request → (b : Bool) → is_member tables.source place ≡ b
      → (other : ℕ) × (done_by tables place is.Reference
      ≡ cond b (Some (record { first = place; last = place + 2; act = act.Member other })) (Some (just place (act.Space other))))
  space_told t request r b e =
      let told = told_space tables.source (known tables) place request r (meant tables place) (meant_is tables are place (IsOccurrence.referred t)) in (
        told.0,
        ap (used tables.source place) told.1
            ∙ ap (λ c. cond c (Some (record { first = place; last = place + 2; act = act.Member told.0 })) (Some (just place (act.Space told.0)))) e,
      )

  -- ---- names that are declared

  begun_told : (how : DeclarationKind) → IsDeclared tables.source place how → (binding : ℕ) → RefersTo tables.source (known tables) place (ref.Own binding)
      → (other : ℕ) × (begun place (meant tables place) ≡ Some (just place (act.Init other)))
  begun_told how d binding r =
      let told = told_own tables.source (known tables) place binding r (meant tables place) (meant_is tables are place (IsOccurrence.declared how d)) in
      (told.0, ap (begun place) told.1)

  bound_told : (opening : ℕ) → BoundBy tables.source place part.Declaration opening
      → done_by tables place is.Bound ≡ bound_by tables place opening (spelled_at tables.source (opening + 1))
  bound_told opening b = ap (bound tables place) (bound_around tables.source place opening b)

  initial_spanned : (how : DeclarationKind) → IsDeclared tables.source place how → is_initial how ≡ true → (binding : ℕ)
      → RefersTo tables.source (known tables) place (ref.Own binding) → tables.source.goal ≡ Module → IsSpanned tables.source (done_at tables place)
  initial_spanned _ (IsDeclared.by_word how opening t b w) i binding r g =
      let told = begun_told how (IsDeclared.by_word how opening t b w) binding r in
      let words = initial_word how (spelled_at tables.source (opening + 1)) w i in
      let token : HasToken tables.source place = record { token = t.0; at = ap token_of t.1 } in
      by_role tables place is.Bound t g (spanned_so tables.source (done_by tables place is.Bound) (just place (act.Init told.0)) (
      bound_told opening b
      ∙ ap (λ c. cond c (cond (is_given tables place opening) (written place (meant tables place)) None)
      (cond (bytes_eq (spelled_at tables.source (opening + 1)) (codes "let") || bytes_eq (spelled_at tables.source (opening + 1)) (codes "const")) (begun place (meant tables place)) None)) words.0
      ∙ ap (λ c. cond c (begun place (meant tables place)) None) words.1 ∙ told.1) token token)
  initial_spanned _ (IsDeclared.parameter opening t b) i binding r g = absurd (true≢false (sym i))
  initial_spanned _ (IsDeclared.arrow_parameter opening t b) i binding r g = absurd (true≢false (sym i))
  initial_spanned _ (IsDeclared.caught opening t b) i binding r g = absurd (true≢false (sym i))
  initial_spanned _ (IsDeclared.function t) i binding r g = absurd (true≢false (sym i))
  initial_spanned _ (IsDeclared.class t) i binding r g =
      let told = begun_told kind.Class (IsDeclared.class t) binding r in
      let token : HasToken tables.source place = record { token = t.0; at = ap token_of t.1 } in
      by_role tables place is.ClassName t g (spanned_so tables.source (done_by tables place is.ClassName) (just place (act.Init told.0)) told.1 token token)
  initial_spanned _ (IsDeclared.imported role j t) i binding r g = absurd (true≢false (sym i))

  var_spanned : (how : DeclarationKind) → IsDeclared tables.source place how → how ≡ kind.Var → IsGiven tables.source place → (to : Ref)
      → RefersTo tables.source (known tables) place to → tables.source.goal ≡ Module → IsSpanned tables.source (done_at tables place)
  var_spanned _ (IsDeclared.by_word how opening t b w) e given to r g =
      let told = told_ref tables.source (known tables) place to r (meant tables place) (meant_is tables are place (IsOccurrence.declared how (IsDeclared.by_word how opening t b w))) in
      let word = var_word how (spelled_at tables.source (opening + 1)) w e in
      let token : HasToken tables.source place = record { token = t.0; at = ap token_of t.1 } in
      let inside = slice_get_within tables.source.marks place (mark.Token is.Bound t.0) t.1 in
      by_role tables place is.Bound t g (spanned_so tables.source (done_by tables place is.Bound) (just place (act.Write told.0)) (
      bound_told opening b ∙ ap (bound_by tables place opening) word
      ∙ ap (λ c. cond c (written place (meant tables place)) None) (given_is tables are place opening inside b given) ∙ ap (written place) told.1) token token)
  var_spanned _ (IsDeclared.parameter opening t b) e given to r g = absurd (cc)
  var_spanned _ (IsDeclared.arrow_parameter opening t b) e given to r g = absurd (cc)
  var_spanned _ (IsDeclared.caught opening t b) e given to r g = absurd (cc)
  var_spanned _ (IsDeclared.function t) e given to r g = absurd (cc)
  var_spanned _ (IsDeclared.class t) e given to r g = absurd (cc)
  var_spanned _ (IsDeclared.imported role j t) e given to r g = absurd (cc)

  -- ---- defaults

  default_told : (found : Option ℕ) → IsBindingNumber (known tables) default_binding found → (binding : ℕ) → IsBindingNamed (known tables) binding default_binding
      → (other : ℕ) × (begun_default place found ≡ Some (just place (act.Init other)))
  default_told _ (IsBindingNumber.none nowhere) binding n = absurd (nowhere binding n)
  default_told _ (IsBindingNumber.some number m) binding n = (number, refl)

  default_spanned : (how : BindKind) → BindsUnnamed tables.source place how → how ≢ bind.Function → (binding : ℕ) → IsBindingNamed (known tables) binding default_binding
      → HasToken tables.source place → IsSpanned tables.source (unnamed tables place)
  default_spanned how b kept binding n token =
      let told = default_told tables.declarations.default_binding are.declared.default_number binding n in
      spanned_so tables.source (unnamed tables place) (just place (act.Init told.0))
      (ap (λ c. cond c (begun_default place tables.declarations.default_binding) None) (binding_default tables are place how b kept) ∙ told.1) token token

  -- ---- names that are written

  before_told : HasRole tables.source place is.Reference → (to : Ref) → RefersTo tables.source (known tables) place to
      → (other : Ref) × (done_by_mark Module tables (place + 1) ≡ Some (just place (act.Write other)))
  before_told t to r =
      let told = told_ref tables.source (known tables) place to r (meant tables place) (meant_is tables are place (IsOccurrence.referred t)) in
      let above : nat_eq (place + 1) 0 ≡ false = not_true (nat_eq (place + 1) 0) (λ e. let same = eqb-true (place + 1) 0 e in omega arith) in
      let at : place + 1 - 1 ≡ place = omega arith in (
        told.0,
        ap (λ b. cond b None (written_before tables (place + 1 - 1))) above ∙ ap (λ (p : ℕ). written_before tables p) at
            ∙ ap (λ b. cond b (written place (meant tables place)) None) (ap is_reference t.1) ∙ ap (written place) told.1,
      )

  -- ---- calls

  number_told : (found : Option ℕ) → IsNumber tables.source tables.asked.requests place found → (number : ℕ)
      → IsSomeAnd (slice_get tables.asked.requests number) (AsksFor tables.source place) → (other : ℕ) × (found ≡ Some other)
  number_told _ (IsNumber.none nowhere) number asks =
      let found = some_with (slice_get tables.asked.requests number) (AsksFor tables.source place) asks in absurd (nowhere found.0 found.2)
  number_told _ (IsNumber.some other also) number asks = (other, refl)

  called_told : (role : Role) → HasRole tables.source place role → (number : ℕ) → IsSomeAnd (slice_get tables.asked.requests number) (AsksFor tables.source place)
      → (other : ℕ) × (called tables place role ≡ called_by tables.source place role other)
  called_told role t number asks =
      let inside = slice_get_within tables.source.marks place (mark.Token role t.0) t.1 in
      let told = number_told (entry tables.asked.numbers.items place) (number_there tables are place inside) number asks in
      (told.0, ap (called_for tables.source place role) told.1)

  import_spanned : (right number : ℕ) (value : List ℕ) → ImportsText tables.source place value right
      → IsSomeAnd (slice_get tables.asked.requests number) (AsksFor tables.source place) → HasToken tables.source right → IsSpanned tables.source (called tables place is.ImportCall)
  import_spanned right number value i asks last =
      let told = called_told is.ImportCall i.word number asks in
      spanned_so tables.source (called tables place is.ImportCall) (record { first = place; last = right_of tables.source (place + 1); act = act.Import told.0 }) told.1
      (record { token = i.word.0; at = ap token_of i.word.1 }) (subst (HasToken tables.source) (right_is tables.source (place + 1) right value i.argument) last)

  goal_import : (goal : ProgramGoal) → tables.source.goal ≡ goal → (right number : ℕ) (value : List ℕ) → ImportsText tables.source place value right
      → IsSomeAnd (slice_get tables.asked.requests number) (AsksFor tables.source place) → HasToken tables.source right → IsSpanned tables.source (done_at tables place)
  goal_import Script g right number value i asks last = by_token tables place is.ImportCall i.word Script g (import_spanned right number value i asks last)
  goal_import Module g right number value i asks last = by_role tables place is.ImportCall i.word g (import_spanned right number value i asks last)

  require_spanned : tables.source.goal ≡ Script → (right number : ℕ) (value : List ℕ) → CallsRequire tables.source place value right
      → IsSomeAnd (slice_get tables.asked.requests number) (AsksFor tables.source place) → HasToken tables.source right → IsSpanned tables.source (done_at tables place)
  require_spanned g right number value c asks last =
      let role = occurring tables.source place c.free.0.occurs (slice_get tables.source.marks place) refl in
      let told = called_told role.0 role.1 number asks in
      by_token tables place role.0 role.1 Script g (spanned_so tables.source (called tables place role.0)
      (record { first = place; last = right_of tables.source (place + 2); act = act.Require told.0 }) (told.1 ∙ require_role tables.source place told.0 role.0 role.2)
      (record { token = role.1.0; at = ap token_of role.1.1 }) (subst (HasToken tables.source) (right_is tables.source (place + 2) right value c.argument) last))

-- ---- all of it

module _ (tables : Tables) (are : AreTables tables) where
  pub does_spanned : (place first last : ℕ) (what : SiteKind) → tables.source.goal ≡ Module → Does tables.source (known tables) place first last what
      → (role : Role) × HasRole tables.source first role → HasToken tables.source last → IsSpanned tables.source (done_at tables place)
  does_spanned _ _ _ _ g (Does.begins place binding how d i r) starts ends = initial_spanned tables are place how d i binding r g
  does_spanned _ _ _ _ g (Does.begins_unnamed place binding how b kept n) starts ends =
      by_token tables place starts.0 starts.1 Module g (unnamed_spanned tables place ends starts.0 (default_spanned tables are place how b kept binding n ends))
  does_spanned _ _ _ _ g (Does.gives place to d given r) starts ends = var_spanned tables are place kind.Var d refl given to r g
  does_spanned _ _ _ _ g (Does.reads place to t is_so r) starts ends =
      let told = read_told tables are place t to r (read_is tables.source place is_so) in
      by_role tables place is.Reference t g (spanned_so tables.source (done_by tables place is.Reference) (just place (act.Read told.0)) told.1 ends ends)
  does_spanned _ _ _ _ g (Does.writes place to t a r) starts ends =
      let told = before_told tables are place t to r in
      by_assigned tables (place + 1) a g (spanned_so tables.source (done_by_mark Module tables (place + 1)) (just place (act.Write told.0)) told.1 ends ends)
  does_spanned _ _ _ _ g (Does.member place request m r) starts ends =
      let told = space_told tables are place m.refers request r true (member_is tables.source place m) in
      by_role tables place is.Reference m.refers g (spanned_so tables.source (done_by tables place is.Reference) (record { first = place; last = place + 2; act = act.Member told.0 })
      told.1 (record { token = m.refers.0; at = ap token_of m.refers.1 }) ends)
  does_spanned _ _ _ _ g (Does.space place request t other r) starts ends =
      let told = space_told tables are place t request r false (not_true (is_member tables.source place) (λ e. other (is_so_member tables.source place t e))) in
      by_role tables place is.Reference t g (spanned_so tables.source (done_by tables place is.Reference) (just place (act.Space told.0)) told.1 ends ends)

  pub calls_spanned : (place last : ℕ) (what : SiteKind) → CallsFor tables.source (known tables) place last what → HasToken tables.source last
      → IsSpanned tables.source (done_at tables place)
  calls_spanned _ _ _ (CallsFor.import place number right value i asks) ends = goal_import tables are place tables.source.goal refl right number value i asks ends
  calls_spanned _ _ _ (CallsFor.require place number right value g c asks) ends = require_spanned tables are place g right number value c asks ends

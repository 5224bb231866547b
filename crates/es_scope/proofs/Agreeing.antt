-- The frames that are followed from mark to mark tell scopes, declarations and what belongs where as they are defined.
use Rattle.std.proofs.Common.{◌≡◌, ◌≢◌, ℕ, ◌+◌, ◌≤◌, ◌↔◌, ⊎_elim, Bool, true, false, cond, List, [], ◌∷◌, Option, Some, None, AllPairs, slice_get, map, codes, refl, sym, ap, subst, ◌∙◌, arith, true≢false}
use Rattle.std.specs.List.{Contains}
use Rattle.std.specs.Str.{bytes_eq}
use Rattle.std.proofs.lemmas.Option.{none-some, same_Some}
use Rattle.std.proofs.lemmas.Slice.Eq.{bytes_eq-Decides}
use Rattle.pk_types.proofs.ListMembers.{here, there, one_of, none_in, mapped, unmapped}
use Rattle.es_tree.specs.declared.tokens.Token.{Token}
use Rattle.es_outline.specs.declared.mark.Mark.{Mark}
use Rattle.es_outline.specs.declared.mark.Mark.TheVariants as mark
use Rattle.es_outline.specs.declared.mark.Role.{Role}
use Rattle.es_outline.specs.declared.mark.Role.TheVariants as is
use Rattle.es_outline.specs.declared.mark.Part.{Part}
use Rattle.es_outline.specs.declared.mark.Part.TheVariants as part
use Rattle.es_scope.specs.declared.kinds.DeclarationKind.{DeclarationKind}
use Rattle.es_scope.specs.declared.kinds.DeclarationKind.TheVariants as kind
use Rattle.es_scope.specs.declared.frame.Frame.{Frame}
use Rattle.es_scope.specs.Parts.{NearestPart}
use Rattle.es_scope.specs.Source.{Source, HasRole, IsMark, name_at, spelled_at}
use Rattle.es_scope.specs.Occurrences.{IsDeclared, IsWordOf, is_binder, is_import}
use Rattle.es_scope.specs.Scopes.{StandsIn, NearestScope, BelongsTo, Declares, is_scope, is_var_scope, arguments}
use Rattle.es_scope.specs.Frames.{frame_at, innermost, scopes_of, scopes_at, kind_of_word, bound_by, role_declares, mark_declares, declared_at, owners, owners_at, gives, given_at}
use Rattle.es_scope.proofs.Enclosing.{Opened, open_at, enclosing, enclosing_listed}
use Rattle.es_scope.proofs.Nearest.{falls_at, begins_below, first_of, within, nearest_part, nearest_stands}
use Rattle.es_scope.proofs.OpenFrames.{frames_of, frames_are, scope_of, var_scope_of, bound_in, binder_of, IsOneOf, from_one_of, listed_is_one, top_listed, part_listed, scopes_descend}

-- scopes
listed_at : (source : Source) (place scope : ℕ) → Contains (scopes_at source place) scope → IsOneOf (open_at source.marks place) scope
listed_at source place scope c =
    listed_is_one (open_at source.marks place) scope (subst (λ frames. Contains (scopes_of frames) scope) (frames_are source.marks place) c)

stands_listed : (source : Source) (place scope : ℕ) → StandsIn is_scope source.marks place scope → Contains (scopes_of (frames_of (open_at source.marks place))) scope
stands_listed source place _ StandsIn.top = top_listed (open_at source.marks place)
stands_listed source place _ (StandsIn.enclosed which opening scoped h) =
    part_listed (open_at source.marks place) (which, opening) (enclosing_listed source.marks place opening which h) scoped

pub stands_in : (source : Source) (place scope : ℕ) → StandsIn is_scope source.marks place scope ↔ Contains (scopes_at source place) scope
stands_in source place scope = (
  λ h. subst (λ frames. Contains (scopes_of frames) scope) (sym (frames_are source.marks place)) (stands_listed source place scope h),
  λ c. from_one_of (open_at source.marks place) scope (listed_at source place scope c) (λ top. subst (λ s. StandsIn is_scope source.marks place s) (sym top) StandsIn.top)
      (λ one listed scoped same. subst (λ s. StandsIn is_scope source.marks place s) same
      (StandsIn.enclosed one.0 one.1 scoped (enclosing source.marks place one.1 one.0 listed))),
)

pub descending : (source : Source) (place : ℕ) → AllPairs (λ inner outer. outer ≤ inner) (scopes_at source place)
descending source place =
    subst (λ frames. AllPairs (λ inner outer. outer ≤ inner) (scopes_of frames)) (sym (frames_are source.marks place))
    (scopes_descend place (open_at source.marks place) (falls_at source.marks place))

pub below : (source : Source) (place scope : ℕ) → Contains (scopes_at source place) scope → scope ≤ place
below source place scope c = from_one_of (open_at source.marks place) scope (listed_at source place scope c) (λ top. omega arith)
    (λ one listed scoped same. let before = begins_below place (open_at source.marks place) one (falls_at source.marks place) listed in omega arith)

scope_at : (source : Source) (place : ℕ) → (frame_at source place).scope ≡ within (first_of is_scope (open_at source.marks place))
scope_at source place = ap (λ frames. (innermost frames).scope) (frames_are source.marks place) ∙ scope_of (open_at source.marks place)

var_scope_at : (source : Source) (place : ℕ) → (frame_at source place).var_scope ≡ within (first_of is_var_scope (open_at source.marks place))
var_scope_at source place = ap (λ frames. (innermost frames).var_scope) (frames_are source.marks place) ∙ var_scope_of (open_at source.marks place)

binder_at : (source : Source) (place : ℕ) → (frame_at source place).binder ≡ bound_in (first_of is_binder (open_at source.marks place))
binder_at source place = ap (λ frames. (innermost frames).binder) (frames_are source.marks place) ∙ binder_of (open_at source.marks place)

pub nearest_scope : (source : Source) (place scope : ℕ) → NearestScope is_scope source.marks place scope ↔ (scope ≡ (frame_at source place).scope)
nearest_scope source place scope = (
  λ h. (nearest_stands is_scope source.marks place scope).0 h ∙ sym (scope_at source place),
  λ e. (nearest_stands is_scope source.marks place scope).1 (e ∙ scope_at source place),
)

pub nearest_var : (source : Source) (place scope : ℕ) → NearestScope is_var_scope source.marks place scope ↔ (scope ≡ (frame_at source place).var_scope)
nearest_var source place scope = (
  λ h. (nearest_stands is_var_scope source.marks place scope).0 h ∙ sym (var_scope_at source place),
  λ e. (nearest_stands is_var_scope source.marks place scope).1 (e ∙ var_scope_at source place),
)

-- declarations
word_declares : (how : DeclarationKind) (word : List ℕ) → IsWordOf how word → kind_of_word word ≡ Some how
word_declares _ _ IsWordOf.var = refl
word_declares _ _ IsWordOf.«let» = refl
word_declares _ _ IsWordOf.const = refl

word_is : (how other : DeclarationKind) (word said : List ℕ) → Some other ≡ Some how → word ≡ said → IsWordOf other said → IsWordOf how word
word_is how other word said h e w = subst (λ k. IsWordOf k word) (same_Some other how h) (subst (IsWordOf other) (sym e) w)

word_tells : (how : DeclarationKind) (word : List ℕ) (is_var is_let is_const : Bool)
    → bytes_eq word (codes "var") ≡ is_var → bytes_eq word (codes "let") ≡ is_let → bytes_eq word (codes "const") ≡ is_const
    → cond is_var (Some kind.Var) (cond is_let (Some kind.Let) (cond is_const (Some kind.Const) None)) ≡ Some how → IsWordOf how word
word_tells how word true is_let is_const e f g h = word_is how kind.Var word (codes "var") h ((bytes_eq-Decides word (codes "var")).0 e) IsWordOf.var
word_tells how word false true is_const e f g h = word_is how kind.Let word (codes "let") h ((bytes_eq-Decides word (codes "let")).0 f) IsWordOf.«let»
word_tells how word false false true e f g h = word_is how kind.Const word (codes "const") h ((bytes_eq-Decides word (codes "const")).0 g) IsWordOf.const
word_tells how word false false false e f g h = absurd (none-some how h)

word_of : (how : DeclarationKind) (word : List ℕ) → kind_of_word word ≡ Some how → IsWordOf how word
word_of how word h =
    word_tells how word (bytes_eq word (codes "var")) (bytes_eq word (codes "let")) (bytes_eq word (codes "const")) refl refl refl h

-- what is declared by a token of this role
by_role : (source : Source) (place : ℕ) (role : Role) (token : Token) → IsMark source place (mark.Token role token)
    → declared_at source place ≡ role_declares source role (frame_at source place)
by_role source place role token t = ap (λ m. mark_declares source m (frame_at source place)) t

-- a name that is bound by the nearest part that binds
by_part : (source : Source) (place : ℕ) (which : Part) (opening : ℕ) → HasRole source place is.Bound → NearestPart is_binder source.marks place which opening
    → declared_at source place ≡ bound_by source (bound_in (Some (which, opening)))
by_part source place which opening t h =
    by_role source place is.Bound t.0 t.1
    ∙ ap (bound_by source) (binder_at source place ∙ ap bound_in ((nearest_part is_binder source.marks place which opening).0 h))

import_declares : (source : Source) (role : Role) (frame : Frame) → is_import role ≡ true → role_declares source role frame ≡ Some kind.Import
import_declares source is.Imported frame i = refl
import_declares source is.ImportedDefault frame i = refl
import_declares source is.ImportedSpace frame i = refl
import_declares source _ frame i = absurd (true≢false (sym i))

declares_as : (source : Source) (place : ℕ) (how : DeclarationKind) → IsDeclared source place how → declared_at source place ≡ Some how
declares_as source place _ (IsDeclared.by_word how opening t b w) =
    by_part source place part.Declaration opening t b ∙ word_declares how (spelled_at source (opening + 1)) w
declares_as source place _ (IsDeclared.parameter opening t b) = by_part source place part.Function opening t b
declares_as source place _ (IsDeclared.arrow_parameter opening t b) = by_part source place part.Arrow opening t b
declares_as source place _ (IsDeclared.caught opening t b) = by_part source place part.Catch opening t b
declares_as source place _ (IsDeclared.function t) = by_role source place is.FunctionName t.0 t.1
declares_as source place _ (IsDeclared.class t) = by_role source place is.ClassName t.0 t.1
declares_as source place _ (IsDeclared.imported role i t) = by_role source place role t.0 t.1 ∙ import_declares source role (frame_at source place) i

so_declared : (source : Source) (place : ℕ) (how told : DeclarationKind) → IsDeclared source place told → Some told ≡ Some how → IsDeclared source place how
so_declared source place how told d e = subst (λ k. IsDeclared source place k) (same_Some told how e) d

bound_part : (source : Source) (place : ℕ) (how : DeclarationKind) (which : Part) (opening : ℕ) → HasRole source place is.Bound
    → NearestPart is_binder source.marks place which opening → bound_by source (bound_in (Some (which, opening))) ≡ Some how → IsDeclared source place how
bound_part source place how part.Declaration opening t h e = IsDeclared.by_word how opening t h (word_of how (spelled_at source (opening + 1)) e)
bound_part source place how part.Function opening t h e = so_declared source place how kind.Parameter (IsDeclared.parameter opening t h) e
bound_part source place how part.Arrow opening t h e = so_declared source place how kind.Parameter (IsDeclared.arrow_parameter opening t h) e
bound_part source place how part.Catch opening t h e = so_declared source place how kind.Catch (IsDeclared.caught opening t h) e
bound_part source place how _ opening t h e = absurd (none-some how e)

bound_first : (source : Source) (place : ℕ) (how : DeclarationKind) (found : Option Opened) → first_of is_binder (open_at source.marks place) ≡ found
    → HasRole source place is.Bound → bound_by source (bound_in found) ≡ Some how → IsDeclared source place how
bound_first source place how None f t e = absurd (none-some how e)
bound_first source place how (Some one) f t e =
    bound_part source place how one.0 one.1 t ((nearest_part is_binder source.marks place one.0 one.1).1 f) e

role_tells : (source : Source) (place : ℕ) (how : DeclarationKind) (role : Role) → HasRole source place role
    → role_declares source role (frame_at source place) ≡ Some how → IsDeclared source place how
role_tells source place how is.Bound t e =
    bound_first source place how (first_of is_binder (open_at source.marks place)) refl t (sym (ap (bound_by source) (binder_at source place)) ∙ e)
role_tells source place how is.FunctionName t e = so_declared source place how kind.Function (IsDeclared.function t) e
role_tells source place how is.ClassName t e = so_declared source place how kind.Class (IsDeclared.class t) e
role_tells source place how is.Imported t e = so_declared source place how kind.Import (IsDeclared.imported is.Imported refl t) e
role_tells source place how is.ImportedDefault t e = so_declared source place how kind.Import (IsDeclared.imported is.ImportedDefault refl t) e
role_tells source place how is.ImportedSpace t e = so_declared source place how kind.Import (IsDeclared.imported is.ImportedSpace refl t) e
role_tells source place how _ t e = absurd (none-some how e)

mark_tells : (source : Source) (place : ℕ) (how : DeclarationKind) (there : Option Mark) → slice_get source.marks place ≡ there
    → mark_declares source there (frame_at source place) ≡ Some how → IsDeclared source place how
mark_tells source place how (Some (mark.Token role token)) m e = role_tells source place how role (token, m) e
mark_tells source place how _ m e = absurd (none-some how e)

pub declared_as : (source : Source) (place : ℕ) (how : DeclarationKind) → IsDeclared source place how ↔ (declared_at source place ≡ Some how)
declared_as source place how = (λ d. declares_as source place how d, λ e. mark_tells source place how (slice_get source.marks place) refl e)

-- the scopes that a declaration belongs to
own_scope : (place : ℕ) (frame : Frame) (how : DeclarationKind) → how ≢ kind.Var → Contains (owners place frame (Some how)) frame.scope
own_scope place frame kind.Var unlike = absurd (unlike refl)
own_scope place frame kind.Class unlike = here frame.scope ((place + 2) ∷ [])
own_scope place frame _ unlike = here frame.scope []

belongs_listed : (source : Source) (place scope : ℕ) → BelongsTo source place scope → Contains (owners_at source place) scope
belongs_listed source place _ (BelongsTo.var scope d n) =
    subst (λ k. Contains (owners place (frame_at source place) k) scope) (sym (declares_as source place kind.Var d))
    (subst (λ s. Contains ((frame_at source place).var_scope ∷ []) s) (sym ((nearest_var source place scope).0 n)) (here (frame_at source place).var_scope []))
belongs_listed source place _ (BelongsTo.other how scope d unlike n) =
    subst (λ k. Contains (owners place (frame_at source place) k) scope) (sym (declares_as source place how d))
    (subst (λ s. Contains (owners place (frame_at source place) (Some how)) s) (sym ((nearest_scope source place scope).0 n)) (own_scope place (frame_at source place) how unlike))
belongs_listed source place _ (BelongsTo.own_class t) =
    subst (λ k. Contains (owners place (frame_at source place) k) (place + 2)) (sym (by_role source place is.ClassName t.0 t.1))
    (there (frame_at source place).scope ((place + 2) ∷ []) (place + 2) (here (place + 2) []))

in_scope : (source : Source) (place scope : ℕ) (how : DeclarationKind) → declared_at source place ≡ Some how → how ≢ kind.Var
    → (frame_at source place).scope ≡ scope → BelongsTo source place scope
in_scope source place scope how e unlike same =
    BelongsTo.other how scope ((declared_as source place how).1 e) unlike ((nearest_scope source place scope).1 (sym same))

word_of_none : (how : DeclarationKind) (word : List ℕ) → IsWordOf how word → how ≢ kind.Class
word_of_none _ _ IsWordOf.var e = cc
word_of_none _ _ IsWordOf.«let» e = cc
word_of_none _ _ IsWordOf.const e = cc

class_role : (source : Source) (place : ℕ) (how : DeclarationKind) → IsDeclared source place how → how ≡ kind.Class → HasRole source place is.ClassName
class_role source place _ (IsDeclared.by_word how opening t b w) e = absurd (word_of_none how (spelled_at source (opening + 1)) w e)
class_role source place _ (IsDeclared.parameter opening t b) e = cc
class_role source place _ (IsDeclared.arrow_parameter opening t b) e = cc
class_role source place _ (IsDeclared.caught opening t b) e = cc
class_role source place _ (IsDeclared.function t) e = cc
class_role source place _ (IsDeclared.class t) e = t
class_role source place _ (IsDeclared.imported role i t) e = cc

only : (x y : ℕ) → Contains (x ∷ []) y → x ≡ y
only x y c = ⊎_elim (λ same. same) (λ none. absurd (none_in y none)) (one_of x [] y c)

owner_belongs : (source : Source) (place scope : ℕ) (told : Option DeclarationKind) → declared_at source place ≡ told
    → Contains (owners place (frame_at source place) told) scope → BelongsTo source place scope
owner_belongs source place scope None e c = absurd (none_in scope c)
owner_belongs source place scope (Some kind.Var) e c =
    BelongsTo.var scope ((declared_as source place kind.Var).1 e) ((nearest_var source place scope).1 (sym (only (frame_at source place).var_scope scope c)))
owner_belongs source place scope (Some kind.Class) e c = ⊎_elim
    (λ same. in_scope source place scope kind.Class e (λ v. cc) same)
    (λ own. subst (BelongsTo source place) (only (place + 2) scope own) (BelongsTo.own_class (class_role source place kind.Class ((declared_as source place kind.Class).1 e) refl)))
    (one_of (frame_at source place).scope ((place + 2) ∷ []) scope c)
owner_belongs source place scope (Some kind.Let) e c = in_scope source place scope kind.Let e (λ v. cc) (only (frame_at source place).scope scope c)
owner_belongs source place scope (Some kind.Const) e c = in_scope source place scope kind.Const e (λ v. cc) (only (frame_at source place).scope scope c)
owner_belongs source place scope (Some kind.Function) e c = in_scope source place scope kind.Function e (λ v. cc) (only (frame_at source place).scope scope c)
owner_belongs source place scope (Some kind.Import) e c = in_scope source place scope kind.Import e (λ v. cc) (only (frame_at source place).scope scope c)
owner_belongs source place scope (Some kind.Parameter) e c = in_scope source place scope kind.Parameter e (λ v. cc) (only (frame_at source place).scope scope c)
owner_belongs source place scope (Some kind.Catch) e c = in_scope source place scope kind.Catch e (λ v. cc) (only (frame_at source place).scope scope c)

pub belongs_to : (source : Source) (place scope : ℕ) → BelongsTo source place scope ↔ Contains (owners_at source place) scope
belongs_to source place scope = (λ b. belongs_listed source place scope b, λ c. owner_belongs source place scope (declared_at source place) refl c)

-- what a scope declares
declared_token : (source : Source) (place : ℕ) (how : DeclarationKind) → IsDeclared source place how → (role : Role) × HasRole source place role
declared_token source place _ (IsDeclared.by_word how opening t b w) = (is.Bound, t)
declared_token source place _ (IsDeclared.parameter opening t b) = (is.Bound, t)
declared_token source place _ (IsDeclared.arrow_parameter opening t b) = (is.Bound, t)
declared_token source place _ (IsDeclared.caught opening t b) = (is.Bound, t)
declared_token source place _ (IsDeclared.function t) = (is.FunctionName, t)
declared_token source place _ (IsDeclared.class t) = (is.ClassName, t)
declared_token source place _ (IsDeclared.imported role i t) = (role, t)

pub belonging_token : (source : Source) (place scope : ℕ) → BelongsTo source place scope → (role : Role) × HasRole source place role
belonging_token source place _ (BelongsTo.var scope d n) = declared_token source place kind.Var d
belonging_token source place _ (BelongsTo.other how scope d unlike n) = declared_token source place how d
belonging_token source place _ (BelongsTo.own_class t) = (is.ClassName, t)

-- the scopes of the declaration, each with its name
abbrev with_name : Source → ℕ → List (ℕ × List ℕ)
with_name source place = map (λ scope. (scope, name_at source place)) (owners_at source place)

abbrev by_function : ℕ → List (ℕ × List ℕ)
by_function opening = (opening + 1, arguments) ∷ []

given_by : (source : Source) (place scope : ℕ) (name : List ℕ) → Declares source scope name place → Contains (given_at source place) (scope, name)
given_by source _ scope name (Declares.named place b same) =
    let t = belonging_token source place scope b in
    subst (λ m. Contains (gives source place m) (scope, name)) (sym t.1.1)
    (subst (λ n. Contains (with_name source place) (scope, n)) same
    (mapped (λ s. (s, name_at source place)) (owners_at source place) scope (belongs_listed source place scope b)))
given_by source _ scope name (Declares.by_function opening m same said) =
    subst (λ there. Contains (gives source opening there) (scope, name)) (sym m)
    (subst (λ s. Contains (by_function opening) (s, name)) same
    (subst (λ n. Contains (by_function opening) (opening + 1, n)) (sym said) (here (opening + 1, arguments) [])))

named_given : (source : Source) (place scope : ℕ) (name : List ℕ) → Contains (with_name source place) (scope, name) → Declares source scope name place
named_given source place scope name c =
    let found = unmapped (λ s. (s, name_at source place)) (owners_at source place) (scope, name) c in
    let b : BelongsTo source place scope = subst (BelongsTo source place) (ap (λ p. p.0) found.2) ((belongs_to source place found.0).1 found.1) in
    Declares.named place b (ap (λ p. p.1) found.2)

function_gives : (source : Source) (place scope : ℕ) (name : List ℕ) → IsMark source place (mark.Begin part.Function)
    → Contains (by_function place) (scope, name) → Declares source scope name place
function_gives source place scope name m c = ⊎_elim
    (λ same. Declares.by_function place m (ap (λ p. p.0) same) (sym (ap (λ p. p.1) same)))
    (λ none. absurd (none_in (scope, name) none)) (one_of (place + 1, arguments) [] (scope, name) c)

so_given : (source : Source) (place scope : ℕ) (name : List ℕ) (there : Option Mark) → slice_get source.marks place ≡ there
    → Contains (gives source place there) (scope, name) → Declares source scope name place
so_given source place scope name (Some (mark.Begin part.Function)) m c = function_gives source place scope name m c
so_given source place scope name _ m c = named_given source place scope name c

pub declares : (source : Source) (scope : ℕ) (name : List ℕ) (place : ℕ) → Declares source scope name place ↔ Contains (given_at source place) (scope, name)
declares source scope name place = (λ d. given_by source place scope name d, λ c. so_given source place scope name (slice_get source.marks place) refl c)

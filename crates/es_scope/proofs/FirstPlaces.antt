-- First declarations by the numbers of names, when those of one mark more are told.
use Rattle.std.proofs.Common.{◌≡◌, ℕ, ◌+◌, ◌<◌, ◌≤◌, ⊎_elim, Bool, true, false, ◌||◌, List, [], ◌∷◌, Option, Some, None, IsSome, get_or, length, map, slice_get, slice_index, refl, sym, ap, subst, ◌∙◌, arith}
use Rattle.std.specs.List.{Contains, list_any}
use Rattle.std.specs.Str.{bytes_eq}
use Rattle.std.specs.Cmp.Lexicographic.{bytes_decides}
use Rattle.std.proofs.lemmas.Bool.{false≢true, eq-eqb}
use Rattle.std.proofs.lemmas.Option.{none-some, same_Some, get_or_from_slice_get}
use Rattle.std.proofs.lemmas.List.Quantifiers.{position-Some}
use Rattle.pk_types.proofs.ListMembers.{here, there, one_of, none_in, mapped, unmapped, or_first, or_second, or_one}
use Rattle.pk_types.proofs.Members.{as_long}
use Rattle.pk_text.specs.Places.{place_of}
use Rattle.es_outline.specs.declared.mark.Mark.{Mark}
use Rattle.es_outline.specs.declared.mark.Mark.TheVariants as mark
use Rattle.es_outline.specs.declared.mark.Role.{Role}
use Rattle.es_outline.specs.declared.mark.Role.TheVariants as is
use Rattle.es_outline.specs.declared.mark.Part.TheVariants as part
use Rattle.es_outline.specs.Outline.{Marks}
use Rattle.es_scope.specs.declared.kinds.DeclarationKind.{DeclarationKind}
use Rattle.es_scope.specs.declared.frame.Frame.{Frame}
use Rattle.es_scope.specs.Source.{Source, name_at}
use Rattle.es_scope.specs.Scopes.{arguments}
use Rattle.es_scope.specs.Frames.{frame_at, owners, owners_at, declared_at, mark_declares, role_declares, gives}
use Rattle.es_scope.specs.Named.{is_naming, names_it, AreNumbered, IsArguments}
use Rattle.es_scope.specs.Firsts.{Key, is_key, keys_of, gives_numbers, given_numbers, Entries, told, told_at, Tells, IsFirst, AreFirst, AreNamed}
use Rattle.es_scope.proofs.FirstTold.{same_key}
use Rattle.es_scope.proofs.LookingUp.{first_none, first_given, first_kept}

-- a scope that gets a name
abbrev Given : Type 0
Given = ℕ × List ℕ

abbrev Gives : List Given → ℕ → List ℕ → Type 0
Gives given scope name = Contains {X = Given} given (scope, name)

abbrev given_to : List ℕ → List ℕ → List Given
given_to name owners = map (λ owner. (owner, name)) owners

-- names of one number are the same
pub same_name : (texts : List (List ℕ)) (name other : List ℕ) (number : ℕ) → place_of texts name ≡ Some number → place_of texts other ≡ Some number → name ≡ other
same_name texts name other number is also =
    let first = position-Some (bytes_eq name) texts number name is in
    let second = position-Some (bytes_eq other) texts number name also in
    (bytes_decides name (get_or texts number name)).0 first.1 ∙ sym ((bytes_decides other (get_or texts number name)).0 second.1)

pub is_key_itself : (key : Key) → is_key key key ≡ true
is_key_itself key = rw (eq-eqb key.0 key.0 refl, eq-eqb key.1 key.1 refl) refl

-- a key among those of some owners
pub key_owner : (number scope other : ℕ) (owners : List ℕ) → list_any (λ key. is_key key (scope, other)) (keys_of number owners) ≡ true
    → Contains owners scope × (number ≡ other)
key_owner number scope other [] e = absurd (false≢true e)
key_owner number scope other (owner ∷ owners) e = ⊎_elim
    (λ first. let same = same_key (owner, number) (scope, other) first in
    (subst (λ s. Contains (s ∷ owners) scope) (sym same.0) (here scope owners), same.1))
    (λ further. let rest = key_owner number scope other owners further in (there owner owners scope rest.0, rest.1))
    (or_one (is_key (owner, number) (scope, other)) (list_any (λ key. is_key key (scope, other)) (keys_of number owners)) e)

pub owner_key : (number scope : ℕ) (owners : List ℕ) → Contains owners scope → list_any (λ key. is_key key (scope, number)) (keys_of number owners) ≡ true
owner_key number scope [] c = absurd (none_in scope c)
owner_key number scope (owner ∷ owners) c = ⊎_elim
    (λ same. or_first (is_key (owner, number) (scope, number)) _ (subst (λ s. is_key (s, number) (scope, number) ≡ true) (sym same) (is_key_itself (scope, number))))
    (λ further. or_second (is_key (owner, number) (scope, number)) _ (owner_key number scope owners further))
    (one_of owner owners scope c)

-- what declares is a name
role_named : (source : Source) (role : Role) (frame : Frame) (how : DeclarationKind) → role_declares source role frame ≡ Some how → is_naming role ≡ true
role_named source is.Bound frame how e = refl
role_named source is.FunctionName frame how e = refl
role_named source is.ClassName frame how e = refl
role_named source is.Imported frame how e = refl
role_named source is.ImportedDefault frame how e = refl
role_named source is.ImportedSpace frame how e = refl
role_named source _ frame how e = absurd (none-some how e)

pub mark_named : (source : Source) (found : Option Mark) (frame : Frame) (how : DeclarationKind) → mark_declares source found frame ≡ Some how → names_it found ≡ true
mark_named source (Some (mark.Token role token)) frame how e = role_named source role frame how e
mark_named source _ frame how e = absurd (none-some how e)

owned : (place scope : ℕ) (frame : Frame) (declared : Option DeclarationKind) → Contains (owners place frame declared) scope → (how : DeclarationKind) × (declared ≡ Some how)
owned place scope frame (Some how) c = (how, refl)
owned place scope frame None c = absurd (none_in scope c)

owned_named : (source : Source) (place scope : ℕ) → Contains (owners_at source place) scope → names_it (slice_get source.marks place) ≡ true
owned_named source place scope c =
    let d = owned place scope (frame_at source place) (declared_at source place) c in
    mark_named source (slice_get source.marks place) (frame_at source place) d.0 d.1

pub numbered_name : (source : Source) (texts : List (List ℕ)) (numbers : List ℕ) (place : ℕ) → AreNumbered source texts numbers
    → names_it (slice_get source.marks place) ≡ true → place_of texts (name_at source place) ≡ Some (slice_index numbers place)
numbered_name source texts numbers place are named = by (slice_get source.marks place) refl
  where
    by : (found : Option Mark) → slice_get source.marks place ≡ found → place_of texts (name_at source place) ≡ Some (slice_index numbers place)
    by None e = absurd (false≢true (sym (ap names_it e) ∙ named))
    by (Some one_mark) e =
        let there = as_long source.marks numbers place one_mark e are.whole in
        sym (are.each place named) ∙ there.1 ∙ ap Some (sym (get_or_from_slice_get numbers place there.0 0 there.1))

-- the keys that the mark at a place gives are those of the names that it gives
module _ (source : Source) (texts : List (List ℕ)) (numbers : List ℕ) (word : ℕ) (are : AreNumbered source texts numbers) (is_word : IsArguments texts word)
    (place scope number : ℕ) (name : List ℕ) (named : place_of texts name ≡ Some number) where
  GivesName : Option Mark → Type 0
  GivesName found = Gives (gives source place found) scope name

  gives_key : Option Mark → Bool
  gives_key found = list_any (λ key. is_key key (scope, number)) (gives_numbers source (slice_index numbers place) word place found)

  owner_named : list_any (λ key. is_key key (scope, number)) (keys_of (slice_index numbers place) (owners_at source place)) ≡ true
      → Gives (given_to (name_at source place) (owners_at source place)) scope name
  owner_named e =
      let owner = key_owner (slice_index numbers place) scope number (owners_at source place) e in
      let here_named = numbered_name source texts numbers place are (owned_named source place scope owner.0) in
      let same : name_at source place ≡ name = same_name texts (name_at source place) name number (here_named ∙ ap Some owner.1) named in
      subst (λ n. Gives (given_to (name_at source place) (owners_at source place)) scope n) same
      (mapped {Y = Given} (λ other. (other, name_at source place)) (owners_at source place) scope owner.0)

  named_owner : Gives (given_to (name_at source place) (owners_at source place)) scope name
      → list_any (λ key. is_key key (scope, number)) (keys_of (slice_index numbers place) (owners_at source place)) ≡ true
  named_owner c =
      let owner = unmapped {Y = Given} (λ other. (other, name_at source place)) (owners_at source place) (scope, name) c in
      let same_scope : owner.0 ≡ scope = ap (λ (pair : Given). pair.0) owner.2 in
      let same_text : name_at source place ≡ name = ap (λ (pair : Given). pair.1) owner.2 in
      let owns : Contains (owners_at source place) scope = subst (Contains (owners_at source place)) same_scope owner.1 in
      let here_named = numbered_name source texts numbers place are (owned_named source place scope owns) in
      let same_number : slice_index numbers place ≡ number = same_Some (slice_index numbers place) number (sym here_named ∙ ap (place_of texts) same_text ∙ named) in
      subst (λ n. list_any (λ key. is_key key (scope, n)) (keys_of (slice_index numbers place) (owners_at source place)) ≡ true) same_number
      (owner_key (slice_index numbers place) scope (owners_at source place) owns)

  -- a function gives its scope the name `arguments`
  word_named : (is_key (place + 1, word) (scope, number) || false) ≡ true → Gives ((place + 1, arguments) ∷ []) scope name
  word_named e = ⊎_elim
      (λ first. let same = same_key (place + 1, word) (scope, number) first in
      let text : arguments ≡ name = same_name texts arguments name number (is_word ∙ ap Some same.1) named in
      subst (λ s. Gives ((s, arguments) ∷ []) scope name) (sym same.0) (subst (λ n. Gives ((scope, n) ∷ []) scope name) (sym text) (here {X = Given} (scope, name) [])))
      (λ further. absurd (false≢true further)) (or_one (is_key (place + 1, word) (scope, number)) false e)

  named_word : Gives ((place + 1, arguments) ∷ []) scope name → (is_key (place + 1, word) (scope, number) || false) ≡ true
  named_word c = ⊎_elim
      (λ first. let same_scope : place + 1 ≡ scope = ap (λ (pair : Given). pair.0) first in
      let same_text : arguments ≡ name = ap (λ (pair : Given). pair.1) first in
      let same_number : word ≡ number = same_Some word number (sym is_word ∙ ap (place_of texts) same_text ∙ named) in
      or_first (is_key (place + 1, word) (scope, number)) false (subst (λ s. is_key (s, word) (scope, number) ≡ true) (sym same_scope)
      (subst (λ n. is_key (scope, n) (scope, number) ≡ true) (sym same_number) (is_key_itself (scope, number)))))
      (λ further. absurd (none_in {X = Given} (scope, name) further)) (one_of {X = Given} (place + 1, arguments) [] (scope, name) c)

  name_of_key : (found : Option Mark) → gives_key found ≡ true → GivesName found
  unfolding GivesName gives_key
  name_of_key (Some (mark.Begin part.Function)) e = word_named e
  name_of_key _ e = owner_named e

  key_of_name : (found : Option Mark) → GivesName found → gives_key found ≡ true
  unfolding GivesName gives_key
  key_of_name (Some (mark.Begin part.Function)) c = named_word c
  key_of_name _ c = named_owner c

  told_here : (was : Option ℕ) (given : Bool) → gives_key (slice_get source.marks place) ≡ given → IsFirst source place scope name was
      → IsFirst source (place + 1) scope name (told_at given place was)
  unfolding GivesName gives_key
  told_here (Some before) true e first = first_given source place scope name (Some before) (name_of_key (slice_get source.marks place) e) first
  told_here None true e first = first_given source place scope name None (name_of_key (slice_get source.marks place) e) first
  told_here was false e first = first_kept source place scope name was (λ c. false≢true (sym e ∙ key_of_name (slice_get source.marks place) c)) first

  one_place_at : (old new : Entries) → Tells (given_numbers source numbers word place) place old new → IsFirst source place scope name (told old scope number)
      → IsFirst source (place + 1) scope name (told new scope number)
  unfolding gives_key
  one_place_at old new tells first = subst (IsFirst source (place + 1) scope name) (sym (tells scope number))
      (told_here (told old scope number) (gives_key (slice_get source.marks place)) refl first)

pub no_place : (source : Source) (texts : List (List ℕ)) (entries : Entries) → entries ≡ [] → AreFirst source texts 0 (told entries)
no_place source texts entries none = subst (λ (some : Entries). AreFirst source texts 0 (told some)) (sym none) (λ scope number name named. first_none source scope name)

pub all_places : (source : Source) (texts : List (List ℕ)) (entries : Entries) (marks : Marks) (place : ℕ) → marks ≡ source.marks → length marks ≤ place
    → place ≤ length marks → AreFirst source texts place (told entries) → AreFirst source texts (length source.marks) (told entries)
all_places source texts entries marks place same most least first =
    subst (λ n. AreFirst source texts n (told entries)) (omega (arith, ap length same)) first

pub one_place : (source : Source) (texts : List (List ℕ)) (numbers : List ℕ) (word : ℕ) → AreNumbered source texts numbers → IsArguments texts word → (place : ℕ)
    (old new : Entries) → Tells (given_numbers source numbers word place) place old new → AreFirst source texts place (told old)
    → AreFirst source texts (place + 1) (told new)
one_place source texts numbers word are is_word place old new tells first scope number name named =
    one_place_at source texts numbers word are is_word place scope number name named old new tells (first scope number name named)

-- numbers that are told are those of names
pub place_within : (texts : List (List ℕ)) (name : List ℕ) (number : ℕ) → place_of texts name ≡ Some number → number < length texts
place_within texts name number is = (position-Some (bytes_eq name) texts number name is).0

module _ (source : Source) (texts : List (List ℕ)) (numbers : List ℕ) (word : ℕ) (are : AreNumbered source texts numbers) (is_word : IsArguments texts word)
    (place scope number : ℕ) where
  key_known : (found : Option Mark) → list_any (λ key. is_key key (scope, number)) (gives_numbers source (slice_index numbers place) word place found) ≡ true
      → number < length texts
  key_known (Some (mark.Begin part.Function)) e = ⊎_elim
      (λ first. subst (λ n. n < length texts) (same_key (place + 1, word) (scope, number) first).1 (place_within texts arguments word is_word))
      (λ further. absurd (false≢true further)) (or_one (is_key (place + 1, word) (scope, number)) false e)
  key_known _ e =
      let owner = key_owner (slice_index numbers place) scope number (owners_at source place) e in
      let here_named = numbered_name source texts numbers place are (owned_named source place scope owner.0) in
      subst (λ n. n < length texts) owner.1 (place_within texts (name_at source place) (slice_index numbers place) here_named)

  told_known : (was : Option ℕ) (given : Bool) → list_any (λ key. is_key key (scope, number)) (given_numbers source numbers word place) ≡ given
      → (IsSome was → number < length texts) → IsSome (told_at given place was) → number < length texts
  told_known was true e known some = key_known (slice_get source.marks place) e
  told_known was false e known some = known some

pub none_known : (texts : List (List ℕ)) (entries : Entries) → entries ≡ [] → AreNamed texts (told entries)
none_known texts entries none = subst (λ (some : Entries). AreNamed texts (told some)) (sym none) (λ scope number some. absurd (false≢true some))

pub one_known : (source : Source) (texts : List (List ℕ)) (numbers : List ℕ) (word : ℕ) → AreNumbered source texts numbers → IsArguments texts word → (place : ℕ)
    (old new : Entries) → Tells (given_numbers source numbers word place) place old new → AreNamed texts (told old) → AreNamed texts (told new)
one_known source texts numbers word are is_word place old new tells known scope number some =
    told_known source texts numbers word are is_word place scope number (told old scope number) (list_any (λ key. is_key key (scope, number)) (given_numbers source numbers word place))
    refl (known scope number) (subst IsSome (tells scope number) some)

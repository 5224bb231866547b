-- What is told of a place is what it asks for.
use Rattle.std.proofs.Common.{◌≡◌, ◌<◌, ℕ, ◌+◌, ◌&&◌, Bool, true, false, cond, is_some, List, Option, Some, None, slice_get, length, codes, refl, sym, ap, subst, ◌∙◌, arith, true≢false}
use Rattle.std.proofs.lemmas.Option.{none-some, same_Some}
use Rattle.pk_types.proofs.ListMembers.{both, first_so, second_so}
use Rattle.es_tree.specs.declared.tokens.ProgramGoal.{ProgramGoal}
use Rattle.es_tree.specs.declared.tokens.ProgramGoal.TheVariants.{Script, Module}
use Rattle.es_outline.specs.declared.mark.Mark.{Mark}
use Rattle.es_outline.specs.declared.mark.Mark.TheVariants as mark
use Rattle.es_outline.specs.declared.mark.Role.TheVariants as is
use Rattle.pk_types.specs.declared.facts.Request.{Request}
use Rattle.es_scope.specs.Source.{Source, HasRole}
use Rattle.es_scope.specs.Telling.{Told, AreScopes}
use Rattle.es_scope.specs.Asking.{AsksFor, TextArgument, CallsRequire, IsString, require}
use Rattle.es_asks.specs.declared.requests.Manner.{Manner}
use Rattle.es_asks.specs.declared.requests.Manner.TheVariants as manner
use Rattle.es_asks.specs.declared.asking.Asking.{Asking}
use Rattle.es_asks.specs.Texts.{text_at, is_string, argument_end, asks_for_json, is_call_word, spells}
use Rattle.es_asks.specs.Forwarding.{AreForwarded}
use Rattle.es_asks.specs.Free.{is_free_named, is_free, refers, is_call, require_end}
use Rattle.es_asks.specs.Requested.{request_of}
use Rattle.es_asks.specs.Asked.{is_script, declared, imported, required, is_request, asked_at, asked_for}
use Rattle.es_asks.proofs.TextLaws.{guarded, string_there, there_string, argument_there, there_argument, json_is, spelled_within}
use Rattle.es_asks.proofs.FreeLaws.{require_there, there_require}

-- the text of a call is a place
pub text_within : (source : Source) (told : Told) (forwarded : List ℕ) (place right : ℕ) → require_end source told forwarded place ≡ Some right
    → place + 2 < length source.marks
text_within source told forwarded place right e =
    let calls = guarded (is_call (slice_get source.marks (place + 1)) && is_free_named source told forwarded place require) (argument_end source (place + 2)) right e in
    let begins = guarded (spells source (place + 2) (codes "(") && is_string source (place + 2 + 1)) _ right calls.1 in
    spelled_within source (place + 2) _ _ (first_so (spells source (place + 2) (codes "(")) (is_string source (place + 2 + 1)) begins.0)

-- declarations
how_asks : (source : Source) (place : ℕ) (value : List ℕ) (json : Bool) → asks_for_json source place ≡ json → HasRole source place is.Request → IsString source place value
    → AsksFor source place (request_of value (cond json manner.Json manner.Import))
how_asks source place value true e role s = AsksFor.json value role s ((json_is source place).0 e)
how_asks source place value false e role s = AsksFor.declared value role s (λ j. true≢false (sym ((json_is source place).1 j) ∙ e))

pub request_role : (source : Source) (place : ℕ) (there : Option Mark) → slice_get source.marks place ≡ there → is_request there ≡ true → HasRole source place is.Request
request_role source place (Some (mark.Token is.Request token)) at e = (token, at)
request_role source place _ at e = absurd (true≢false (sym e))

declared_there : (source : Source) (place : ℕ) (asking : Asking) → HasRole source place is.Request → declared source place ≡ Some asking
    → AsksFor source place (asked_for source asking)
declared_there source place asking role e =
    let found = guarded (is_string source place) _ asking e in
    subst (λ (a : Asking). AsksFor source place (asked_for source a)) (same_Some _ asking found.1)
    (how_asks source place (text_at source place) (asks_for_json source place) refl role (there_string source place found.0))

-- calls
some_of : (found : Option ℕ) → is_some found ≡ true → (right : ℕ) × (found ≡ Some right)
some_of (Some right) e = (right, refl)
some_of None e = absurd (true≢false (sym e))

call_role : (source : Source) (place : ℕ) (there : Option Mark) → slice_get source.marks place ≡ there → is_call_word there ≡ true → HasRole source place is.ImportCall
call_role source place (Some (mark.Token is.ImportCall token)) at e = (token, at)
call_role source place _ at e = absurd (true≢false (sym e))

imported_there : (source : Source) (place : ℕ) (asking : Asking) → HasRole source place is.ImportCall → imported source place ≡ Some asking
    → AsksFor source place (asked_for source asking)
imported_there source place asking role e =
    let found = guarded (is_some (argument_end source (place + 1))) _ asking e in
    let end = some_of (argument_end source (place + 1)) found.0 in
    let argument = subst (λ p. TextArgument source (place + 1) (text_at source p) end.0) (omega arith) (argument_there source (place + 1) end.0 end.1) in
    subst (λ (a : Asking). AsksFor source place (asked_for source a)) (same_Some _ asking found.1)
    (AsksFor.imported (text_at source (place + 2)) end.0 (record { word = role; argument = argument }))

script_is : (goal : ProgramGoal) → is_script goal ≡ true → goal ≡ Script
script_is Script e = refl
script_is Module e = absurd (true≢false (sym e))

module _ (source : Source) (told : Told) (forwarded : List ℕ) (are : AreScopes source told) (forward : source.goal ≡ Script → AreForwarded source forwarded) (place : ℕ) where
  required_there : (asking : Asking) → required source told forwarded place ≡ Some asking → AsksFor source place (asked_for source asking)
  required_there asking e =
      let found = guarded (is_script source.goal && is_some (require_end source told forwarded place)) _ asking e in
      let end = some_of (require_end source told forwarded place) (second_so (is_script source.goal) (is_some (require_end source told forwarded place)) found.0) in
      let script = script_is source.goal (first_so (is_script source.goal) (is_some (require_end source told forwarded place)) found.0) in
      let calls = subst (λ p. CallsRequire source place (text_at source p) end.0) (omega arith) (require_there source told forwarded are (forward script) place end.0 end.1) in
      subst (λ (a : Asking). AsksFor source place (asked_for source a)) (same_Some _ asking found.1)
      (AsksFor.required (text_at source (place + 3)) end.0 script calls)

  there_by : (asking : Asking) (b c : Bool) → is_request (slice_get source.marks place) ≡ b → is_call_word (slice_get source.marks place) ≡ c
      → cond b (declared source place) (cond c (imported source place) (required source told forwarded place)) ≡ Some asking
      → AsksFor source place (asked_for source asking)
  there_by asking true c e f is = declared_there source place asking (request_role source place (slice_get source.marks place) refl e) is
  there_by asking false true e f is = imported_there source place asking (call_role source place (slice_get source.marks place) refl f) is
  there_by asking false false e f is = required_there asking is

  -- what is told is asked for
  pub asked_there : (asking : Asking) → asked_at source told forwarded place ≡ Some asking → AsksFor source place (asked_for source asking)
  asked_there asking is = there_by asking _ _ refl refl is

  -- and what is asked for is told
  abbrev IsAskedAt : Request → Type 0
  IsAskedAt request = (asking : Asking) × (asked_at source told forwarded place ≡ Some asking) × (asked_for source asking ≡ request)

  refers_so : (there : Option Mark) (b : Bool) → refers there b ≡ true → (is_request there ≡ false) × (is_call_word there ≡ false)
  refers_so (Some (mark.Token is.Reference token)) b e = (refl, refl)
  refers_so (Some (mark.Token is.Exported token)) b e = (refl, refl)
  refers_so _ b e = absurd (true≢false (sym e))

  requests_told : (request : Request) (value : List ℕ) (json : Bool) → asks_for_json source place ≡ json → HasRole source place is.Request → IsString source place value
      → request_of value (cond json manner.Json manner.Import) ≡ request → IsAskedAt request
  requests_told request value json e role s same =
      let text = string_there source place value s in
      let how : Manner = cond json manner.Json manner.Import in (
        record { text = place; how = how },
        ap (λ (there : Option Mark). cond (is_request there) (declared source place) (cond (is_call_word there) (imported source place) (required source told forwarded place))) role.1
            ∙ ap (λ b. cond b (Some (record { text = place; how = cond (asks_for_json source place) manner.Json manner.Import })) None) text.0
            ∙ ap (λ b. Some (record { text = place; how = cond b manner.Json manner.Import })) e,
        ap (λ (v : List ℕ). request_of v how) text.1 ∙ same,
      )

  calls_told : (value : List ℕ) (right : ℕ) → HasRole source place is.ImportCall → TextArgument source (place + 1) value right → IsAskedAt (request_of value manner.Import)
  calls_told value right role argument =
      let found = there_argument source (place + 1) value right argument in (
        record { text = place + 2; how = manner.Import },
        ap (λ (there : Option Mark). cond (is_request there) (declared source place) (cond (is_call_word there) (imported source place) (required source told forwarded place))) role.1
            ∙ ap (λ (end : Option ℕ). cond (is_some end) (Some (record { text = place + 2; how = manner.Import })) None) found.0,
        ap (λ (v : List ℕ). request_of v manner.Import) (ap (λ p. text_at source p) (omega arith) ∙ found.1),
      )

  requires_told : (value : List ℕ) (right : ℕ) → source.goal ≡ Script → CallsRequire source place value right → IsAskedAt (request_of value manner.Require)
  requires_told value right goal calls =
      let found = there_require source told forwarded are (forward goal) place value right calls in
      let free = guarded (is_call (slice_get source.marks (place + 1)) && is_free_named source told forwarded place require) (argument_end source (place + 2)) right found.0 in
      let is_named = second_so (is_call (slice_get source.marks (place + 1))) (is_free_named source told forwarded place require) free.0 in
      let unnamed = first_so (is_free source told forwarded place) _ is_named in
      let other = refers_so (slice_get source.marks place) _ (first_so (refers (slice_get source.marks place) _) _ unnamed) in (
        record { text = place + 3; how = manner.Require },
        ap (λ b. cond b (declared source place) (cond (is_call_word (slice_get source.marks place)) (imported source place) (required source told forwarded place))) other.0
            ∙ ap (λ b. cond b (imported source place) (required source told forwarded place)) other.1
            ∙ ap (λ b. cond b (Some (record { text = place + 3; how = manner.Require })) None)
            (both (is_script source.goal) (is_some (require_end source told forwarded place)) (ap is_script goal) (ap is_some found.0)),
        ap (λ (v : List ℕ). request_of v manner.Require) (ap (λ p. text_at source p) (omega arith) ∙ found.1),
      )

  pub there_asked : (request : Request) → AsksFor source place request → IsAskedAt request
  there_asked _ (AsksFor.declared value role s not_json) = requests_told _ value false (json_not (asks_for_json source place) refl) role s refl
    where
      json_not : (b : Bool) → asks_for_json source place ≡ b → asks_for_json source place ≡ false
      json_not true e = absurd (not_json ((json_is source place).0 e))
      json_not false e = e
  there_asked _ (AsksFor.json value role s j) = requests_told _ value true ((json_is source place).1 j) role s refl
  there_asked _ (AsksFor.imported value right h) = calls_told value right h.word h.argument
  there_asked _ (AsksFor.required value right goal h) = requires_told value right goal h

  -- a place asks for one request at most
  pub asks_once : (request other : Request) → AsksFor source place request → AsksFor source place other → request ≡ other
  asks_once request other h also =
      let one = there_asked request h in
      let two = there_asked other also in
      let same = same_Some one.0 two.0 (sym one.1 ∙ two.1) in
      sym one.2 ∙ ap (asked_for source) same ∙ two.2

  -- where nothing is told nothing is asked for
  pub nothing_asked : asked_at source told forwarded place ≡ None → (request : Request) → ¬ AsksFor source place request
  nothing_asked none request h = let one = there_asked request h in none-some one.0 (sym none ∙ one.1)

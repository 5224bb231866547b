-- Requests and their numbers, when a request is noted.
use Rattle.std.proofs.Common.{◌≡◌, ◌≢◌, ◌⊎◌, inl, inr, ⊎_elim, ℕ, Bool, true, false, cond, List, [], ◌∷◌, ◌++◌, Option, Some, None, Contains, slice_get, length, refl, sym, ap, subst, ◌∙◌, arith, true≢false}
use Rattle.std.specs.Prelude.{unwrap_or}
use Rattle.std.specs.Map.{lookup}
use Rattle.std.specs.Str.{bytes_eq}
use Rattle.std.proofs.lemmas.Option.{none-some, same_Some}
use Rattle.std.proofs.lemmas.List.Elements.{Contains-append_cases}
use Rattle.std.proofs.lemmas.Slice.Eq.{bytes_eq-Decides}
use Rattle.pk_types.proofs.ListMembers.{none_in, one_of}
use Rattle.pk_types.proofs.Members.{at_left, at_right, Contains-at}
use Rattle.pk_types.specs.declared.form.Form.{Form}
use Rattle.pk_types.specs.declared.form.Form.TheVariants as form
use Rattle.pk_types.specs.declared.facts.Request.{Request}
use Rattle.es_asks.specs.declared.requests.Manner.{Manner}
use Rattle.es_asks.specs.declared.requests.Manner.TheVariants as manner
use Rattle.es_asks.specs.declared.requests.Numbers.{Numbers}
use Rattle.es_asks.specs.Requested.{form_of, is_json, request_of, no_number, number_in, with_number, Entries, number_told, told, Tells, IsNumbered, AreKeyed, Notes, Takes}

-- manners
same_manner : (how way : Manner) → (how ≡ way) ⊎ (how ≢ way)
same_manner manner.Import manner.Import = inl refl
same_manner manner.Json manner.Json = inl refl
same_manner manner.Require manner.Require = inl refl
same_manner _ _ = inr (λ e. cc)

abbrev manner_of : Form → Bool → Manner
manner_of form.Require is_json = manner.Require
manner_of form.Import true = manner.Json
manner_of form.Import false = manner.Import

own_manner : (how : Manner) → manner_of (form_of how) (is_json how) ≡ how
own_manner manner.Import = refl
own_manner manner.Json = refl
own_manner manner.Require = refl

request_text : (text other : List ℕ) (how way : Manner) → request_of text how ≡ request_of other way → text ≡ other
request_text text other how way e = ap (λ (r : Request). r.text) e

request_manner : (text other : List ℕ) (how way : Manner) → request_of text how ≡ request_of other way → how ≡ way
request_manner text other how way e = sym (own_manner how) ∙ ap (λ (r : Request). manner_of r.form r.json) e ∙ own_manner way

-- numbers by manners
number_with : (how : Manner) (number : ℕ) (numbers : Numbers) → number_in how (with_number how number numbers) ≡ Some number
number_with manner.Import number numbers = refl
number_with manner.Json number numbers = refl
number_with manner.Require number numbers = refl

other_with : (how way : Manner) (number : ℕ) (numbers : Numbers) → how ≢ way → number_in way (with_number how number numbers) ≡ number_in way numbers
other_with manner.Import manner.Import number numbers unlike = absurd (unlike refl)
other_with manner.Import manner.Json number numbers unlike = refl
other_with manner.Import manner.Require number numbers unlike = refl
other_with manner.Json manner.Import number numbers unlike = refl
other_with manner.Json manner.Json number numbers unlike = absurd (unlike refl)
other_with manner.Json manner.Require number numbers unlike = refl
other_with manner.Require manner.Import number numbers unlike = refl
other_with manner.Require manner.Json number numbers unlike = refl
other_with manner.Require manner.Require number numbers unlike = absurd (unlike refl)

none_has : (how : Manner) → number_in how no_number ≡ None
none_has manner.Import = refl
none_has manner.Json = refl
none_has manner.Require = refl

number_or_none : (how : Manner) (found : Option Numbers) → number_in how (unwrap_or found no_number) ≡ number_told how found
number_or_none how None = none_has how
number_or_none how (Some numbers) = refl

-- a request that is noted
module _ (requests : List Request) (request : Request) where
  more_numbered : (other : Request) (number : Option ℕ) → request ≢ other → IsNumbered requests other number → IsNumbered (requests ++ request ∷ []) other number
  more_numbered other _ unlike (IsNumbered.none none) = IsNumbered.none (λ c. ⊎_elim none
      (λ last. ⊎_elim unlike (λ nothing. none_in other nothing) (one_of request [] other last)) (Contains-append_cases requests (request ∷ []) other c))
  more_numbered other _ unlike (IsNumbered.some number at) = IsNumbered.some number (at_left requests (request ∷ []) number other at)

  pub noted_last : slice_get (requests ++ request ∷ []) (length requests) ≡ Some request
  noted_last = subst (λ n. slice_get (requests ++ request ∷ []) n ≡ Some request) (omega arith) (at_right requests (request ∷ []) 0 request refl)

module _ (requests : List Request) (entries more : Entries) (text : List ℕ) (how : Manner) (keyed : AreKeyed entries requests)
    (tells : Tells text how (length requests) entries more) where
  abbrev written : Option Numbers
  written = Some (with_number how (length requests) (unwrap_or (lookup (bytes_eq text) entries) no_number))

  keyed_by : (other : List ℕ) (way : Manner) (b : Bool) → bytes_eq text other ≡ b
      → IsNumbered (requests ++ request_of text how ∷ []) (request_of other way) (number_told way (cond b written (lookup (bytes_eq other) entries)))
  keyed_by other way false e =
      more_numbered requests (request_of text how) (request_of other way) (told entries other way)
      (λ same. true≢false (sym ((bytes_eq-Decides text other).1 (request_text text other how way same)) ∙ e)) (keyed other way)
  keyed_by other way true e = by (same_manner how way)
    where
      same_text : text ≡ other
      same_text = (bytes_eq-Decides text other).0 e

      by : (how ≡ way) ⊎ (how ≢ way) → IsNumbered (requests ++ request_of text how ∷ []) (request_of other way) (number_told way written)
      by (inl same) =
          subst (λ (t : List ℕ). IsNumbered (requests ++ request_of text how ∷ []) (request_of t way) (number_told way written)) same_text
          (subst (λ (w : Manner). IsNumbered (requests ++ request_of text how ∷ []) (request_of text w) (number_told w written)) same
          (subst (IsNumbered (requests ++ request_of text how ∷ []) (request_of text how)) (sym (number_with how (length requests) _))
          (IsNumbered.some (length requests) (noted_last requests (request_of text how)))))
      by (inr unlike) =
          let same_number : number_told way written ≡ told entries text way =
          other_with how way (length requests) _ unlike ∙ number_or_none way (lookup (bytes_eq text) entries) in
          subst (λ (t : List ℕ). IsNumbered (requests ++ request_of text how ∷ []) (request_of t way) (number_told way written)) same_text
          (subst (IsNumbered (requests ++ request_of text how ∷ []) (request_of text way)) (sym same_number)
          (more_numbered requests (request_of text how) (request_of text way) (told entries text way)
          (λ same. unlike (request_manner text text how way same)) (keyed text way)))

  pub keyed_more : AreKeyed more (requests ++ request_of text how ∷ [])
  keyed_more other way = subst (λ (l : Option Numbers). IsNumbered (requests ++ request_of text how ∷ []) (request_of other way) (number_told way l))
      (sym (tells other)) (keyed_by other way (bytes_eq text other) refl)

-- what is told
known_by : (requests : List Request) (request : Request) (number : ℕ) (found : Option ℕ) → found ≡ Some number → IsNumbered requests request found
    → slice_get requests number ≡ Some request
known_by requests request number _ e (IsNumbered.none none) = absurd (none-some number e)
known_by requests request number _ e (IsNumbered.some other at) = subst (λ n. slice_get requests n ≡ Some request) (same_Some other number e) at

pub known_taken : (requests : List Request) (entries : Entries) (text : List ℕ) (how : Manner) (number : ℕ) → AreKeyed entries requests
    → told entries text how ≡ Some number → Takes requests requests (request_of text how) number
known_taken requests entries text how number keyed e =
    let at = known_by requests (request_of text how) number (told entries text how) e (keyed text how) in
    record { notes = Notes.known (Contains-at requests number (request_of text how) at); stands = at }

absent_by : (requests : List Request) (request : Request) (found : Option ℕ) → found ≡ None → IsNumbered requests request found → ¬ Contains requests request
absent_by requests request _ e (IsNumbered.none none) = none
absent_by requests request _ e (IsNumbered.some other at) = cc

pub fresh_taken : (requests more : List Request) (entries : Entries) (text : List ℕ) (how : Manner) → AreKeyed entries requests → told entries text how ≡ None
    → more ≡ requests ++ request_of text how ∷ [] → Takes requests more (request_of text how) (length requests)
fresh_taken requests more entries text how keyed e pushed =
    subst (λ (l : List Request). Takes requests l (request_of text how) (length requests)) (sym pushed) (record {
      notes = Notes.fresh (absent_by requests (request_of text how) (told entries text how) e (keyed text how));
      stands = noted_last requests (request_of text how);
    })

-- no request
pub none_keyed : (entries : Entries) (requests : List Request) → entries ≡ [] → requests ≡ [] → AreKeyed entries requests
none_keyed entries requests empty none text how =
    subst (λ (e : Entries). IsNumbered requests (request_of text how) (told e text how)) (sym empty)
    (IsNumbered.none (λ c. none_in (request_of text how) (subst (λ (l : List Request). Contains l (request_of text how)) none c)))

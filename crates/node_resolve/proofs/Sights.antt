-- What stands at the path of a manifest: what its bytes show, and that they show something.
use Rattle.std.proofs.Common.{◌≡◌, ℕ, ◌≤◌, Bool, true, false, List, [], ◌∷◌, length, Option, None, Some, sym, refl, subst, ap, ◌∙◌, inl, inr}
use Rattle.std.proofs.lemmas.Bool.{cases_Bool, cases_lt, false≢true}
use Rattle.std.proofs.lemmas.Option.{none-some}
use Rattle.std.proofs.lemmas.Str.{is_utf8-from_IsUtf8, IsUtf8-from_is_utf8}
use Rattle.std.specs.Str.{is_utf8}
use Rattle.json.specs.Json as read
use Rattle.json.specs.Json.{parse_map, value}
use Rattle.json.specs.Lex.{tokens}
use Rattle.json.specs.Token.{Token}
use Rattle.pk_types.specs.declared.limits.TheConstants.{MAX_FILE_LEN}
use Rattle.pkg_manifest.specs.declared.value.Json.{Json, roll-Json, out-roll-Json}
use Rattle.pkg_manifest.specs.declared.value.Json.TheOpen.{Json-F}
use Rattle.pkg_manifest.specs.declared.value.Json.TheVariants as json
use Rattle.pkg_manifest.specs.declared.value.Member.{Member}
use Rattle.pkg_manifest.specs.declared.package.Manifest.{Manifest}
use Rattle.pkg_manifest.specs.Fields.{manifest_of, is_object}
use Rattle.pkg_manifest.specs.Grammar.{StandsFor, max_nest, without_mark}
use Rattle.pkg_manifest.specs.Members.{merged}
use Rattle.pkg_manifest.specs.Reading.{kept, kept_items, kept_members}
use Rattle.pkg_manifest.proofs.Sound.{some_pair}
use Rattle.pkg_manifest.proofs.Whole.{one_value, whole_found, whole_made}
use Rattle.node_resolve.specs.declared.sight.Sight.{Sight}
use Rattle.node_resolve.specs.declared.sight.Sight.TheVariants.{Absent, Bad, Says}
use Rattle.node_resolve.specs.declared.look.Bytes.TheVariants as bytes
use Rattle.node_resolve.specs.Manifests.{AreBytes, none, longer, here, IsSight, absent, long, bad, says}

-- ---- what was found

pub sight_absent : (held : Option (List ℕ)) → AreBytes held bytes.Absent → IsSight held Absent
sight_absent held none = absent

pub sight_longer : (held : Option (List ℕ)) → AreBytes held bytes.Longer → IsSight held Bad
sight_longer held (longer h) = long h

pub sight_here : (held : Option (List ℕ)) (text : List ℕ) (sight : Sight) → (length text ≤ MAX_FILE_LEN → IsSight (Some text) sight) → AreBytes held (bytes.Here text) → IsSight held sight
sight_here held text sight shown (here h) = shown h

-- ---- what the bytes of a file say

object_rolled : (ms : List (Member Json)) → is_object (roll-Json (Json-F.Object ms)) ≡ true
object_rolled ms = rw out-roll-Json

is_object-Object : (ms : List (Member Json)) → is_object (json.Object ms) ≡ true
is_object-Object ms = ap is_object (sym (json.rolls-Object ms)) ∙ object_rolled ms

null_rolled : is_object (roll-Json Json-F.Null) ≡ false
null_rolled = rw out-roll-Json

bool_rolled : (b : Bool) → is_object (roll-Json (Json-F.Bool b)) ≡ false
bool_rolled b = rw out-roll-Json

number_rolled : is_object (roll-Json Json-F.Number) ≡ false
number_rolled = rw out-roll-Json

text_rolled : (s : List ℕ) → is_object (roll-Json (Json-F.Text s)) ≡ false
text_rolled s = rw out-roll-Json

list_rolled : (js : List Json) → is_object (roll-Json (Json-F.List js)) ≡ false
list_rolled js = rw out-roll-Json

module _ (text bytes : List ℕ) (same : bytes ≡ text) where
  pub sight_says : (said : Manifest) → length text ≤ MAX_FILE_LEN → (ms : List (Member Json)) × StandsFor bytes (json.Object ms) × (said ≡ manifest_of ms) → IsSight (Some text) (Says said)
  sight_says said short w = subst (λ s. IsSight (Some text) (Says s)) (sym w.2) (says short w.0 (subst (λ b. StandsFor b (json.Object w.0)) same w.1))

  pub sight_no_json : ((j : Json) → ¬ StandsFor bytes j) → IsSight (Some text) Bad
  sight_no_json no_value = bad (λ ms h. no_value (json.Object ms) (subst (λ b. StandsFor b (json.Object ms)) (sym same) h))

  pub sight_no_object : (j : Json) × StandsFor bytes j × (is_object j ≡ false) → IsSight (Some text) Bad
  sight_no_object w = bad (λ ms h. false≢true (sym w.2 ∙ ap is_object (one_value bytes w.0 (json.Object ms) w.1 (subst (λ b. StandsFor b (json.Object ms)) (sym same) h)) ∙ is_object-Object ms))

-- ---- there is a sight of whatever is held

abbrev Shows : Option (List ℕ) → Type 0
Shows held = (sight : Sight) × IsSight held sight

module _ (held : List ℕ) (short : length held ≤ MAX_FILE_LEN) where
  shows_bad : ((ms : List (Member Json)) → ¬ StandsFor held (json.Object ms)) → Shows (Some held)
  shows_bad no_object = (Bad, bad no_object)

  -- a value that is no object
  shows_other : (j : Json) → is_object j ≡ false → ((k : Json) → StandsFor held k → j ≡ k) → Shows (Some held)
  shows_other j other only = shows_bad (λ ms h. false≢true (sym other ∙ ap is_object (only (json.Object ms) h) ∙ is_object-Object ms))

  -- what was read, with what is left
  shows_read : (r : read.Json) (ts : List Token) → ((j : Json) → StandsFor held j → (kept r ≡ j) × (ts ≡ [])) → (ts ≡ [] → StandsFor held (kept r)) → Shows (Some held)
  shows_read r (t ∷ ts) made found = shows_bad (λ ms h. absurd (cc (made (json.Object ms) h).1))
  shows_read read.null [] made found = shows_other json.Null (ap is_object (sym json.rolls-Null) ∙ null_rolled) (λ j h. (made j h).0)
  shows_read (read.boolean b) [] made found = shows_other (json.Bool b) (ap is_object (sym (json.rolls-Bool b)) ∙ bool_rolled b) (λ j h. (made j h).0)
  shows_read (read.number s) [] made found = shows_other json.Number (ap is_object (sym json.rolls-Number) ∙ number_rolled) (λ j h. (made j h).0)
  shows_read (read.string s) [] made found = shows_other (json.Text s) (ap is_object (sym (json.rolls-Text s)) ∙ text_rolled s) (λ j h. (made j h).0)
  shows_read (read.array js) [] made found = shows_other (json.List (kept_items js)) (ap is_object (sym (json.rolls-List (kept_items js))) ∙ list_rolled (kept_items js)) (λ j h. (made j h).0)
  shows_read (read.object ms) [] made found = (Says (manifest_of (merged (kept_members ms))), says short (merged (kept_members ms)) (found refl))

  shows_some : (r : Option (read.Json × List Token)) → ((j : Json) → StandsFor held j → parse_map kept r ≡ Some (j, [])) → ((j : Json) → parse_map kept r ≡ Some (j, []) → StandsFor held j) → Shows (Some held)
  shows_some None made found = shows_bad (λ ms h. none-some _ (made (json.Object ms) h))
  shows_some (Some (r, ts)) made found = shows_read r ts (λ j h. some_pair (kept r) j ts [] (made j h)) (λ e. found (kept r) (ap (λ l. Some (kept r, l)) e))

  shows_short : Shows (Some held)
  shows_short = elim (cases_Bool (is_utf8 (without_mark held))) [
    | inl t ↦ shows_some (value max_nest (tokens (without_mark held))) (λ j h. whole_made held j h) (λ j e. whole_found held j (IsUtf8-from_is_utf8 _ t) e)
    | inr f ↦ shows_bad (λ ms h. false≢true (sym f ∙ is_utf8-from_IsUtf8 _ h.utf8))
  ]

pub shows : (held : Option (List ℕ)) → Shows held
shows None = (Absent, absent)
shows (Some held) = elim (cases_lt MAX_FILE_LEN (length held)) [
  | inl h ↦ (Bad, long h)
  | inr h ↦ shows_short held h
]

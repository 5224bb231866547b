-- What a file answers, case by case.
use Rattle.std.proofs.Common.{◌≡◌, ◌≢◌, ◌⊎◌, ℕ, List, Bool, true, false, map, Some, None, Result, Ok, Err, inl, inr, refl, sym, ap, ◌∙◌}
use Rattle.std.specs.List.{list_all}
use Rattle.std.specs.Str.{IsUtf8, is_utf8}
use Rattle.std.proofs.lemmas.Str.{IsUtf8-from_is_utf8, is_utf8-from_IsUtf8}
use Rattle.json.specs.Lex.{tokens}
use Rattle.pk_types.specs.declared.settings.Config.{Config}
use Rattle.serde_json.specs.Data.{Data, null, boolean, number, string, array, object, Members}
use Rattle.serde_json.specs.Find.{as_object}
use Rattle.serde_json.specs.Read.{read}
use Rattle.pack_config.specs.declared.fault.ConfigFault.{ConfigFault}
use Rattle.pack_config.specs.declared.fault.ConfigFault.TheVariants.{BadJson, Unknown, BadValue, NoEntry, NoMemory}
use Rattle.pack_config.specs.Faults.{first_fault, top_fault}
use Rattle.pack_config.specs.Reading.{plain, is_good, value_of_tokens, value_of_text}
use Rattle.pack_config.specs.Settings.{config_of}
use Rattle.pack_config.specs.Config.{unless_fault, settings_of}

pub value_of_text-bad : (text : List ℕ) → list_all is_good (tokens text) ≡ false → value_of_text text ≡ None
unfolding value_of_text
value_of_text-bad text bad = rw bad refl

pub value_of_text-good : (text other : List ℕ) → list_all is_good (tokens text) ≡ true → tokens other ≡ map plain (tokens text) → value_of_text text ≡ read other
unfolding value_of_text
value_of_text-good text other good same = rw good (ap value_of_tokens (sym same))

-- an object is all of a value that shows its members
object_of : (d : Data) (ms : Members) → as_object d ≡ Some ms → d ≡ object ms
object_of null ms e = absurd (cc)
object_of (boolean b) ms e = absurd (cc)
object_of (number n) ms e = absurd (cc)
object_of (string s) ms e = absurd (cc)
object_of (array ds) ms e = absurd (cc)
object_of (object ls) ms e = cc

by_value : (bytes : List ℕ) (d : Data) (ms : Members) → IsUtf8 bytes → value_of_text bytes ≡ Some d → as_object d ≡ Some ms → settings_of (Some bytes) ≡ unless_fault (first_fault top_fault ms) (config_of (Some (object ms)))
unfolding settings_of
by_value bytes d ms utf8 is seen = rw (is_utf8-from_IsUtf8 bytes utf8, is, seen) refl

pub settings_of-good : (bytes : List ℕ) (d : Data) (ms : Members) → IsUtf8 bytes → value_of_text bytes ≡ Some d → as_object d ≡ Some ms → first_fault top_fault ms ≡ None
    → settings_of (Some bytes) ≡ Ok (config_of (Some d))
settings_of-good bytes d ms utf8 is seen none =
    by_value bytes d ms utf8 is seen ∙ ap (λ f. unless_fault f (config_of (Some (object ms)))) none ∙ ap (λ v. Ok (config_of (Some v))) (sym (object_of d ms seen))

pub settings_of-fault : (bytes : List ℕ) (d : Data) (ms : Members) (fault : ConfigFault) → IsUtf8 bytes → value_of_text bytes ≡ Some d → as_object d ≡ Some ms → first_fault top_fault ms ≡ Some fault
    → settings_of (Some bytes) ≡ Err fault
settings_of-fault bytes d ms fault utf8 is seen first = by_value bytes d ms utf8 is seen ∙ ap (λ f. unless_fault f (config_of (Some (object ms)))) first

by_test : (bytes : List ℕ) (b : Bool) → is_utf8 bytes ≡ b → ¬ IsUtf8 bytes → settings_of (Some bytes) ≡ Err BadJson
unfolding settings_of
by_test bytes true is not = absurd (not (IsUtf8-from_is_utf8 bytes is))
by_test bytes false is not = rw is refl

pub settings_of-not_utf8 : (bytes : List ℕ) → ¬ IsUtf8 bytes → settings_of (Some bytes) ≡ Err BadJson
settings_of-not_utf8 bytes not = by_test bytes (is_utf8 bytes) refl not

pub settings_of-none : settings_of None ≡ Ok (config_of None)
unfolding settings_of
settings_of-none = refl

abbrev pub refusal : ConfigFault → Result Config ConfigFault
refusal e = Err e

-- a fault that was found, or want of memory
pub told : (r : Result Config ConfigFault) (e : ConfigFault) → (e ≢ NoMemory → r ≡ Err e) → (refusal e ≡ r) ⊎ (refusal e ≡ refusal NoMemory)
told r BadJson h = inl (sym (h (λ p. absurd (cc))))
told r (Unknown k) h = inl (sym (h (λ p. absurd (cc))))
told r (BadValue k) h = inl (sym (h (λ p. absurd (cc))))
told r NoEntry h = inl (sym (h (λ p. absurd (cc))))
told r NoMemory h = inr refl

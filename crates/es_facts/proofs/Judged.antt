-- What the reader of manifests says of a text tells whether it is JSON.
use Rattle.std.proofs.Common.{◌≡◌, false, List, Result, Ok, Err, IfOk, refl}
use Rattle.std.specs.Result.{result_err}
use Rattle.es_grammar.specs.Reading.{Bytes}
use Rattle.pkg_manifest.specs.declared.fault.ManifestFault.{ManifestFault}
use Rattle.pkg_manifest.specs.declared.fault.ManifestFault.TheVariants as manifest
use Rattle.pkg_manifest.specs.declared.package.Manifest.{Manifest}
use Rattle.pkg_manifest.specs.declared.value.Json.{Json}
use Rattle.pkg_manifest.specs.declared.value.Json.TheVariants.{Object}
use Rattle.pkg_manifest.specs.declared.value.Member.{Member}
use Rattle.pkg_manifest.specs.Fields.{is_object}
use Rattle.pkg_manifest.specs.Grammar.{StandsFor}
use Rattle.es_facts.specs.Answer.{JudgesJson}

-- what was read is an object
abbrev pub IsRead : Bytes → Result Manifest ManifestFault → Type 0
IsRead text (Ok read) = (members : List (Member Json)) × StandsFor text (Object members)
IsRead text (Err one_fault) = Unit {0}

pub judged : (text : Bytes) (result : Result Manifest ManifestFault) → IsRead text result
    → (result ≡ Err manifest.NotObject → (value : Json) × StandsFor text value × (is_object value ≡ false))
    → (result ≡ Err manifest.NotJson → (value : Json) → ¬ StandsFor text value) → JudgesJson text (result_err result)
judged text (Ok read) stands other none = (Object stands.0, stands.1)
judged text (Err manifest.NotObject) stands other none = ((other refl).0, (other refl).1)
judged text (Err manifest.NotJson) stands other none = λ is. none refl is.0 is.1
judged text (Err manifest.NoMemory) stands other none = tt

pub is_read : (text : Bytes) (result : Result Manifest ManifestFault) (P : Manifest → List (Member Json) → Type 0)
    → IfOk result (λ read. (members : List (Member Json)) × StandsFor text (Object members) × P read members) → IsRead text result
is_read text (Ok read) P has = (has.0, has.1)
is_read text (Err one_fault) P has = tt

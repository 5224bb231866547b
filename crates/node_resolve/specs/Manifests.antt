-- What stands at the path of a manifest.
use Rattle.std.specs.Prelude.{◌<◌, ◌≤◌, ℕ, List, length, Option, None, Some}
use Rattle.pkg_manifest.specs.declared.value.Json.{Json}
use Rattle.pkg_manifest.specs.declared.value.Json.TheVariants.{Object}
use Rattle.pkg_manifest.specs.declared.value.Member.{Member}
use Rattle.pkg_manifest.specs.Fields.{manifest_of}
use Rattle.pkg_manifest.specs.Grammar.{StandsFor}
use Rattle.pk_types.specs.declared.limits.TheConstants.{MAX_FILE_LEN}
use Rattle.node_resolve.specs.declared.sight.Sight.{Sight}
use Rattle.node_resolve.specs.declared.sight.Sight.TheVariants.{Absent, Bad, Says}
use Rattle.node_resolve.specs.declared.look.Bytes.{Bytes}
use Rattle.node_resolve.specs.declared.look.Bytes.TheVariants as bytes

-- Where no file stands there is no manifest. A file is bad where it is too long or its bytes are no object of JSON, and else
-- it says the manifest of that object.
pub data IsSight : Option (List ℕ) → Sight → Type 0 where
  absent : IsSight None Absent
  long : {held : List ℕ} → MAX_FILE_LEN < length held → IsSight (Some held) Bad
  bad : {held : List ℕ} → ((ms : List (Member Json)) → ¬ StandsFor held (Object ms)) → IsSight (Some held) Bad
  says : {held : List ℕ} → length held ≤ MAX_FILE_LEN → (ms : List (Member Json)) → StandsFor held (Object ms) → IsSight (Some held) (Says (manifest_of ms))

-- what a look for a manifest's bytes found
pub data AreBytes : Option (List ℕ) → Bytes → Type 0 where
  none : AreBytes None bytes.Absent
  longer : {held : List ℕ} → MAX_FILE_LEN < length held → AreBytes (Some held) bytes.Longer
  here : {held : List ℕ} → length held ≤ MAX_FILE_LEN → AreBytes (Some held) (bytes.Here held)

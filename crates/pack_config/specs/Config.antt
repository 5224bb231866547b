-- The settings that a file says, or its fault.
use Rattle.std.specs.Prelude.{ℕ, List, Option, Some, None, Result, Ok, Err, option_and_then}
use Rattle.pk_types.specs.declared.settings.Config.{Config}
use Rattle.pack_config.specs.declared.fault.ConfigFault.{ConfigFault}
use Rattle.pack_config.specs.declared.fault.ConfigFault.TheVariants.{BadJson}
use Rattle.serde_json.specs.Data.{object, Members}
use Rattle.serde_json.specs.Find.{as_object}
use Rattle.pack_config.specs.Faults.{first_fault, top_fault}
use Rattle.pack_config.specs.Settings.{config_of}
use Rattle.pack_config.specs.Reading.{value_of_bytes}

abbrev pub unless_fault : Option ConfigFault → Config → Result Config ConfigFault
unless_fault None config = Ok config
unless_fault (Some fault) config = Err fault

-- The value has to be an object, and to have no fault.
abbrev pub settings_in : Option Members → Result Config ConfigFault
settings_in None = Err BadJson
settings_in (Some ms) = unless_fault (first_fault top_fault ms) (config_of (Some (object ms)))

unfoldable pub settings_of : Option (List ℕ) → Result Config ConfigFault
settings_of None = Ok (config_of None)
settings_of (Some bytes) = settings_in (option_and_then as_object (value_of_bytes bytes))

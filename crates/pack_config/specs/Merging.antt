-- One pass over the groups that are given, in byte order of their names, beside the names that are still due.
use Rattle.std.specs.Prelude.{ℕ, List, [], ◌∷◌, Bool, true, false, codes}
use Rattle.std.specs.declared.cmp.Ordering.{Ordering}
use Rattle.std.specs.declared.cmp.Ordering.TheVariants.{Less, Equal, Greater}
use Rattle.pk_types.specs.declared.settings.CacheGroup.{CacheGroup}
use Rattle.serde_json.specs.Data.{Members}
use Rattle.pack_config.specs.Settings.{with_name}

-- whether a name is due behind a key, to which it compares so
abbrev pub stays_due : Bool → Ordering → Bool
stays_due false o = false
stays_due true Less = false
stays_due true Equal = false
stays_due true Greater = true

-- what stands before that key for it
abbrev pub put_before : Bool → Ordering → CacheGroup → List CacheGroup
put_before false o group = []
put_before true Less group = group ∷ []
put_before true Equal group = []
put_before true Greater group = []

abbrev pub due : Bool → List ℕ → Members → Members
due false name ms = ms
due true name ms = with_name name ms

abbrev pub both_due : Bool → Bool → Members → Members
both_due default_due vendors_due ms = due vendors_due (codes "defaultVendors") (due default_due (codes "default") ms)

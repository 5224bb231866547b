-- The first fault of the settings: of the first key in byte order, from the top and depth first, whose value is not that of its row. The members of an
-- object stand in byte order of their keys (`put` of serde_json's `Data`).
use Rattle.std.specs.Prelude.{ℕ, ◌++◌, List, [], Bool, true, false, not, codes, is_some, Option, Some, None, option_map, unwrap_or, if◌then◌else◌}
use Rattle.std.specs.Option.{option_or}
use Rattle.std.specs.Str.{bytes_eq}
use Rattle.pack_config.specs.declared.fault.ConfigFault.{ConfigFault}
use Rattle.pack_config.specs.declared.fault.ConfigFault.TheVariants.{Unknown, BadValue, NoEntry}
use Rattle.pack_config.specs.declared.kind.Kind.{Kind}
use Rattle.serde_json.specs.Data.{Data, Members, no_members, member}
use Rattle.serde_json.specs.Find.{as_bool, as_str, as_object}
use Rattle.pack_config.specs.Values.{is_entry_name}
use Rattle.pack_config.specs.Rows.{Row, kind_of, top_rows, split_rows, group_rows, fits}

-- what is wrong with the value of a key
abbrev pub Judge : Type 0
Judge = List ℕ → Data → Option ConfigFault

abbrev pub first_fault : Judge → Members → Option ConfigFault
first_fault judge no_members = None
first_fault judge (member key d ms) = option_or (judge key d) (first_fault judge ms)

-- The value of `name` has to be an object, and the judge looks at its members.
abbrev pub in_object : List ℕ → Judge → Option Members → Option ConfigFault
in_object name judge None = Some (BadValue name)
in_object name judge (Some ms) = first_fault judge ms

abbrev pub of_kind : List ℕ → Option Kind → Data → Option ConfigFault
of_kind name None d = Some (Unknown name)
of_kind name (Some kind) d = if fits kind d then None else Some (BadValue name)

-- a key of a table, below the keys `above`
abbrev pub row_fault : List Row → List ℕ → Judge
row_fault rows above key d = of_kind (above ++ key) (kind_of rows key) d

abbrev pub is_false : Data → Bool
is_false d = unwrap_or (option_map not (as_bool d)) false

-- ---- cache groups

-- what stands before the keys of a group
abbrev pub above_group : List ℕ → List ℕ
above_group name = (codes "splitChunks.cacheGroups." ++ name) ++ codes "."

unfoldable pub group_fault : Judge
group_fault name d =
    if is_false d then None
    else in_object (codes "splitChunks.cacheGroups." ++ name) (row_fault group_rows (above_group name)) (as_object d)

abbrev pub split_member_fault : Judge
split_member_fault key d =
    if bytes_eq key (codes "cacheGroups") then in_object (codes "splitChunks.cacheGroups") group_fault (as_object d)
    else row_fault split_rows (codes "splitChunks.") key d

abbrev pub split_fault : Data → Option ConfigFault
split_fault d = if is_false d then None else in_object (codes "splitChunks") split_member_fault (as_object d)

-- ---- entries

-- A key that is no entry name is unknown, and the value is a request.
abbrev pub entry_member_fault : Judge
entry_member_fault name d =
    if is_entry_name name then (if is_some (as_str d) then None else Some (BadValue (codes "entry." ++ name)))
    else Some (Unknown (codes "entry." ++ name))

abbrev pub is_empty : Members → Bool
is_empty no_members = true
is_empty (member key d ms) = false

abbrev pub entries_fault : Option Members → Option ConfigFault
entries_fault None = Some (BadValue (codes "entry"))
entries_fault (Some ms) = if is_empty ms then Some NoEntry else first_fault entry_member_fault ms

abbrev pub entry_fault : Data → Option ConfigFault
entry_fault d = if is_some (as_str d) then None else entries_fault (as_object d)

-- ---- the top

abbrev pub top_fault : Judge
top_fault key d =
    if bytes_eq key (codes "entry") then entry_fault d
    else (if bytes_eq key (codes "splitChunks") then split_fault d else row_fault top_rows [] key d)

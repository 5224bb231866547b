-- The settings that a JSON object says, each by its key, with its default where the key isn't there. The whole object may be absent, and is then as `{}`.
use Rattle.std.specs.Prelude.{ℕ, ◌++◌, ℤ, pos, negsuc, List, [], ◌∷◌, Bool, true, false, codes, Option, Some, None, option_and_then, unwrap_or, option_to_list, if◌then◌else◌}
use Rattle.std.specs.Option.{option_or}
use Rattle.std.specs.Ordering.{nat_cmp, match_ordering}
use Rattle.std.specs.Cmp.Lexicographic.{slice_cmp}
use Rattle.std.specs.Str.{bytes_eq}
use Rattle.pk_types.specs.declared.settings.Config.{Config}
use Rattle.pk_types.specs.declared.settings.SplitConfig.{SplitConfig}
use Rattle.pk_types.specs.declared.settings.CacheGroup.{CacheGroup}
use Rattle.pk_types.specs.declared.settings.Which.{Which}
use Rattle.pk_types.specs.declared.settings.Which.TheVariants.{Async}
use Rattle.pack_config.specs.declared.groups.Shared.{Shared}
use Rattle.serde_json.specs.Data.{Data, object, Members, no_members, member}
use Rattle.serde_json.specs.Find.{get, as_bool, as_str, as_object}
use Rattle.pack_config.specs.Values.{number_of, priority_of, hashed_of, which_of, segment_of}
use Rattle.pack_config.specs.Faults.{is_false}

abbrev pub at : List ℕ → Option Data → Option Data
at key o = option_and_then (get key) o

abbrev pub flag : List ℕ → Bool → Option Data → Bool
flag key default o = unwrap_or (option_and_then as_bool (at key o)) default

abbrev pub number : List ℕ → ℕ → Option Data → ℕ
number key default o = unwrap_or (option_and_then number_of (at key o)) default

abbrev pub priority : List ℕ → ℤ → Option Data → ℤ
priority key default o = unwrap_or (option_and_then priority_of (at key o)) default

abbrev pub which : List ℕ → Which → Option Data → Which
which key default o = unwrap_or (option_and_then which_of (at key o)) default

abbrev pub hashed : List ℕ → Bool → Option Data → Bool
hashed key default o = unwrap_or (option_and_then hashed_of (at key o)) default

abbrev pub segment : List ℕ → Option (List ℕ) → Option Data → Option (List ℕ)
segment key default o = option_or (option_and_then segment_of (at key o)) default

-- ---- cache groups

-- what a group is where its object is empty
abbrev pub group_default : Shared → List ℕ → CacheGroup
group_default shared name =
    if bytes_eq name (codes "defaultVendors") then
    record { name = name; test = Some (codes "node_modules"); chunks = shared.chunks; min_size = shared.min_size; min_chunks = shared.min_chunks; priority = negsuc 9; reuse = true }
    else (if bytes_eq name (codes "default") then
    record { name = name; test = None; chunks = shared.chunks; min_size = shared.min_size; min_chunks = 2; priority = negsuc 19; reuse = true }
    else
    record { name = name; test = None; chunks = shared.chunks; min_size = shared.min_size; min_chunks = shared.min_chunks; priority = pos 0; reuse = false })

-- the group with the fields that the object gives
abbrev pub replaced : CacheGroup → Option Data → CacheGroup
replaced g o =
    record {
      name = g.name;
      test = segment (codes "test") g.test o;
      chunks = which (codes "chunks") g.chunks o;
      min_size = number (codes "minSize") g.min_size o;
      min_chunks = number (codes "minChunks") g.min_chunks o;
      priority = priority (codes "priority") g.priority o;
      reuse = flag (codes "reuseExistingChunk") g.reuse o;
    }

unfoldable pub group_of : Shared → List ℕ → Option Data → CacheGroup
group_of shared name o = replaced (group_default shared name) o

-- none for a group that is given as false
abbrev pub if_kept : Shared → List ℕ → Data → Option CacheGroup
if_kept shared name d = if is_false d then None else Some (group_of shared name (Some d))

unfoldable pub kept_groups : Shared → Members → List CacheGroup
kept_groups shared no_members = []
kept_groups shared (member name d ms) = option_to_list (if_kept shared name d) ++ kept_groups shared ms

-- the members, in order, with an empty object at a name that isn't there
unfoldable pub with_name : List ℕ → Members → Members
with_name name no_members = member name (object no_members) no_members
with_name name (member key d ms) =
    match_ordering (slice_cmp nat_cmp name key) (member name (object no_members) (member key d ms)) (member key d ms) (member key d (with_name name ms))

abbrev pub members_in : Option Members → Members
members_in None = no_members
members_in (Some ms) = ms

-- Two groups are there unless they are given as false.
abbrev pub groups_of : Shared → Option Data → List CacheGroup
groups_of shared o = kept_groups shared (with_name (codes "defaultVendors") (with_name (codes "default") (members_in (option_and_then as_object o))))

-- ---- splitting

abbrev pub shared_of : Option Data → Shared
shared_of o =
    record { chunks = which (codes "chunks") Async o; min_size = number (codes "minSize") 20000 o; min_chunks = number (codes "minChunks") 1 o }

abbrev pub split_of : Option Data → SplitConfig
split_of o =
    record {
      chunks = (shared_of o).chunks;
      min_size = (shared_of o).min_size;
      enforce = number (codes "enforceSizeThreshold") 50000 o;
      min_chunks = (shared_of o).min_chunks;
      max_async = number (codes "maxAsyncRequests") 30 o;
      max_initial = number (codes "maxInitialRequests") 30 o;
      groups = groups_of (shared_of o) (at (codes "cacheGroups") o);
    }

abbrev pub split_unless_false : Option Data → Option SplitConfig
split_unless_false None = Some (split_of None)
split_unless_false (Some d) = if is_false d then None else Some (split_of (Some d))

-- ---- entries

abbrev pub Entry : Type 0
Entry = List ℕ × List ℕ

abbrev pub request_of : Data → List ℕ
request_of d = unwrap_or (as_str d) []

abbrev pub named_entries : Members → List Entry
named_entries no_members = []
named_entries (member name d ms) = (name, request_of d) ∷ named_entries ms

abbrev pub entries_in : Option (List ℕ) → Option Members → List Entry
entries_in (Some request) ms = (codes "main", request) ∷ []
entries_in None None = (codes "main", codes "./src/index.js") ∷ []
entries_in None (Some ms) = named_entries ms

-- a request alone is that of the entry `main`
abbrev pub entries_of : Option Data → List Entry
entries_of o = entries_in (option_and_then as_str o) (option_and_then as_object o)

-- ---- all of them

abbrev pub config_of : Option Data → Config
config_of o =
    record {
      entries = entries_of (at (codes "entry") o);
      concatenate = flag (codes "concatenateModules") true o;
      side_effects = flag (codes "sideEffects") true o;
      hashed = hashed (codes "ids") false o;
      split = split_unless_false (at (codes "splitChunks") o);
    }

-- The table of the settings: which keys stand where, and the kind and range of each value. The keys `entry`, `splitChunks` and `cacheGroups`, which hold
-- objects, have definitions of their own.
use Rattle.std.specs.Prelude.{ℕ, List, [], ◌∷◌, Bool, codes, is_some, Option, Some, None, if◌then◌else◌}
use Rattle.std.specs.Str.{bytes_eq}
use Rattle.pack_config.specs.declared.kind.Kind.{Kind}
use Rattle.pack_config.specs.declared.kind.Kind.TheVariants.{Flag, Ids, Chunks, Count, Priority, Segment}
use Rattle.serde_json.specs.Data.{Data}
use Rattle.serde_json.specs.Find.{as_bool}
use Rattle.pack_config.specs.Values.{number_of, is_between, priority_of, hashed_of, which_of, segment_of}

abbrev pub Row : Type 0
Row = List ℕ × Kind

abbrev pub top_rows : List Row
top_rows = (codes "concatenateModules", Flag) ∷ (codes "sideEffects", Flag) ∷ (codes "ids", Ids) ∷ []

-- of the object `splitChunks`
abbrev pub split_rows : List Row
split_rows =
    (codes "chunks", Chunks) ∷ (codes "minSize", Count 0 4294967295) ∷ (codes "enforceSizeThreshold", Count 0 4294967295)
    ∷ (codes "minChunks", Count 1 4096) ∷ (codes "maxAsyncRequests", Count 1 4096) ∷ (codes "maxInitialRequests", Count 1 4096) ∷ []

-- of each object in `cacheGroups`
abbrev pub group_rows : List Row
group_rows =
    (codes "test", Segment) ∷ (codes "chunks", Chunks) ∷ (codes "minSize", Count 0 4294967295)
    ∷ (codes "minChunks", Count 1 4096) ∷ (codes "priority", Priority) ∷ (codes "reuseExistingChunk", Flag) ∷ []

abbrev pub kind_of : List Row → List ℕ → Option Kind
kind_of [] key = None
kind_of (row ∷ rows) key = if bytes_eq key row.0 then Some row.1 else kind_of rows key

abbrev pub fits : Kind → Data → Bool
fits Flag d = is_some (as_bool d)
fits Ids d = is_some (hashed_of d)
fits Chunks d = is_some (which_of d)
fits (Count least most) d = is_between least most (number_of d)
fits Priority d = is_some (priority_of d)
fits Segment d = is_some (segment_of d)

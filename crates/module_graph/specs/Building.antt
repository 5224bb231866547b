-- What is known of a graph while its modules are added, one after another.
use Rattle.std.specs.Prelude.{ℕ, ◌<◌, List, [], ◌++◌, Bool, false, length, drop, map, slice_index_or}
use Rattle.pk_types.specs.declared.facts.Facts.{Facts}
use Rattle.pk_types.specs.declared.facts.Kind.TheVariants.{Cjs}
use Rattle.pk_types.specs.declared.graph.Graph.{Graph}
use Rattle.pk_types.specs.declared.graph.Row.{Row}
use Rattle.pk_types.specs.NoFacts.{no_facts}
use Rattle.module_graph.specs.Known.{numbers_in}

-- the paths of the modules by number, the rows of those that were added, and the modules of the entries
pub record Building : Type 0 where
  pub known : List (List ℕ)
  pub rows : List Row
  pub entries : List ℕ

-- the path of the least module that wasn't added
abbrev pub wanted_path : Building → List ℕ
wanted_path building = slice_index_or building.known (length building.rows) []

-- some module wasn't added
abbrev pub IsWanting : Building → Type 0
IsWanting building = length building.rows < length building.known

-- the row of the wanted module, whose requests lead to the paths
abbrev pub row_of : Building → List (List ℕ) → Facts → List (List ℕ) → Bool → ℕ → Row
row_of building known facts targets flagged size = record {
  label = wanted_path building;
  facts = facts;
  targets = numbers_in known targets;
  flagged = flagged;
  size = size;
}

-- the row of a module of which the path alone is known; its kind, its flag and its size are arbitrary
abbrev pub leaf_of : List ℕ → Row
leaf_of path = record {
  label = path;
  facts = no_facts Cjs;
  targets = [];
  flagged = false;
  size = 0;
}

-- the graph of what is known: the rows that were added, and behind them a leaf for each further path
abbrev pub so_far : Building → Graph
so_far building = record {
  rows = building.rows ++ map leaf_of (drop (length building.rows) building.known);
  entries = building.entries;
}

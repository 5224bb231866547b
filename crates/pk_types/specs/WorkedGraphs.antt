-- Small graphs on which the definitions are tried, with the settings that they are tried with.
use Rattle.std.specs.Prelude.{ℕ, ◌+◌, length, negsuc, true, false, List, [], ◌∷◌, Some, None, codes}
use Rattle.pk_types.specs.declared.facts.Site.{Site}
use Rattle.pk_types.specs.declared.facts.Kind.TheVariants.{Es, Cjs}
use Rattle.pk_types.specs.declared.facts.BindKind.TheVariants as bind
use Rattle.pk_types.specs.declared.facts.Origin.TheVariants as origin
use Rattle.pk_types.specs.declared.facts.Ref.TheVariants as ref
use Rattle.pk_types.specs.declared.facts.SiteKind.TheVariants as site
use Rattle.pk_types.specs.declared.facts.Request.{Request}
use Rattle.pk_types.specs.declared.form.Form.TheVariants as form
use Rattle.pk_types.specs.declared.graph.Graph.{Graph}
use Rattle.pk_types.specs.declared.graph.Row.{Row}
use Rattle.pk_types.specs.declared.plan.Chunks.{Chunks}
use Rattle.pk_types.specs.declared.plan.Hoists.{Hoists}
use Rattle.pk_types.specs.declared.plan.Ids.{Ids}
use Rattle.pk_types.specs.declared.plan.Item.TheVariants.{Segment}
use Rattle.pk_types.specs.declared.settings.CacheGroup.{CacheGroup}
use Rattle.pk_types.specs.declared.settings.SplitConfig.{SplitConfig}
use Rattle.pk_types.specs.declared.settings.Which.TheVariants.{Async, All}
use Rattle.pk_types.specs.HoistSets.{Scene}

-- the cache group of all modules that is there from the start, with this `minSize`
abbrev pub default_group : ℕ → CacheGroup
default_group size = record { name = codes "default"; test = None; chunks = Async; min_size = size; min_chunks = 2; priority = negsuc 19; reuse = true }

-- the cache group of packages, which is there too
abbrev pub vendors_group : ℕ → CacheGroup
vendors_group size = record {
  name = codes "defaultVendors";
  test = Some (codes "node_modules");
  chunks = Async;
  min_size = size;
  min_chunks = 1;
  priority = negsuc 9;
  reuse = true;
}

-- both cache groups, with the other defaults
abbrev pub default_split : ℕ → SplitConfig
default_split size = record {
  chunks = Async;
  min_size = size;
  enforce = 50000;
  min_chunks = 1;
  max_async = 30;
  max_initial = 30;
  groups = default_group size ∷ vendors_group size ∷ [];
}

-- a request by an `import` declaration or a call of `import()`
abbrev pub import_of : List ℕ → Request
import_of text = record { text = text; form = form.Import; json = false }

-- a CommonJS module of calls of `import()`, or of functions without a declaration
abbrev pub calls : List ℕ → List Request → List Site → List (List ℕ) → List ℕ → ℕ → Row
calls label requests sites free targets size = record {
  label = label;
  targets = targets;
  flagged = false;
  size = size;
  facts = record { kind = Cjs; requests = requests; order = []; imports = []; exports = []; stars = []; bindings = []; sites = sites; free = free; inner = [] };
}

-- a module of import declarations without names, and of calls of `import()`
abbrev pub imports : List ℕ → List Request → List ℕ → List Site → List ℕ → ℕ → Row
imports label requests order sites targets size = record {
  label = label;
  targets = targets;
  flagged = false;
  size = size;
  facts = record { kind = Es; requests = requests; order = order; imports = []; exports = []; stars = []; bindings = []; sites = sites; free = []; inner = [] };
}

-- a call of `import()` by the second request, behind an import declaration
abbrev pub import_second : List Site
import_second = record { kind = site.Import 1; start = 17; end = 33 } ∷ []

-- a module that exports one `let`, which begins at this place
abbrev pub exports_one : List ℕ → List ℕ → ℕ → ℕ → Row
exports_one label name place size = record {
  label = label;
  targets = [];
  flagged = false;
  size = size;
  facts = record {
    kind = Es;
    requests = [];
    order = [];
    imports = [];
    exports = record { name = name; origin = origin.Own 0; place = place } ∷ [];
    stars = [];
    bindings = record { name = name; kind = bind.Let } ∷ [];
    sites = record { kind = site.Init 0; start = place; end = place + length name } ∷ [];
    free = [];
    inner = [];
  };
}

-- `import { s } from "./s.js";` and `s;`
abbrev pub uses_shared : List ℕ → Row
uses_shared label = record {
  label = label;
  targets = 3 ∷ [];
  flagged = false;
  size = 31;
  facts = record {
    kind = Es;
    requests = import_of (codes "./s.js") ∷ [];
    order = 0 ∷ [];
    imports = record { request = 0; name = Some (codes "s"); place = 9 } ∷ [];
    exports = [];
    stars = [];
    bindings = [];
    sites = record { kind = site.Read (ref.Imported 0); start = 28; end = 29 } ∷ [];
    free = [];
    inner = [];
  };
}

-- the two calls of an entry
abbrev pub two_calls : List Site
two_calls = record { kind = site.Import 0; start = 0; end = 16 } ∷ record { kind = site.Import 1; start = 18; end = 34 } ∷ []

-- an entry that calls `import("./a.js")` and `import("./b.js")`, which both import `s` from `s.js`
abbrev pub shared_graph : Graph
shared_graph = record {
  entries = 0 ∷ [];
  rows = calls (codes "src/index.js") (import_of (codes "./a.js") ∷ import_of (codes "./b.js") ∷ []) two_calls [] (1 ∷ 2 ∷ []) 36
      ∷ uses_shared (codes "src/a.js") ∷ uses_shared (codes "src/b.js") ∷ exports_one (codes "src/s.js") (codes "s") 11 18 ∷ [];
}

-- what is placed in its three groups
abbrev pub shared_placed : List (List ℕ)
shared_placed = (0 ∷ []) ∷ (1 ∷ 3 ∷ []) ∷ (2 ∷ 3 ∷ []) ∷ []

-- `s.js` has a chunk of its own, which both groups load
abbrev pub shared_chunks : Chunks
shared_chunks = record { modules = (0 ∷ []) ∷ (1 ∷ []) ∷ (2 ∷ []) ∷ (3 ∷ []) ∷ []; entries = 1; lists = [] ∷ (0 ∷ 2 ∷ []) ∷ (1 ∷ 2 ∷ []) ∷ [] }

-- modules and chunks counted
abbrev pub shared_ids : Ids
shared_ids = record { modules = 0 ∷ 1 ∷ 2 ∷ 3 ∷ []; chunks = 0 ∷ 1 ∷ 2 ∷ [] }

-- an entry that calls `import()` of `p` and of `q`; both call `import()` of `t`, and `p` and `t` import `m`
abbrev pub parents_graph : Graph
parents_graph = record {
  entries = 0 ∷ [];
  rows = calls (codes "src/index.js") (import_of (codes "./p.js") ∷ import_of (codes "./q.js") ∷ []) two_calls [] (1 ∷ 2 ∷ []) 36
      ∷ imports (codes "src/p.js") (import_of (codes "./m.js") ∷ import_of (codes "./t.js") ∷ []) (0 ∷ []) import_second (3 ∷ 4 ∷ []) 35
      ∷ calls (codes "src/q.js") (import_of (codes "./t.js") ∷ []) (record { kind = site.Import 0; start = 0; end = 16 } ∷ []) [] (4 ∷ []) 18
      ∷ calls (codes "src/m.js") [] [] (codes "f" ∷ []) [] 5
      ∷ imports (codes "src/t.js") (import_of (codes "./m.js") ∷ []) (0 ∷ []) [] (3 ∷ []) 17 ∷ [];
}

-- `m` is not available to `t` by `q`, so it is placed twice; it is too small to be split
abbrev pub parents_placed : List (List ℕ)
parents_placed = (0 ∷ []) ∷ (1 ∷ 3 ∷ []) ∷ (2 ∷ []) ∷ (3 ∷ 4 ∷ []) ∷ []

-- a chunk for each group
abbrev pub parents_chunks : Chunks
parents_chunks = record { modules = (0 ∷ []) ∷ (1 ∷ 3 ∷ []) ∷ (2 ∷ []) ∷ (3 ∷ 4 ∷ []) ∷ []; entries = 1; lists = [] ∷ (0 ∷ []) ∷ (1 ∷ []) ∷ (2 ∷ []) ∷ [] }

-- a module of which the path and the size alone matter
abbrev pub sized : List ℕ → ℕ → Row
sized label size = calls label [] [] [] [] size

-- a realistic folder, of which the paths and sizes alone stand here: two of its three calls of `import()` lead to a large module of a package
abbrev pub folder_graph : Graph
folder_graph = record {
  entries = 0 ∷ [];
  rows = sized (codes "src/index.js") 131 ∷ sized (codes "src/data.json") 14 ∷ sized (codes "src/umd.js") 155
      ∷ sized (codes "src/a.js") 34 ∷ sized (codes "src/b.js") 34 ∷ sized (codes "src/c.js") 20 ∷ sized (codes "node_modules/lib/es/big.js") 30000 ∷ [];
}

-- the large module is placed in two of its four groups
abbrev pub folder_placed : List (List ℕ)
folder_placed = (0 ∷ 1 ∷ 2 ∷ []) ∷ (3 ∷ 6 ∷ []) ∷ (4 ∷ 6 ∷ []) ∷ (5 ∷ []) ∷ []

-- it has a chunk of its own, which both load
abbrev pub folder_chunks : Chunks
folder_chunks = record {
  modules = (0 ∷ 1 ∷ 2 ∷ []) ∷ (3 ∷ []) ∷ (4 ∷ []) ∷ (5 ∷ []) ∷ (6 ∷ []) ∷ [];
  entries = 1;
  lists = [] ∷ (0 ∷ 3 ∷ []) ∷ (1 ∷ 3 ∷ []) ∷ (2 ∷ []) ∷ [];
}

-- three modules that import one another in a circle: `index` imports `b`, `b` imports `c`, and `c` imports `f` and `x` from `index`
abbrev pub circle_graph : Graph
circle_graph = record {
  entries = 0 ∷ [];
  rows = record {
    label = codes "src/index.js";
    targets = 1 ∷ [];
    flagged = false;
    size = 58;
    facts = record {
      kind = Es;
      requests = import_of (codes "./b.js") ∷ [];
      order = 0 ∷ [];
      imports = [];
      exports = record { name = codes "f"; origin = origin.Own 0; place = 33 } ∷ record { name = codes "x"; origin = origin.Own 1; place = 51 } ∷ [];
      stars = [];
      bindings = record { name = codes "f"; kind = bind.Function } ∷ record { name = codes "x"; kind = bind.Let } ∷ [];
      sites = record { kind = site.Init 1; start = 51; end = 52 } ∷ [];
      free = [];
      inner = codes "arguments" ∷ [];
    };
  }
      ∷ imports (codes "src/b.js") (import_of (codes "./c.js") ∷ []) (0 ∷ []) [] (2 ∷ []) 17
      ∷ record {
        label = codes "src/c.js";
        targets = 0 ∷ [];
        flagged = false;
        size = 43;
        facts = record {
          kind = Es;
          requests = import_of (codes "./index.js") ∷ [];
          order = 0 ∷ [];
          imports = record { request = 0; name = Some (codes "f"); place = 9 } ∷ record { request = 0; name = Some (codes "x"); place = 12 } ∷ [];
          exports = [];
          stars = [];
          bindings = [];
          sites = record { kind = site.Read (ref.Imported 0); start = 35; end = 36 } ∷ record { kind = site.Read (ref.Imported 1); start = 40; end = 41 } ∷ [];
          free = [];
          inner = [];
        };
      }
      ∷ [];
}

-- all three stand in the chunk of the entry, by active edges in a circle
abbrev pub circle_scene : Scene
circle_scene = record {
  graph = circle_graph;
  active = record { edges = (1 ∷ []) ∷ (2 ∷ []) ∷ (0 ∷ []) ∷ []; reached = true ∷ true ∷ true ∷ [] };
  used = record { names = (codes "f" ∷ codes "x" ∷ []) ∷ [] ∷ [] ∷ []; whole = false ∷ false ∷ false ∷ [] };
  chunks = record { modules = (0 ∷ 1 ∷ 2 ∷ []) ∷ []; entries = 1; lists = [] ∷ [] };
}

-- they share the scope of the entry, and run from the innermost outwards
abbrev pub circle_hoists : Hoists
circle_hoists = record { root = 0 ∷ 0 ∷ 0 ∷ []; items = (Segment 2 ∷ Segment 1 ∷ Segment 0 ∷ []) ∷ [] ∷ [] ∷ [] }

-- `p` and `q` both export an `x`, and the entry, which imports these as `a` and `b`, uses an `x` that nobody declares
abbrev pub names_graph : Graph
names_graph = record {
  entries = 0 ∷ [];
  rows = record {
    label = codes "src/index.js";
    targets = 1 ∷ 2 ∷ [];
    flagged = false;
    size = 80;
    facts = record {
      kind = Es;
      requests = import_of (codes "./p.js") ∷ import_of (codes "./q.js") ∷ [];
      order = 0 ∷ 1 ∷ [];
      imports = record { request = 0; name = Some (codes "x"); place = 9 } ∷ record { request = 1; name = Some (codes "x"); place = 42 } ∷ [];
      exports = [];
      stars = [];
      bindings = [];
      sites = record { kind = site.Read (ref.Imported 0); start = 70; end = 71 } ∷ record { kind = site.Read (ref.Imported 1); start = 73; end = 74 } ∷ [];
      free = codes "use" ∷ codes "x" ∷ [];
      inner = [];
    };
  }
      ∷ exports_one (codes "src/p.js") (codes "x") 11 18 ∷ exports_one (codes "src/q.js") (codes "x") 11 18 ∷ [];
}

-- so neither `x` keeps its name
abbrev pub given_names : List (List (List ℕ))
given_names = [] ∷ (codes "x_1" ∷ []) ∷ (codes "x_2" ∷ []) ∷ []

-- the same where `q` imports `m` too: then `m` is available to `t` by every walk
abbrev pub agreeing_graph : Graph
agreeing_graph = record {
  entries = 0 ∷ [];
  rows = calls (codes "src/index.js") (import_of (codes "./p.js") ∷ import_of (codes "./q.js") ∷ []) two_calls [] (1 ∷ 2 ∷ []) 36
      ∷ imports (codes "src/p.js") (import_of (codes "./m.js") ∷ import_of (codes "./t.js") ∷ []) (0 ∷ []) import_second (3 ∷ 4 ∷ []) 35
      ∷ imports (codes "src/q.js") (import_of (codes "./m.js") ∷ import_of (codes "./t.js") ∷ []) (0 ∷ []) import_second (3 ∷ 4 ∷ []) 35
      ∷ calls (codes "src/m.js") [] [] (codes "f" ∷ []) [] 5
      ∷ imports (codes "src/t.js") (import_of (codes "./m.js") ∷ []) (0 ∷ []) [] (3 ∷ []) 17 ∷ [];
}

-- `m` is placed in the groups of `p` and `q` alone
abbrev pub agreeing_placed : List (List ℕ)
agreeing_placed = (0 ∷ []) ∷ (1 ∷ 3 ∷ []) ∷ (2 ∷ 3 ∷ []) ∷ (4 ∷ []) ∷ []

-- a chunk for each group
abbrev pub agreeing_chunks : Chunks
agreeing_chunks = record { modules = (0 ∷ []) ∷ (1 ∷ 3 ∷ []) ∷ (2 ∷ 3 ∷ []) ∷ (4 ∷ []) ∷ []; entries = 1; lists = [] ∷ (0 ∷ []) ∷ (1 ∷ []) ∷ (2 ∷ []) ∷ [] }

-- an entry that calls `import()` of `a` and of `s`, where `a` imports `s`: the chunk of `s` is used for `a` too, and none is made
abbrev pub reused_graph : Graph
reused_graph = record { entries = 0 ∷ []; rows = sized (codes "src/index.js") 36 ∷ sized (codes "src/a.js") 31 ∷ sized (codes "src/s.js") 18 ∷ [] }

-- `s` is placed in both groups
abbrev pub reused_placed : List (List ℕ)
reused_placed = (0 ∷ []) ∷ (1 ∷ 2 ∷ []) ∷ (2 ∷ []) ∷ []

-- the group of `a` loads the chunk of `s` too
abbrev pub reused_chunks : Chunks
reused_chunks = record { modules = (0 ∷ []) ∷ (1 ∷ []) ∷ (2 ∷ []) ∷ []; entries = 1; lists = [] ∷ (0 ∷ 1 ∷ []) ∷ (1 ∷ []) ∷ [] }

-- where a group may load one chunk alone, `s.js` stays in both chunks, since it is too small to pass that limit
abbrev pub one_request : SplitConfig
one_request = record (default_split 0) { max_async = 1 }

-- a chunk for each group
abbrev pub unsplit_chunks : Chunks
unsplit_chunks = record { modules = (0 ∷ []) ∷ (1 ∷ 3 ∷ []) ∷ (2 ∷ 3 ∷ []) ∷ []; entries = 1; lists = [] ∷ (0 ∷ []) ∷ (1 ∷ []) ∷ [] }

-- two entries that share a module, where the cache group allows their chunks: both lose the module to a chunk that both groups load
abbrev pub entries_group : CacheGroup
entries_group = record (default_group 0) { chunks = All }

-- with the cache group of packages beside it
abbrev pub entries_split : SplitConfig
entries_split = record (default_split 0) { groups = entries_group ∷ vendors_group 0 ∷ [] }

-- modules of which the paths and sizes alone matter
abbrev pub entries_graph : Graph
entries_graph = record { entries = 0 ∷ 1 ∷ []; rows = sized (codes "src/a.js") 31 ∷ sized (codes "src/b.js") 31 ∷ sized (codes "src/s.js") 18 ∷ [] }

-- the third is placed in both groups
abbrev pub entries_placed : List (List ℕ)
entries_placed = (0 ∷ 2 ∷ []) ∷ (1 ∷ 2 ∷ []) ∷ []

-- it has a chunk of its own, which both groups load
abbrev pub entries_chunks : Chunks
entries_chunks = record { modules = (0 ∷ []) ∷ (1 ∷ []) ∷ (2 ∷ []) ∷ []; entries = 2; lists = (0 ∷ []) ∷ (0 ∷ []) ∷ [] }

-- Parts of three other bundles, with their texts as they are to be. What their plans hold beside these parts is left out.
use Rattle.std.specs.Prelude.{ℕ, List, [], ◌∷◌, ◌++◌, None, Some, false, codes}
use Rattle.pk_types.specs.declared.facts.BindKind.TheVariants.{Let, Const, Function}
use Rattle.pk_types.specs.declared.facts.Kind.{Kind}
use Rattle.pk_types.specs.declared.facts.Kind.TheVariants.{Es, Cjs}
use Rattle.pk_types.specs.declared.graph.Row.{Row}
use Rattle.pk_types.specs.declared.plan.Chunks.{Chunks}
use Rattle.pk_types.specs.declared.plan.Groups.{Groups}
use Rattle.pk_types.specs.declared.plan.Hoists.{Hoists}
use Rattle.pk_types.specs.declared.plan.Ids.{Ids}
use Rattle.pk_types.specs.declared.plan.Item.TheVariants.{Segment, Evaluate}
use Rattle.pk_types.specs.declared.plan.Plan.{Plan}
use Rattle.pk_types.specs.NoFacts.{no_facts}
use Rattle.emit_body.specs.declared.body.Body.{Body}
use Rattle.emit_body.specs.declared.getters.ScopeGetters.{ScopeGetters}
use Rattle.chunk_files.specs.Materials.{MaterialOf}
use Rattle.chunk_tests.specs.Worked.{no_lists}

abbrev row_of : List ℕ → Kind → Row
row_of label kind = record { label = label; facts = no_facts kind; targets = []; flagged = false; size = 0 }

abbrev plan_of : Groups → Chunks → Hoists → Ids → Plan
plan_of groups chunks hoists ids = record {
  active = record { edges = []; reached = [] };
  used = record { names = []; whole = [] };
  groups = groups;
  chunks = chunks;
  hoists = hoists;
  names = [];
  ids = ids;
}

abbrev material_of : List Row → Plan → List Body → List ScopeGetters → MaterialOf
material_of rows plan bodies scopes =
    record { graph = record { rows = rows; entries = 0 ∷ [] }; plan = plan; bodies = bodies; sources = []; getters = record { scopes = scopes } }

-- ---- an entry of CommonJS whose file is empty

abbrev pub empty_entry : MaterialOf
empty_entry = material_of (row_of (codes "src/index.js") Cjs ∷ [])
    (plan_of (record { targets = 0 ∷ []; entries = 1; closures = (0 ∷ []) ∷ []; leads = [] ∷ [] })
    (record { modules = (0 ∷ []) ∷ []; entries = 1; lists = [] ∷ [] })
    (record { root = 0 ∷ []; items = (Segment 0 ∷ []) ∷ [] })
    (record { modules = 0 ∷ []; chunks = [] }))
    (record { text = []; pieces = [] } ∷ []) (no_lists ∷ [])

-- the file behind the runtime
abbrev pub empty_entry_text : List ℕ
empty_entry_text =
    codes "__webpack_start__({ g: [[0]], c: [] }, [\n"
    ++ codes "[0, 0, [], function (module, exports, __webpack_r) {\n"
    ++ codes "/*m \"src/index.js\" 0*/\n"
    ++ codes "\n"
    ++ codes "}]\n"
    ++ codes "]);\n"

-- ---- three modules that share one scope

abbrev pub shared_scope : MaterialOf
shared_scope = material_of (row_of (codes "src/index.js") Es ∷ row_of (codes "src/b.js") Es ∷ row_of (codes "src/c.js") Es ∷ [])
    (plan_of (record { targets = 0 ∷ []; entries = 1; closures = (0 ∷ 1 ∷ 2 ∷ []) ∷ []; leads = [] ∷ [] })
    (record { modules = (0 ∷ 1 ∷ 2 ∷ []) ∷ []; entries = 1; lists = [] ∷ [] })
    (record { root = 0 ∷ 0 ∷ 0 ∷ []; items = (Segment 2 ∷ Segment 1 ∷ Segment 0 ∷ []) ∷ [] ∷ [] ∷ [] })
    (record { modules = 0 ∷ 1 ∷ 2 ∷ []; chunks = [] }))
    (record { text = codes "function f() {}\nlet x = 1;"; pieces = record { plain = 20; kind = 105; site = 1 } ∷ [] }
    ∷ record { text = []; pieces = [] }
    ∷ record { text = codes "f(); x;"; pieces = record { plain = 0; kind = 114; site = 1 } ∷ record { plain = 4; kind = 114; site = 1 } ∷ [] } ∷ [])
    (record { variables = record { kind = Function; name = codes "f" } ∷ record { kind = Let; name = codes "x" } ∷ []; cells = []; space = None } ∷ no_lists ∷ no_lists ∷ [])

abbrev pub shared_scope_text : List ℕ
shared_scope_text =
    codes "[0, 1, [], function* (__webpack_r) {\n"
    ++ codes "\"use strict\";\n"
    ++ codes "/*v function f let x*/\n"
    ++ codes "yield;\n"
    ++ codes "/*m \"src/c.js\" 0r1 4r1 1*/\n"
    ++ codes "f(); x;\n"
    ++ codes "/*m \"src/b.js\" 0*/\n"
    ++ codes "\n"
    ++ codes "/*m \"src/index.js\" 20i1 5*/\n"
    ++ codes "function f() {}\nlet x = 1;\n"
    ++ codes "}]"

-- ---- a module that an `import()` leads to, which reads a name of another scope

abbrev pub later_module : MaterialOf
later_module = material_of (row_of (codes "src/index.js") Es ∷ row_of (codes "src/view.js") Es ∷ [])
    (plan_of (record { targets = 0 ∷ 1 ∷ []; entries = 1; closures = (0 ∷ []) ∷ (0 ∷ 1 ∷ []) ∷ []; leads = (1 ∷ []) ∷ [] ∷ [] })
    (record { modules = (0 ∷ []) ∷ (1 ∷ []) ∷ []; entries = 1; lists = [] ∷ (0 ∷ []) ∷ [] })
    (record { root = 0 ∷ 1 ∷ []; items = (Segment 0 ∷ []) ∷ (Evaluate 0 ∷ Segment 1 ∷ []) ∷ [] })
    (record { modules = 0 ∷ 1 ∷ []; chunks = 0 ∷ [] }))
    (record { text = []; pieces = [] }
    ∷ record { text = codes "const see = () => __webpack_r.m(0).n;"; pieces = record { plain = 6; kind = 105; site = 3 } ∷ record { plain = 9; kind = 114; site = 18 } ∷ [] } ∷ [])
    (no_lists
    ∷ record {
      variables = record { kind = Const; name = codes "see" } ∷ [];
      cells = [];
      space = Some (record { name = codes "see"; spelling = codes "see" } ∷ []);
    } ∷ [])

abbrev pub later_module_text : List ℕ
later_module_text =
    codes "__webpack_chunk__(0, [\n"
    ++ codes "[1, 1, [0], function* (__webpack_r) {\n"
    ++ codes "\"use strict\";\n"
    ++ codes "/*v const see*/\n"
    ++ codes "__webpack_r.n(1, [\"see\", () => see]);\n"
    ++ codes "yield;\n"
    ++ codes "__webpack_r.e(0);\n"
    ++ codes "/*m \"src/view.js\" 6i3 9r18 1*/\n"
    ++ codes "const see = () => __webpack_r.m(0).n;\n"
    ++ codes "}]\n"
    ++ codes "]);\n"

-- The factories of a bundle: the function for each scope, with its id and the ids that it evaluates or requires.
use Rattle.std.specs.Prelude.{ℕ, List, [], ◌∷◌, ◌++◌, length, map, codes, slice_index}
use Rattle.std.specs.List.{concat}
use Rattle.std.specs.Fmt.{decimal}
use Rattle.pk_text.specs.FirstPlaces.{first_places}
use Rattle.pk_types.specs.declared.facts.Kind.{Kind}
use Rattle.pk_types.specs.declared.facts.Kind.TheVariants.{Es, Cjs, Json}
use Rattle.pk_types.specs.declared.facts.SiteKind.{SiteKind}
use Rattle.pk_types.specs.declared.facts.SiteKind.TheVariants.{Init, Read, Write, Member, Space, Require, Import}
use Rattle.pk_types.specs.declared.graph.Row.{Row}
use Rattle.emit_chunk.specs.Factories.{text_at, id_text, segment_text, item_text, evaluated, items_of}
use Rattle.emit_chunk.specs.Joined.{all_of}
use Rattle.chunk_files.specs.Getters.{head_text}
use Rattle.chunk_files.specs.Joined.{joined}
use Rattle.chunk_files.specs.Json.{without_mark, escaped}
use Rattle.chunk_files.specs.Materials.{MaterialOf}

-- the ids of modules, with a comma between each two
abbrev pub ids_text : MaterialOf → List ℕ → List ℕ
ids_text material modules = joined (codes ", ") (map (id_text material.plan) modules)

-- the lines before `yield`, of the scope of a root
abbrev pub head_of : MaterialOf → ℕ → List ℕ
head_of material root = text_at (head_text (id_text material.plan root)) material.getters.scopes root

-- what a scope runs
abbrev pub run_text : MaterialOf → ℕ → List ℕ
run_text material root = all_of (item_text material.graph material.plan material.bodies) (items_of material.plan root)

-- an ECMAScript scope: it is a generator, which links up to `yield` and then runs
unfoldable pub es_factory : MaterialOf → ℕ → List ℕ
es_factory material root =
    codes "[" ++ id_text material.plan root ++ codes ", 1, [" ++ ids_text material (evaluated (items_of material.plan root))
    ++ codes "], function* (__webpack_r) {\n\"use strict\";\n" ++ head_of material root ++ codes "yield;\n" ++ run_text material root ++ codes "}]"

-- the module that a `require` leads to
abbrev pub required_at : Row → SiteKind → List ℕ
required_at row (Init binding) = []
required_at row (Read named) = []
required_at row (Write named) = []
required_at row (Member request name) = []
required_at row (Space request) = []
required_at row (Require request) = slice_index row.targets request ∷ []
required_at row (Import request) = []

-- the modules that a module requires, by the place of the first `require` of each
abbrev pub required_of : Row → List ℕ
required_of row = first_places (concat (map (λ site. required_at row site.kind) row.facts.sites))

-- a CommonJS module
unfoldable pub cjs_factory : MaterialOf → Row → ℕ → List ℕ
cjs_factory material row number =
    codes "[" ++ id_text material.plan number ++ codes ", 0, [" ++ ids_text material (required_of row)
    ++ codes "], function (module, exports, __webpack_r) {\n" ++ segment_text material.graph material.bodies number ++ codes "}]"

-- a JSON module, by its id, its label and its text between quotes
unfoldable pub json_factory : List ℕ → List ℕ → List ℕ → List ℕ
json_factory id label text =
    codes "[" ++ id ++ codes ", 0, [], function (module) {\n/*j \"" ++ label ++ codes "\" " ++ decimal (length text)
    ++ codes "*/\nmodule.exports = JSON.parse('" ++ text ++ codes "');\n}]"

abbrev pub json_text : MaterialOf → ℕ → List ℕ
json_text material number = text_at (λ source. escaped (without_mark source)) material.sources number

abbrev pub factory_as : Kind → MaterialOf → Row → ℕ → List ℕ
factory_as Es material row number = es_factory material number
factory_as Cjs material row number = cjs_factory material row number
factory_as Json material row number = json_factory (id_text material.plan number) row.label (json_text material number)

-- the factory of a scope, by the kind of the module that it is named by
unfoldable pub factory_of : MaterialOf → ℕ → List ℕ
factory_of material root = text_at (λ row. factory_as row.facts.kind material row root) material.graph.rows root

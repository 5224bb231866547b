-- The factories of a bundle: the function for each scope, with its id and the ids that it evaluates.
use Rattle.std.specs.Prelude.{ℕ, List, [], ◌∷◌, ◌++◌, codes, slice_get, slice_index, slice_index_or}
use Rattle.std.specs.Option.{option_map_or}
use Rattle.std.specs.Fmt.{decimal}
use Rattle.pk_types.specs.declared.facts.Kind.{Kind}
use Rattle.pk_types.specs.declared.facts.Kind.TheVariants.{Es, Cjs, Json}
use Rattle.pk_types.specs.declared.graph.Graph.{Graph}
use Rattle.pk_types.specs.declared.plan.Plan.{Plan}
use Rattle.pk_types.specs.declared.plan.Item.{Item}
use Rattle.pk_types.specs.declared.plan.Item.TheVariants.{Segment, Evaluate}
use Rattle.emit_body.specs.declared.body.Body.{Body}
use Rattle.emit_chunk.specs.Joined.{joined, all_of}
use Rattle.emit_chunk.specs.Marks.{marks_of}

-- the id of a module, written
abbrev pub id_text : Plan → ℕ → List ℕ
id_text plan number = decimal (slice_index plan.ids.modules number)

-- what stands at a place of a list, written; nothing where there is none
abbrev pub text_at : {A : Type 0} → (A → List ℕ) → List A → ℕ → List ℕ
text_at text items place = option_map_or text (slice_get items place) []

-- a module's label, the marks of its body, and the body
unfoldable pub segment_text : Graph → List Body → ℕ → List ℕ
segment_text graph bodies number =
    codes "/*m \"" ++ text_at (λ row. row.label) graph.rows number ++ codes "\" " ++ text_at marks_of bodies number ++ codes "*/\n"
    ++ text_at (λ body. body.text) bodies number ++ codes "\n"

-- the evaluation of a module of another scope
unfoldable pub evaluation_text : Plan → ℕ → List ℕ
evaluation_text plan number = codes "__webpack_r.e(" ++ id_text plan number ++ codes ");\n"

abbrev pub item_text : Graph → Plan → List Body → Item → List ℕ
item_text graph plan bodies (Segment number) = segment_text graph bodies number
item_text graph plan bodies (Evaluate number) = evaluation_text plan number

-- the modules of other scopes that are evaluated, in order
abbrev pub evaluated : List Item → List ℕ
evaluated [] = []
evaluated (Segment number ∷ items) = evaluated items
evaluated (Evaluate number ∷ items) = number ∷ evaluated items

-- what a scope runs
abbrev pub items_of : Plan → ℕ → List Item
items_of plan root = slice_index_or plan.hoists.items root []

-- an ECMAScript scope without bindings: it is a generator, which links up to `yield` and then runs
unfoldable pub es_factory : Graph → Plan → List Body → ℕ → List ℕ
es_factory graph plan bodies root =
    codes "[" ++ id_text plan root ++ codes ", 1, [" ++ joined (codes ", ") (id_text plan) (evaluated (items_of plan root))
    ++ codes "], function* (__webpack_r) {\n\"use strict\";\n/*v*/\nyield;\n" ++ all_of (item_text graph plan bodies) (items_of plan root) ++ codes "}]"

-- a CommonJS module that requires nothing
unfoldable pub cjs_factory : Graph → Plan → List Body → ℕ → List ℕ
cjs_factory graph plan bodies number =
    codes "[" ++ id_text plan number ++ codes ", 0, [], function (module, exports, __webpack_r) {\n" ++ segment_text graph bodies number ++ codes "}]"

abbrev pub factory_as : Kind → Graph → Plan → List Body → ℕ → List ℕ
factory_as Es graph plan bodies root = es_factory graph plan bodies root
factory_as Cjs graph plan bodies root = cjs_factory graph plan bodies root
factory_as Json graph plan bodies root = []

-- the factory of a scope, by the kind of the module that it is named by
unfoldable pub factory_of : Graph → Plan → List Body → ℕ → List ℕ
factory_of graph plan bodies root = text_at (λ row. factory_as row.facts.kind graph plan bodies root) graph.rows root

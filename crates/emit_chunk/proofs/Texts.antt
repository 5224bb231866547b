-- How the texts of a bundle are put together.
use Rattle.std.proofs.Common.{◌≡◌, ℕ, List, ◌++◌, append_assoc}
use Rattle.std.specs.Prelude.{codes}
use Rattle.pk_types.specs.declared.graph.Graph.{Graph}
use Rattle.pk_types.specs.declared.plan.Plan.{Plan}
use Rattle.emit_body.specs.declared.body.Body.{Body}
use Rattle.emit_chunk.specs.Joined.{joined, all_of}
use Rattle.emit_chunk.specs.Factories.{id_text, segment_text, evaluation_text, item_text, items_of, evaluated, es_factory, cjs_factory}

three : (file a b c : List ℕ) → ((file ++ a) ++ b) ++ c ≡ file ++ ((a ++ b) ++ c)
three file a b c = simp append_assoc

pub evaluation_joins : (plan : Plan) (number : ℕ) (file : List ℕ)
    → file ++ codes "__webpack_r.e(" ++ id_text plan number ++ codes ");\n" ≡ file ++ evaluation_text plan number
unfolding evaluation_text
evaluation_joins plan number file = three file _ (id_text plan number) _

five : (file a b c d e : List ℕ) → ((((file ++ a) ++ b) ++ c) ++ d) ++ e ≡ file ++ ((((a ++ b) ++ c) ++ d) ++ e)
five file a b c d e = simp append_assoc

seven : (file a b c d e f g : List ℕ)
    → ((((((file ++ a) ++ b) ++ c) ++ d) ++ e) ++ f) ++ g ≡ file ++ ((((((a ++ b) ++ c) ++ d) ++ e) ++ f) ++ g)
seven file a b c d e f g = simp append_assoc

pub segment_joins : (file label marks body : List ℕ)
    → file ++ codes "/*m \"" ++ label ++ codes "\" " ++ marks ++ codes "*/\n" ++ body ++ codes "\n" ≡ file ++ (codes "/*m \"" ++ label ++ codes "\" " ++ marks ++ codes "*/\n" ++ body ++ codes "\n")
segment_joins file label marks body = seven file _ label _ marks _ body _

pub cjs_joins : (graph : Graph) (plan : Plan) (bodies : List Body) (number : ℕ) (file : List ℕ)
    → file ++ codes "[" ++ id_text plan number ++ codes ", 0, [], function (module, exports, __webpack_r) {\n" ++ segment_text graph bodies number ++ codes "}]"
    ≡ file ++ cjs_factory graph plan bodies number
unfolding cjs_factory
cjs_joins graph plan bodies number file = five file _ (id_text plan number) _ (segment_text graph bodies number) _

pub es_joins : (graph : Graph) (plan : Plan) (bodies : List Body) (root : ℕ) (file : List ℕ)
    → file ++ codes "[" ++ id_text plan root ++ codes ", 1, [" ++ joined (codes ", ") (id_text plan) (evaluated (items_of plan root))
    ++ codes "], function* (__webpack_r) {\n\"use strict\";\n/*v*/\nyield;\n" ++ all_of (item_text graph plan bodies) (items_of plan root) ++ codes "}]"
    ≡ file ++ es_factory graph plan bodies root
unfolding es_factory
es_joins graph plan bodies root file =
    seven file _ (id_text plan root) _ (joined (codes ", ") (id_text plan) (evaluated (items_of plan root))) _ (all_of (item_text graph plan bodies) (items_of plan root)) _

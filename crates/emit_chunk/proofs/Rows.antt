-- What the code reads at a place of a list is what the definitions read there.
use Rattle.std.proofs.Common.{◌≡◌, ℕ, ◌<◌, List, [], length, ap, get_or}
use Rattle.std.proofs.lemmas.Option.{slice_get-get_or}
use Rattle.std.specs.Option.{option_map_or}
use Rattle.pk_types.specs.declared.graph.Graph.{Graph}
use Rattle.pk_types.specs.declared.graph.Row.{Row}
use Rattle.pk_types.specs.declared.plan.Plan.{Plan}
use Rattle.emit_body.specs.declared.body.Body.{Body}
use Rattle.emit_chunk.specs.Factories.{text_at, factory_as}
use Rattle.emit_chunk.specs.Marks.{marks_of}

text_read : {A : Type 0} (text : A → List ℕ) (items : List A) (place : ℕ) (default : A)
    → place < length items → text_at text items place ≡ text (get_or items place default)
text_read text items place default within = ap (λ found. option_map_or text found []) (slice_get-get_or items place default within)

pub label_read : (rows : List Row) (place : ℕ) (default : Row)
    → place < length rows → text_at (λ row. row.label) rows place ≡ (get_or rows place default).label
label_read rows = text_read (λ row. row.label) rows

pub marks_read : (bodies : List Body) (place : ℕ) (default : Body)
    → place < length bodies → text_at marks_of bodies place ≡ marks_of (get_or bodies place default)
marks_read bodies = text_read marks_of bodies

pub body_read : (bodies : List Body) (place : ℕ) (default : Body)
    → place < length bodies → text_at (λ body. body.text) bodies place ≡ (get_or bodies place default).text
body_read bodies = text_read (λ body. body.text) bodies

pub factory_read : (graph : Graph) (plan : Plan) (bodies : List Body) (rows : List Row) (place : ℕ) (default : Row)
    → place < length rows → text_at (λ row. factory_as row.facts.kind graph plan bodies place) rows place ≡ factory_as (get_or rows place default).facts.kind graph plan bodies place
factory_read graph plan bodies rows place = text_read (λ row. factory_as row.facts.kind graph plan bodies place) rows place

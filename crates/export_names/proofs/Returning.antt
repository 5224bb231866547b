-- Stars that wait for an answer, one more at the end.
use Rattle.std.proofs.Common.{List, [], ◌∷◌, ◌++◌, refl, sym, subst}
use Rattle.pk_types.specs.declared.graph.Graph.{Graph}
use Rattle.pk_types.specs.declared.found.Found.{Found}
use Rattle.pk_types.specs.Resolving.{Pair}
use Rattle.export_names.specs.declared.step.Stars.{Stars}
use Rattle.export_names.specs.Searching.{AnswerLeadsTo, Returns}

abbrev pub Answered : Graph → List Pair → Found → List Stars → Stars → Found → List Pair → Type 0
Answered graph before value waiting stars found after = (one : Found) × (between : List Pair) × AnswerLeadsTo graph before stars value one between × Returns graph between one waiting found after

-- the last is answered first
pub last_first : (graph : Graph) (waiting : List Stars) (stars : Stars) (before : List Pair) (value found : Found) (after : List Pair)
    → Returns graph before value (waiting ++ stars ∷ []) found after → Answered graph before value waiting stars found after
last_first graph [] stars before value found after (one, between, same, leads) =
    (found, after, subst (λ b. AnswerLeadsTo graph b stars value found after) (sym same.1) (subst (λ v. AnswerLeadsTo graph between stars v found after) (sym same.0) leads), (refl, refl))
last_first graph (other ∷ waiting) stars before value found after (one, between, rest, leads) =
    let inner = last_first graph waiting stars before value one between rest in
    (inner.0, inner.1, inner.2, (one, between, inner.3, leads))

pub first_last : (graph : Graph) (waiting : List Stars) (stars : Stars) (before : List Pair) (value found : Found) (after : List Pair)
    → Answered graph before value waiting stars found after → Returns graph before value (waiting ++ stars ∷ []) found after
first_last graph [] stars before value found after (one, between, leads, same) =
    (value, before, (refl, refl), subst (λ a. AnswerLeadsTo graph before stars value found a) same.1 (subst (λ f. AnswerLeadsTo graph before stars value f between) same.0 leads))
first_last graph (other ∷ waiting) stars before value found after (one, between, leads, (two, middle, rest, outer)) =
    (two, middle, first_last graph waiting stars before value two middle (one, between, leads, rest), outer)

use Rattle.std.proofs.Common.{ℕ, List, ◌<◌, length, get_or, IfSome, option_map, sym, ap, subst, ◌∙◌}
use Rattle.std.proofs.lemmas.Option.{slice_get-get_or}
use Rattle.export_faults.specs.Asking.{asked, IsJudged}
use Rattle.export_faults.proofs.Asked.{one_fault, no_fault}
use Rattle.export_faults.proofs.judging.fault_of.Goals as goal

pub bounds-as_slice-question : goal.bounds-as_slice-question
bounds-as_slice-question c =
    let row = c.row.result.now in
    let question = c.in-Some.question in
    subst (λ l. question.request < length l) (sym c.as_slice.ensures)
    (subst (λ o. IfSome o (λ q. q.request < length row.targets)) c.in-Some.is (c.requires.request row c.row.ensures.at))

pub returns-in-Some-2-clause-fault : goal.returns-in-Some-2-clause-fault
returns-in-Some-2-clause-fault c =
    let graph = c.args.resolver.now in
    let row = c.row.result.now in
    let question = asked c.in-Some.question in
    let target = get_or row.targets question.request 0 in
    let within = subst (λ o. IfSome o (λ q. q.request < length row.targets)) c.in-Some.is (c.requires.request row c.row.ensures.at) in
    one_fault graph c.args.module c.args.asker row question target c.in-Some-2.kind c.row.ensures.at
    (sym (c.requires.asks row c.row.ensures.at) ∙ ap (option_map asked) c.in-Some.is) (slice_get-get_or row.targets question.request 0 within)
    (subst (IsJudged graph target question.name) c.in-Some-2.is
    (subst (λ (l : List ℕ). IsJudged graph (get_or l question.request 0) question.name c.in_ok-kind.field-0) c.as_slice.ensures c.in_ok-kind.ensures.judged))

pub returns-in-None-clause-fault : goal.returns-in-None-clause-fault
returns-in-None-clause-fault c =
    let graph = c.args.resolver.now in
    let row = c.row.result.now in
    let question = asked c.in-Some.question in
    let target = get_or row.targets question.request 0 in
    let within = subst (λ o. IfSome o (λ q. q.request < length row.targets)) c.in-Some.is (c.requires.request row c.row.ensures.at) in
    no_fault graph c.args.module c.args.asker row question target c.row.ensures.at
    (sym (c.requires.asks row c.row.ensures.at) ∙ ap (option_map asked) c.in-Some.is) (slice_get-get_or row.targets question.request 0 within)
    (subst (IsJudged graph target question.name) c.in-None.is
    (subst (λ (l : List ℕ). IsJudged graph (get_or l question.request 0) question.name c.in_ok-kind.field-0) c.as_slice.ensures c.in_ok-kind.ensures.judged))

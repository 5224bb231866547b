use Rattle.std.proofs.Common.{rules, arith, ◌≡◌, None, Some, sym, ap, ◌∙◌}
use Rattle.std.proofs.Common.{ℕ, List, Option}
use Rattle.std.specs.Map.{keys_of}
use Rattle.std.specs.Option.{option_to_list}
use Rattle.module_graph.specs.Known.{with_paths}
use Rattle.watch_core.specs.Targets.{file_from, target_from}
use Rattle.watch_core.proofs.Looking.{next, stops_following, stops_asking, goes_following, goes_asking}
use Rattle.watch_core.proofs.Seeing.{lacks_memory, look_failed, then_sights}
use Rattle.std.proofs.lemmas.Grind.{common_steps}
use Rattle.watch_core.proofs.target.files_from.Goals as goal

pub returns-in-None-clause-value : goal.returns-in-None-clause-value
returns-in-None-clause-value g c = λ t h.
    let none : file_from t c.args.folder.now c.request-item.result ≡ None = ap (file_from t c.args.folder.now) (sym c.as_slice.ensures) ∙ sym (c.in_ok-file.ensures.value t (c.loop-request.invariant.keeps.sees t h)) ∙ c.in-None.is in
    let left = next c.args.requests.now c.loop-request.request-index c.request-item.result c.request-item.is c.loop-request-test.true in
    sym (stops_following t c.args.folder.now c.loop-request.targets.items _ c.request-item.result _ left none) ∙ c.loop-request.invariant.value t h

pub returns-in-None-clause-keys : goal.returns-in-None-clause-keys
returns-in-None-clause-keys g c = λ t h.
    let none : file_from t c.args.folder.now c.request-item.result ≡ None = ap (file_from t c.args.folder.now) (sym c.as_slice.ensures) ∙ sym (c.in_ok-file.ensures.value t (c.loop-request.invariant.keeps.sees t h)) ∙ c.in-None.is in
    let left = next c.args.requests.now c.loop-request.request-index c.request-item.result c.request-item.is c.loop-request-test.true in
    c.in_ok-file.ensures.keys ∙ ap (λ request. with_paths (keys_of c.loop-request.sights) (option_to_list (target_from c.args.folder.now request))) c.as_slice.ensures
    ∙ sym (stops_asking t c.args.folder.now (keys_of c.loop-request.sights) _ c.request-item.result _ left none) ∙ c.loop-request.invariant.keys t h

pub loop-request-preserved : goal.loop-request-preserved
loop-request-preserved g c =
    let left = next c.args.requests.now c.loop-request.request-index c.request-item.result c.request-item.is c.loop-request-test.true in
    record {
      keeps = then_sights _ _ _ _ _ _ c.loop-request.invariant.keeps c.in_ok-file.ensures.looks;
      each = grind (arith, common_steps);
      keys = λ t h.
          let some : file_from t c.args.folder.now c.request-item.result ≡ Some c.in-Some.file = ap (file_from t c.args.folder.now) (sym c.as_slice.ensures) ∙ sym (c.in_ok-file.ensures.value t (c.loop-request.invariant.keeps.sees t h)) ∙ c.in-Some.is in
          goes_asking t c.args.folder.now (keys_of c.loop-request.sights) _ _ c.request-item.result _ c.in-Some.file left some
          (c.in_ok-file.ensures.keys ∙ ap (λ request. with_paths (keys_of c.loop-request.sights) (option_to_list (target_from c.args.folder.now request))) c.as_slice.ensures)
          ∙ c.loop-request.invariant.keys t h;
      value = λ t h.
          let some : file_from t c.args.folder.now c.request-item.result ≡ Some c.in-Some.file = ap (file_from t c.args.folder.now) (sym c.as_slice.ensures) ∙ sym (c.in_ok-file.ensures.value t (c.loop-request.invariant.keeps.sees t h)) ∙ c.in-Some.is in
          goes_following t c.args.folder.now c.loop-request.targets.items _ _ c.request-item.result _ c.in-Some.file left some (search rules)
          ∙ c.loop-request.invariant.value t h;
    }

pub returns-in_err-file-clause-looks : goal.returns-in_err-file-clause-looks
returns-in_err-file-clause-looks g c = look_failed (Option (List ℕ)) _ _ c.from_residual.result _ _ _ _ _ _ _ c.loop-request.invariant.keeps c.from_residual.ensures.1 c.in_err-file.ensures.looks

pub returns-in_err-put-in-Some-clause-looks : goal.returns-in_err-put-in-Some-clause-looks
returns-in_err-put-in-Some-clause-looks g c = lacks_memory _ c.from_residual-in_err-put-in-Some.result _ _ _ _ _ (then_sights _ _ _ _ _ _ c.loop-request.invariant.keeps c.in_ok-file.ensures.looks) c.from_residual-in_err-put-in-Some.ensures.1

pub returns-in-None-clause-looks : goal.returns-in-None-clause-looks
returns-in-None-clause-looks g c = then_sights _ _ _ _ _ _ c.loop-request.invariant.keeps c.in_ok-file.ensures.looks

use Rattle.std.proofs.Common.{◌≡◌, None, Some, option_copied, sym, ap, subst, ◌∙◌}
use Rattle.bare_modules.specs.Meaning.{ReadsModule}
use Rattle.std.specs.Map.{keys_of}
use Rattle.std.specs.Option.{option_map}
use Rattle.module_graph.specs.Known.{with_paths}
use Rattle.watch_core.specs.Targets.{files_from, looked_at_from}
use Rattle.watch_core.proofs.Visiting.{looks_up, by_manifest, by_text, by_request, is_read, is_visited, looked_for}
use Rattle.watch_core.proofs.Seeing.{then_sights}
use Rattle.watch_core.proofs.module.follow.Goals as goal

pub returns-in-Some-clause-value : goal.returns-in-Some-clause-value
returns-in-Some-clause-value g c = λ t bytes before h read said size few.
    let up = looks_up t c.args.path.now c.as_slice.result.now _ _ (c.as_slice.ensures.value ∙ c.in_ok-manifests.ensures) (c.in_ok-manifest.ensures.keys t h) in
    by_manifest t before c.args.path.now bytes c.in-Some.manifest.now c.as_slice.result.now _ _ c.in_ok-not_built-in-Some.field-0 read few up (sym (c.in_ok-manifest.ensures.value t h) ∙ ap option_copied c.in-Some.is) c.in_ok-not_built-in-Some.ensures

pub returns-in-None-said-clause-value : goal.returns-in-None-said-clause-value
returns-in-None-said-clause-value g c = λ t bytes before h read said size few.
    let up = looks_up t c.args.path.now c.as_slice.result.now _ _ (c.as_slice.ensures.value ∙ c.in_ok-manifests.ensures) (c.in_ok-manifest.ensures.keys t h) in
    by_text t before c.args.path.now bytes c.as_slice.result.now _ _ c.in_ok-not_built-in-None-said.field-0 read few up (sym (c.in_ok-manifest.ensures.value t h) ∙ ap option_copied c.in-None.is) (subst (ReadsModule bytes) c.in-None-said.is said) c.in_ok-not_built-in-None-said.ensures

pub returns-in-Some-2-clause-value : goal.returns-in-Some-2-clause-value
returns-in-Some-2-clause-value g c = λ t bytes before h read said size few.
    let up = looks_up t c.args.path.now c.as_slice.result.now _ _ (c.as_slice.ensures.value ∙ c.in_ok-manifests.ensures) (c.in_ok-manifest.ensures.keys t h) in
    let says = is_read t c.args.path.now bytes c.as_slice.result.now _ _ c.in-Some-said.said read up (sym (c.in_ok-manifest.ensures.value t h) ∙ ap option_copied c.in-None.is) (subst (ReadsModule bytes) c.in-Some-said.is said) in
    let mid = c.in_ok-manifest.ensures.looks.sees t h in
    let leads : files_from t c.in_ok-folder.folder c.in-Some-said.said.requests ≡ Some c.in-Some-2.targets.items
    = ap (files_from t c.in_ok-folder.folder) (sym c.as_slice-2.ensures) ∙ sym (c.in_ok-targets.ensures.value t mid) ∙ ap (option_map (λ targets. targets.items)) c.in-Some-2.is in
    is_visited t before c.args.path.now c.in_ok-folder.folder bytes _ _ _ few says c.in_ok-folder.ensures.text leads
    (looked_for t c.args.path.now c.in_ok-folder.folder c.as_slice.result.now _ _ _ c.in-Some-said.said.requests up c.in_ok-folder.ensures.text
    (c.in_ok-targets.ensures.keys t mid ∙ ap (λ requests. with_paths (keys_of c.first_there.new.self) (looked_at_from t c.in_ok-folder.folder requests)) c.as_slice-2.ensures))
    size

pub returns-clause-value : goal.returns-clause-value
returns-clause-value g c = λ t bytes before h read said size few.
    let up = looks_up t c.args.path.now c.as_slice.result.now _ _ (c.as_slice.ensures.value ∙ c.in_ok-manifests.ensures) (c.in_ok-manifest.ensures.keys t h) in
    let says = is_read t c.args.path.now bytes c.as_slice.result.now _ _ c.in-Some-said.said read up (sym (c.in_ok-manifest.ensures.value t h) ∙ ap option_copied c.in-None.is) (subst (ReadsModule bytes) c.in-Some-said.is said) in
    let mid = c.in_ok-manifest.ensures.looks.sees t h in
    let lost : files_from t c.in_ok-folder.folder c.in-Some-said.said.requests ≡ None
    = ap (files_from t c.in_ok-folder.folder) (sym c.as_slice-2.ensures) ∙ sym (c.in_ok-targets.ensures.value t mid) ∙ ap (option_map (λ targets. targets.items)) c.in-None-2.is in
    by_request t before c.args.path.now c.in_ok-folder.folder bytes _ _ c.in-Some-said.said c.in_ok-not_built-in-None-2.field-0 few says c.in_ok-folder.ensures.text lost
    (looked_for t c.args.path.now c.in_ok-folder.folder c.as_slice.result.now _ _ _ c.in-Some-said.said.requests up c.in_ok-folder.ensures.text
    (c.in_ok-targets.ensures.keys t mid ∙ ap (λ requests. with_paths (keys_of c.first_there.new.self) (looked_at_from t c.in_ok-folder.folder requests)) c.as_slice-2.ensures))
    c.in_ok-not_built-in-None-2.ensures

pub returns-in-Some-2-clause-looks : goal.returns-in-Some-2-clause-looks
returns-in-Some-2-clause-looks g c = then_sights _ _ _ _ _ _ c.in_ok-manifest.ensures.looks c.in_ok-targets.ensures.looks

pub returns-clause-looks : goal.returns-clause-looks
returns-clause-looks g c = then_sights _ _ _ _ _ _ c.in_ok-manifest.ensures.looks c.in_ok-targets.ensures.looks

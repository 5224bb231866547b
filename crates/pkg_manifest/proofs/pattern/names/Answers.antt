use Rattle.std.proofs.Common.{◌≡◌, false, not, ◌&&◌, ◌∷◌, map, sym, ap, subst, ◌∙◌}
use Rattle.pkg_manifest.specs.Fitting.{fits}
use Rattle.pkg_manifest.specs.Patterns.{segment_step, segment_part, segments, anywhere, slash_at_edge, names_whole}
use Rattle.pkg_manifest.specs.BlockViews.{segments_left}
use Rattle.pkg_manifest.proofs.Cutting.{more_segments}
use Rattle.pkg_manifest.proofs.pattern.names.Goals as goal

pub returns-in-Some : goal.returns-in-Some
returns-in-Some c =
    let p = c.without_dot-pattern.result.now in
    let path = c.args.path.now in
    let first = c.cut.result.0.now in
    let text = c.in-Some.field-0.now in
    let here : segments p ≡ first ∷ segments text = c.cut.ensures ∙ ap (λ more. first ∷ segments_left more) c.in-Some.is in
    let same : map segment_part (segments p) ≡ anywhere (segments p) = subst (λ ps. map segment_part ps ≡ anywhere ps) (sym here) (more_segments first text) in
    let inside : slash_at_edge p ≡ false = sym c.slash_at_edge.ensures ∙ c.if-slash_at_edge.false in
    c.path_fits.ensures ∙ ap (λ ps. fits segment_step ps (segments path)) same ∙ ap (λ b. not b && fits segment_step (anywhere (segments p)) (segments path)) (sym inside)
    ∙ ap (λ x. names_whole x path) c.without_dot-pattern.ensures

use Rattle.std.proofs.Common.{◌≡◌, ◌∷◌, map, sym, ap, ◌∙◌}
use Rattle.pkg_manifest.specs.Patterns.{segment_step, segment_part}
use Rattle.pkg_manifest.specs.Blocks.{block, at_end}
use Rattle.pkg_manifest.specs.BlockViews.{segments_left}
use Rattle.pkg_manifest.proofs.Cutting.{not_at_end, on_stars, on_no_segment, on_other_segment}
use Rattle.pkg_manifest.proofs.pattern.segment_block.Goals as goal

pub returns-then-is_two_stars : goal.returns-then-is_two_stars
returns-then-is_two_stars c =
    let l = c.loop-pattern in
    let here : segments_left l.pattern ≡ c.cut.result.0.now ∷ segments_left c.cut.result.1 = ap segments_left c.in-Some.is ∙ c.cut.ensures in
    on_stars c.cut.result.0.now (segments_left c.cut.result.1) (segments_left l.path) (sym c.is_two_stars.ensures ∙ c.if-is_two_stars.true)
    ∙ ap (λ ps. block segment_step (map segment_part ps) (segments_left l.path)) (sym here) ∙ l.invariant

pub returns-in_default-path : goal.returns-in_default-path
returns-in_default-path c =
    let l = c.loop-pattern in
    let here : segments_left l.pattern ≡ c.cut.result.0.now ∷ segments_left c.cut.result.1 = ap segments_left c.in-Some.is ∙ c.cut.ensures in
    let part = c.cut.result.0.now ∷ segments_left c.cut.result.1 in
    on_no_segment c.cut.result.0.now (segments_left c.cut.result.1) (sym c.is_two_stars.ensures ∙ c.if-is_two_stars.false)
    ∙ ap (λ path. block segment_step (map segment_part part) (segments_left path)) (sym c.in_default-path.is) ∙ ap (λ ps. block segment_step (map segment_part ps) (segments_left l.path)) (sym here) ∙ l.invariant

pub returns-then-not-segment_fits : goal.returns-then-not-segment_fits
returns-then-not-segment_fits c =
    let l = c.loop-pattern in
    let here : segments_left l.pattern ≡ c.cut.result.0.now ∷ segments_left c.cut.result.1 = ap segments_left c.in-Some.is ∙ c.cut.ensures in
    let there : segments_left l.path ≡ c.cut-in-Some.result.0.now ∷ segments_left c.cut-in-Some.result.1 = ap segments_left c.in-Some-path.is ∙ c.cut-in-Some.ensures in
    let part = c.cut.result.0.now ∷ segments_left c.cut.result.1 in
    on_other_segment c.cut.result.0.now (segments_left c.cut.result.1) c.cut-in-Some.result.0.now (segments_left c.cut-in-Some.result.1) (sym c.is_two_stars.ensures ∙ c.if-is_two_stars.false) (sym c.segment_fits.ensures ∙ c.if-not-segment_fits.true)
    ∙ ap (λ path. block segment_step (map segment_part part) path) (sym there) ∙ ap (λ ps. block segment_step (map segment_part ps) (segments_left l.path)) (sym here) ∙ l.invariant

pub returns-in-Some-path-2 : goal.returns-in-Some-path-2
returns-in-Some-path-2 c =
    let l = c.loop-pattern in
    not_at_end c.in-Some-path-2.field-0.now ∙ ap (λ path. at_end (segments_left path)) (sym c.in-Some-path-2.is)
    ∙ ap (λ pattern. block segment_step (map segment_part (segments_left pattern)) (segments_left l.path)) (sym c.in_default.is) ∙ l.invariant

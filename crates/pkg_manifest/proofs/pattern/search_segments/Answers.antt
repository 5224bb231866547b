use Rattle.std.proofs.Common.{◌≡◌, [], ◌∷◌, map, sym, ap, ◌∙◌, arith}
use Rattle.std.proofs.lemmas.List.{length-map}
use Rattle.pkg_manifest.specs.Fitting.{many, fits}
use Rattle.pkg_manifest.specs.Patterns.{segment_step, segment_part}
use Rattle.pkg_manifest.specs.Blocks.{block}
use Rattle.pkg_manifest.specs.BlockViews.{segment_block, segments_left}
use Rattle.pkg_manifest.proofs.Choice.{search_goes_on, search_finds, search_moves, search_stops, star_left}
use Rattle.pkg_manifest.proofs.Steps.{segment_shrinks, segment_keeps}
use Rattle.pkg_manifest.proofs.pattern.search_segments.Goals as goal

pub returns-in-Ends : goal.returns-in-Ends
returns-in-Ends c =
    let l = c.loop-more in
    sym (sym l.invariant ∙ search_finds segment_step segment_shrinks segment_keeps (map segment_part (segments_left l.pattern)) (segments_left l.path) (sym c.segment_block.ensures ∙ ap segment_block c.in-Ends.is))

pub loop-more-smaller-in-Star : goal.loop-more-smaller-in-Star
loop-more-smaller-in-Star c =
    let l = c.loop-more in
    let p = segments_left l.pattern in
    let q = segments_left c.in-Star.more in
    let less = star_left segment_step segment_shrinks segment_keeps (map segment_part p) (segments_left l.path) (map segment_part q) (segments_left c.in-Star.rest) (sym c.segment_block.ensures ∙ ap segment_block c.in-Star.is) in
    omega (arith, less.0, less.1, length-map p segment_part, length-map q segment_part)

pub loop-more-preserved-in-Star : goal.loop-more-preserved-in-Star
loop-more-preserved-in-Star c =
    let l = c.loop-more in
    sym (search_goes_on segment_step segment_shrinks segment_keeps (map segment_part (segments_left l.pattern)) (segments_left l.path) (map segment_part (segments_left c.in-Star.more)) (segments_left c.in-Star.rest) (sym c.segment_block.ensures ∙ ap segment_block c.in-Star.is))
    ∙ l.invariant

pub returns-in-None : goal.returns-in-None
returns-in-None c =
    let l = c.loop-more in
    let p = map segment_part (segments_left l.pattern) in
    let empty : segments_left l.path ≡ [] = c.in-None.ensures in
    sym (sym l.invariant ∙ ap (fits segment_step (many ∷ p)) empty ∙ search_stops segment_step segment_shrinks segment_keeps p (ap (block segment_step p) (sym empty) ∙ sym c.segment_block.ensures ∙ ap segment_block c.in-Fails.is))

pub loop-more-preserved : goal.loop-more-preserved
loop-more-preserved c =
    let l = c.loop-more in
    let p = map segment_part (segments_left l.pattern) in
    let some = c.in-Some.ensures in
    sym (ap (fits segment_step (many ∷ p)) some.1 ∙ search_moves segment_step segment_shrinks segment_keeps p some.0 (segments_left c.in-Some.rest) (ap (block segment_step p) (sym some.1) ∙ sym c.segment_block.ensures ∙ ap segment_block c.in-Fails.is))
    ∙ l.invariant

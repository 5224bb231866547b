use Rattle.std.proofs.lemmas.List.{length-map}
use Rattle.pkg_manifest.specs.Fitting.{many, fits}
use Rattle.std.proofs.Common.{◌≡◌, [], ◌∷◌, map, sym, ap, ◌∙◌, arith}
use Rattle.pkg_manifest.specs.Patterns.{byte_step, byte_part}
use Rattle.pkg_manifest.specs.Blocks.{block}
use Rattle.pkg_manifest.specs.BlockViews.{byte_block}
use Rattle.pkg_manifest.proofs.Choice.{search_goes_on, search_finds, search_moves, search_stops, star_left}
use Rattle.pkg_manifest.proofs.Steps.{byte_shrinks, byte_keeps}
use Rattle.pkg_manifest.proofs.pattern.search_bytes.Goals as goal

pub returns-in-Ends : goal.returns-in-Ends
returns-in-Ends c =
    let l = c.loop-more in
    sym (sym l.invariant ∙ search_finds byte_step byte_shrinks byte_keeps (map byte_part l.pattern.now) l.text.now (sym c.byte_block.ensures ∙ ap byte_block c.in-Ends.is))

pub loop-more-smaller-in-Star : goal.loop-more-smaller-in-Star
loop-more-smaller-in-Star c =
    let l = c.loop-more in
    let less = star_left byte_step byte_shrinks byte_keeps (map byte_part l.pattern.now) l.text.now (map byte_part c.in-Star.more.now) c.in-Star.rest.now (sym c.byte_block.ensures ∙ ap byte_block c.in-Star.is) in
    omega (arith, less.0, less.1, length-map l.pattern.now byte_part, length-map c.in-Star.more.now byte_part)

pub loop-more-preserved-in-Star : goal.loop-more-preserved-in-Star
loop-more-preserved-in-Star c =
    let l = c.loop-more in
    sym (search_goes_on byte_step byte_shrinks byte_keeps (map byte_part l.pattern.now) l.text.now (map byte_part c.in-Star.more.now) c.in-Star.rest.now (sym c.byte_block.ensures ∙ ap byte_block c.in-Star.is)) ∙ l.invariant

pub returns-in-None : goal.returns-in-None
returns-in-None c =
    let l = c.loop-more in
    let p = map byte_part l.pattern.now in
    let empty : l.text.now ≡ [] = c.in-None.ensures in
    sym (sym l.invariant ∙ ap (fits byte_step (many ∷ p)) empty ∙ search_stops byte_step byte_shrinks byte_keeps p (ap (block byte_step p) (sym empty) ∙ sym c.byte_block.ensures ∙ ap byte_block c.in-Fails.is))

pub loop-more-preserved : goal.loop-more-preserved
loop-more-preserved c =
    let l = c.loop-more in
    let p = map byte_part l.pattern.now in
    let some = c.in-Some.ensures in
    sym (ap (fits byte_step (many ∷ p)) some.1 ∙ search_moves byte_step byte_shrinks byte_keeps p some.0 c.in-Some.rest.now (ap (block byte_step p) (sym some.1) ∙ sym c.byte_block.ensures ∙ ap byte_block c.in-Fails.is)) ∙ l.invariant

use Rattle.std.proofs.Common.{◌≡◌, false, ◌||◌, [], ◌∷◌, sym, ap, ◌∙◌}
use Rattle.std.specs.List.{list_any}
use Rattle.pkg_manifest.specs.Patterns.{segments}
use Rattle.pkg_manifest.specs.BlockViews.{segments_left}
use Rattle.pkg_exports.specs.Texts.{is_forbidden}
use Rattle.pkg_exports.proofs.Cuts.{cut_segments}
use Rattle.pkg_exports.proofs.text.has_forbidden.Goals as goal

pub loop-rest-preserved : goal.loop-rest-preserved
loop-rest-preserved c =
    let text = c.loop-rest.text.now in
    let first = c.cut.result.0.now in
    let here : segments text ≡ first ∷ segments c.in-Some.rest.now = cut_segments text first c.cut.result.1 c.cut.ensures.parts c.cut.ensures.first ∙ ap (λ more. first ∷ segments_left more) c.in-Some.is in
    let none : is_forbidden first ≡ false = sym c.is_forbidden.ensures ∙ c.if-is_forbidden.false in
    ap (λ b. b || list_any is_forbidden (segments c.in-Some.rest.now)) (sym none) ∙ ap (list_any is_forbidden) (sym here) ∙ c.loop-rest.invariant

pub returns-in-None : goal.returns-in-None
returns-in-None c =
    let text = c.loop-rest.text.now in
    let first = c.cut.result.0.now in
    let here : segments text ≡ first ∷ [] = cut_segments text first c.cut.result.1 c.cut.ensures.parts c.cut.ensures.first ∙ ap (λ more. first ∷ segments_left more) c.in-None.is in
    let none : is_forbidden first ≡ false = sym c.is_forbidden.ensures ∙ c.if-is_forbidden.false in
    ap (λ b. b || false) (sym none) ∙ ap (list_any is_forbidden) (sym here) ∙ c.loop-rest.invariant

use Rattle.std.proofs.Common.{◌≡◌, ◌∙◌, true, false, slice_get, sym, ap, arith}
use Rattle.es_outline.specs.Outline.{Marks}
use Rattle.es_sites.proofs.Opened.{opens_before, declaration_here, other_binder, declaration_further, no_declaration}
use Rattle.es_sites.specs.Marks.{begins_declaration, begins_binder}
use Rattle.es_sites.proofs.binding.declaration_around.Goals as goal

pub returns-then-begins_declaration : goal.returns-then-begins_declaration
returns-then-begins_declaration c =
    let begins : begins_declaration (slice_get c.args.outlined.now.marks c.in-Some.opening) ≡ true =
    sym (ap (λ (marks : Marks). begins_declaration (slice_get marks c.in-Some.opening)) c.marks-marks.ensures)
    ∙ sym c.begins_declaration.ensures ∙ c.if-begins_declaration.true in
    sym (declaration_here c.args.outlined.now c.args.enclosing.now c.requires.enclosing c.loop-opening.at c.in-Some.opening (sym c.in-Some.ensures) begins)
    ∙ c.loop-opening.invariant.same

pub returns-then-begins_binder : goal.returns-then-begins_binder
returns-then-begins_binder c =
    let begins : begins_binder (slice_get c.args.outlined.now.marks c.in-Some.opening) ≡ true =
    sym (ap (λ (marks : Marks). begins_binder (slice_get marks c.in-Some.opening)) c.marks-marks.ensures) ∙ sym c.begins_binder.ensures ∙ c.if-begins_binder.true in
    sym (other_binder c.args.outlined.now c.args.enclosing.now c.requires.enclosing c.loop-opening.at c.in-Some.opening (sym c.in-Some.ensures) begins)
    ∙ c.loop-opening.invariant.same

pub loop-opening-smaller : goal.loop-opening-smaller
loop-opening-smaller c = opens_before c.args.outlined.now c.args.enclosing.now c.requires.enclosing c.loop-opening.at c.in-Some.opening (sym c.in-Some.ensures)

pub loop-opening-preserved : goal.loop-opening-preserved
loop-opening-preserved c =
    let no_declaration : begins_declaration (slice_get c.args.outlined.now.marks c.in-Some.opening) ≡ false =
    sym (ap (λ (marks : Marks). begins_declaration (slice_get marks c.in-Some.opening)) c.marks-marks.ensures)
    ∙ sym c.begins_declaration.ensures ∙ c.if-begins_declaration.false in
    let no_binder : begins_binder (slice_get c.args.outlined.now.marks c.in-Some.opening) ≡ false =
    sym (ap (λ (marks : Marks). begins_binder (slice_get marks c.in-Some.opening)) c.marks-marks.ensures) ∙ sym c.begins_binder.ensures ∙ c.if-begins_binder.false in
    let before = opens_before c.args.outlined.now c.args.enclosing.now c.requires.enclosing c.loop-opening.at c.in-Some.opening (sym c.in-Some.ensures) in
    record {
      same = declaration_further c.args.outlined.now c.args.enclosing.now c.requires.enclosing c.loop-opening.at c.in-Some.opening (sym c.in-Some.ensures) no_declaration no_binder
          ∙ c.loop-opening.invariant.same;
      inside = omega (arith, before, c.loop-opening.invariant.inside);
    }

pub returns : goal.returns
returns c =
    sym (no_declaration c.args.outlined.now c.args.enclosing.now c.loop-opening.at c.requires.enclosing c.loop-opening.invariant.inside (sym c.in_default.ensures))
    ∙ c.loop-opening.invariant.same

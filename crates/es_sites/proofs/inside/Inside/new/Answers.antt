use Rattle.std.proofs.Common.{◌∙◌, ◌<◌, ◌≤◌, length, sym, ap, subst, arith}
use Rattle.es_outline.specs.Outline.{Marks}
use Rattle.es_sites.specs.Inside.{IsRequest, IsUnnamedClass, class_by}
use Rattle.es_sites.proofs.InsideLaws.{IsItem, request_item, class_item, opening_within, noted_so, nothing_so, all_in, request_within, class_within}
use Rattle.es_sites.proofs.inside.Inside.new.Goals as goal

pub loop-index-init : goal.loop-index-init
loop-index-init c = record {
  requests = nothing_so c.args.outlined.now.marks (IsRequest c.args.outlined.now c.args.asked.now.requests) c.in_ok-requests.requests.items (length c.marks-marks.result.now)
      c.in_ok-requests.ensures (ap length c.marks-marks.ensures);
  classes = nothing_so c.args.outlined.now.marks (IsUnnamedClass c.args.outlined.now) c.in_ok-classes.classes.items (length c.marks-marks.result.now)
      c.in_ok-classes.ensures (ap length c.marks-marks.ensures);
}

pub note-requires : goal.note-requires
note-requires c =
    opening_within c.args.outlined.now.marks c.args.enclosing.now c.loop-index.index c.loop-index.requests.items _ c.requires.enclosing
    (subst (λ (marks : Marks). c.loop-index.index < length marks) c.marks-marks.ensures c.loop-index-test.true) c.part_around-part.ensures c.loop-index.invariant.requests.whole

pub note-requires-in-loop-index : goal.note-requires-in-loop-index
note-requires-in-loop-index c =
    opening_within c.args.outlined.now.marks c.args.enclosing.now c.loop-index.index c.loop-index.classes.items _ c.requires.enclosing
    (subst (λ (marks : Marks). c.loop-index.index < length marks) c.marks-marks.ensures c.loop-index-test.true) c.part_around-part.ensures c.loop-index.invariant.classes.whole

pub loop-index-preserved : goal.loop-index-preserved
loop-index-preserved c =
    let inside : c.loop-index.index < length c.args.outlined.now.marks =
    subst (λ (marks : Marks). c.loop-index.index < length marks) c.marks-marks.ensures c.loop-index-test.true in
    record {
      requests = noted_so c.args.outlined.now.marks (IsRequest c.args.outlined.now c.args.asked.now.requests) c.args.enclosing.now c.loop-index.index c.loop-index.requests.items
          c.note.new.table.items _ _ c.requires.enclosing inside c.part_around-part.ensures c.loop-index.invariant.requests
          (subst (IsItem (IsRequest c.args.outlined.now c.args.asked.now.requests) c.loop-index.index) (sym c.request_at.ensures)
          (request_item c.args.outlined.now c.args.asked.now c.requires.asked c.loop-index.index inside)) c.note.ensures;
      classes = noted_so c.args.outlined.now.marks (IsUnnamedClass c.args.outlined.now) c.args.enclosing.now c.loop-index.index c.loop-index.classes.items
          c.note-in-loop-index.new.table.items _ _ c.requires.enclosing inside c.part_around-part.ensures c.loop-index.invariant.classes
          (subst (IsItem (IsUnnamedClass c.args.outlined.now) c.loop-index.index)
          (sym (c.class_at.ensures ∙ ap (λ (marks : Marks). class_by marks c.loop-index.index) c.marks-marks.ensures))
          (class_item c.args.outlined.now c.loop-index.index)) c.note-in-loop-index.ensures;
    }

pub returns : goal.returns
returns c =
    let most : length c.args.outlined.now.marks ≤ c.loop-index.index = subst (λ (marks : Marks). length marks ≤ c.loop-index.index) c.marks-marks.ensures c.loop-index-test.false in
    record {
      requests = all_in c.args.outlined.now.marks (IsRequest c.args.outlined.now c.args.asked.now.requests) c.loop-index.index c.loop-index.requests.items
          (λ place item h. let within = request_within c.args.outlined.now c.args.asked.now.requests place item h in omega (arith, within, most)) c.loop-index.invariant.requests;
      classes = all_in c.args.outlined.now.marks (IsUnnamedClass c.args.outlined.now) c.loop-index.index c.loop-index.classes.items
          (λ place item h. let within = class_within c.args.outlined.now place item h in omega (arith, within, most)) c.loop-index.invariant.classes;
    }

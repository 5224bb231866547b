use Rattle.std.proofs.Common.{ℕ, Option, None, ◌≡◌, ◌≤◌, ◌∙◌, ap, length, replicate, arith}
use Rattle.es_outline.specs.Outline.{Marks}
use Rattle.es_declares.specs.Inside.{IsRequest, IsAsking, IsNameless, is_request, is_asking, is_nameless}
use Rattle.es_declares.proofs.InsideLaws.{none_inside, one_noted, all_inside}
use Rattle.es_declares.proofs.StandingLaws.{part_within, request_told, asking_told, nameless_told, request_within, asking_within, nameless_within}
use Rattle.es_declares.proofs.inside.Inside.new.Goals as goal

pub loop-place-init : goal.loop-place-init
loop-place-init c =
    let none : replicate {A = Option ℕ} (length c.marks-count.result.now) None ≡ replicate (length c.args.outlined.now.marks) None =
    ap (λ (marks : Marks). replicate {A = Option ℕ} (length marks) None) c.marks-count.ensures in
    record {
      requests = none_inside (IsRequest c.args.outlined.now) c.args.outlined.now.marks c.in_ok-requests.requests (c.in_ok-requests.ensures ∙ none);
      asking = none_inside (IsAsking c.args.outlined.now) c.args.outlined.now.marks c.in_ok-asking.asking (c.in_ok-asking.ensures ∙ none);
      nameless = none_inside (IsNameless c.args.outlined.now) c.args.outlined.now.marks c.in_ok-nameless.nameless (c.in_ok-nameless.ensures ∙ none);
    }

pub note-requires : goal.note-requires
note-requires c = part_within c.args.outlined.now.marks c.args.enclosing.now c.loop-place.place (length c.loop-place.requests) c.around-part.result c.requires.enclosing
    c.around-part.ensures c.loop-place.invariant.requests.whole

pub note-requires-in-loop-place : goal.note-requires-in-loop-place
note-requires-in-loop-place c = part_within c.args.outlined.now.marks c.args.enclosing.now c.loop-place.place (length c.loop-place.asking) c.around-part.result c.requires.enclosing
    c.around-part.ensures c.loop-place.invariant.asking.whole

pub note-requires-in-loop-place-2 : goal.note-requires-in-loop-place-2
note-requires-in-loop-place-2 c = part_within c.args.outlined.now.marks c.args.enclosing.now c.loop-place.place (length c.loop-place.nameless) c.around-part.result c.requires.enclosing
    c.around-part.ensures c.loop-place.invariant.nameless.whole

pub loop-place-preserved : goal.loop-place-preserved
loop-place-preserved c =
    let source = c.args.outlined.now in
    let inner = (c.requires.enclosing.each c.loop-place.place c.around-part.result c.around-part.ensures).part in
    record {
      requests = one_noted (IsRequest source) source.marks c.loop-place.place c.around-part.result.part c.is_request.result c.loop-place.requests c.note.new.self inner
          (request_told source c.loop-place.place c.is_request.result (c.is_request.ensures ∙ ap is_request c.mark_at-mark.ensures)) c.note.ensures c.loop-place.invariant.requests;
      asking = one_noted (IsAsking source) source.marks c.loop-place.place c.around-part.result.part c.is_asking.result c.loop-place.asking c.note-in-loop-place.new.self inner
          (asking_told source c.args.asked.now c.requires.asked c.loop-place.place c.is_asking.result c.number_at.result c.number_at.ensures
          (c.is_asking.ensures ∙ ap (λ m. is_asking m c.number_at.result) c.mark_at-mark.ensures)) c.note-in-loop-place.ensures c.loop-place.invariant.asking;
      nameless = one_noted (IsNameless source) source.marks c.loop-place.place c.around-part.result.part c.is_nameless.result c.loop-place.nameless c.note-in-loop-place-2.new.self inner
          (nameless_told source c.loop-place.place c.is_nameless.result
          (c.is_nameless.ensures ∙ (ap (λ m. is_nameless m c.mark_at-next.result) c.mark_at-mark.ensures ∙ ap (is_nameless _) c.mark_at-next.ensures)))
          c.note-in-loop-place-2.ensures c.loop-place.invariant.nameless;
    }

pub returns : goal.returns
returns c =
    let source = c.args.outlined.now in
    let most : length source.marks ≤ c.loop-place.place = omega (arith, ap length c.marks-count.ensures) in
    record {
      requests = all_inside (IsRequest source) source.marks c.loop-place.place c.loop-place.requests (request_within source) most c.loop-place.invariant.requests;
      asking = all_inside (IsAsking source) source.marks c.loop-place.place c.loop-place.asking (asking_within source) most c.loop-place.invariant.asking;
      nameless = all_inside (IsNameless source) source.marks c.loop-place.place c.loop-place.nameless (nameless_within source) most c.loop-place.invariant.nameless;
    }

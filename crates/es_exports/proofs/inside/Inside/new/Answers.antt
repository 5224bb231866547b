use Rattle.es_exports.specs.Noting.{of_request, of_numbered, of_unnamed}
use Rattle.es_exports.proofs.Entries.{none_noted, one_noted}
use Rattle.es_exports.proofs.inside.Inside.new.Goals as goal

pub loop-place-init : goal.loop-place-init
loop-place-init c = record {
  requests = none_noted (of_request c.args.sight.now) c.new-requests.result c.new-requests.ensures;
  numbered = none_noted (of_numbered c.args.sight.now) c.new-numbered.result c.new-numbered.ensures;
  unnamed = none_noted (of_unnamed c.args.sight.now) c.new-unnamed.result c.new-unnamed.ensures;
}

pub loop-place-preserved : goal.loop-place-preserved
loop-place-preserved c = record {
  requests = one_noted (of_request c.args.sight.now) c.loop-place.place c.of_request.result c.loop-place.requests c.note.new.self c.of_request.ensures
      c.in_ok-note.ensures c.loop-place.invariant.requests;
  numbered = one_noted (of_numbered c.args.sight.now) c.loop-place.place c.of_numbered.result c.loop-place.numbered c.note-in-loop-place.new.self
      c.of_numbered.ensures c.in_ok-note-2.ensures c.loop-place.invariant.numbered;
  unnamed = one_noted (of_unnamed c.args.sight.now) c.loop-place.place c.of_unnamed.result c.loop-place.unnamed c.note-in-loop-place-2.new.self
      c.of_unnamed.ensures c.in_ok-note-3.ensures c.loop-place.invariant.unnamed;
}

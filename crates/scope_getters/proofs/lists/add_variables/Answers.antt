use Rattle.std.proofs.Common.{◌≡◌, ◌<◌, ◌++◌, ◌∷◌, [], Some, length, get_or, sym, ap, ◌∙◌, arith}
use Rattle.std.proofs.lemmas.List.{take_all}
use Rattle.std.proofs.lemmas.Option.{slice_get-get_or, get_or_from_slice_get}
use Rattle.scope_getters.specs.Scopes.{variables_of}
use Rattle.scope_getters.proofs.Listing.{variables_more}
use Rattle.scope_getters.proofs.lists.add_variables.Goals as goal

pub loop-place-preserved : goal.loop-place-preserved
loop-place-preserved c =
    let old = c.args.variables.now.items in
    let bindings = c.args.bindings.now in
    let names = c.args.names.now in
    let place = c.loop-place.place in
    let name = c.in_ok-name.name in
    let binding = get_or bindings place c.index-bindings-place.result in
    let there = slice_get-get_or bindings place c.index-bindings-place.result c.loop-place-test.true in
    let inside : place < length names = omega (arith, c.loop-place-test.true, c.requires) in
    let read : name ≡ get_or names place c.index-names-place.result = c.in_ok-name.ensures ∙ c.as_slice.ensures ∙ c.index-names-place.is in
    let got = slice_get-get_or names place c.index-names-place.result inside ∙ ap Some (sym read) in
    c.in_ok-push.ensures.items ∙ ap (λ l. l ++ record { kind = binding.kind; name = name } ∷ []) c.loop-place.invariant
    ∙ variables_more old bindings names place binding name c.loop-place-test.true c.requires (sym (get_or_from_slice_get bindings place binding binding there))
    (sym (get_or_from_slice_get names place name name got))

pub returns : goal.returns
returns c =
    let bindings = c.args.bindings.now in
    c.loop-place.invariant ∙ ap (λ l. c.args.variables.now.items ++ variables_of l c.args.names.now) (take_all c.loop-place.place bindings c.loop-place-test.false)

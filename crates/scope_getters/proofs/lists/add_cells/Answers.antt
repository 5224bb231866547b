use Rattle.std.proofs.Common.{◌≡◌, ◌<◌, ◌++◌, ◌∷◌, ℕ, List, Bool, [], length, get_or, map, filter, sym, ap, ◌∙◌, arith}
use Rattle.std.specs.List.{list_any, range_with_len}
use Rattle.std.proofs.lemmas.Option.{slice_get-get_or, get_or_from_slice_get}
use Rattle.module_spelling.specs.Layout.{name_of, names_of}
use Rattle.scope_getters.specs.Scopes.{is_cell}
use Rattle.scope_getters.proofs.Listing.{kept_more, left_out}
use Rattle.scope_getters.proofs.lists.add_cells.Goals.{then-contains+in_ok-from_slice+in_ok-push, else-contains}
use Rattle.scope_getters.proofs.lists.add_cells.Goals as goal

-- a name that is read at its place, whatever stands for a missing one
same_read : (names : List (List ℕ)) (place : ℕ) (d : List ℕ) → place < length names → get_or names place d ≡ get_or names place []
same_read names place d within = sym (get_or_from_slice_get names place (get_or names place d) [] (slice_get-get_or names place d within))

pub overflow_cast-place : goal.overflow_cast-place
overflow_cast-place c = omega (arith, c.loop-place-test.true, c.len-count.ensures, c.row.ensures.fits.facts.short.bindings)

pub bounds-names-place : goal.bounds-names-place
bounds-names-place c = omega (arith, c.loop-place-test.true, c.len-count.ensures, c.names-names.ensures.each c.row.result.now c.row.ensures.at)

pub loop-place-preserved : goal.loop-place-preserved
loop-place-preserved c =
    let layout = c.args.speller.now in
    let member = c.args.member in
    let place = c.loop-place.place in
    let old = c.args.list.now.items in
    let test : ℕ → Bool = λ p. list_any (is_cell (member, p)) c.args.cells.now.keys in
    let f = name_of layout member in
    let is : c.contains.result ≡ test place = c.contains.ensures in
    elim c.if-contains.branch [
      | then-contains+in_ok-from_slice+in_ok-push w ↦
          let name : w.in_ok-from_slice.field-0 ≡ f place =
          w.in_ok-from_slice.ensures ∙ w.as_slice.ensures ∙ w.index-names-place.is ∙ same_read c.names-names.result.now place w.index-names-place.result
          (omega (arith, c.loop-place-test.true, c.len-count.ensures, c.names-names.ensures.each c.row.result.now c.row.ensures.at))
          ∙ ap (λ l. get_or l place []) c.names-names.ensures.names in
          ap (λ v. v.items) w.list-is ∙ w.in_ok-push.ensures.items
          ∙ ap (λ l. l ++ w.in_ok-from_slice.field-0 ∷ []) c.loop-place.invariant
          ∙ ap (λ n. (old ++ map f (filter test (range_with_len 0 place))) ++ n ∷ []) name
          ∙ sym (kept_more f test place old (sym is ∙ w.if-contains.true))
      | else-contains w ↦ ap (λ v. v.items) w.list-is ∙ c.loop-place.invariant ∙ sym (left_out f test place old (sym is ∙ w.if-contains.false))
    ]

pub returns : goal.returns
returns c =
    let layout = c.args.speller.now in
    let member = c.args.member in
    let test : ℕ → Bool = λ p. list_any (is_cell (member, p)) c.args.cells.now.keys in
    let end : c.loop-place.place ≡ length (names_of layout member) =
    omega (arith, c.loop-place-test.false, c.loop-place.auto.place-end, c.len-count.ensures, c.names-names.ensures.each c.row.result.now c.row.ensures.at, ap length c.names-names.ensures.names) in
    c.loop-place.invariant ∙ ap (λ n. c.args.list.now.items ++ map (name_of layout member) (filter test (range_with_len 0 n))) end

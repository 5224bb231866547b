use Rattle.std.proofs.Common.{◌≡◌, length, sym, ap, arith, ◌∙◌, slice_get, Some}
use Rattle.std.proofs.lemmas.Option.{slice_get-get_or}
use Rattle.pk_text.proofs.Places.{place_at}
use Rattle.pk_text.proofs.intern.Interner.text_of.Goals as goal

pub returns-clause-place : goal.returns-clause-place
returns-clause-place c =
    let keys = c.as_slice.result.now in
    let at : slice_get keys c.args.n ≡ Some c.as_slice-2.result.now =
    slice_get-get_or keys c.args.n c.index-as_slice-n.result (omega (arith, c.requires, ap length c.as_slice.ensures.keys, ap length c.self.view_is)) ∙ ap Some (sym c.index-as_slice-n.is ∙ sym c.as_slice-2.ensures) in
    rw (← c.self.view_is, ← c.as_slice.ensures.keys) (place_at keys c.args.n _ (rw c.as_slice.ensures.keys c.as_slice.ensures.unique) at)

use Rattle.std.proofs.Common.{◌≡◌, ◌<◌, ◌&&◌, [], ◌∷◌, ◌++◌, length, take, get_or, sum_by, sym, ap, subst, ◌∙◌, arith}
use Rattle.std.proofs.lemmas.List.{get_or_default}
use Rattle.std.proofs.lemmas.List.{take_more}
use Rattle.std.proofs.Math.ListN.{set}
use Rattle.avail_sets.specs.Words.{flag_in}
use Rattle.avail_sets.specs.Rows.{ArePassed}
use Rattle.avail_sets.proofs.Passing.{begins, stays, loses}
use Rattle.avail_sets.proofs.shrinking.pass_on.Goals.{then-keep_common+in_ok-insert, else-keep_common}
use Rattle.avail_sets.proofs.shrinking.pass_on.Goals as goal

pub loop-group-init : goal.loop-group-init
loop-group-init c = begins c.args.have.now c.args.rows.now.items c.args.waiting.now.keys

pub index_mut-requires : goal.index_mut-requires
index_mut-requires c =
    let rows = c.loop-group.rows.items in
    let place = c.loop-group.group-index in
    let next = get_or c.args.leads.now place 0 in
    let inv = c.loop-group.invariant in
    let below : next < length c.args.rows.now.items = c.requires.leads place 0 c.loop-group-test.true in
    let within : next < length rows = omega (arith, below, inv.each) in
    omega (arith, within, c.loop-group.rows.ok)

pub keep_common-requires : goal.keep_common-requires
keep_common-requires c =
    let rows = c.loop-group.rows.items in
    let place = c.loop-group.group-index in
    let next = get_or c.args.leads.now place 0 in
    let inv = c.loop-group.invariant in
    let below : next < length c.args.rows.now.items = c.requires.leads place 0 c.loop-group-test.true in
    let within : next < length rows = omega (arith, below, inv.each) in
    let read : c.index_mut.result.now ≡ get_or rows next [] = c.index_mut.ensures.value ∙ get_or_default rows next c.index_mut.result.now [] within in
    ap length read ∙ inv.long next ∙ c.requires.long next below

pub loop-group-preserved : goal.loop-group-preserved
loop-group-preserved c =
    let rows = c.loop-group.rows.items in
    let place = c.loop-group.group-index in
    let next = get_or c.args.leads.now place 0 in
    let inv = c.loop-group.invariant in
    let below : next < length c.args.rows.now.items = c.requires.leads place 0 c.loop-group-test.true in
    let within : next < length rows = omega (arith, below, inv.each) in
    let read : c.index_mut.result.now ≡ get_or rows next [] = c.index_mut.ensures.value ∙ get_or_default rows next c.index_mut.result.now [] within in
    let have = c.args.have.now in
    let leads = take place c.args.leads.now in
    let old = c.args.rows.now.items in
    let waiting = c.args.waiting.now.keys in
    let left = c.loop-group.waiting.keys in
    let row = c.keep_common.new.self in
    let long = c.keep_common.ensures.long ∙ ap length read in
    subst (λ l. ArePassed have l old (set rows next row) waiting c.if-keep_common.waiting.keys) (sym (take_more c.args.leads.now place 0 c.loop-group-test.true))
    (elim c.if-keep_common.branch [
      | then-keep_common+in_ok-insert w ↦
          subst (ArePassed have (leads ++ next ∷ []) old (set rows next row) waiting) (sym (ap (λ s. s.keys) w.waiting-is ∙ w.in_ok-insert.ensures.keys))
          (loses have leads old rows waiting left inv next row within long (λ number. c.keep_common.ensures.flags number ∙ ap (λ r. flag_in r number && flag_in have number) read)
          (let less = c.keep_common.ensures.fewer w.if-keep_common.true in omega (arith, less, ap (sum_by (λ word. word)) read)))
      | else-keep_common w ↦
          subst (ArePassed have (leads ++ next ∷ []) old (set rows next row) waiting) (sym (ap (λ s. s.keys) w.waiting-is))
          (stays have leads old rows waiting left inv next row within long (λ number. c.keep_common.ensures.flags number ∙ ap (λ r. flag_in r number && flag_in have number) read)
          (c.keep_common.ensures.same w.if-keep_common.false ∙ read))
    ])

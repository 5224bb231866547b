use Rattle.std.proofs.Common.{◌≡◌, inl, inr, ⊎_elim, ◌-◌, ◌*◌, length, sym, ap, ◌∙◌}
use Rattle.pk_types.specs.SplitPicks.{by_name, by_path}
use Rattle.split_chunks.proofs.Orders.{level, same_text, behind_text, before_paths}
use Rattle.split_chunks.proofs.order.is_ahead.Goals as goal

pub returns-in-Equal-clause-ahead : goal.returns-in-Equal-clause-ahead
returns-in-Equal-clause-ahead c before =
    let count : _ = length c.args.choice.now.chunks.now - 1 in
    let other_count : _ = length c.args.other.now.chunks.now - 1 in
    let gain : c.args.choice.now.bytes * count ≡ c.args.other.now.bytes * other_count = sym c.gain_of-gain.ensures ∙ c.if-gain-other_gain.false ∙ c.gain_of-other_gain.ensures in
    by_path (level c.args.choice.now.cache.now.priority c.args.other.now.cache.now.priority (c.is_above.ensures.not_above c.if-is_above.false) (c.is_above-2.ensures.not_above c.if-is_above-2.false))
    (ap (λ b. b * count) (sym c.requires.bytes) ∙ gain ∙ ap (λ b. b * other_count) c.requires.other_bytes)
    (sym c.as_slice.ensures ∙ same_text c.as_slice.result.now c.as_slice-2.result.now (sym c.cmp.ensures ∙ c.in-Equal.is) ∙ c.as_slice-2.ensures)
    (c.has_lesser_path.ensures.lesser before)

pub returns-in-Equal-clause-behind : goal.returns-in-Equal-clause-behind
returns-in-Equal-clause-behind c behind =
    let count : _ = length c.args.choice.now.chunks.now - 1 in
    let other_count : _ = length c.args.other.now.chunks.now - 1 in
    let gain : c.args.choice.now.bytes * count ≡ c.args.other.now.bytes * other_count = sym c.gain_of-gain.ensures ∙ c.if-gain-other_gain.false ∙ c.gain_of-other_gain.ensures in
    let same = ap (λ b. b * count) (sym c.requires.bytes) ∙ gain ∙ ap (λ b. b * other_count) c.requires.other_bytes in
    let name = sym c.as_slice.ensures ∙ same_text c.as_slice.result.now c.as_slice-2.result.now (sym c.cmp.ensures ∙ c.in-Equal.is) ∙ c.as_slice-2.ensures in
    ⊎_elim
    (λ lower. inl (by_path (sym (level c.args.choice.now.cache.now.priority c.args.other.now.cache.now.priority (c.is_above.ensures.not_above c.if-is_above.false) (c.is_above-2.ensures.not_above c.if-is_above-2.false))) (sym same) (sym name) lower))
    (λ share. inr (record { name = name; share = share }))
    (c.has_lesser_path.ensures.not_lesser behind)

pub returns-in-Greater-clause-behind : goal.returns-in-Greater-clause-behind
returns-in-Greater-clause-behind c behind =
    let count : _ = length c.args.choice.now.chunks.now - 1 in
    let other_count : _ = length c.args.other.now.chunks.now - 1 in
    let gain : c.args.choice.now.bytes * count ≡ c.args.other.now.bytes * other_count = sym c.gain_of-gain.ensures ∙ c.if-gain-other_gain.false ∙ c.gain_of-other_gain.ensures in
    let same = ap (λ b. b * count) (sym c.requires.bytes) ∙ gain ∙ ap (λ b. b * other_count) c.requires.other_bytes in
    inl (by_name (sym (level c.args.choice.now.cache.now.priority c.args.other.now.cache.now.priority (c.is_above.ensures.not_above c.if-is_above.false) (c.is_above-2.ensures.not_above c.if-is_above-2.false))) (sym same)
    (before_paths c.as_slice-2.result.now c.as_slice.result.now c.args.other.now.cache.now.name c.args.choice.now.cache.now.name c.as_slice-2.ensures c.as_slice.ensures
    (behind_text c.as_slice.result.now c.as_slice-2.result.now (sym c.cmp.ensures ∙ c.in-Greater.is))))

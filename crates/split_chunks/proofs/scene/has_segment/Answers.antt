use Rattle.std.proofs.Common.{rules, tests, nat_eq}
use Rattle.std.specs.Str.{bytes_eq}
use Rattle.std.proofs.lemmas.Iterator.Search.{any_from_yields_List}
use Rattle.std.proofs.lemmas.Iterator.Splits.{YieldsList-from_slice_split}
use Rattle.split_chunks.proofs.scene.has_segment.Goals as goal

pub returns : goal.returns
returns c = any_from_yields_List (bytes_eq c.args.segment.now) _ _ _ c.any.ensures.ran
    (YieldsList-from_slice_split _ (nat_eq 47) c.args.path.now c.split.ensures.rest c.split.ensures.done c.split.ensures.closure (λ x r q k. search (rules, tests)))
    (λ x b q k. search (rules, tests))

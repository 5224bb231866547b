use Rattle.es_asks.proofs.AskedLaws.{asks_once}
use Rattle.es_asks.proofs.Passed.{all_told}
use Rattle.es_asks.proofs.asked.Asked.new.Goals as goal

pub returns : goal.returns
returns c =
    all_told c.args.outlined.now (record { requests = c.from_vec.result; numbers = c.in_ok-numbers.numbers; order = c.in_ok-order.order })
    c.numbered.new.requests.items.items c.as_slice.result.now c.from_vec.ensures c.as_slice.ensures.value
    (λ place request other h also. asks_once c.args.outlined.now c.args.scopes.now c.in_ok-forwarded.forwarded c.requires.scopes c.in_ok-forwarded.ensures place request other h also)
    c.in_ok-numbers.ensures c.in_ok-order.ensures

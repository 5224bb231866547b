use Rattle.std.proofs.Common.{◌∙◌, sym, ap, subst}
use Rattle.es_declares.specs.Inside.{Standing, IsRequestNumber, request_by}
use Rattle.es_declares.proofs.RequestLaws.{request_is}
use Rattle.es_declares.proofs.inside.Inside.request_of.Goals as goal

pub returns : goal.returns
returns c source around asked standing =
    let same = ap (λ (s : Standing). request_by s.asking c.args.asked.now.numbers.items c.around.result.part) c.self.view_is in
    subst (IsRequestNumber source c.args.asked.now.requests c.args.place) (sym (c.request_by.ensures ∙ same))
    (request_is source c.args.asked.now asked c.args.place c.args.self.now.asking standing.asking c.around.result.part
    (around.each c.args.place c.around.result c.around.ensures).part)

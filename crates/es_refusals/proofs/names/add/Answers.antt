use Rattle.std.proofs.Common.{ℕ, Option, sym, subst}
use Rattle.export_names.specs.Collected.{key_names, HasMore}
use Rattle.es_refusals.specs.Names.{IsNumbered}
use Rattle.es_refusals.proofs.Gathered.{one_numbered}
use Rattle.es_refusals.proofs.names.add.Goals as goal

pub returns : goal.returns
returns c =
    subst (λ (number : Option ℕ). HasMore (key_names c.args.names.now.keys) (IsNumbered c.args.scopes.now number) (key_names c.insert.new.self.keys)) (sym c.in-Some.is)
    (one_numbered c.args.scopes.now c.args.names.now.keys c.insert.new.self.keys _ c.in-Some.number c.in_ok-insert.ensures.keys c.name_of.ensures.number)

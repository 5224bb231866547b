use Rattle.std.proofs.Common.{rules, subst, sym}
use Rattle.std.proofs.lemmas.Map.Views.{All-values-insert_entry}
use Rattle.std.specs.Map.{values_of}
use Rattle.std.specs.List.{All}
use Rattle.es_cursor.specs.Giving.{GivesWay}
use Rattle.es_cursor.proofs.cursor.Cursor.pass.Goals as goal

pub invariant_of-self-2 : goal.invariant_of-self-2
invariant_of-self-2 c =
    let gives : GivesWay c.self.inside.text.now c.args.passed = subst (λ text. GivesWay text c.args.passed) (search rules) c.requires in (
      c.self.invariant.0,
      c.self.invariant.1,
      subst (λ entries. All (GivesWay c.self.inside.text.now) (values_of entries)) (sym c.in_ok-insert.ensures.entries)
          (All-values-insert_entry _ c.key.result c.args.passed (GivesWay c.self.inside.text.now) c.self.inside.passed.entries c.self.invariant.2 gives),
    )

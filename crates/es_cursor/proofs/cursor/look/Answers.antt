use Rattle.std.proofs.Common.{◌≡◌, refl, sym, Ok}
use Rattle.es_tree.specs.Lexical.{token_at}
use Rattle.es_cursor.proofs.Goals.{stands_at_each_goal}
use Rattle.es_cursor.proofs.cursor.look.Goals as goal

pub returns-then-first-ne47-clause-seen : goal.returns-then-first-ne47-clause-seen
returns-then-first-ne47-clause-seen c =
    let stands : token_at c.args.text.now c.args.at c.args.goal ≡ Ok c.in_ok-token.token = sym c.in_ok-token.ensures.exact in (
      refl,
      refl,
      record {
        stands = stands;
        anywhere = λ plain. stands_at_each_goal c.args.text.now c.args.at c.args.goal c.in_ok-token.token c.byte_at-first.result stands
            c.byte_at-first.ensures c.in_ok-token.ensures.placed.gap c.if-first-ne47.true plain;
        lies = c.in_ok-token.ensures.placed;
      },
    )

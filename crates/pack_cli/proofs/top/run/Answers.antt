use Rattle.std.proofs.Common.{map, sym, ap, ◌∙◌}
use Rattle.std.specs.Prelude.{string_bytes}
use Rattle.pack_cli.specs.Run.{command_of}
use Rattle.pack_cli.proofs.Meets.{usage_meets}
use Rattle.pack_cli.proofs.top.run.Goals as goal

pub returns-in-None : goal.returns-in-None
returns-in-None g c =
    usage_meets _ c.print.result _ _ _ _ _ _
    (ap (λ words. command_of (map string_bytes words)) (sym c.as_slice.ensures.value) ∙ sym c.read_words.ensures ∙ c.in-None.is)
    c.print.ensures

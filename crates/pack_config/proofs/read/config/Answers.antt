use Rattle.std.proofs.Common.{Ok, inl, ap, ◌∙◌, sym}
use Rattle.pack_config.proofs.Answered.{settings_of-none}
use Rattle.pack_config.proofs.read.config.Goals as goal

pub returns-in_ok-settings-in-None-clause-answer : goal.returns-in_ok-settings-in-None-clause-answer
returns-in_ok-settings-in-None-clause-answer c = rw c.in-None.is (inl (ap Ok c.in_ok-settings-in-None.ensures.made ∙ sym settings_of-none))

use Rattle.std.proofs.Common.{◌≡◌, subst, sym, ℕ, ◌<◌}
use Rattle.es_names.proofs.Points.{character_is_small, escape_is_small}
use Rattle.es_names.proofs.decode.unit.Goals as goal

pub returns-then-eq-clause-small : goal.returns-then-eq-clause-small
returns-then-eq-clause-small c = subst (λ (found : ℕ × ℕ). found.0 < 0x110000) (sym c.unicode_escape.ensures.value) (escape_is_small _)

pub returns-else-eq-clause-small : goal.returns-else-eq-clause-small
returns-else-eq-clause-small c = subst (λ (found : ℕ × ℕ). found.0 < 0x110000) (sym c.character.ensures.value) (character_is_small _)

-- Lists with a comma between each two parts and none behind the last, which end in what the last part ends in.
use Rattle.std.specs.Prelude.{ℕ, List, Option, Some, None, codes, if◌then◌else◌}
use Rattle.es_tree.specs.declared.tokens.Goal.TheVariants.{Operator}
use Rattle.es_tree.specs.declared.parts.Separated.{Separated}
use Rattle.es_grammar.specs.declared.places.Stop.{Stop}
use Rattle.es_grammar.specs.Reading.{Bytes}
use Rattle.es_grammar.specs.Lists.{separated}
use Rattle.es_grammar.specs.Semicolons.{stop, other}
use Rattle.es_reader.specs.Basics.{◌>>=◌, Ended, is_mark, token}
use Rattle.es_reader.specs.declared.pieces.TurnOf.{TurnOf}
use Rattle.es_reader.specs.declared.pieces.TurnOf.TheVariants.{Last as last}
use Rattle.es_reader.specs.declared.pieces.TurnOf.TheVariants.{More as more}
use Rattle.es_reader.specs.Loops.{all_turns}

-- a part, and the comma behind it where the list goes on
unfoldable pub comma_or_end : {X : Type 0} → Bytes → X → Stop → Option (TurnOf Stop (Separated X))
comma_or_end text x s = token text Operator s.at >>= λ t.
    if is_mark text (codes ",") t then Some (more (separated x (Some t)) (stop t.end other)) else Some (last (separated x None) s)

unfoldable pub ended_turn : {X : Type 0} → Bytes → Ended X → Stop → Option (TurnOf Stop (Separated X))
ended_turn text part s = part s.at >>= λ x. comma_or_end text x.0 x.1

-- the whole list from a place on
abbrev pub read_ended_list : {X : Type 0} → Bytes → Ended X → ℕ → Option (List (Separated X) × Stop)
read_ended_list text part p = all_turns text (ended_turn text part) (stop p other)

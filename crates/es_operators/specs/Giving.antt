-- Where an LHS that was read gives way to another reading, and to which.
use Rattle.std.specs.Prelude.{◌≡◌, true, false, Some}
use Rattle.es_tree.specs.declared.tokens.Token.{Token}
use Rattle.es_tree.specs.declared.tokens.Goal.TheVariants.{Operator as AtOperator}
use Rattle.es_grammar.specs.declared.places.Context.{Context}
use Rattle.es_grammar.specs.declared.places.Stop.{Stop}
use Rattle.es_grammar.specs.Reading.{Bytes}
use Rattle.es_outline.specs.Outline.{Marks}
use Rattle.es_reader.specs.Basics.{◌>>=◌, token}
use Rattle.es_reader.specs.Operators.{is_postfix}
use Rattle.es_reader.specs.declared.pieces.Shape.TheVariants.{Plain as plain}
use Rattle.es_trace.specs.Basics.{Traced}
use Rattle.es_trace.specs.Operators.{cond_from, other_postfix}
use Rattle.es_trace.specs.Tracers.{Tracers}
use Rattle.es_trace.specs.declared.pieces.Chain.{Chain}
use Rattle.es_trace.specs.Targets.{is_bare}
use Rattle.es_cursor.specs.declared.passed.Passed.{Passed}
use Rattle.es_cursor.specs.Giving.{GivesWay}

-- the attempt gives way where `++` or `--` stands behind an LHS that is no target
abbrev pub GivesWayAtPostfix : Bytes → Chain → Passed → Type 0
GivesWayAtPostfix text x passed = (u : Token) → token text AtOperator x.at ≡ Some u → is_postfix text u ≡ true → is_bare x ≡ false → GivesWay text passed

-- what is assigned to nothing, as a target in parentheses with `++` or `--` behind it
unfoldable pub postfix_assign : Bytes → Tracers → Context → Marks → Token → Traced Stop
postfix_assign text r c marks t = other_postfix text r c marks t >>= λ y. cond_from text r c y.0 plain y.1

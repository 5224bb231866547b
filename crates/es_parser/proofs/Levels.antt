-- The tracers to a nest, by those to one less.
use Rattle.std.proofs.Common.{◌≡◌, ℕ, zero, suc, ◌-◌, ◌<◌, refl, arith}
use Rattle.es_grammar.specs.Reading.{Bytes}
use Rattle.es_trace.specs.Tying.{one_more, tracers_to}

pub one_level : (text : Bytes) (nest : ℕ) → 0 < nest → tracers_to text nest ≡ one_more text (tracers_to text (nest - 1))
unfolding tracers_to
one_level text zero h = absurd (omega (arith, h))
one_level text (suc nest) h = let e : suc nest - 1 ≡ nest = omega arith in rw e refl

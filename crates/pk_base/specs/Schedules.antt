-- Which calls of an object in memory are to fail.
use Rattle.std.specs.Prelude.{ℕ, ◌+◌, ◌-◌, ◌^◌, ◌==◌, min, Bool, List}
use Rattle.std.specs.List.{list_any}

-- the numbers, from 0, of the calls that are to fail, and how many calls were made, up to the last value of a count
pub record Schedule : Type 0 where
  pub fails : List ℕ
  pub made : ℕ

-- a schedule of which no call is made yet
abbrev pub failing_at : List ℕ → Schedule
failing_at fails = record { fails = fails; made = 0 }

-- the call that comes next is to fail
abbrev pub is_due : Schedule → Bool
is_due schedule = list_any (λ number. number == schedule.made) schedule.fails

-- the schedule behind one more call
abbrev pub with_call : Schedule → Schedule
with_call schedule = record { fails = schedule.fails; made = min (schedule.made + 1) (2 ^ 64 - 1) }

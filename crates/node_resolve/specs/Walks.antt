-- What a walk along candidates does, by its answer.
use Rattle.std.specs.Prelude.{◌≡◌, ℕ, Bool, true, false, List, ◌++◌, Option, None, Some, Result, Ok, Err, IsTrue}
use Rattle.pk_base.specs.Causes.{is_failed}
use Rattle.pk_base.specs.declared.outside.ReadFail.{ReadFail}
use Rattle.node_resolve.specs.declared.sight.Package.{Package}
use Rattle.node_resolve.specs.Candidates.{Candidates, End, Scope, Verdict, ends, decided, Leads}
use Rattle.node_resolve.specs.Looking.{Moment, AskedAll, AskedPart, Stays}
use Rattle.node_resolve.specs.Present.{present}
use Rattle.node_resolve.specs.Resolution.{scope_with}
use Rattle.node_resolve.specs.declared.answer.Why.TheVariants.{NoFile}

-- It looked at these paths with answers, and came from some candidates to others, if the files tell their tree.
pub record Goes (before after : Moment) (notes notes_after : List (List ℕ)) (from to : Candidates) : Type 0 where
  pub files : Stays false before.files after.files
  pub asked : List (List ℕ)
  pub noted : notes_after ≡ notes ++ asked
  pub asks : after.look.asks ≡ before.look.asks ++ asked
  pub made : AskedAll before after asked
  pub leads : IsTrue before.files.told → Leads (present before.files.tree) to from asked

-- It failed behind these paths, up to which it had come along the candidates.
pub record Stops (fail : ReadFail) (before after : Moment) (from : Candidates) : Type 0 where
  pub files : Stays (is_failed {T = ℕ} (Err fail)) before.files after.files
  pub asked : List (List ℕ)
  pub to : Candidates
  pub made : AskedPart before after asked fail
  pub leads : IsTrue before.files.told → Leads (present before.files.tree) to from asked

-- by the answer of a call
abbrev pub Went : {T : Type 0} → Result T ReadFail → Moment → Moment → List (List ℕ) → List (List ℕ) → Candidates → (T → Candidates) → Type 0
Went (Ok x) before after noted noted_after from to = Goes before after noted noted_after from (to x)
Went (Err fail) before after noted noted_after from to = Stops fail before after from

-- an end, or what comes next
abbrev pub on : Option Verdict → Candidates → Candidates
on None next = next
on (Some verdict) next = decided verdict

-- a file that is there, or what comes next
abbrev pub behind : (List ℕ → End) → (Option Package → Candidates) → Result (Option Package) (List ℕ) → Candidates
behind bad next (Ok owner) = next owner
behind bad next (Err path) = ends (bad path)

-- a search for the nearest manifest ends with this
abbrev pub is_found : Result (Option Package) (List ℕ) → Bool
is_found (Ok None) = false
is_found (Ok (Some owner)) = true
is_found (Err path) = true

-- the verdict where the candidates end
abbrev pub verdict_of : Option Verdict → Verdict
verdict_of None = Err NoFile
verdict_of (Some verdict) = verdict

abbrev pub found_scope : Result (Option Package) (List ℕ) → Scope
found_scope (Ok owner) = scope_with owner
found_scope (Err path) = Err path

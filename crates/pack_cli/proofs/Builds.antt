-- What a round that was built has answered and left.
use Rattle.std.proofs.Common.{◌≡◌, ℕ, List, [], length, false, Result, Ok, Err, IsTrue, refl, sym, ap, subst, ◌∙◌, arith}
use Rattle.std.proofs.lemmas.Bool.{false≢true}
use Rattle.std.specs.Prelude.{slice_index_or}
use Rattle.pk_base.specs.Causes.{Counts}
use Rattle.pk_base.specs.Meanings.{FilesMeaning, StoreMeaning}
use Rattle.pk_types.specs.declared.plan.Plan.{Plan}
use Rattle.plan_core.specs.Outputs.{output_of}
use Rattle.plan_core.specs.Plans.{IsPlan}
use Rattle.pk_base.specs.Keeping.{KeepsFiles}
use Rattle.watch_core.specs.Builds.{FindsBehind}
use Rattle.watch_core.specs.Walks.{IsWritable}
use Rattle.watch_core.specs.declared.walk.FoundModules.{FoundModules}
use Rattle.pack_cli.specs.declared.faults.RoundFault.{RoundFault}
use Rattle.pack_cli.specs.declared.faults.RoundFault.TheVariants.{NoMemory}
use Rattle.pack_cli.specs.Answers.{is_read_fault, is_write_fault}
use Rattle.pack_cli.specs.Output.{Bundle, Files, IsBundle, built_lines}
use Rattle.pack_cli.specs.Round.{HoldsOutput, HasLostPut, IsBuilt, IsUnwritten}

abbrev pub bundle : Files → ℕ → ℕ → Bundle
bundle files modules groups = record { files = files; modules = modules; groups = groups }

-- the files and the counts are those of a bundle
pub is_bundle : (found : FoundModules) (plan : Plan) (files : Files) (modules groups : ℕ) → IsWritable found → IsPlan found.graph plan → files ≡ output_of found.graph plan found.bodies → modules ≡ length (slice_index_or plan.chunks.modules 0 []) → groups ≡ length plan.groups.targets
    → IsBundle found (bundle files modules groups)
is_bundle found plan files modules groups w p f m g = record {
  writable = w;
  plan = plan;
  planned = p;
  is = ap (λ l. bundle l modules groups) f ∙ ap (λ n. bundle (output_of found.graph plan found.bodies) n groups) m
      ∙ ap (λ n. bundle (output_of found.graph plan found.bodies) (length (slice_index_or plan.chunks.modules 0 [])) n) g;
}

pub built : (lines : List ℕ) (found : FoundModules) (files : Files) (modules groups : ℕ) (old new : FilesMeaning) (store store_after : StoreMeaning) → IsBundle found (bundle files modules groups)
    → (IsTrue old.told → FindsBehind old.tree old.asks new.asks (Ok found)) → lines ≡ built_lines (bundle files modules groups) → HoldsOutput files store store_after → IsBuilt lines old new store store_after
built lines found files modules groups old new store store_after h f l put = record { found = found; bundle = bundle files modules groups; made = h; of_tree = f; lines_are = l; store_holds = put }

pub unwritten : (found : FoundModules) (files : Files) (modules groups : ℕ) (old new : FilesMeaning) (store store_after : StoreMeaning) → IsBundle found (bundle files modules groups)
    → (IsTrue old.told → FindsBehind old.tree old.asks new.asks (Ok found)) → HasLostPut files store store_after → IsUnwritten old new store store_after
unwritten found files modules groups old new store store_after h f lost = record { found = found; bundle = bundle files modules groups; made = h; of_tree = f; store_lost = lost }

-- ---- a round that ends for want of memory once its modules are found

abbrev pub refusal : RoundFault → Result (List ℕ) RoundFault
refusal fault = Err fault

pub no_memory_reads : (answer : Result (List ℕ) RoundFault) (fault : RoundFault) (old new : FilesMeaning) → answer ≡ refusal fault → fault ≡ NoMemory → KeepsFiles false [] old new → KeepsFiles (is_read_fault answer) [] old new
no_memory_reads answer fault old new is f keeps = subst (λ answer. KeepsFiles (is_read_fault answer) [] old new) (sym (is ∙ ap refusal f)) keeps

pub no_memory_writes : (answer : Result (List ℕ) RoundFault) (fault : RoundFault) (count : ℕ) → answer ≡ refusal fault → fault ≡ NoMemory → Counts (is_write_fault answer) count count
no_memory_writes answer fault count is f = subst (λ answer. Counts (is_write_fault answer) count count) (sym (is ∙ ap refusal f))
    (record { later = omega arith; rose = λ e. absurd (false≢true e); kept = λ e. refl })

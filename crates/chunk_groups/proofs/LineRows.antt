-- What each row leads to.
use Rattle.std.proofs.Common.{◌≡◌, inl, inr, ⊎_elim, ℕ, ◌<◌, ◌≤◌, List, [], Some, slice_get, length, get_or, sym, subst, ◌∙◌, arith}
use Rattle.std.specs.List.{All, Contains}
use Rattle.std.proofs.lemmas.Bool.{cases_lt}
use Rattle.std.proofs.lemmas.Option.{same_Some, slice_get_within}
use Rattle.pk_types.specs.declared.facts.SiteKind.TheVariants.{Require, Import}
use Rattle.pk_types.specs.declared.graph.Graph.{Graph}
use Rattle.pk_types.specs.declared.graph.Row.{Row}
use Rattle.pk_types.specs.Fitting.{RowFits}
use Rattle.pk_types.specs.Places.{ArePlacesIn}
use Rattle.pk_types.specs.Requests.{site_kinds}
use Rattle.pk_types.specs.Sites.{called_requests}
use Rattle.pk_types.proofs.ListMembers.{in_row}
use Rattle.chunk_groups.specs.Gathered.{IsGathered, CallsAt}
use Rattle.chunk_groups.specs.Lines.{LoadsWith, ImportsBy, AreLoads, AreImports}
use Rattle.chunk_groups.proofs.Calls.{some_call}

-- each call of a row that fits has a target
pub calls_have_targets : (graph : Graph) (row : Row) → RowFits graph row → All (λ site. ArePlacesIn row.targets (called_requests site.kind)) row.facts.sites
calls_have_targets graph row fits = λ k d h j e within. subst (λ count. get_or (called_requests (get_or row.facts.sites k d).kind) j e < count) (sym fits.each)
    (fits.facts.places.site_calls k d h j e within)

pub loads_with : (graph : Graph) (edges : List (List ℕ)) (number : ℕ) (row : Row) (before list : List ℕ) → slice_get graph.rows number ≡ Some row
    → before ≡ get_or edges number [] → IsGathered before (CallsAt Require row) (length row.facts.sites) list → LoadsWith graph edges number list
loads_with graph edges number row before list at read gathered target = (
  λ c. ⊎_elim
      (λ b. inl (subst (λ l. Contains l target) read b))
      (λ some. let calls = (some_call Require row target).0 some in inr (row, calls.0, at, calls.1, calls.2))
      ((gathered target).0 c),
  λ either. (gathered target).1 (⊎_elim
      (λ edge. inl (subst (λ l. Contains l target) (sym read) edge))
      (λ calls.
      let same = same_Some calls.0 row (sym calls.2 ∙ at) in
      inr ((some_call Require row target).1 (
        calls.1,
        subst (λ r. Contains (site_kinds r) (Require calls.1)) same calls.3,
        subst (λ r. slice_get r.targets calls.1 ≡ Some target) same calls.4,
      )))
      either),
)

pub imports_by : (graph : Graph) (number : ℕ) (row : Row) (list : List ℕ) → slice_get graph.rows number ≡ Some row
    → IsGathered [] (CallsAt Import row) (length row.facts.sites) list → ImportsBy graph number list
imports_by graph number row list at gathered target = (
  λ c. ⊎_elim
      (λ none. absurd (omega (arith, none.1)))
      (λ some. let calls = (some_call Import row target).0 some in (row, calls.0, at, calls.1, calls.2))
      ((gathered target).0 c),
  λ calls.
      let same = same_Some calls.0 row (sym calls.2 ∙ at) in
      (gathered target).1 (inr ((some_call Import row target).1 (
        calls.1,
        subst (λ r. Contains (site_kinds r) (Import calls.1)) same calls.3,
        subst (λ r. slice_get r.targets calls.1 ≡ Some target) same calls.4,
      ))),
)

-- ---- past the last row there is nothing

past : (lists : List (List ℕ)) (number target : ℕ) → length lists ≤ number → ¬ Contains (get_or lists number []) target
past lists number target h c = absurd (omega (arith, h, in_row lists number target c))

pub all_loads : (graph : Graph) (edges loads : List (List ℕ)) → length edges ≡ length graph.rows → length loads ≡ length graph.rows
    → ((k : ℕ) → k < length graph.rows → LoadsWith graph edges k (get_or loads k [])) → AreLoads graph edges loads
all_loads graph edges loads long each lists = record {
  each = each;
  lists = λ number. ⊎_elim (λ h. lists number h)
      (λ h target. (
        λ c. absurd (past loads number target (omega arith) c),
        λ either. absurd (⊎_elim (λ edge. past edges number target (omega arith) edge)
            (λ calls. absurd (omega (arith, h, slice_get_within graph.rows number calls.0 calls.2))) either),
      ))
      (cases_lt number (length graph.rows));
}

pub all_imports : (graph : Graph) (imports : List (List ℕ)) → length imports ≡ length graph.rows
    → ((k : ℕ) → k < length graph.rows → ImportsBy graph k (get_or imports k [])) → AreImports graph imports
all_imports graph imports each lists = record {
  each = each;
  lists = λ number. ⊎_elim (λ h. lists number h)
      (λ h target. (
        λ c. absurd (past imports number target (omega arith) c),
        λ calls. absurd (omega (arith, h, slice_get_within graph.rows number calls.0 calls.2)),
      ))
      (cases_lt number (length graph.rows));
}

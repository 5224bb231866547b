-- The bindings of other sets that names stand for.
use Rattle.std.proofs.Common.{◌≡◌, ◌↔◌, inr, ⊎_elim, ◌<◌, ℕ, Bool, true, false, List, [], length, get_or, Some, slice_get, Contains, sym, ap, subst, ◌∙◌, arith}
use Rattle.std.proofs.lemmas.Option.{same_Some, slice_get-get_or, slice_get_within, get_or_from_slice_get}
use Rattle.indexmap.specs.IndexSet.{insert_key}
use Rattle.pk_types.specs.declared.found.Found.{Found}
use Rattle.pk_types.specs.declared.found.Found.TheVariants.{Binding}
use Rattle.pk_types.specs.declared.graph.Graph.{Graph}
use Rattle.pk_types.specs.declared.graph.Row.{Row}
use Rattle.pk_types.specs.declared.plan.Active.{Active}
use Rattle.pk_types.specs.ExportedNames.{IsExported}
use Rattle.pk_types.specs.HoistSets.{IsReachedModule}
use Rattle.pk_types.specs.Requests.{NamesAtSite, UsesSpaceAtSite}
use Rattle.pk_types.specs.Resolving.{Resolves}
use Rattle.pk_types.proofs.ListMembers.{none_in}
use Rattle.pk_types.proofs.OneAnswer.{one_answer}
use Rattle.prune_graph.specs.Gathering.{IsNamed, IsUnused, Gains as Gathers}
use Rattle.prune_graph.specs.declared.through.Through.{Through}
use Rattle.module_spelling.specs.Layout.{Layout}
use Rattle.scope_getters.specs.Gaining.{Gains, Below, IsOther, IsOfName, IsOfNames, IsOfRequest, IsOfModule, IsOfSpace, AreCells}
use Rattle.scope_getters.specs.Scopes.{Cell, IsOfOther, SpellsAtSite, SpellsInSpace, is_cell}
use Rattle.scope_getters.proofs.Gaining.{gains_none, gains_same, gains_then, cell_inserted}
use Rattle.scope_getters.proofs.Calling.{flag_unset}

-- a name stands for one thing
pub one_found : (graph : Graph) (number : ℕ) (name : List ℕ) (one other : Found) → Resolves graph number name one → Resolves graph number name other → one ≡ other
one_found graph number name one other d e = (one_answer graph [] number name one d.0 d.1 other e.0 e.1).0

same_binding : (owner binding other bound : ℕ) → Binding owner binding ≡ Binding other bound → (owner ≡ other) × (binding ≡ bound)
same_binding owner binding other bound e = grind arith

module _ (layout : Layout) (from target : ℕ) (name : List ℕ) (one : Found) (resolves : Resolves layout.graph target name one) where
  of_other : (cell : Cell) → IsOther layout from one cell → IsOfOther layout from target name cell
  of_other cell other = record {
    resolves = subst (Resolves layout.graph target name) other.0 resolves;
    other = other.1;
  }

  other_of : (cell : Cell) → IsOfOther layout from target name cell → IsOther layout from one cell
  other_of cell of = (one_found layout.graph target name one (Binding cell.0 cell.1) resolves of.resolves, of.other)

  pub cell_added : (cell : Cell) (old new : List Cell) → IsOther layout from one cell → new ≡ insert_key is_cell old cell
      → Gains old (IsOfOther layout from target name) new
  cell_added cell old new other put =
      gains_same old new (λ x. cell ≡ x) (IsOfOther layout from target name) (subst (Gains old (λ x. cell ≡ x)) (sym put) (cell_inserted old cell))
      (λ x is. subst (IsOfOther layout from target name) is (of_other cell other))
      (λ x of. let parts = same_binding cell.0 cell.1 x.0 x.1 (sym other.0 ∙ (other_of x of).0) in λ j. (parts.0 j, parts.1 j))

  pub no_cell_added : (old : List Cell) → ((cell : Cell) → ¬ IsOther layout from one cell) → Gains old (IsOfOther layout from target name) old
  no_cell_added old none = gains_none old (IsOfOther layout from target name) (λ cell of. none cell (other_of cell of))

pub at_place : {X : Type 0} (xs : List X) (place : ℕ) (x : X) → slice_get xs place ≡ Some x → Contains xs x
at_place xs place x e = (place, slice_get_within xs place x e, get_or_from_slice_get xs place x x e)

pub place_of : {X : Type 0} (xs : List X) (x : X) → Contains xs x → (place : ℕ) × (place < length xs) × (slice_get xs place ≡ Some x)
place_of xs x c = (c.0, c.1, slice_get-get_or xs c.0 x c.1 ∙ ap Some c.2)

pub name_gains : (layout : Layout) (from target : ℕ) (names : List (List ℕ)) (place : ℕ) (name : List ℕ) (old new : List Cell) → slice_get names place ≡ Some name
    → Gains old (IsOfOther layout from target name) new → Gains old (IsOfName layout from target names place) new
name_gains layout from target names place name old new at gains =
    gains_same old new (IsOfOther layout from target name) (IsOfName layout from target names place) gains
    (λ cell of. (name, at, of))
    (λ cell (o : IsOfName layout from target names place cell). subst (λ n. IsOfOther layout from target n cell) (same_Some o.0 name (sym o.1 ∙ at)) o.2)

pub names_gain : (layout : Layout) (from target : ℕ) (names : List (List ℕ)) (count : ℕ) (old new : List Cell) → count ≡ length names
    → Gains old (Below count (IsOfName layout from target names)) new → Gains old (IsOfNames layout from target names) new
names_gain layout from target names count old new is gains =
    gains_same old new (Below count (IsOfName layout from target names)) (IsOfNames layout from target names) gains
    (λ cell (b : Below count (IsOfName layout from target names) cell). (b.2.0, at_place names b.0 b.2.0 b.2.1, b.2.2))
    (λ cell (o : IsOfNames layout from target names cell). let p = place_of names o.0 o.1 in (p.0, subst (λ n. p.0 < n) (sym is) p.1, (o.0, p.2, o.2)))

pub request_gains : (layout : Layout) (from : ℕ) (through : Through) (targets : List ℕ) (request target : ℕ) (names : List (List ℕ)) (old new : List Cell)
    → slice_get targets request ≡ Some target → ((name : List ℕ) → Contains names name ↔ IsNamed through request name)
    → Gains old (IsOfNames layout from target names) new → Gains old (IsOfRequest layout from through targets request) new
request_gains layout from through targets request target names old new at are gains =
    gains_same old new (IsOfNames layout from target names) (IsOfRequest layout from through targets request) gains
    (λ cell (o : IsOfNames layout from target names cell). (target, o.0, at, (are o.0).0 o.1, o.2))
    (λ cell (o : IsOfRequest layout from through targets request cell).
    (o.1, (are o.1).1 o.3, subst (λ t. IsOfOther layout from t o.1 cell) (same_Some o.0 target (sym o.2 ∙ at)) o.4))

pub row_gains : (layout : Layout) (from : ℕ) (row : Row) (none through : Through) (count : ℕ) (old new : List Cell) → count ≡ length row.targets
    → IsUnused count none → Gathers none (NamesAtSite row) (UsesSpaceAtSite row) through
    → Gains old (Below count (IsOfRequest layout from through row.targets)) new → Gains old (SpellsAtSite layout from row) new
row_gains layout from row none through count old new is unused gathers gains =
    gains_same old new (Below count (IsOfRequest layout from through row.targets)) (SpellsAtSite layout from row) gains
    (λ cell (b : Below count (IsOfRequest layout from through row.targets) cell).
    let o = b.2 in
    let named = ⊎_elim (λ was. absurd (unused.names b.0 o.1 was)) (λ (n : NamesAtSite row b.0 o.1). n) ((gathers.names b.0 o.1).0 o.3) in
    (b.0, o.0, o.1, named, o.2, o.4))
    (λ cell (s : SpellsAtSite layout from row cell).
    (s.0, subst (λ n. s.0 < n) (sym is) (slice_get_within row.targets s.0 s.1 s.4), (s.1, s.2, s.4, (gathers.names s.0 s.2).1 (inr s.3), s.5)))

pub module_gains : (layout : Layout) (active : Active) (from : ℕ) (row : Row) (old new : List Cell) → IsReachedModule active from
    → slice_get layout.graph.rows from ≡ Some row → Gains old (SpellsAtSite layout from row) new → Gains old (IsOfModule layout active from) new
module_gains layout active from row old new reached at gains =
    gains_same old new (SpellsAtSite layout from row) (IsOfModule layout active from) gains
    (λ cell s. (row, reached, at, s))
    (λ cell (o : IsOfModule layout active from cell). subst (λ (r : Row). SpellsAtSite layout from r cell) (same_Some o.0 row (sym o.2 ∙ at)) o.3)

pub module_none : (layout : Layout) (active : Active) (from : ℕ) (old : List Cell) → get_or active.reached from false ≡ false
    → Gains old (IsOfModule layout active from) old
module_none layout active from old unset = gains_none old (IsOfModule layout active from) (λ cell (o : IsOfModule layout active from cell). flag_unset active.reached from unset o.1)

pub space_gains : (layout : Layout) (root : ℕ) (names : List (List ℕ)) (old new : List Cell)
    → ((name : List ℕ) → Contains names name ↔ IsExported layout.graph root name)
    → Gains old (IsOfNames layout root root names) new → Gains old (SpellsInSpace layout root) new
space_gains layout root names old new are gains =
    gains_same old new (IsOfNames layout root root names) (SpellsInSpace layout root) gains
    (λ cell (o : IsOfNames layout root root names cell). (o.0, (are o.0).0 o.1, o.2))
    (λ cell (o : SpellsInSpace layout root cell). (o.0, (are o.0).1 o.1, o.2))

pub listed_gains : (layout : Layout) (spaces : List Bool) (root : ℕ) (old new : List Cell) → slice_get spaces root ≡ Some true
    → Gains old (SpellsInSpace layout root) new → Gains old (IsOfSpace layout spaces root) new
listed_gains layout spaces root old new at gains =
    gains_same old new (SpellsInSpace layout root) (IsOfSpace layout spaces root) gains (λ cell s. (at, s)) (λ cell (o : IsOfSpace layout spaces root cell). o.1)

pub listed_none : (layout : Layout) (spaces : List Bool) (root : ℕ) (old : List Cell) → get_or spaces root false ≡ false
    → Gains old (IsOfSpace layout spaces root) old
listed_none layout spaces root old unset = gains_none old (IsOfSpace layout spaces root) (λ cell (o : IsOfSpace layout spaces root cell). flag_unset spaces root unset o.0)

pub all_gain : (layout : Layout) (active : Active) (spaces : List Bool) (between new : List Cell)
    → Gains [] (Below (length layout.graph.rows) (IsOfModule layout active)) between
    → Gains between (Below (length layout.graph.rows) (IsOfSpace layout spaces)) new → AreCells layout active spaces new
all_gain layout active spaces between new first second =
    let both = gains_then [] between new (Below (length layout.graph.rows) (IsOfModule layout active)) (Below (length layout.graph.rows) (IsOfSpace layout spaces)) first second in
    record {
      each = λ cell. (
        λ c. ⊎_elim (λ was. absurd (none_in cell was)) (λ e. e) ((both.each cell).0 c),
        λ e. (both.each cell).1 (inr e),
      );
    }

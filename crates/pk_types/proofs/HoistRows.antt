-- A scope of three modules that import one another in a circle.
use Rattle.std.proofs.Common.{◌≡◌, ◌≢◌, ℕ, zero, suc, ◌<◌, ◌≤◌, Bool, true, false, not, List, [], ◌∷◌, refl, sym, ap, subst, ◌∙◌, arith, ⊎_elim, true≢false, Some, slice_get, slice_index}
use Rattle.std.specs.List.{Contains, list_all}
use Rattle.pk_types.specs.declared.facts.Site.{Site}
use Rattle.pk_types.specs.declared.facts.SiteKind.{SiteKind}
use Rattle.pk_types.specs.declared.facts.SiteKind.TheVariants.{Require, Import}
use Rattle.pk_types.specs.declared.facts.Kind.TheVariants.{Es}
use Rattle.pk_types.specs.declared.graph.Graph.{Graph}
use Rattle.pk_types.specs.declared.plan.Item.{Item}
use Rattle.pk_types.specs.declared.plan.Item.TheVariants.{Segment}
use Rattle.pk_types.specs.Sites.{is_call}
use Rattle.pk_types.specs.Resolving.{kind_at}
use Rattle.pk_types.specs.declared.graph.Row.{Row}
use Rattle.pk_types.specs.Requests.{site_kinds}
use Rattle.pk_types.specs.ChunkGroups.{IsImportTarget}
use Rattle.pk_types.specs.HoistSets.{IsRequired, MayJoin, IsGreatestSet, IsRoot, AreHoistSets, IsInChunk, set_of}
use Rattle.pk_types.specs.HoistItems.{visit, ended, passed, entered, AreItems, AreHoists}
use Rattle.pk_types.specs.WorkedGraphs.{circle_graph, circle_scene, circle_hoists}
use Rattle.pk_types.proofs.Members.{Contains-at}
use Rattle.pk_types.proofs.ListMembers.{here, there, one_of, none_in, unmapped, first_so, second_so, same_or_not, has-true}
use Rattle.pk_types.specs.Numbers.{has}

all_true : {X : Type 0} (test : X → Bool) (xs : List X) (x : X) → list_all test xs ≡ true → Contains xs x → test x ≡ true
all_true test [] x e c = absurd (none_in x c)
all_true test (y ∷ xs) x e c = ⊎_elim (λ same. ap test (sym same) ∙ first_so (test y) (list_all test xs) e)
    (λ d. all_true test xs x (second_so (test y) (list_all test xs) e) d) (one_of y xs x c)

-- no site of the graph calls for a module
abbrev calls_nothing : Graph → Bool
calls_nothing graph = list_all (λ row. list_all (λ site. not (is_call site.kind)) row.facts.sites) graph.rows

no_site : (kind : SiteKind) (graph : Graph) (from : ℕ) (row : Row) → is_call kind ≡ true → calls_nothing graph ≡ true → slice_get graph.rows from ≡ Some row
    → ¬ Contains (site_kinds row) kind
no_site kind graph from row calls nothing at site =
    let quiet = all_true (λ row. list_all (λ site. not (is_call site.kind)) row.facts.sites) graph.rows row nothing (Contains-at graph.rows from row at) in
    let found = unmapped (λ (site : Site). site.kind) row.facts.sites kind site in
    let calm = all_true (λ site. not (is_call site.kind)) row.facts.sites found.0 quiet found.1 in
    true≢false (sym calm ∙ ap not (ap is_call found.2 ∙ calls))

no_import_target : (member : ℕ) → ¬ IsImportTarget circle_graph circle_scene.active member
no_import_target member (from, reached, (row, request, at, site, to)) = no_site (Import request) circle_graph from row refl refl at site

not_required : (member : ℕ) → ¬ IsRequired circle_graph circle_scene.active member
not_required member (from, reached, (row, request, at, site, to)) = no_site (Require request) circle_graph from row refl refl at site

abbrev roots : List ℕ
roots = 0 ∷ 0 ∷ 0 ∷ []

abbrev taken : List ℕ
taken = []

abbrev three : List ℕ
three = 0 ∷ 1 ∷ 2 ∷ []

-- a module of ECMAScript is one of the three
es_is_one : (member : ℕ) → kind_at circle_graph member ≡ Some Es → Contains three member
es_is_one zero e = here 0 (1 ∷ 2 ∷ [])
es_is_one (suc zero) e = there 0 (1 ∷ 2 ∷ []) 1 (here 1 (2 ∷ []))
es_is_one (suc (suc zero)) e = there 0 (1 ∷ 2 ∷ []) 2 (there 1 (2 ∷ []) 2 (here 2 []))
es_is_one (suc (suc (suc member))) e = absurd (let wrong : ⊥ = cc in wrong)

in_first : (member chunk : ℕ) → Contains three member → IsInChunk circle_scene.chunks chunk 0 → IsInChunk circle_scene.chunks chunk member
in_first member zero c mine = c
in_first member (suc chunk) c mine = absurd (none_in 0 mine)

from_first : (member chunk : ℕ) → IsInChunk circle_scene.chunks chunk member → IsInChunk circle_scene.chunks chunk 0
from_first member zero c = here 0 (1 ∷ 2 ∷ [])
from_first member (suc chunk) c = absurd (none_in member c)

joins_one : (member : ℕ) → Contains three member → member ≢ 0 → kind_at circle_graph member ≡ Some Es → slice_get circle_scene.used.whole member ≢ Some true
    → ¬ Contains circle_graph.entries member → MayJoin circle_scene taken 0 member
joins_one member c apart kind whole no_entry = record {
  kind = kind;
  free = λ c. none_in member c;
  chunks = λ chunk. (from_first member chunk, in_first member chunk c);
  no_entry = no_entry;
  no_import_target = no_import_target member;
  not_required = not_required member;
  not_whole = whole;
}

no_other_entry : (member : ℕ) → member ≢ 0 → ¬ Contains (0 ∷ []) member
no_other_entry member apart c = ⊎_elim (λ same. apart (sym same)) (none_in member) (one_of 0 [] member c)

joins : (member : ℕ) → Contains three member → member ≢ 0 → MayJoin circle_scene taken 0 member
joins zero c apart = absurd (apart refl)
joins (suc zero) c apart = joins_one 1 c apart refl (λ e. let wrong : ⊥ = cc in wrong) (no_other_entry 1 apart)
joins (suc (suc zero)) c apart = joins_one 2 c apart refl (λ e. let wrong : ⊥ = cc in wrong) (no_other_entry 2 apart)
joins (suc (suc (suc member))) c apart = absurd (beyond c)
  where
    beyond : Contains three (suc (suc (suc member))) → ⊥
    beyond d = ⊎_elim (λ e. omega arith) (λ r. ⊎_elim (λ e. omega arith) (λ t. ⊎_elim (λ e. omega arith) (none_in (suc (suc (suc member)))) (one_of 2 [] _ t)) (one_of 1 (2 ∷ []) _ r)) (one_of 0 (1 ∷ 2 ∷ []) _ d)

reached_is_one : (from : ℕ) → slice_get circle_scene.active.reached from ≡ Some true → Contains three from
reached_is_one zero e = here 0 (1 ∷ 2 ∷ [])
reached_is_one (suc zero) e = there 0 (1 ∷ 2 ∷ []) 1 (here 1 (2 ∷ []))
reached_is_one (suc (suc zero)) e = there 0 (1 ∷ 2 ∷ []) 2 (there 1 (2 ∷ []) 2 (here 2 []))
reached_is_one (suc (suc (suc from))) e = absurd (let wrong : ⊥ = cc in wrong)

greatest : IsGreatestSet circle_scene taken 0 three
greatest = record {
  is_set = record { holds_root = here 0 (1 ∷ 2 ∷ []); joins = joins; requesters = λ member from c apart asks. reached_is_one from asks.0 };
  greatest = λ others set member c. ⊎_elim (λ same. subst (Contains three) (sym same) (here 0 (1 ∷ 2 ∷ [])))
      (λ apart. es_is_one member (set.joins member c apart).kind) (same_or_not member 0);
}

root_is : IsRoot circle_scene true roots 0
root_is = record {
  itself = refl;
  shared = λ may. greatest;
  alone = λ none. absurd (none (record { concatenates = refl; kind = refl; placed = (0, here 0 (1 ∷ 2 ∷ [])) }));
}

sets : AreHoistSets circle_scene true roots
sets = record { each = refl; rooted = rooted; in_order = in_order }
  where
    rooted : (member : ℕ) → member < 3 → IsRoot circle_scene true roots (slice_index roots member)
    rooted zero inside = root_is
    rooted (suc zero) inside = root_is
    rooted (suc (suc zero)) inside = root_is
    rooted (suc (suc (suc member))) inside = absurd (omega arith)

    in_order : (member : ℕ) → member < 3 → slice_index roots member ≤ member
    in_order zero inside = omega arith
    in_order (suc zero) inside = omega arith
    in_order (suc (suc zero)) inside = omega arith
    in_order (suc (suc (suc member))) inside = absurd (omega arith)

new : (number : ℕ) (numbers : List ℕ) → has numbers number ≡ false → ¬ Contains numbers number
new number numbers none c = true≢false (sym (has-true numbers number c) ∙ none)

runs : AreItems circle_scene.active three 0 (Segment 2 ∷ Segment 1 ∷ Segment 0 ∷ [])
runs = (
  three,
  visit [] three 0 (Segment 2 ∷ Segment 1 ∷ [])
      (entered (0 ∷ []) three three 1 [] (Segment 2 ∷ Segment 1 ∷ []) [] (new 1 (0 ∷ []) refl) (there 0 (1 ∷ 2 ∷ []) 1 (here 1 (2 ∷ [])))
      (visit (0 ∷ []) three 1 (Segment 2 ∷ [])
      (entered (0 ∷ 1 ∷ []) three three 2 [] (Segment 2 ∷ []) [] (new 2 (0 ∷ 1 ∷ []) refl) (there 0 (1 ∷ 2 ∷ []) 2 (there 1 (2 ∷ []) 2 (here 2 [])))
      (visit (0 ∷ 1 ∷ []) three 2 [] (passed three three 0 [] [] (here 0 (1 ∷ 2 ∷ [])) (ended three)))
      (ended three)))
      (ended three)),
)

pub circle_is_hoisted : AreHoists circle_scene true circle_hoists
circle_is_hoisted = record { sets = sets; each = refl; items = items; others = others }
  where
    items : (root : ℕ) (items : List Item) → slice_get circle_hoists.items root ≡ Some items → slice_index roots root ≡ root → AreItems circle_scene.active (set_of roots root) root items
    items zero list at itself = let same : Segment 2 ∷ Segment 1 ∷ Segment 0 ∷ [] ≡ list = cc in subst (AreItems circle_scene.active three 0) same runs
    items (suc zero) list at itself = absurd (omega arith)
    items (suc (suc zero)) list at itself = absurd (omega arith)
    items (suc (suc (suc root))) list at itself = absurd (let wrong : ⊥ = cc in wrong)

    others : (member : ℕ) (items : List Item) → slice_get circle_hoists.items member ≡ Some items → slice_index roots member ≢ member → items ≡ []
    others zero list at apart = absurd (apart refl)
    others (suc zero) list at apart = cc
    others (suc (suc zero)) list at apart = cc
    others (suc (suc (suc member))) list at apart = absurd (let wrong : ⊥ = cc in wrong)

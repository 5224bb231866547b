-- The names that a search can come to.
use Rattle.std.proofs.Common.{◌≡◌, ℕ, zero, suc, ◌||◌, Bool, true, false, cond, List, [], ◌∷◌, ◌++◌, Some, slice_get, flat_map, option_map, refl, sym, ap, subst, ◌∙◌}
use Rattle.std.specs.List.{All, list_any, find}
use Rattle.std.specs.Str.{bytes_eq}
use Rattle.std.specs.Cmp.Lexicographic.{bytes_decides}
use Rattle.std.proofs.lemmas.Option.{same_Some, none-some}
use Rattle.std.proofs.lemmas.List.Folds.{list_any-append}
use Rattle.std.proofs.lemmas.List.Elements.{All-head, All-tail}
use Rattle.pk_types.specs.declared.facts.ExportEntry.{ExportEntry}
use Rattle.pk_types.specs.declared.facts.Origin.{Origin}
use Rattle.pk_types.specs.declared.facts.Origin.TheVariants.{Other}
use Rattle.pk_types.specs.declared.graph.Graph.{Graph}
use Rattle.pk_types.specs.declared.graph.Row.{Row}
use Rattle.pk_types.specs.Resolving.{origin_of}
use Rattle.export_names.specs.Searching.{origin_names, passed_names, IsWithin}

or_true : (b : Bool) → (b || true) ≡ true
or_true true = refl
or_true false = refl

-- one of the parts has the item
in_part : {X : Type 0} (test : List ℕ → Bool) (parts : X → List (List ℕ)) (xs : List X) (k : ℕ) (x : X) → slice_get xs k ≡ Some x → list_any test (parts x) ≡ true → list_any test (flat_map parts xs) ≡ true
in_part test parts [] k x e h = absurd (none-some x e)
in_part test parts (y ∷ xs) zero x e h =
    list_any-append test (parts y) (flat_map parts xs) ∙ ap (λ b. b || list_any test (flat_map parts xs)) (subst (λ z. list_any test (parts z) ≡ true) (sym (same_Some y x e)) h)
in_part test parts (y ∷ xs) (suc k) x e h =
    list_any-append test (parts y) (flat_map parts xs) ∙ ap (λ b. list_any test (parts y) || b) (in_part test parts xs k x e h) ∙ or_true (list_any test (parts y))

-- the export that has the name is one of them
in_found : (test : List ℕ → Bool) (has : ExportEntry → Bool) (entries : List ExportEntry) (origin : Origin) → option_map (λ (entry : ExportEntry). entry.origin) (find has entries) ≡ Some origin
    → list_any test (origin_names origin) ≡ true → list_any test (flat_map (λ (entry : ExportEntry). origin_names entry.origin) entries) ≡ true
in_found test has [] origin e h = absurd (none-some origin e)
in_found test has (entry ∷ entries) origin e h = by (λ rest. in_found test has entries origin rest h) (has entry) refl
  where
    by : (option_map (λ (entry : ExportEntry). entry.origin) (find has entries) ≡ Some origin → list_any test (flat_map (λ (entry : ExportEntry). origin_names entry.origin) entries) ≡ true) → (b : Bool) → has entry ≡ b → list_any test (origin_names entry.origin ++ flat_map (λ (entry : ExportEntry). origin_names entry.origin) entries) ≡ true
    by further true f =
        let here : entry.origin ≡ origin = same_Some entry.origin origin (sym (ap (λ b. option_map (λ (entry : ExportEntry). entry.origin) (cond b (Some entry) (find has entries))) f) ∙ e) in
        list_any-append test (origin_names entry.origin) (flat_map (λ (entry : ExportEntry). origin_names entry.origin) entries)
        ∙ ap (λ b. b || list_any test (flat_map (λ (entry : ExportEntry). origin_names entry.origin) entries)) (subst (λ o. list_any test (origin_names o) ≡ true) (sym here) h)
    by further false f =
        list_any-append test (origin_names entry.origin) (flat_map (λ (entry : ExportEntry). origin_names entry.origin) entries)
        ∙ ap (λ b. list_any test (origin_names entry.origin) || b) (further (sym (ap (λ b. option_map (λ (entry : ExportEntry). entry.origin) (cond b (Some entry) (find has entries))) f) ∙ e))
        ∙ or_true (list_any test (origin_names entry.origin))

same_name : (name : List ℕ) → bytes_eq name name ≡ true
same_name name = (bytes_decides name name).1 refl

-- a name that a module exports from another
pub passed_on : (graph : Graph) (number request : ℕ) (other name : List ℕ) (row : Row) → slice_get graph.rows number ≡ Some row → origin_of row.facts name ≡ Some (Other request other)
    → (first : List ℕ) → IsWithin graph first other
passed_on graph number request other name row at e first =
    ap (λ b. bytes_eq other first || b)
    (in_part (bytes_eq other) (λ (r : Row). flat_map (λ (entry : ExportEntry). origin_names entry.origin) r.facts.exports) graph.rows number row at
    (in_found (bytes_eq other) (λ (entry : ExportEntry). bytes_eq entry.name name) row.facts.exports (Other request other) e (ap (λ b. b || false) (same_name other))))
    ∙ or_true (bytes_eq other first)

-- a search begins with its own name
pub begins : (graph : Graph) (name : List ℕ) → IsWithin graph name name
begins graph name = ap (λ b. b || list_any (bytes_eq name) (passed_names graph)) (same_name name)

-- what is true of each export is true of the one that has a name
pub origin_all : (P : Origin → Type 0) (has : ExportEntry → Bool) (entries : List ExportEntry) (origin : Origin) → All (λ (entry : ExportEntry). P entry.origin) entries
    → option_map (λ (entry : ExportEntry). entry.origin) (find has entries) ≡ Some origin → P origin
origin_all P has [] origin all e = absurd (none-some origin e)
origin_all P has (entry ∷ entries) origin all e = by (origin_all P has entries origin (All-tail (λ (entry : ExportEntry). P entry.origin) entry entries all)) (has entry) refl
  where
    by : (option_map (λ (entry : ExportEntry). entry.origin) (find has entries) ≡ Some origin → P origin) → (b : Bool) → has entry ≡ b → P origin
    by further true f = subst P (same_Some entry.origin origin (sym (ap (λ b. option_map (λ (entry : ExportEntry). entry.origin) (cond b (Some entry) (find has entries))) f) ∙ e))
        (All-head (λ (entry : ExportEntry). P entry.origin) entry entries all)
    by further false f = further (sym (ap (λ b. option_map (λ (entry : ExportEntry). entry.origin) (cond b (Some entry) (find has entries))) f) ∙ e)

-- What is read of rows, and the modules of a set.
use Rattle.std.proofs.Common.{◌≡◌, ◌≢◌, flat_map, ℕ, ◌+◌, ◌<◌, ◌==◌, Bool, true, false, cond, List, [], ◌∷◌, ◌++◌, length, map, filter, get_or, Result, Ok, Err, IfOk, slice_index, refl, sym, ap, ◌∙◌, arith, subst}
use Rattle.std.specs.List.{All, Contains, range_with_len}
use Rattle.std.specs.Option.{option_map, unwrap_or}
use Rattle.std.proofs.lemmas.List.{append-nil, map-id}
use Rattle.std.proofs.lemmas.List.Elements.{filter-append, Contains-get_or}
use Rattle.std.proofs.lemmas.List.FromFn.{map-range_with_len_more}
use Rattle.std.proofs.lemmas.Option.{slice_get_read}
use Rattle.std.proofs.lemmas.Bool.{eq-eqb}
use Rattle.pk_types.specs.declared.graph.Graph.{Graph}
use Rattle.pk_types.specs.declared.graph.Row.{Row}
use Rattle.pk_types.specs.HoistSets.{set_of}
use Rattle.pk_types.specs.GivenNames.{own_names, avoided_names, GivesInOrder, GivesNames}
use Rattle.pk_types.proofs.ListMembers.{filtered, unfiltered, in_range, range_of}

module _ (graph : Graph) (number : ℕ) (row : Row) (inside : number < length graph.rows) (is : row ≡ get_or graph.rows number row) where
  pub own_read : own_names graph number ≡ map (λ binding. binding.name) row.facts.bindings
  own_read = ap (λ found. unwrap_or (option_map (λ (row : Row). map (λ binding. binding.name) row.facts.bindings) found) []) (slice_get_read graph.rows (length graph.rows) number row refl inside is)

  pub avoided_read : avoided_names graph number ≡ row.facts.free ++ row.facts.inner
  avoided_read = ap (λ found. unwrap_or (option_map (λ (row : Row). row.facts.free ++ row.facts.inner) found) []) (slice_get_read graph.rows (length graph.rows) number row refl inside is)

range_more : (n : ℕ) → range_with_len 0 (n + 1) ≡ range_with_len 0 n ++ n ∷ []
range_more n = sym (map-id (range_with_len 0 (n + 1))) ∙ map-range_with_len_more (λ k. k) 0 n n (omega arith) ∙ ap (λ l. l ++ n ∷ []) (map-id (range_with_len 0 n))

pub passes_more : (test : ℕ → Bool) (n : ℕ) → test n ≡ true → filter test (range_with_len 0 (n + 1)) ≡ filter test (range_with_len 0 n) ++ n ∷ []
passes_more test n e = ap (filter test) (range_more n) ∙ filter-append test (range_with_len 0 n) (n ∷ []) ∙ ap (λ b. filter test (range_with_len 0 n) ++ cond b (n ∷ []) []) e

pub fails_more : (test : ℕ → Bool) (n : ℕ) → test n ≡ false → filter test (range_with_len 0 (n + 1)) ≡ filter test (range_with_len 0 n)
fails_more test n e = ap (filter test) (range_more n) ∙ filter-append test (range_with_len 0 n) (n ∷ []) ∙ ap (λ b. filter test (range_with_len 0 n) ++ cond b (n ∷ []) []) e ∙ append-nil (filter test (range_with_len 0 n))

-- the members of a set are modules
pub set_within : (roots : List ℕ) (root : ℕ) → All (λ member. member < length roots) (set_of roots root)
set_within roots root = λ k d inside.
    omega (
      arith,
      (range_of 0 (length roots) (get_or (set_of roots root) k d) (unfiltered (λ member. slice_index roots member == root) (range_with_len 0 (length roots)) (get_or (set_of roots root) k d)
          (Contains-get_or (set_of roots root) k d inside)).0).1,
    )

-- a root stands in its set
pub root_within : (roots : List ℕ) (root : ℕ) → root < length roots → slice_index roots root ≡ root → Contains (set_of roots root) root
root_within roots root inside itself =
    filtered (λ member. slice_index roots member == root) (range_with_len 0 (length roots)) root (in_range 0 (length roots) root (omega arith) (omega arith)) (eq-eqb (slice_index roots root) root itself)

-- a set of one is its first module alone
pub only_first : (members : List ℕ) → length members ≡ 1 → members ≡ get_or members 0 0 ∷ []
only_first [] none = absurd (omega arith)
only_first (member ∷ []) single = refl
only_first (member ∷ other ∷ rest) two = absurd (omega arith)

-- what a module that stands alone is given
pub alone : (graph : Graph) (members : List ℕ) (given : List (List (List ℕ))) (root : ℕ) → members ≡ root ∷ [] → given ≡ map (own_names graph) (root ∷ [])
    → GivesNames graph members given
alone graph members given root is gives = subst (λ l. GivesNames graph l given) (sym is)
    (subst (GivesNames graph (root ∷ [])) (sym gives) (record { counts = refl; alone = λ e. refl; shared = λ h. absurd (omega arith) }))

-- what the modules of a larger set are given
pub several : (graph : Graph) (members : List ℕ) (given : List (List (List ℕ))) → length members ≢ 1
    → map (λ names. length names) given ≡ map (λ member. length (own_names graph member)) members
    → GivesInOrder (flat_map (avoided_names graph) members) (flat_map (own_names graph) members) (flat_map (λ names. names) given) → GivesNames graph members given
several graph members given other counts gives = record { counts = counts; alone = λ one. absurd (other one); shared = λ more. gives }

pub some_member : (roots : List ℕ) (root : ℕ) → root < length roots → slice_index roots root ≡ root → 0 < length (set_of roots root)
some_member roots root inside itself = let among = root_within roots root inside itself in omega (arith, among.1)

-- ---- results

pub mapped_ok : {T E : Type 0} (result : Result T E) (P Q : T → Type 0) → ((x : T) → P x → Q x) → IfOk result P → IfOk result Q
mapped_ok (Ok x) P Q maps p = maps x p
mapped_ok (Err e) P Q maps p = tt

pub both_ok : {T E : Type 0} (result : Result T E) (P Q R : T → Type 0) → ((x : T) → P x → Q x → R x) → IfOk result P → IfOk result Q → IfOk result R
both_ok (Ok x) P Q R joined p q = joined x p q
both_ok (Err e) P Q R joined p q = tt

-- The rows of a tree's modules have no binding and no site, and no flag.
use Rattle.std.proofs.Common.{◌≡◌, ◌≢◌, false, ℕ, List, [], ◌∷◌, map, sym, ap, ◌∙◌}
use Rattle.std.specs.List.{All, AllZip}
use Rattle.std.proofs.lemmas.List.Elements.{All-nil, All-cons}
use Rattle.pk_base.specs.FileTree.{FileTree}
use Rattle.pk_types.specs.declared.facts.Kind.TheVariants.{Json}
use Rattle.pk_types.specs.declared.graph.Graph.{Graph}
use Rattle.pk_types.specs.declared.graph.Row.{Row}
use Rattle.bare_modules.specs.Meaning.{kind_of}
use Rattle.emit_body.specs.declared.body.Body.{Body}
use Rattle.emit_chunk.specs.Bare.{IsBareRow, IsBare}
use Rattle.watch_core.specs.Followed.{IsFollowed}
use Rattle.watch_core.specs.Builds.{HasModules}

-- what follows for the items of one list holds of each
pub zip_left : {A B : Type 0} (R : A → B → Type 0) (P : A → Type 0) → ((x : A) (y : B) → R x y → P x) → (xs : List A) (ys : List B) → AllZip R xs ys → All P xs
zip_left R P h [] ys z = All-nil P
zip_left R P h (x ∷ xs) [] z = absurd z
zip_left R P h (x ∷ xs) (y ∷ ys) z = All-cons P x xs (h x y z.0) (zip_left R P h xs ys z.1)

never_json : (requests : List (List ℕ)) → kind_of requests ≢ Json
never_json [] e = cc
never_json (request ∷ requests) e = cc

module _ (t : FileTree) (known : List (List ℕ)) (row : Row) (body : Body) (followed : IsFollowed t known row body) where
  bare_row : IsBareRow row
  bare_row = record {
    kind = λ json. let text = followed.is.read.text in never_json text.requests (sym (ap (λ facts. facts.kind) followed.facts ∙ text.kind) ∙ json);
    bindings = ap (λ facts. facts.bindings) followed.facts;
    sites = ap (λ facts. facts.sites) followed.facts;
  }

module _ (t : FileTree) (graph : Graph) (bodies : List Body) (asks : List (List ℕ)) (has : HasModules t graph bodies asks) where
  pub is_bare : IsBare graph
  is_bare = zip_left (IsFollowed t (map (λ row. row.label) graph.rows)) IsBareRow (bare_row t (map (λ row. row.label) graph.rows)) graph.rows bodies has.modules.followed.each

  pub unflagged : All (λ row. row.flagged ≡ false) graph.rows
  unflagged = zip_left (IsFollowed t (map (λ row. row.label) graph.rows)) (λ row. row.flagged ≡ false) (λ row body followed. followed.flagged) graph.rows bodies has.modules.followed.each

-- How one more module is followed.
use Rattle.std.proofs.Common.{◌≡◌, ◌≢◌, ℕ, ◌+◌, ◌≤◌, ◌<◌, false, List, [], ◌∷◌, ◌++◌, Some, length, map, take, refl, sym, ap, subst, ◌∙◌, arith, slice_get}
use Rattle.std.specs.List.{All, AllZip}
use Rattle.std.proofs.lemmas.List.{length_push, take-append-le, flat_map_more}
use Rattle.std.proofs.lemmas.List.Elements.{All-push}
use Rattle.std.proofs.lemmas.List.Sums.{sum_by_push}
use Rattle.std.proofs.lemmas.Option.{get_or_from_slice_get}
use Rattle.pk_types.specs.declared.limits.TheConstants.{MAX_MODULES, MAX_SOURCE_BYTES}
use Rattle.bare_modules.specs.Meaning.{kind_of}
use Rattle.bare_modules.specs.declared.read.ModuleText.{ModuleText}
use Rattle.emit_body.specs.Pieces.{HoldsPieces}
use Rattle.emit_body.specs.declared.body.Body.{Body}
use Rattle.emit_chunk.specs.Bare.{IsBareRow}
use Rattle.module_graph.proofs.Sights.{extends}
use Rattle.module_graph.specs.Building.{Building, row_of, wanted_path}
use Rattle.module_graph.specs.Known.{with_path, with_paths}
use Rattle.pk_base.specs.FileTree.{FileTree}
use Rattle.pk_base.specs.Paths.{folder_of}
use Rattle.pk_types.specs.declared.facts.Kind.TheVariants.{Json}
use Rattle.pk_types.specs.declared.graph.Row.{Row}
use Rattle.watch_core.proofs.Looking.{with_more}
use Rattle.watch_core.proofs.WalkPaths.{IsThere, numbers_kept, stay_known, all_known, files_there, all_with}
use Rattle.watch_core.specs.Followed.{AreKnown, IsFollowed, source_bytes, row_asks, rows_asks}
use Rattle.watch_core.specs.Modules.{IsModule, facts_of, imported, module_asks}
use Rattle.watch_core.specs.Visits.{IsVisited, IsModuleTextOf, IsText}
use Rattle.watch_core.specs.declared.module.Visited.{Visited}
use Rattle.watch_core.specs.declared.walk.Walker.{Walker}

-- what holds of a walk from an entry, whatever the files are
pub record IsWalking (entry : List ℕ) (walker : Walker) : Type 0 where
  pub first : take 1 walker.builder.known ≡ entry ∷ []
  pub entries : walker.builder.entries ≡ 0 ∷ []
  pub few : length walker.builder.known ≤ MAX_MODULES
  pub bare : All IsBareRow walker.builder.rows
  pub each : length walker.bodies.items ≡ length walker.builder.rows
  pub pieces : All HoldsPieces walker.bodies.items
  pub bytes : walker.source_bytes ≡ source_bytes walker.builder.rows
  pub few_bytes : walker.source_bytes ≤ MAX_SOURCE_BYTES

-- what holds of it in a tree, where something stands at the entry
pub record HasFollowed (t : FileTree) (walker : Walker) : Type 0 where
  pub each : AllZip (IsFollowed t walker.builder.known) walker.builder.rows walker.bodies.items
  pub there : All (IsThere t) walker.builder.known

-- the wanted module, which was looked at, is added
pub record IsTaken (old new : Walker) (visited : Visited) : Type 0 where
  pub known : new.builder.known ≡ with_paths old.builder.known visited.targets.items
  pub row : new.builder.rows ≡ old.builder.rows ++ row_of old.builder new.builder.known (facts_of visited.said) visited.targets.items false visited.size ∷ []
  pub entries : new.builder.entries ≡ old.builder.entries
  pub body : new.bodies.items ≡ old.bodies.items ++ record { text = visited.said.body; pieces = [] } ∷ []
  pub source_bytes : new.source_bytes ≡ old.source_bytes + visited.size
  pub few : length new.builder.known ≤ MAX_MODULES

imported_texts : (texts : List (List ℕ)) → map (λ request. request.text) (imported texts) ≡ texts
imported_texts [] = refl
imported_texts (text ∷ texts) = ap (λ rest. text ∷ rest) (imported_texts texts)

-- ---- what was followed stays followed

stays_followed : (t : FileTree) (known more : List (List ℕ)) (row : Row) (body : Body) → IsFollowed t known row body → IsFollowed t (known ++ more) row body
stays_followed t known more row body h = record {
  bytes = h.bytes;
  said = h.said;
  targets = h.targets;
  is = h.is;
  facts = h.facts;
  are_known = stay_known known more h.targets h.are_known;
  leads = h.leads ∙ sym (numbers_kept known more h.targets h.are_known);
  flagged = h.flagged;
  size = h.size;
  body_is = h.body_is;
}

zip_weaker : (R S : Row → Body → Type 0) → ((row : Row) (body : Body) → R row body → S row body) → (rows : List Row) (bodies : List Body) → AllZip R rows bodies → AllZip S rows bodies
zip_weaker R S f [] [] h = h
zip_weaker R S f [] (body ∷ bodies) h = h
zip_weaker R S f (row ∷ rows) [] h = h
zip_weaker R S f (row ∷ rows) (body ∷ bodies) h = (f row body h.0, zip_weaker R S f rows bodies h.1)

zip_push : (R : Row → Body → Type 0) (rows : List Row) (bodies : List Body) (row : Row) (body : Body) → AllZip R rows bodies → R row body → AllZip R (rows ++ row ∷ []) (bodies ++ body ∷ [])
zip_push R [] [] row body h e = (e, tt)
zip_push R [] (other ∷ bodies) row body h e = absurd h
zip_push R (other ∷ rows) [] row body h e = absurd h
zip_push R (first ∷ rows) (other ∷ bodies) row body h e = (h.0, zip_push R rows bodies row body h.1 e)

wanted_at : (building : Building) (path : List ℕ) → slice_get building.known (length building.rows) ≡ Some path → wanted_path building ≡ path
wanted_at building path h = get_or_from_slice_get building.known (length building.rows) path [] h

module _ (t : FileTree) (old new : Walker) (path : List ℕ) (visited : Visited) (keys keys_new : List (List ℕ))
    (wanted : slice_get old.builder.known (length old.builder.rows) ≡ Some path) (taken : IsTaken old new visited) (v : IsVisited t old.source_bytes path (with_path keys path) keys_new visited) where
  abbrev new_row : Row
  new_row = row_of old.builder new.builder.known (facts_of visited.said) visited.targets.items false visited.size

  abbrev new_body : Body
  new_body = record { text = visited.said.body; pieces = [] }

  new_followed : IsFollowed t new.builder.known new_row new_body
  new_followed = record {
    bytes = v.bytes;
    said = visited.said;
    targets = visited.targets.items;
    is = subst (λ p. IsModule t p v.bytes visited.said visited.targets.items) (sym (wanted_at old.builder path wanted)) v.is;
    facts = refl;
    are_known = subst (λ known. AreKnown known visited.targets.items) (sym taken.known) (all_known old.builder.known visited.targets.items);
    leads = refl;
    flagged = refl;
    size = v.size;
    body_is = refl;
  }

  pub follows_on : HasFollowed t old → HasFollowed t new
  follows_on h =
      let e = extends visited.targets.items old.builder.known in
      let grows : new.builder.known ≡ old.builder.known ++ e.more = taken.known ∙ e.is in
      let before : AllZip (IsFollowed t new.builder.known) old.builder.rows old.bodies.items =
      zip_weaker (IsFollowed t old.builder.known) (IsFollowed t new.builder.known)
      (λ row body f. subst (λ known. IsFollowed t known row body) (sym grows) (stays_followed t old.builder.known e.more row body f)) old.builder.rows old.bodies.items h.each in
      let both = zip_push (IsFollowed t new.builder.known) old.builder.rows old.bodies.items new_row new_body before new_followed in
      record {
        each = subst (λ rows. AllZip (IsFollowed t new.builder.known) rows new.bodies.items) (sym taken.row)
            (subst (λ bodies. AllZip (IsFollowed t new.builder.known) (old.builder.rows ++ new_row ∷ []) bodies) (sym taken.body) both);
        there = subst (All (IsThere t)) (sym taken.known)
            (all_with (IsThere t) old.builder.known visited.targets.items h.there (files_there t (folder_of path) visited.said.requests visited.targets.items v.is.leads));
      }

  new_asks : row_asks t new_row ≡ path ∷ module_asks t path visited.said.requests
  new_asks = ap (λ p. p ∷ module_asks t p (map (λ request. request.text) (imported visited.said.requests))) (wanted_at old.builder path wanted)
      ∙ ap (λ texts. path ∷ module_asks t path texts) (imported_texts visited.said.requests)

  pub asks_on : (start : List (List ℕ)) → keys ≡ with_paths start (rows_asks t old.builder.rows) → keys_new ≡ with_paths start (rows_asks t new.builder.rows)
  asks_on start h =
      v.looked ∙ ap (λ k. with_paths k (path ∷ module_asks t path visited.said.requests)) h
      ∙ sym (with_more start (rows_asks t old.builder.rows) (path ∷ module_asks t path visited.said.requests))
      ∙ ap (with_paths start) (ap (λ asks. rows_asks t old.builder.rows ++ asks) (sym new_asks) ∙ flat_map_more (row_asks t) [] old.builder.rows new_row ∙ ap (rows_asks t) (sym taken.row))

-- ---- a module more, whatever the files are

no_json : (requests : List (List ℕ)) → kind_of requests ≢ Json
no_json [] = λ e. cc
no_json (request ∷ requests) = λ e. cc

never_json : (said : ModuleText) → IsModuleTextOf said → said.kind ≢ Json
never_json said h = subst (λ kind. kind ≢ Json) (sym h.text.kind) (no_json h.text.requests)

pub walks_on : (entry : List ℕ) (old new : Walker) (visited : Visited) → IsTaken old new visited → length old.builder.rows < length old.builder.known → IsText visited → old.source_bytes + visited.size ≤ MAX_SOURCE_BYTES
    → IsWalking entry old → IsWalking entry new
walks_on entry old new visited taken wanted text few h =
    let e = extends visited.targets.items old.builder.known in
    let row : Row = row_of old.builder new.builder.known (facts_of visited.said) visited.targets.items false visited.size in
    let body : Body = record { text = visited.said.body; pieces = [] } in
    record {
      first = ap (take 1) (taken.known ∙ e.is) ∙ take-append-le 1 old.builder.known e.more (omega arith) ∙ h.first;
      entries = taken.entries ∙ h.entries;
      few = taken.few;
      bare = subst (All IsBareRow) (sym taken.row) (All-push IsBareRow old.builder.rows row h.bare (record { kind = never_json visited.said text; bindings = refl; sites = refl }));
      each = omega (arith, h.each, ap length taken.body, ap length taken.row, length_push old.bodies.items body, length_push old.builder.rows row);
      pieces = subst (All HoldsPieces) (sym taken.body) (All-push HoldsPieces old.bodies.items body h.pieces (omega arith));
      bytes = taken.source_bytes ∙ ap (λ n. n + visited.size) h.bytes ∙ sym (sum_by_push (λ row. row.size) old.builder.rows row) ∙ ap source_bytes (sym taken.row);
      few_bytes = subst (λ n. n ≤ MAX_SOURCE_BYTES) (sym taken.source_bytes) few;
    }

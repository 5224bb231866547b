-- The modules of a tree make a graph that fits.
use Rattle.std.proofs.Common.{◌≡◌, ℕ, suc, ◌+◌, ◌<◌, ◌≤◌, ◌||◌, not, nat_lt, Bool, true, false, true≢false, cond, List, [], ◌∷◌, Option, None, Some, length, map, take, get_or, slice_get, option_map, refl, sym, ap, subst, ◌∙◌, arith}
use Rattle.std.specs.List.{All, list_any, position_or_len}
use Rattle.std.specs.Str.{bytes_eq}
use Rattle.std.specs.Cmp.Lexicographic.{bytes_decides}
use Rattle.std.proofs.lemmas.Bool.{ltb-false}
use Rattle.std.proofs.lemmas.List.{length-map}
use Rattle.std.proofs.lemmas.List.Elements.{All-nil, All-cons, All-map, All-weaker}
use Rattle.std.proofs.lemmas.Map.Keys.{IsDistinct-from_apart}
use Rattle.std.proofs.lemmas.Option.{none-some, same_Some, option_and_then_some, slice_get-get_or}
use Rattle.pk_types.specs.declared.limits.TheConstants.{MAX_FILE_LEN}
use Rattle.pk_base.specs.FileTree.{FileTree}
use Rattle.pk_base.specs.Outside.{read_of}
use Rattle.pk_base.specs.declared.outside.Read.TheVariants.{Bytes, Longer}
use Rattle.pk_base.specs.Paths.{folder_of}
use Rattle.pk_types.specs.declared.graph.Graph.{Graph}
use Rattle.pk_types.specs.declared.graph.Row.{Row}
use Rattle.pk_types.specs.Fitting.{RowFits, Fits}
use Rattle.emit_body.specs.declared.body.Body.{Body}
use Rattle.module_graph.specs.Known.{number_in}
use Rattle.watch_laws.proofs.OneNumbering.{one_place}
use Rattle.watch_core.specs.Targets.{file_from, files_from}
use Rattle.watch_core.specs.Followed.{IsKnown, IsFollowed}
use Rattle.watch_core.specs.Walks.{building_of}
use Rattle.watch_core.specs.Builds.{HasModules, index_js}
use Rattle.watch_core.proofs.FactsFitting.{fitting}
use Rattle.watch_laws.proofs.OneWalks.{LeadsIn, numbered}
use Rattle.watch_laws.proofs.BareTrees.{zip_left}

-- what is read has no more bytes than the limit
few_read : (held : Option (List ℕ)) (limit : ℕ) (bytes : List ℕ) → read_of held limit ≡ Bytes bytes → length bytes ≤ limit
few_read None limit bytes e = absurd cc
few_read (Some text) limit bytes e = by (nat_lt limit (length text)) refl e
  where
    by : (b : Bool) → nat_lt limit (length text) ≡ b → cond b Longer (Bytes text) ≡ Bytes bytes → length bytes ≤ limit
    by true _ f = absurd cc
    by false less f =
        let same : text ≡ bytes = cc in
        omega (arith, ltb-false limit (length text) less, ap length same)

-- there is a file for each request
as_many : (t : FileTree) (folder : List ℕ) (requests targets : List (List ℕ)) → files_from t folder requests ≡ Some targets → length targets ≡ length requests
as_many t folder [] targets e = sym (ap length (same_Some [] targets e))
as_many t folder (request ∷ requests) targets e =
    option_and_then_some (λ file. option_map (λ files. file ∷ files) (files_from t folder requests)) (file_from t folder request) targets e
    (λ file f h. by file (files_from t folder requests) (λ files. as_many t folder requests files) h)
  where
    by : (file : List ℕ) → (found : Option (List (List ℕ))) → ((files : List (List ℕ)) → found ≡ Some files → length files ≡ length requests)
        → option_map (λ files. file ∷ files) found ≡ Some targets → length targets ≡ length (request ∷ requests)
    by file None rest h = absurd (none-some targets h)
    by file (Some files) rest h = sym (ap length (same_Some (file ∷ files) targets h)) ∙ ap (λ n. suc n) (rest files refl)

-- a known path has a number below the count
place_within : (test : List ℕ → Bool) (known : List (List ℕ)) → list_any test known ≡ true → position_or_len test known < length known
place_within test [] h = absurd (true≢false (sym h))
place_within test (path ∷ known) h = by (place_within test known) (test path) refl
  where
    by : (list_any test known ≡ true → position_or_len test known < length known) → (b : Bool) → test path ≡ b → cond (not (test path)) (1 + position_or_len test known) 0 < length (path ∷ known)
    by rest true e = subst (λ n. n < length (path ∷ known)) (sym (ap (λ b. cond (not b) (1 + position_or_len test known) 0) e)) (omega arith)
    by rest false e =
        let before : position_or_len test known < length known = rest (sym (ap (λ b. b || list_any test known) e) ∙ h) in
        subst (λ n. n < length (path ∷ known)) (sym (ap (λ b. cond (not b) (1 + position_or_len test known) 0) e)) (omega arith)

module _ (t : FileTree) (graph : Graph) (row : Row) (body : Body) (followed : IsFollowed t (map (λ row. row.label) graph.rows) row body) where
  row_fits : RowFits graph row
  row_fits = record {
    facts = fitting followed.said row.facts followed.facts
        (record { bytes = followed.bytes; few = few_read (t row.label) MAX_FILE_LEN followed.bytes followed.is.read.source.read; text = followed.is.read.text });
    each = ap length followed.leads ∙ length-map followed.targets (number_in (map (λ row. row.label) graph.rows))
        ∙ as_many t (folder_of row.label) followed.said.requests followed.targets followed.is.leads
        ∙ sym (length-map followed.said.requests _) ∙ sym (ap (λ facts. length facts.requests) followed.facts);
    targets = subst (All (λ number. number < length graph.rows)) (sym followed.leads)
        (All-map (λ number. number < length graph.rows) (number_in (map (λ row. row.label) graph.rows)) followed.targets
        (All-weaker (IsKnown (map (λ row. row.label) graph.rows)) (λ path. number_in (map (λ row. row.label) graph.rows) path < length graph.rows)
        (λ path h. omega (arith, place_within (bytes_eq path) (map (λ row. row.label) graph.rows) h, length-map graph.rows (λ (row : Row). row.label))) followed.targets followed.are_known));
  }

module _ (t : FileTree) (graph : Graph) (bodies : List Body) (asks : List (List ℕ)) (has : HasModules t graph bodies asks) where
  -- no label stands twice
  labels_apart : (labels : List (List ℕ)) → labels ≡ map (λ row. row.label) graph.rows → (i j : ℕ) (d : List ℕ) → i < j → j < length labels
      → bytes_eq (get_or labels i d) (get_or labels j d) ≡ false
  labels_apart labels are i j d before within = by (bytes_eq (get_or labels i d) (get_or labels j d)) refl
    where
      by : (b : Bool) → bytes_eq (get_or labels i d) (get_or labels j d) ≡ b → b ≡ false
      by false e = refl
      by true e =
          let path = get_or labels j d in
          let same = (bytes_decides (get_or labels i d) (get_or labels j d)).0 e in
          let first : slice_get labels i ≡ Some (get_or labels j d) = slice_get-get_or labels i d (omega arith) ∙ ap Some same in
          let second = slice_get-get_or labels j d within in
          absurd (one_place (LeadsIn t) index_js _ (map (λ row. row.label) graph.rows) (length graph.rows) (numbered t index_js (building_of graph) bodies has.modules.followed) i j path before
          (subst (λ l. slice_get l i ≡ Some (get_or labels j d)) are first) (subst (λ l. slice_get l j ≡ Some (get_or labels j d)) are second))

  some_row : 0 < length graph.rows
  some_row = by (map (λ row. row.label) graph.rows) (length-map graph.rows (λ (row : Row). row.label)) has.modules.followed.first
    where
      by : (labels : List (List ℕ)) → length labels ≡ length graph.rows → take 1 labels ≡ index_js ∷ [] → 0 < length graph.rows
      by [] each e = absurd cc
      by (label ∷ labels) each e = omega (arith, each)

  pub fits : Fits graph
  fits = record {
    rows = zip_left (IsFollowed t (map (λ row. row.label) graph.rows)) (RowFits graph) (row_fits t graph) graph.rows bodies has.modules.followed.each;
    entries = subst (All (λ number. number < length graph.rows)) (sym has.modules.followed.entries)
        (All-cons (λ number. number < length graph.rows) 0 [] some_row (All-nil (λ number. number < length graph.rows)));
    few_rows = omega (arith, has.modules.followed.few, length-map graph.rows (λ (row : Row). row.label));
    few_entries = omega (arith, ap length has.modules.followed.entries);
    labels = IsDistinct-from_apart bytes_eq (map (λ row. row.label) graph.rows) (labels_apart (map (λ row. row.label) graph.rows) refl);
  }

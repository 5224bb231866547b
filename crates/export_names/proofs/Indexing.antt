-- What is found by the names of exports.
use Rattle.std.proofs.Common.{◌≡◌, ℕ, suc, ◌+◌, ◌<◌, ◌||◌, Bool, true, false, cond, List, [], ◌∷◌, ◌++◌, Some, None, length, get_or, take, map, refl, sym, ap, subst, ◌∙◌, arith}
use Rattle.std.specs.List.{IsDistinct, list_any, find, position, position_from}
use Rattle.std.specs.Str.{bytes_eq}
use Rattle.std.specs.Cmp.Lexicographic.{nat_list_eq_equiv}
use Rattle.std.proofs.lemmas.Option.{same_Some, none-some}
use Rattle.std.proofs.lemmas.List.{map_more, map-append, length-map, get_or-map, get_or-take, length-take, take-map}
use Rattle.std.proofs.lemmas.Iterator.Adapters.{position_from-zero}
use Rattle.std.proofs.lemmas.Map.Keys.{apart_from_distinct}
use Rattle.indexmap.specs.IndexSet.{insert_key}
use Rattle.pk_types.specs.declared.facts.ExportEntry.{ExportEntry}
use Rattle.pk_text.specs.declared.text.Key.{Key}
use Rattle.export_names.specs.Indexed.{HaveApartNames, export_names}

-- a test of keys that asks for their names alone
pub any_name : (name : List ℕ) (keys : List Key) → list_any (λ (key : Key). bytes_eq name key.0.now) keys ≡ list_any (bytes_eq name) (map (λ (key : Key). key.0.now) keys)
any_name name [] = refl
any_name name (key ∷ keys) = ap (λ b. bytes_eq name key.0.now || b) (any_name name keys)

-- no name that differs from all is found
none_there : (name : List ℕ) (names : List (List ℕ)) → ((k : ℕ) → k < length names → bytes_eq name (get_or names k name) ≡ false) → list_any (bytes_eq name) names ≡ false
none_there name [] apart = refl
none_there name (first ∷ names) apart =
    ap (λ b. b || list_any (bytes_eq name) names) (apart 0 (omega arith)) ∙ none_there name names (λ k below. apart (suc k) (omega (arith, below)))

-- none of the first names is the next one
fresh : (names : List (List ℕ)) (index : ℕ) (name : List ℕ) → IsDistinct bytes_eq names → index < length names → get_or names index name ≡ name → list_any (bytes_eq name) (take index names) ≡ false
fresh names index name apart within at = none_there name (take index names) (λ k below.
    let before : k < index = omega (arith, below, length-take index names) in
    ap (bytes_eq name) (get_or-take index names k name before) ∙ nat_list_eq_equiv.symm name (get_or names k name)
    ∙ subst (λ n. bytes_eq (get_or names k name) n ≡ false) at (apart_from_distinct bytes_eq names k index name apart before within))

-- the names of one export more
pub one_more : (exports : List ExportEntry) (index : ℕ) (entry : ExportEntry) (keys more : List Key) (key : Key) → index < length exports → entry ≡ get_or exports index entry → HaveApartNames exports
    → key.0.now ≡ entry.name → more ≡ insert_key (λ (key other : Key). bytes_eq key.0.now other.0.now) keys key
    → map (λ (key : Key). key.0.now) keys ≡ export_names (take index exports) → map (λ (key : Key). key.0.now) more ≡ export_names (take (index + 1) exports)
one_more exports index entry keys more key within at apart named is so_far =
    ap (map (λ (key : Key). key.0.now)) (is ∙ ap (λ b. cond b keys (keys ++ key ∷ [])) absent)
    ∙ map-append (λ (key : Key). key.0.now) keys (key ∷ [])
    ∙ ap (λ l. l ++ key.0.now ∷ []) so_far ∙ ap (λ n. export_names (take index exports) ++ n ∷ []) (named ∙ ap (λ (e : ExportEntry). e.name) at)
    ∙ sym (map_more (λ (e : ExportEntry). e.name) exports index entry within)
  where
    here : get_or (export_names exports) index key.0.now ≡ key.0.now
    here = get_or-map (λ (e : ExportEntry). e.name) exports index entry key.0.now within ∙ sym (named ∙ ap (λ (e : ExportEntry). e.name) at)

    absent : list_any (λ (other : Key). bytes_eq key.0.now other.0.now) keys ≡ false
    absent = any_name key.0.now keys ∙ ap (list_any (bytes_eq key.0.now)) (so_far ∙ sym (take-map (λ (e : ExportEntry). e.name) index exports))
        ∙ fresh (export_names exports) index key.0.now apart (omega (arith, within, length-map exports (λ (e : ExportEntry). e.name))) here

-- the export that has the name is the one at its place
at_place_from : (name : List ℕ) (exports : List ExportEntry) (start place : ℕ) (some : ExportEntry) → position_from (bytes_eq name) start (export_names exports) ≡ Some place
    → (k : ℕ) × (place ≡ start + k) × (k < length exports) × (find (λ (entry : ExportEntry). bytes_eq entry.name name) exports ≡ Some (get_or exports k some))
at_place_from name [] start place some e = absurd (none-some place e)
at_place_from name (entry ∷ exports) start place some e = by (at_place_from name exports (start + 1) place some) (bytes_eq name entry.name) refl
  where
    turned : (b : Bool) → bytes_eq name entry.name ≡ b → bytes_eq entry.name name ≡ b
    turned b f = nat_list_eq_equiv.symm entry.name name ∙ f

    by : (position_from (bytes_eq name) (start + 1) (export_names exports) ≡ Some place
        → (k : ℕ) × (place ≡ start + 1 + k) × (k < length exports) × (find (λ (entry : ExportEntry). bytes_eq entry.name name) exports ≡ Some (get_or exports k some)))
        → (b : Bool) → bytes_eq name entry.name ≡ b
        → (k : ℕ) × (place ≡ start + k) × (k < suc (length exports)) × (cond (bytes_eq entry.name name) (Some entry) (find (λ (entry : ExportEntry). bytes_eq entry.name name) exports) ≡ Some (get_or (entry ∷ exports) k some))
    by rest true f = (
      0,
      same_Some place start (sym e ∙ ap (λ b. cond b (Some start) (position_from (bytes_eq name) (start + 1) (export_names exports))) f) ∙ omega arith,
      omega arith,
      ap (λ b. cond b (Some entry) (find (λ (entry : ExportEntry). bytes_eq entry.name name) exports)) (turned true f),
    )
    by rest false f =
        let found = rest (sym (ap (λ b. cond b (Some start) (position_from (bytes_eq name) (start + 1) (export_names exports))) f) ∙ e) in (
          suc found.0,
          omega (arith, found.1),
          omega (arith, found.2),
          ap (λ b. cond b (Some entry) (find (λ (entry : ExportEntry). bytes_eq entry.name name) exports)) (turned false f) ∙ found.3,
        )

-- where no place is found, no export has the name
at_no_place_from : (name : List ℕ) (exports : List ExportEntry) (start : ℕ) → position_from (bytes_eq name) start (export_names exports) ≡ None
    → find (λ (entry : ExportEntry). bytes_eq entry.name name) exports ≡ None
at_no_place_from name [] start e = refl
at_no_place_from name (entry ∷ exports) start e = by (at_no_place_from name exports (start + 1)) (bytes_eq name entry.name) refl
  where
    by : (position_from (bytes_eq name) (start + 1) (export_names exports) ≡ None → find (λ (entry : ExportEntry). bytes_eq entry.name name) exports ≡ None)
        → (b : Bool) → bytes_eq name entry.name ≡ b → cond (bytes_eq entry.name name) (Some entry) (find (λ (entry : ExportEntry). bytes_eq entry.name name) exports) ≡ None
    by rest true f = absurd (none-some start (sym e ∙ ap (λ b. cond b (Some start) (position_from (bytes_eq name) (start + 1) (export_names exports))) f))
    by rest false f =
        ap (λ b. cond b (Some entry) (find (λ (entry : ExportEntry). bytes_eq entry.name name) exports)) (nat_list_eq_equiv.symm entry.name name ∙ f)
        ∙ rest (sym (ap (λ b. cond b (Some start) (position_from (bytes_eq name) (start + 1) (export_names exports))) f) ∙ e)

-- a place among the keys is that among their names
key_place_from : (name : List ℕ) (keys : List Key) (start : ℕ) → position_from (λ (key : Key). bytes_eq name key.0.now) start keys ≡ position_from (bytes_eq name) start (map (λ (key : Key). key.0.now) keys)
key_place_from name [] start = refl
key_place_from name (key ∷ keys) start = ap (λ rest. cond (bytes_eq name key.0.now) (Some start) rest) (key_place_from name keys (start + 1))

key_place : (name : List ℕ) (keys : List Key) → position (λ (key : Key). bytes_eq name key.0.now) keys ≡ position_from (bytes_eq name) 0 (map (λ (key : Key). key.0.now) keys)
key_place name keys = position_from-zero (λ (key : Key). bytes_eq name key.0.now) keys ∙ key_place_from name keys 0

module _ (name : List ℕ) (keys : List Key) (exports : List ExportEntry) (are : map (λ (key : Key). key.0.now) keys ≡ export_names exports) where
  pub at_place : (place : ℕ) (some : ExportEntry) → position (λ (key : Key). bytes_eq name key.0.now) keys ≡ Some place
      → (place < length exports) × (find (λ (entry : ExportEntry). bytes_eq entry.name name) exports ≡ Some (get_or exports place some))
  at_place place some e =
      let found = at_place_from name exports 0 place some (sym (key_place name keys ∙ ap (position_from (bytes_eq name) 0) are) ∙ e) in
      let is : place ≡ found.0 = omega (arith, found.1) in
      (omega (arith, is, found.2), found.3 ∙ ap (λ k. Some (get_or exports k some)) (sym is))

  pub at_no_place : position (λ (key : Key). bytes_eq name key.0.now) keys ≡ None → find (λ (entry : ExportEntry). bytes_eq entry.name name) exports ≡ None
  at_no_place e = at_no_place_from name exports 0 (sym (key_place name keys ∙ ap (position_from (bytes_eq name) 0) are) ∙ e)

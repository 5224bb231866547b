-- Where chunks are not split, those of a plan are the chunks of its groups.
use Rattle.std.proofs.Common.{◌≡◌, ℕ, ◌<◌, ◌||◌, Bool, true, cond, List, [], ◌∷◌, length, map, get_or, nat_lt, Contains, Some, None, slice_get, refl, sym, ap, subst, ◌∙◌, arith}
use Rattle.std.specs.List.{filter, range_with_len}
use Rattle.std.proofs.lemmas.Bool.{lt-ltb, lt-leb}
use Rattle.std.proofs.lemmas.Option.{same_Some, slice_get_within, get_or_from_slice_get}
use Rattle.std.proofs.lemmas.List.{length-map, get_or-map}
use Rattle.std.proofs.lemmas.List.FromFn.{length-map-range_with_len, get_or-map-range_with_len, fill_by_all}
use Rattle.std.proofs.lemmas.Slice.Zip.{AllZip-long}
use Rattle.pk_types.specs.declared.graph.Graph.{Graph}
use Rattle.pk_types.specs.declared.plan.Chunks.{Chunks}
use Rattle.pk_types.specs.declared.plan.Groups.{Groups}
use Rattle.pk_types.specs.ChunkGroups.{AreAll}
use Rattle.pk_types.specs.Availability.{IsPlaced, ArePlaced}
use Rattle.pk_types.specs.SplitStates.{chunk_at, is_there, own_chunks, first_state}
use Rattle.pk_types.specs.Splitting.{list_of, chunk_number, chunks_of, IsSplit}
use Rattle.plan_core.specs.Closure.{IsClosure}
use Rattle.plan_core.specs.Plans.{AreEntryGroups, AreEntryChunks}
use Rattle.pk_types.proofs.Availabilities.{entry_places}
use Rattle.pk_types.proofs.ListMembers.{range_of}
use Rattle.pk_types.proofs.Members.{as_long, same_by_place}
use Rattle.pk_types.proofs.OneOrder.{same_all}
use Rattle.pk_types.proofs.Parts.{Contains-head, Contains-tail}
use Rattle.plan_laws.proofs.SameGroups.{zip_at, empty_at}

-- a test that all pass leaves all
all_pass : (test : ℕ → Bool) (numbers : List ℕ) → ((number : ℕ) → Contains numbers number → test number ≡ true) → filter test numbers ≡ numbers
all_pass test [] pass = refl
all_pass test (number ∷ numbers) pass =
    ap (λ b. cond b (number ∷ filter test numbers) (filter test numbers)) (pass number (Contains-head number numbers))
    ∙ ap (λ l. number ∷ l) (all_pass test numbers (λ other c. pass other (Contains-tail number numbers other c)))

same_chunks : (chunks others : Chunks) → chunks.modules ≡ others.modules → chunks.entries ≡ others.entries → chunks.lists ≡ others.lists → chunks ≡ others
same_chunks chunks others m e l = grind arith

module _ (entries : ℕ) (placed : List (List ℕ)) (each : length placed ≡ entries) where
  -- the chunk of each group is there
  there : (group : ℕ) → group < entries → is_there (first_state entries placed) group ≡ true
  there group within = ap (λ b. b || nat_lt 0 (length (chunk_at (first_state entries placed) group))) (lt-ltb group entries within)

  same_modules : placed ≡ (chunks_of (first_state entries placed)).modules
  same_modules =
      fill_by_all (chunk_at (first_state entries placed)) placed (length placed) [] refl (λ k h. refl)
      ∙ ap (map (chunk_at (first_state entries placed)))
      (sym (all_pass (is_there (first_state entries placed)) (range_with_len 0 (length placed))
      (λ group c. there group (let below = (range_of 0 (length placed) group c).1 in omega (arith, below, each)))))

  own_list : (group : ℕ) → group < entries → list_of (first_state entries placed) (own_chunks entries placed group) ≡ []
  own_list group within =
      ap (λ b. list_of (first_state entries placed) (cond (b || nat_lt 0 (length (get_or placed group []))) (group ∷ []) [])) (lt-ltb group entries within)
      ∙ ap (λ b. map (chunk_number (first_state entries placed)) (cond b (group ∷ []) [])) (lt-leb entries group within)

  -- no group needs another chunk
  same_lists : (lists : List (List ℕ)) → length lists ≡ entries → ((k : ℕ) (list : List ℕ) → slice_get lists k ≡ Some list → [] ≡ list)
      → lists ≡ (chunks_of (first_state entries placed)).lists
  same_lists lists long empty =
      same_by_place lists (map (list_of (first_state entries placed)) (map (own_chunks entries placed) (range_with_len 0 (length placed))))
      (long ∙ sym each ∙ sym (length-map (map (own_chunks entries placed) (range_with_len 0 (length placed))) (list_of (first_state entries placed)) ∙ length-map-range_with_len (own_chunks entries placed) 0 (length placed)))
      at
    where
      at : (k : ℕ) (x y : List ℕ) → slice_get lists k ≡ Some x → slice_get (map (list_of (first_state entries placed)) (map (own_chunks entries placed) (range_with_len 0 (length placed)))) k ≡ Some y → x ≡ y
      at k x y e f =
          let within = slice_get_within lists k x e in
          let short : k < length placed = omega (arith, within, long, each) in
          sym (empty k x e) ∙ sym (own_list k (omega (arith, within, long)))
          ∙ ap (list_of (first_state entries placed)) (sym (get_or-map-range_with_len (own_chunks entries placed) 0 (length placed) k k [] short (omega arith)))
          ∙ sym (get_or-map (list_of (first_state entries placed)) (map (own_chunks entries placed) (range_with_len 0 (length placed))) k [] [] (omega (arith, short, length-map-range_with_len (own_chunks entries placed) 0 (length placed))))
          ∙ get_or_from_slice_get (map (list_of (first_state entries placed)) (map (own_chunks entries placed) (range_with_len 0 (length placed)))) k y [] f

module _ (graph : Graph) (edges : List (List ℕ)) (groups : Groups) (planned : AreEntryGroups graph edges groups) where
  long : length groups.closures ≡ length groups.targets
  long = AllZip-long (IsClosure edges) groups.targets groups.closures planned.closures

  -- a group of an entry brings all of its modules
  brought : (group : ℕ) (modules : List ℕ) → slice_get groups.closures group ≡ Some modules → AreAll (IsPlaced groups group) modules
  brought group modules e =
      let target = as_long groups.closures groups.targets group modules e (sym long) in
      let closure = zip_at (IsClosure edges) groups.targets groups.closures group target.0 modules planned.closures target.1 e in
      let within = slice_get_within groups.closures group modules e in
      record {
        ascending = closure.ascending;
        each = λ number. (
          λ c. entry_places groups group number (omega (arith, within, long, ap length planned.targets, planned.entries)) (modules, e, c),
          λ p. subst (λ l. Contains l number) (same_Some p.0.0 modules (sym p.0.1 ∙ e)) p.0.2,
        );
      }

  pub are_placed : ArePlaced groups groups.closures
  are_placed = record { each = long; modules = brought }

  pub only_placed : (placed : List (List ℕ)) → ArePlaced groups placed → placed ≡ groups.closures
  only_placed placed right = same_by_place placed groups.closures (right.each ∙ sym long)
      (λ group modules others e f. same_all (IsPlaced groups group) modules others (right.modules group modules e) (brought group others f))

  pub is_split : (chunks : Chunks) → AreEntryChunks groups chunks → (placed : List (List ℕ)) → ArePlaced groups placed → IsSplit graph None groups.entries placed chunks
  is_split chunks cut placed right =
      let count : length groups.closures ≡ groups.entries = omega (arith, long, ap length planned.targets, planned.entries) in
      subst (λ placed. IsSplit graph None groups.entries placed chunks) (sym (only_placed placed right)) (record {
        last = first_state groups.entries groups.closures;
        picks = refl;
        finished = same_chunks chunks (chunks_of (first_state groups.entries groups.closures))
            (cut.modules ∙ same_modules groups.entries groups.closures count)
            cut.entries
            (same_lists groups.entries groups.closures count chunks.lists
            (ap length cut.lists ∙ length-map groups.targets (λ _. []) ∙ sym long ∙ count)
            (λ k list e. empty_at groups.targets k list (subst (λ l. slice_get l k ≡ Some list) cut.lists e)));
      })

use Rattle.std.proofs.Common.{◌≡◌, ◌<◌, ◌++◌, List, Option, [], ℕ, length, get_or, sym, ap, subst, ◌∙◌, arith}
use Rattle.std.specs.List.{All}
use Rattle.pk_types.specs.ChunkGroups.{AreAll, IsImportTarget}
use Rattle.edge_search.specs.Reached.{IsReached, LeadWithin}
use Rattle.chunk_groups.specs.Gathered.{LeadsAt, AreGroupNumbers}
use Rattle.chunk_groups.specs.Lines.{AreLoads}
use Rattle.chunk_groups.proofs.Grouped.{imports_within, import_targets_read, imported_within, targets_within, loads_within, closures_within, no_more, are_groups}
use Rattle.chunk_groups.proofs.grouping.groups.Goals as goal

pub returns-then-len-clause-many : goal.returns-then-len-clause-many
returns-then-len-clause-many c _ =
    let graph = c.args.graph.now in
    let active = c.args.active.now in
    let fits = c.requires.fits in
    let has = c.requires.active in
    let imports = c.in_ok-imports.imports.items in
    let imported = c.in_ok-imported.imported.items in
    let all : AreAll (IsImportTarget graph active) imported =
    import_targets_read graph active fits has c.as_slice.result.now c.as_slice-2.result.now imports imported c.in_ok-imports.ensures c.as_slice.ensures c.as_slice-2.ensures.value
    c.in_ok-imported.ensures in
    let count : c.len.result ≡ length graph.entries =
    c.len.ensures ∙ c.in_ok-targets.targets.ok.0 ∙ ap length (c.in_ok-targets.ensures.items ∙ c.as_slice-3.ensures) in
    let more : c.len-2.result ≡ length imported = c.len-2.ensures ∙ c.in_ok-imported.imported.ok.0 in
    (imported, all, omega (arith, c.if-len.true, count, more))

pub group_numbers-requires-clause-within : goal.group_numbers-requires-clause-within
group_numbers-requires-clause-within c =
    let graph = c.args.graph.now in
    let active = c.args.active.now in
    let fits = c.requires.fits in
    let has = c.requires.active in
    let imports = c.in_ok-imports.imports.items in
    let imported = c.in_ok-imported.imported.items in
    let all : AreAll (IsImportTarget graph active) imported =
    import_targets_read graph active fits has c.as_slice.result.now c.as_slice-2.result.now imports imported c.in_ok-imports.ensures c.as_slice.ensures c.as_slice-2.ensures.value
    c.in_ok-imported.ensures in
    subst (λ n. All (λ t. t < n) c.as_slice-4.result.now) (sym c.len-3.ensures)
    (subst (All (λ t. t < length graph.rows)) (sym c.as_slice-4.ensures.value) (imported_within graph active fits has imported all))

pub closures-requires-clause-within : goal.closures-requires-clause-within
closures-requires-clause-within c =
    let graph = c.args.graph.now in
    let active = c.args.active.now in
    let fits = c.requires.fits in
    let has = c.requires.active in
    let imports = c.in_ok-imports.imports.items in
    let imported = c.in_ok-imported.imported.items in
    let all : AreAll (IsImportTarget graph active) imported =
    import_targets_read graph active fits has c.as_slice.result.now c.as_slice-2.result.now imports imported c.in_ok-imports.ensures c.as_slice.ensures c.as_slice-2.ensures.value
    c.in_ok-imported.ensures in
    let loads = c.in_ok-loads.loads.items in
    let loaded : AreLoads graph active.edges loads = subst (λ e. AreLoads graph e loads) c.as_slice-6.ensures c.in_ok-loads.ensures in
    subst LeadWithin (sym c.as_slice-7.ensures.value) (loads_within graph active fits has loads loaded)

pub closures-requires-clause-targets : goal.closures-requires-clause-targets
closures-requires-clause-targets c =
    let graph = c.args.graph.now in
    let active = c.args.active.now in
    let fits = c.requires.fits in
    let has = c.requires.active in
    let imports = c.in_ok-imports.imports.items in
    let imported = c.in_ok-imported.imported.items in
    let all : AreAll (IsImportTarget graph active) imported =
    import_targets_read graph active fits has c.as_slice.result.now c.as_slice-2.result.now imports imported c.in_ok-imports.ensures c.as_slice.ensures c.as_slice-2.ensures.value
    c.in_ok-imported.ensures in
    let loads = c.in_ok-loads.loads.items in
    let loaded : AreLoads graph active.edges loads = subst (λ e. AreLoads graph e loads) c.as_slice-6.ensures c.in_ok-loads.ensures in
    let extended : c.extend_from_slice.new.self.items ≡ graph.entries ++ imported =
    c.in_ok-extend_from_slice.ensures.items ∙ ap (λ l. l ++ c.as_slice-5.result.now) (c.in_ok-targets.ensures.items ∙ c.as_slice-3.ensures)
    ∙ ap (λ l. graph.entries ++ l) c.as_slice-5.ensures.value in
    subst (λ l. All (λ t. t < length l) c.as_slice-8.result.now) (sym c.as_slice-7.ensures.value)
    (subst (λ n. All (λ t. t < n) c.as_slice-8.result.now) (sym loaded.each)
    (subst (All (λ t. t < length graph.rows)) (sym (c.as_slice-8.ensures.value ∙ extended)) (targets_within graph active fits has imported all)))

pub leads-requires-clause-modules : goal.leads-requires-clause-modules
leads-requires-clause-modules c =
    let graph = c.args.graph.now in
    let active = c.args.active.now in
    let fits = c.requires.fits in
    let has = c.requires.active in
    let imports = c.in_ok-imports.imports.items in
    let imported = c.in_ok-imported.imported.items in
    let all : AreAll (IsImportTarget graph active) imported =
    import_targets_read graph active fits has c.as_slice.result.now c.as_slice-2.result.now imports imported c.in_ok-imports.ensures c.as_slice.ensures c.as_slice-2.ensures.value
    c.in_ok-imported.ensures in
    let loads = c.in_ok-loads.loads.items in
    let loaded : AreLoads graph active.edges loads = subst (λ e. AreLoads graph e loads) c.as_slice-6.ensures c.in_ok-loads.ensures in
    let extended : c.extend_from_slice.new.self.items ≡ graph.entries ++ imported =
    c.in_ok-extend_from_slice.ensures.items ∙ ap (λ l. l ++ c.as_slice-5.result.now) (c.in_ok-targets.ensures.items ∙ c.as_slice-3.ensures)
    ∙ ap (λ l. graph.entries ++ l) c.as_slice-5.ensures.value in
    let closures = c.in_ok-closures.closures.items in
    let below : All (λ modules. All (λ number. number < length graph.rows) modules) closures =
    closures_within graph active fits has loads loaded c.as_slice-8.result.now closures c.in_ok-closures.ensures.each
    (subst (All (λ t. t < length graph.rows)) (sym (c.as_slice-8.ensures.value ∙ extended)) (targets_within graph active fits has imported all))
    (subst (λ l. (group : ℕ) → group < length c.as_slice-8.result.now → AreAll (IsReached l (get_or c.as_slice-8.result.now group 0)) (get_or closures group [])) c.as_slice-7.ensures.value
    c.in_ok-closures.ensures.closures) in
    let imports_are = c.in_ok-imports.ensures in
    subst (λ l. All (λ modules. All (λ number. number < length l) modules) c.as_slice-9.result.now) (sym c.as_slice-10.ensures.value)
    (subst (λ n. All (λ modules. All (λ number. number < n) modules) c.as_slice-9.result.now) (sym imports_are.each)
    (subst (All (λ modules. All (λ number. number < length graph.rows) modules)) (sym c.as_slice-9.ensures.value) below))

pub leads-requires-clause-targets : goal.leads-requires-clause-targets
leads-requires-clause-targets c =
    let graph = c.args.graph.now in
    let active = c.args.active.now in
    let fits = c.requires.fits in
    let has = c.requires.active in
    let imports = c.in_ok-imports.imports.items in
    let imported = c.in_ok-imported.imported.items in
    let all : AreAll (IsImportTarget graph active) imported =
    import_targets_read graph active fits has c.as_slice.result.now c.as_slice-2.result.now imports imported c.in_ok-imports.ensures c.as_slice.ensures c.as_slice-2.ensures.value
    c.in_ok-imported.ensures in
    subst (λ l. All (λ targets. All (λ target. target < length l) targets) c.as_slice-10.result.now) (sym c.as_slice-11.ensures.value)
    (subst (λ n. All (λ targets. All (λ target. target < n) targets) c.as_slice-10.result.now) (sym (c.in_ok-numbers.ensures.each ∙ c.len-3.ensures))
    (subst (All (λ targets. All (λ target. target < length graph.rows) targets)) (sym c.as_slice-10.ensures.value)
    (imports_within graph active fits has imports c.in_ok-imports.ensures)))

pub returns-clause-groups : goal.returns-clause-groups
returns-clause-groups c =
    let graph = c.args.graph.now in
    let active = c.args.active.now in
    let fits = c.requires.fits in
    let has = c.requires.active in
    let imports = c.in_ok-imports.imports.items in
    let imported = c.in_ok-imported.imported.items in
    let all : AreAll (IsImportTarget graph active) imported =
    import_targets_read graph active fits has c.as_slice.result.now c.as_slice-2.result.now imports imported c.in_ok-imports.ensures c.as_slice.ensures c.as_slice-2.ensures.value
    c.in_ok-imported.ensures in
    let loads = c.in_ok-loads.loads.items in
    let loaded : AreLoads graph active.edges loads = subst (λ e. AreLoads graph e loads) c.as_slice-6.ensures c.in_ok-loads.ensures in
    let extended : c.extend_from_slice.new.self.items ≡ graph.entries ++ imported =
    c.in_ok-extend_from_slice.ensures.items ∙ ap (λ l. l ++ c.as_slice-5.result.now) (c.in_ok-targets.ensures.items ∙ c.as_slice-3.ensures)
    ∙ ap (λ l. graph.entries ++ l) c.as_slice-5.ensures.value in
    let numbers = c.in_ok-numbers.numbers.items in
    let count : c.len-entries.result ≡ length graph.entries =
    c.len-entries.ensures ∙ c.in_ok-targets.targets.ok.0 ∙ ap length (c.in_ok-targets.ensures.items ∙ c.as_slice-3.ensures) in
    let Closures : List (List ℕ) → List ℕ → List (List ℕ) → Type 0 =
    λ l t m. (group : ℕ) → group < length t → AreAll (IsReached l (get_or t group 0)) (get_or m group []) in
    let Leads : List (Option ℕ) → List (List ℕ) → List (List ℕ) → List (List ℕ) → Type 0 =
    λ n i m l. (group : ℕ) → group < length m
    → AreAll (λ next. (place : ℕ) × (place < length (get_or m group [])) × LeadsAt n i (get_or m group []) place next) (get_or l group []) in
    are_groups graph active imports loads imported numbers (record { targets = c.from_vec.result; entries = c.len-entries.result; closures = c.from_vec-2.result; leads = c.from_vec-3.result })
    fits has (record {
      the_imports = c.in_ok-imports.ensures;
      the_loads = loaded;
      the_imported = all;
      the_numbers = subst (λ e. AreGroupNumbers e imported (length imported) numbers) count
          (subst (λ l. AreGroupNumbers c.len-entries.result l (length l) numbers) c.as_slice-4.ensures.value c.in_ok-numbers.ensures.numbers);
      entries = count;
      targets = c.from_vec.ensures ∙ extended;
      each_closure = ap length c.from_vec-2.ensures ∙ c.in_ok-closures.ensures.each ∙ ap length (c.as_slice-8.ensures.value ∙ sym c.from_vec.ensures);
      each_lead = ap length c.from_vec-3.ensures ∙ c.in_ok-leads.ensures.each ∙ ap length (c.as_slice-9.ensures.value ∙ sym c.from_vec-2.ensures);
      closures = subst (λ l. Closures l c.from_vec.result c.from_vec-2.result) c.as_slice-7.ensures.value
          (subst (λ t. Closures c.as_slice-7.result.now t c.from_vec-2.result) (c.as_slice-8.ensures.value ∙ sym c.from_vec.ensures)
          (subst (Closures c.as_slice-7.result.now c.as_slice-8.result.now) (sym c.from_vec-2.ensures) c.in_ok-closures.ensures.closures));
      leads = subst (λ n. Leads n imports c.from_vec-2.result c.from_vec-3.result) c.as_slice-11.ensures.value
          (subst (λ i. Leads c.as_slice-11.result.now i c.from_vec-2.result c.from_vec-3.result) c.as_slice-10.ensures.value
          (subst (λ m. Leads c.as_slice-11.result.now c.as_slice-10.result.now m c.from_vec-3.result) (c.as_slice-9.ensures.value ∙ sym c.from_vec-2.ensures)
          (subst (Leads c.as_slice-11.result.now c.as_slice-10.result.now c.as_slice-9.result.now) (sym c.from_vec-3.ensures) c.in_ok-leads.ensures.leads)));
    })

pub returns-clause-few : goal.returns-clause-few
returns-clause-few c =
    let graph = c.args.graph.now in
    let active = c.args.active.now in
    let fits = c.requires.fits in
    let has = c.requires.active in
    let imports = c.in_ok-imports.imports.items in
    let imported = c.in_ok-imported.imported.items in
    let all : AreAll (IsImportTarget graph active) imported =
    import_targets_read graph active fits has c.as_slice.result.now c.as_slice-2.result.now imports imported c.in_ok-imports.ensures c.as_slice.ensures c.as_slice-2.ensures.value
    c.in_ok-imported.ensures in
    let count : c.len.result ≡ length graph.entries =
    c.len.ensures ∙ c.in_ok-targets.targets.ok.0 ∙ ap length (c.in_ok-targets.ensures.items ∙ c.as_slice-3.ensures) in
    let more : c.len-2.result ≡ length imported = c.len-2.ensures ∙ c.in_ok-imported.imported.ok.0 in
    no_more graph active imported 2048 all (omega (arith, c.if-len.false, count, more))

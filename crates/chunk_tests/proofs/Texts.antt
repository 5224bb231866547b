-- The texts of the files are those that are to be.
use Rattle.std.proofs.Common.{◌≡◌, ◌⊎◌, inl, inr, ℕ, zero, suc, List, [], ◌∷◌, ◌++◌, length, map, refl, sym, ap, subst, ◌∙◌, ⊎_elim, append_assoc, arith}
use Rattle.std.specs.Prelude.{codes}
use Rattle.std.specs.Fmt.{digits}
use Rattle.std.specs.List.{All, Contains}
use Rattle.std.proofs.lemmas.List.Elements.{All-nil, All-cons}
use Rattle.hex.specs.Hex.{encode_with}
use Rattle.sha2.specs.Sha256.{first_words, schedule, rounds, compress, hash_after, digest_bytes, sha256}
use Rattle.pk_types.specs.ChunkGroups.{AreAll}
use Rattle.pk_types.proofs.ListMembers.{here, there, one_of, none_in}
use Rattle.edge_search.specs.Reached.{IsReached}
use Rattle.edge_search.specs.Reached.IsReached.{itself, along}
use Rattle.emit_chunk.specs.Entry.{list_of}
use Rattle.emit_chunk.specs.Factories.{segment_text, evaluation_text}
use Rattle.emit_chunk.specs.Runtime.{runtime}
use Rattle.chunk_files.specs.Chunks.{chunk_text, hash_of, factories_text}
use Rattle.chunk_files.specs.Entries.{IsWalkedTo, IsNeeded, AreNamed, row_text, named_text, entry_text, IsEntryText}
use Rattle.chunk_files.specs.Factories.{es_factory, cjs_factory, json_factory, factory_of}
use Rattle.chunk_files.specs.Getters.{read_text, getters_line, head_text}
use Rattle.chunk_files.specs.Joined.{joined}
use Rattle.chunk_files.specs.Materials.{MaterialOf}
use Rattle.chunk_files.specs.Pens.{size_of}
use Rattle.chunk_files.proofs.Entries.{one_text}
use Rattle.chunk_tests.specs.Texts.{the_chunk, the_hash, the_entry}
use Rattle.chunk_tests.specs.Worked.{the_plan, the_material}

pub chunk_is : chunk_text the_material 0 ≡ the_chunk
unfolding digits segment_text chunk_text cjs_factory factory_of
chunk_is = refl

pub hash_is : hash_of the_chunk ≡ the_hash
unfolding first_words schedule rounds compress hash_after digest_bytes sha256 encode_with
hash_is = refl

-- ---- the groups and the chunks that the entry's file names

-- a walk from the entry's group ends in it or in the other one
walks : (group : ℕ) → IsReached the_plan.groups.leads 0 group → (group ≡ 0) ⊎ (group ≡ 1)
walks _ itself = inl refl
walks target (along zero _ walk leads) = inr (⊎_elim (λ e. sym e) (λ c. absurd (none_in target c)) (one_of 1 [] target leads))
walks target (along (suc zero) _ walk leads) = absurd (none_in target leads)
walks target (along (suc (suc number)) _ walk leads) = absurd (none_in target leads)

others_are : AreAll (IsWalkedTo the_plan 0) (1 ∷ [])
others_are = record {
  ascending = λ k h. absurd (omega (arith, h));
  each = λ group. (
    λ c. ⊎_elim (λ e. subst (IsWalkedTo the_plan 0) e (along 0 1 itself (here 1 []), λ wrong. omega (arith, wrong))) (λ none. absurd (none_in group none)) (one_of 1 [] group c),
    λ walked. ⊎_elim (λ own. absurd (walked.1 own)) (λ e. subst (Contains (1 ∷ [])) (sym e) (here 1 [])) (walks group walked.0),
  );
}

chunks_are : AreAll (IsNeeded the_plan (0 ∷ 1 ∷ [])) (0 ∷ [])
chunks_are = record {
  ascending = λ k h. absurd (omega (arith, h));
  each = λ chunk. (
    λ c. ⊎_elim (λ e. (1, there 0 (1 ∷ []) 1 (here 1 []), subst (Contains (0 ∷ [])) e (here 0 []))) (λ none. absurd (none_in chunk none)) (one_of 0 [] chunk c),
    λ needed. ⊎_elim
        (λ own. absurd (none_in chunk (subst (λ g. Contains (list_of the_plan g) chunk) (sym own) needed.2)))
        (λ rest. ⊎_elim
        (λ other. subst (λ g. Contains (list_of the_plan g) chunk) (sym other) needed.2)
        (λ none. absurd (none_in needed.0 none))
        (one_of 1 [] needed.0 rest))
        (one_of 0 (1 ∷ []) needed.0 needed.1),
  );
}

are_named : AreNamed the_plan 0 (0 ∷ 1 ∷ []) (0 ∷ [])
are_named = record { others = 1 ∷ []; groups_are = refl; walked = others_are; needed = chunks_are }

-- ---- the entry's file

pub behind : (front a b c d e f g : List ℕ) → front ++ a ++ b ++ c ++ d ++ e ++ f ++ g ≡ front ++ (a ++ b ++ c ++ d ++ e ++ f ++ g)
behind front a b c d e f g = simp append_assoc

entry_is : entry_text the_material (the_hash ∷ []) 0 (0 ∷ 1 ∷ []) (0 ∷ []) ≡ runtime ++ the_entry
unfolding digits segment_text evaluation_text read_text getters_line head_text es_factory json_factory factory_of row_text named_text entry_text
entry_is = behind runtime (codes "__webpack_start__({ g: [") (joined (codes ", ") (map (row_text the_plan) (0 ∷ 1 ∷ []))) (codes "], c: [")
    (joined (codes ", ") (map (named_text the_plan (the_hash ∷ [])) (0 ∷ []))) (codes "] }, [\n") (factories_text the_material 0) (codes "\n]);\n")

entry_written : IsEntryText the_material (the_hash ∷ []) 0 (runtime ++ the_entry)
entry_written = (0 ∷ 1 ∷ [], 0 ∷ [], are_named, sym entry_is)

-- ---- what the code gives

pub chunk_length : size_of (length the_chunk) ≡ 144
chunk_length = refl

pub entry_of : (material : MaterialOf) (hashes : List (List ℕ)) (text : List ℕ) → material ≡ the_material → hashes ≡ the_hash ∷ [] → IsEntryText material hashes 0 text
    → text ≡ runtime ++ the_entry
entry_of material hashes text same hash is =
    one_text the_material (the_hash ∷ []) 0 text (runtime ++ the_entry)
    (subst (λ m. IsEntryText m (the_hash ∷ []) 0 text) same (subst (λ l. IsEntryText material l 0 text) hash is)) entry_written

pub entry_length : (material : MaterialOf) (size : ℕ) → material ≡ the_material
    → ((hashes : List (List ℕ)) → All (λ hash. length hash ≡ 8) hashes → (text : List ℕ) × IsEntryText material hashes 0 text × (size ≡ size_of (length text)))
    → size ≡ size_of (length (runtime ++ the_entry))
entry_length material size same measured =
    let found = measured (the_hash ∷ []) (All-cons (λ hash. length hash ≡ 8) the_hash [] refl (All-nil (λ hash. length hash ≡ 8))) in
    found.2 ∙ ap (λ (text : List ℕ). size_of (length text)) (entry_of material (the_hash ∷ []) found.0 same refl found.1)

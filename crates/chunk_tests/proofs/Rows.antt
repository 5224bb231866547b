-- The definitions give these texts.
use Rattle.std.proofs.Common.{◌≡◌, [], ◌∷◌, ◌++◌, map, codes, refl}
use Rattle.std.specs.Fmt.{digits}
use Rattle.emit_chunk.specs.Factories.{segment_text, evaluation_text}
use Rattle.emit_chunk.specs.Runtime.{runtime}
use Rattle.chunk_files.specs.Chunks.{chunk_text, factories_text}
use Rattle.chunk_files.specs.Entries.{row_text, named_text, entry_text}
use Rattle.chunk_files.specs.Factories.{es_factory, cjs_factory, factory_of}
use Rattle.chunk_files.specs.Getters.{read_text, getters_line, head_text}
use Rattle.chunk_files.specs.Joined.{joined}
use Rattle.chunk_tests.specs.Rows.{empty_entry, empty_entry_text, shared_scope, shared_scope_text, later_module, later_module_text}
use Rattle.chunk_tests.proofs.Texts.{behind}

pub an_empty_entry : entry_text empty_entry [] 0 (0 ∷ []) [] ≡ runtime ++ empty_entry_text
unfolding digits segment_text cjs_factory factory_of row_text named_text entry_text
an_empty_entry = behind runtime (codes "__webpack_start__({ g: [") (joined (codes ", ") (map (row_text empty_entry.plan) (0 ∷ []))) (codes "], c: [")
    (joined (codes ", ") (map (named_text empty_entry.plan []) [])) (codes "] }, [\n") (factories_text empty_entry 0) (codes "\n]);\n")

pub a_shared_scope : factory_of shared_scope 0 ≡ shared_scope_text
unfolding digits segment_text evaluation_text read_text getters_line head_text es_factory factory_of
a_shared_scope = refl

pub a_later_module : chunk_text later_module 0 ≡ later_module_text
unfolding digits segment_text evaluation_text read_text getters_line head_text es_factory factory_of chunk_text
a_later_module = refl

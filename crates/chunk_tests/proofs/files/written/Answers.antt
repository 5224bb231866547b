use Rattle.std.proofs.Common.{◌≡◌, [], ◌∷◌, length, ap, ◌∙◌}
use Rattle.chunk_files.specs.Chunks.{chunk_text, hash_of}
use Rattle.chunk_files.specs.Pens.{size_of}
use Rattle.chunk_tests.specs.Texts.{the_chunk, the_hash}
use Rattle.chunk_tests.proofs.Texts.{chunk_is, hash_is, chunk_length, entry_of, entry_length}
use Rattle.chunk_tests.proofs.files.written.Goals as goal

pub returns : goal.returns
returns c =
    let chunk : c.in_ok-chunk.chunk ≡ the_chunk = c.in_ok-chunk.ensures ∙ ap (λ material. chunk_text material 0) c.requires ∙ chunk_is in
    let hashes : c.in_ok-hashes.hashes ≡ the_hash ∷ [] =
    c.in_ok-hashes.ensures ∙ ap (λ hash. hash ∷ []) (c.in_ok-hash8.ensures ∙ ap hash_of (c.as_slice.ensures ∙ chunk) ∙ hash_is) in
    record {
      chunk = chunk;
      entry = entry_of c.args.material.now c.in_ok-hashes.hashes c.in_ok-entry.entry c.requires hashes c.in_ok-entry.ensures;
      chunk_size = c.in_ok-chunk_size.ensures ∙ ap (λ material. size_of (length (chunk_text material 0))) c.requires
          ∙ ap (λ text. size_of (length text)) chunk_is ∙ chunk_length;
      entry_size = entry_length c.args.material.now c.in_ok-entry_size.entry_size c.requires c.in_ok-entry_size.ensures;
    }

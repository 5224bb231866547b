-- The files are those that are to be.
use Rattle.std.specs.Prelude.{◌≡◌, ◌++◌, length}
use Rattle.emit_chunk.specs.Runtime.{runtime}
use Rattle.chunk_files.specs.Pens.{size_of}
use Rattle.chunk_tests.specs.declared.files.Files.{Files}
use Rattle.chunk_tests.specs.Texts.{the_chunk, the_entry}

pub record AreWritten (files : Files) : Type 0 where
  pub chunk : files.chunk ≡ the_chunk
  pub entry : files.entry ≡ runtime ++ the_entry
  pub chunk_size : files.chunk_size ≡ 144
  pub entry_size : files.entry_size ≡ size_of (length (runtime ++ the_entry))

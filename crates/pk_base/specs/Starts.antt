-- What the objects of the outside mean when they are made.
use Rattle.std.specs.Prelude.{ℕ, List, [], ◌∷◌, None, true, false}
use Rattle.pk_base.specs.FileTree.{FileTree}
use Rattle.pk_base.specs.Meanings.{FilesMeaning, StoreMeaning, SourceMeaning, SinkMeaning}

-- files that tell the first of these trees, or the empty one, and the others as those to come
abbrev pub first_of : List FileTree → FilesMeaning
first_of [] = record { told = true; tree = λ path. None; coming = []; asks = []; faults = 0 }
first_of (tree ∷ coming) = record { told = true; tree = tree; coming = coming; asks = []; faults = 0 }

-- a store that holds nothing yet
abbrev pub empty_store : StoreMeaning
empty_store = record { told = true; files = λ name. None; calls = []; faults = 0 }

-- a source of which nothing is taken yet
abbrev pub full_source : List ℕ → SourceMeaning
full_source bytes = record { told = true; left = bytes; faults = 0 }

-- a sink that holds nothing yet
abbrev pub empty_sink : SinkMeaning
empty_sink = record { told = true; held = []; faults = 0 }

-- objects that tell nothing of what they hold
abbrev pub untold_files : FilesMeaning
untold_files = record { told = false; tree = λ path. None; coming = []; asks = []; faults = 0 }

abbrev pub untold_store : StoreMeaning
untold_store = record { told = false; files = λ name. None; calls = []; faults = 0 }

abbrev pub untold_source : SourceMeaning
untold_source = record { told = false; left = []; faults = 0 }

abbrev pub untold_sink : SinkMeaning
untold_sink = record { told = false; held = []; faults = 0 }

-- Statements: calls NAME(ARGUMENTS); and declarations import STRING;
use Rattle.std.specs.Prelude.{◌≡◌, ℕ, ◌-◌, List, [], ◌∷◌, ◌++◌, length, slice_range}
use Rattle.es_tree.specs.declared.tokens.Token.{Token}
use Rattle.bare_modules.specs.Tokens.{text_of}
use Rattle.bare_modules.specs.Parts.{part_in}
use Rattle.bare_modules.specs.declared.parts.Part.{Part}
use Rattle.bare_modules.specs.declared.parts.Part.TheVariants.{Name, ScriptName, Number, String, Open, Close, Comma, Semicolon, Import}

abbrev pub IsName : Part → Type 0
IsName Name = Unit {0}
IsName ScriptName = Unit {0}
IsName _ = ⊥

abbrev pub IsArgument : Part → Type 0
IsArgument Name = Unit {0}
IsArgument ScriptName = Unit {0}
IsArgument Number = Unit {0}
IsArgument String = Unit {0}
IsArgument _ = ⊥

-- what stands behind a first argument: commas, each with an argument behind it
pub data AreMoreArguments (text : List ℕ) : List Token → Type 0 where
  none : AreMoreArguments text []
  more : (comma argument : Token) (rest : List Token) → part_in text comma ≡ Comma → IsArgument (part_in text argument) → AreMoreArguments text rest → AreMoreArguments text (comma ∷ argument ∷ rest)

-- what stands between the parentheses of a call
pub data AreArguments (text : List ℕ) : List Token → Type 0 where
  empty : AreArguments text []
  some : (argument : Token) (rest : List Token) → IsArgument (part_in text argument) → AreMoreArguments text rest → AreArguments text (argument ∷ rest)

-- NAME(ARGUMENTS);
pub data IsCall (text : List ℕ) : List Token → Type 0 where
  call : (name opening : Token) (arguments : List Token) (closing semicolon : Token) → IsName (part_in text name) → part_in text opening ≡ Open → AreArguments text arguments
      → part_in text closing ≡ Close → part_in text semicolon ≡ Semicolon → IsCall text (name ∷ opening ∷ (arguments ++ closing ∷ semicolon ∷ []))

-- what stands between the quotes of a string
abbrev pub unquoted : List ℕ → List ℕ
unquoted word = slice_range word 1 (length word - 1)

-- the tokens are statements, one behind the other: those of the calls are kept, and the declarations ask for the requests
pub data AreStatements (text : List ℕ) : List Token → List Token → List (List ℕ) → Type 0 where
  end : AreStatements text [] [] []
  call : (tokens rest kept : List Token) (requests : List (List ℕ)) → IsCall text tokens → AreStatements text rest kept requests → AreStatements text (tokens ++ rest) (tokens ++ kept) requests
  declaration : (word string semicolon : Token) (rest kept : List Token) (requests : List (List ℕ)) → part_in text word ≡ Import → part_in text string ≡ String → part_in text semicolon ≡ Semicolon
      → AreStatements text rest kept requests → AreStatements text (word ∷ string ∷ semicolon ∷ rest) kept (unquoted (text_of text string) ∷ requests)

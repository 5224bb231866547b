-- The words that are no names.
use Rattle.std.specs.Prelude.{ℕ, Bool, List, [], ◌∷◌, ◌++◌, codes, bytes_eq}
use Rattle.std.specs.List.{list_any}
use Rattle.es_tree.specs.declared.tokens.ProgramGoal.{ProgramGoal}
use Rattle.es_tree.specs.declared.tokens.ProgramGoal.TheVariants.{Script, Module}

-- in scripts and in modules: the reserved words of ECMA-262, clause 12.7.2, `await` and `yield` among them, and `let`, which it reserves in strict code; none of the three is a name here
unfoldable pub words_of_scripts : List (List ℕ)
words_of_scripts =
    codes "await" ∷ codes "break" ∷ codes "case" ∷ codes "catch" ∷ codes "class" ∷ codes "const" ∷ codes "continue" ∷ codes "debugger" ∷ codes "default" ∷ codes "delete" ∷ codes "do"
    ∷ codes "else" ∷ codes "enum" ∷ codes "export" ∷ codes "extends" ∷ codes "false" ∷ codes "finally" ∷ codes "for" ∷ codes "function" ∷ codes "if" ∷ codes "import" ∷ codes "in" ∷ codes "instanceof"
    ∷ codes "let" ∷ codes "new" ∷ codes "null" ∷ codes "return" ∷ codes "super" ∷ codes "switch" ∷ codes "this" ∷ codes "throw" ∷ codes "true" ∷ codes "try" ∷ codes "typeof"
    ∷ codes "var" ∷ codes "void" ∷ codes "while" ∷ codes "with" ∷ codes "yield" ∷ []

-- in modules too, since their code is strict
unfoldable pub words_of_modules : List (List ℕ)
words_of_modules = codes "implements" ∷ codes "interface" ∷ codes "package" ∷ codes "private" ∷ codes "protected" ∷ codes "public" ∷ codes "static" ∷ []

abbrev pub reserved_words : ProgramGoal → List (List ℕ)
reserved_words Script = words_of_scripts
reserved_words Module = words_of_scripts ++ words_of_modules

-- whether an identifier name is no name
unfoldable pub is_reserved : List ℕ → ProgramGoal → Bool
is_reserved word goal = list_any (bytes_eq word) (reserved_words goal)

-- What the head of a scope's factory lists: what is declared in it, what other scopes read of it, and its namespace.
use Rattle.std.specs.Prelude.{ℕ, List, [], ◌∷◌, ◌++◌, Option, Some, None, map, codes}
use Rattle.pk_types.specs.declared.facts.BindKind.{BindKind}
use Rattle.pk_types.specs.declared.facts.BindKind.TheVariants.{Var, Let, Const, Class, Function}
use Rattle.emit_body.specs.declared.getters.Getter.{Getter}
use Rattle.emit_body.specs.declared.getters.Variable.{Variable}
use Rattle.emit_body.specs.declared.getters.ScopeGetters.{ScopeGetters}
use Rattle.chunk_files.specs.Joined.{each_behind, joined}

abbrev pub word_of : BindKind → List ℕ
word_of Var = codes "var"
word_of Let = codes "let"
word_of Const = codes "const"
word_of Class = codes "class"
word_of Function = codes "function"

abbrev pub variable_text : Variable → List ℕ
variable_text variable = word_of variable.kind ++ codes " " ++ variable.name

-- a name, and a function that reads what it stands for each time
unfoldable pub read_text : List ℕ → List ℕ → List ℕ
read_text name spelling = codes "\"" ++ name ++ codes "\", () => " ++ spelling

-- a name that other scopes read is read by itself
abbrev pub cell_text : List ℕ → List ℕ
cell_text name = read_text name name

abbrev pub getter_text : Getter → List ℕ
getter_text getter = read_text getter.name getter.spelling

-- a line that hands the runtime the getters of a scope, by a method of one letter
unfoldable pub getters_line : List ℕ → List ℕ → List (List ℕ) → List ℕ
getters_line method id texts = codes "__webpack_r." ++ method ++ codes "(" ++ id ++ codes ", [" ++ joined (codes ", ") texts ++ codes "]);\n"

-- no line where nothing is read
abbrev pub cells_line : List ℕ → List (List ℕ) → List ℕ
cells_line id [] = []
cells_line id (name ∷ names) = getters_line (codes "c") id (map cell_text (name ∷ names))

-- no line where the namespace is not asked for
abbrev pub space_line : List ℕ → Option (List Getter) → List ℕ
space_line id None = []
space_line id (Some getters) = getters_line (codes "n") id (map getter_text getters)

-- the lines before `yield`
unfoldable pub head_text : List ℕ → ScopeGetters → List ℕ
head_text id scope =
    codes "/*v" ++ each_behind (codes " ") (map variable_text scope.variables) ++ codes "*/\n" ++ cells_line id scope.cells ++ space_line id scope.space

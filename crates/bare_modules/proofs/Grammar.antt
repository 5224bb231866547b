-- Tokens that are read from between two statements to between two statements are statements.
use Rattle.std.proofs.Common.{◌≡◌, ℕ, Bool, true, false, List, [], ◌∷◌, ◌++◌, refl, sym, ap, subst, ◌∙◌, append_assoc}
use Rattle.std.specs.Option.{option_map_or}
use Rattle.es_tree.specs.declared.tokens.Token.{Token}
use Rattle.bare_modules.specs.Tokens.{text_of}
use Rattle.bare_modules.specs.Parts.{part_in}
use Rattle.bare_modules.specs.Statements.{IsName, IsArgument, AreArguments, AreMoreArguments, AreStatements, unquoted}
use Rattle.bare_modules.specs.Statements.AreArguments.{empty, some}
use Rattle.bare_modules.specs.Statements.AreMoreArguments.{none, more}
use Rattle.bare_modules.specs.Statements.IsCall.{call as one_call}
use Rattle.bare_modules.specs.Statements.AreStatements.{end, call, declaration}
use Rattle.bare_modules.specs.Scanning.{step_of}
use Rattle.bare_modules.specs.declared.parts.Part.{Part}
use Rattle.bare_modules.specs.declared.parts.Part.TheVariants as part
use Rattle.bare_modules.specs.declared.steps.Place.{Place}
use Rattle.bare_modules.specs.declared.steps.Place.TheVariants.{Between, BehindName, BehindOpen, BehindArgument, BehindComma, BehindClose, BehindImport, BehindRequest}

abbrev pub is_between : Place → Bool
is_between Between = true
is_between _ = false

-- from this place the tokens go on to between two statements
abbrev pub accepts : List ℕ → Place → List Token → Bool
accepts text place [] = is_between place
accepts text place (token ∷ tokens) = option_map_or (λ s. accepts text s.1 tokens) (step_of place (part_in text token)) false

-- ---- what the tokens behind each place are

pub record HasStatements (text : List ℕ) (tokens : List Token) : Type 0 where
  pub kept : List Token
  pub requests : List (List ℕ)
  pub are : AreStatements text tokens kept requests

-- `;` and statements
record HasClosed (text : List ℕ) (tokens : List Token) : Type 0 where
  semicolon : Token
  rest : List Token
  is : tokens ≡ semicolon ∷ rest
  is_semicolon : part_in text semicolon ≡ part.Semicolon
  statements : HasStatements text rest

-- more arguments, `)`, and what is closed
record HasMore (text : List ℕ) (tokens : List Token) : Type 0 where
  arguments : List Token
  closing : Token
  rest : List Token
  is : tokens ≡ arguments ++ closing ∷ rest
  are : AreMoreArguments text arguments
  is_closing : part_in text closing ≡ part.Close
  closed : HasClosed text rest

-- arguments, `)`, and what is closed
record HasArguments (text : List ℕ) (tokens : List Token) : Type 0 where
  arguments : List Token
  closing : Token
  rest : List Token
  is : tokens ≡ arguments ++ closing ∷ rest
  are : AreArguments text arguments
  is_closing : part_in text closing ≡ part.Close
  closed : HasClosed text rest

-- an argument, and more
record HasArgument (text : List ℕ) (tokens : List Token) : Type 0 where
  argument : Token
  rest : List Token
  is : tokens ≡ argument ∷ rest
  is_argument : IsArgument (part_in text argument)
  more_arguments : HasMore text rest

-- `(`, and arguments
record HasOpening (text : List ℕ) (tokens : List Token) : Type 0 where
  opening : Token
  rest : List Token
  is : tokens ≡ opening ∷ rest
  is_opening : part_in text opening ≡ part.Open
  arguments : HasArguments text rest

-- a string, and what is closed
record HasRequest (text : List ℕ) (tokens : List Token) : Type 0 where
  string : Token
  rest : List Token
  is : tokens ≡ string ∷ rest
  is_string : part_in text string ≡ part.String
  closed : HasClosed text rest

abbrev Completes : List ℕ → Place → List Token → Type 0
Completes text Between tokens = HasStatements text tokens
Completes text BehindName tokens = HasOpening text tokens
Completes text BehindOpen tokens = HasArguments text tokens
Completes text BehindArgument tokens = HasMore text tokens
Completes text BehindComma tokens = HasArgument text tokens
Completes text BehindClose tokens = HasClosed text tokens
Completes text BehindImport tokens = HasRequest text tokens
Completes text BehindRequest tokens = HasClosed text tokens

-- ---- one token more in front

with_call : (text : List ℕ) (name : Token) (tokens : List Token) → IsName (part_in text name) → HasOpening text tokens → HasStatements text (name ∷ tokens)
with_call text name tokens is_name opened =
    let inner = opened.arguments in
    let closed = inner.closed in
    let statements = closed.statements in
    let whole = one_call name opened.opening inner.arguments inner.closing closed.semicolon is_name opened.is_opening inner.are inner.is_closing closed.is_semicolon in
    let within : (inner.arguments ++ inner.closing ∷ closed.semicolon ∷ []) ++ closed.rest ≡ opened.rest =
    append_assoc inner.arguments (inner.closing ∷ closed.semicolon ∷ []) closed.rest ∙ ap (λ l. inner.arguments ++ inner.closing ∷ l) (sym closed.is) ∙ sym inner.is in
    let e = ap (λ l. name ∷ opened.opening ∷ l) within ∙ ap (λ l. name ∷ l) (sym opened.is) in
    let tokens_of : List Token = name ∷ opened.opening ∷ (inner.arguments ++ inner.closing ∷ closed.semicolon ∷ []) in
    subst (λ l. HasStatements text l) e (record {
      kept = tokens_of ++ statements.kept;
      requests = statements.requests;
      are = call tokens_of closed.rest statements.kept statements.requests whole statements.are;
    })

with_declaration : (text : List ℕ) (word : Token) (tokens : List Token) → part_in text word ≡ part.Import → HasRequest text tokens → HasStatements text (word ∷ tokens)
with_declaration text word tokens is_word asked =
    let closed = asked.closed in
    let statements = closed.statements in
    let e = ap (λ l. word ∷ asked.string ∷ l) (sym closed.is) ∙ ap (λ l. word ∷ l) (sym asked.is) in
    subst (λ l. HasStatements text l) e (record {
      kept = statements.kept;
      requests = unquoted (text_of text asked.string) ∷ statements.requests;
      are = declaration word asked.string closed.semicolon closed.rest statements.kept statements.requests is_word asked.is_string closed.is_semicolon statements.are;
    })

with_closing : (text : List ℕ) (closing : Token) (tokens : List Token) → part_in text closing ≡ part.Close → HasClosed text tokens → HasMore text (closing ∷ tokens)
with_closing text closing tokens is_closing closed = record { arguments = []; closing = closing; rest = tokens; is = refl; are = none; is_closing = is_closing; closed = closed }

with_no_arguments : (text : List ℕ) (closing : Token) (tokens : List Token) → part_in text closing ≡ part.Close → HasClosed text tokens → HasArguments text (closing ∷ tokens)
with_no_arguments text closing tokens is_closing closed = record { arguments = []; closing = closing; rest = tokens; is = refl; are = empty; is_closing = is_closing; closed = closed }

with_first : (text : List ℕ) (argument : Token) (tokens : List Token) → IsArgument (part_in text argument) → HasMore text tokens → HasArguments text (argument ∷ tokens)
with_first text argument tokens is_argument others = record {
  arguments = argument ∷ others.arguments;
  closing = others.closing;
  rest = others.rest;
  is = ap (λ l. argument ∷ l) others.is;
  are = some argument others.arguments is_argument others.are;
  is_closing = others.is_closing;
  closed = others.closed;
}

with_comma : (text : List ℕ) (comma : Token) (tokens : List Token) → part_in text comma ≡ part.Comma → HasArgument text tokens → HasMore text (comma ∷ tokens)
with_comma text comma tokens is_comma next =
    let others = next.more_arguments in
    record {
      arguments = comma ∷ next.argument ∷ others.arguments;
      closing = others.closing;
      rest = others.rest;
      is = ap (λ l. comma ∷ l) next.is ∙ ap (λ l. comma ∷ next.argument ∷ l) others.is;
      are = more comma next.argument others.arguments is_comma next.is_argument others.are;
      is_closing = others.is_closing;
      closed = others.closed;
    }

with_argument : (text : List ℕ) (argument : Token) (tokens : List Token) → IsArgument (part_in text argument) → HasMore text tokens → HasArgument text (argument ∷ tokens)
with_argument text argument tokens is_argument others = record { argument = argument; rest = tokens; is = refl; is_argument = is_argument; more_arguments = others }

with_opening : (text : List ℕ) (opening : Token) (tokens : List Token) → part_in text opening ≡ part.Open → HasArguments text tokens → HasOpening text (opening ∷ tokens)
with_opening text opening tokens is_opening inner = record { opening = opening; rest = tokens; is = refl; is_opening = is_opening; arguments = inner }

with_string : (text : List ℕ) (string : Token) (tokens : List Token) → part_in text string ≡ part.String → HasClosed text tokens → HasRequest text (string ∷ tokens)
with_string text string tokens is_string closed = record { string = string; rest = tokens; is = refl; is_string = is_string; closed = closed }

with_semicolon : (text : List ℕ) (semicolon : Token) (tokens : List Token) → part_in text semicolon ≡ part.Semicolon → HasStatements text tokens → HasClosed text (semicolon ∷ tokens)
with_semicolon text semicolon tokens is_semicolon statements = record { semicolon = semicolon; rest = tokens; is = refl; is_semicolon = is_semicolon; statements = statements }

named : (text : List ℕ) (token : Token) (p : Part) → part_in text token ≡ p → IsName p → IsName (part_in text token)
named text token p e h = subst IsName (sym e) h

argued : (text : List ℕ) (token : Token) (p : Part) → part_in text token ≡ p → IsArgument p → IsArgument (part_in text token)
argued text token p e h = subst IsArgument (sym e) h

one_more : (text : List ℕ) (place : Place) (p : Part) (token : Token) (tokens : List Token) → part_in text token ≡ p → ((next : Place) → accepts text next tokens ≡ true → Completes text next tokens)
    → option_map_or (λ s. accepts text s.1 tokens) (step_of place p) false ≡ true → Completes text place (token ∷ tokens)
one_more text Between part.Name token tokens is rest e = with_call text token tokens (named text token part.Name is tt) (rest BehindName e)
one_more text Between part.ScriptName token tokens is rest e = with_call text token tokens (named text token part.ScriptName is tt) (rest BehindName e)
one_more text Between part.Import token tokens is rest e = with_declaration text token tokens is (rest BehindImport e)
one_more text BehindName part.Open token tokens is rest e = with_opening text token tokens is (rest BehindOpen e)
one_more text BehindOpen part.Name token tokens is rest e = with_first text token tokens (argued text token part.Name is tt) (rest BehindArgument e)
one_more text BehindOpen part.ScriptName token tokens is rest e = with_first text token tokens (argued text token part.ScriptName is tt) (rest BehindArgument e)
one_more text BehindOpen part.Number token tokens is rest e = with_first text token tokens (argued text token part.Number is tt) (rest BehindArgument e)
one_more text BehindOpen part.String token tokens is rest e = with_first text token tokens (argued text token part.String is tt) (rest BehindArgument e)
one_more text BehindOpen part.Close token tokens is rest e = with_no_arguments text token tokens is (rest BehindClose e)
one_more text BehindArgument part.Comma token tokens is rest e = with_comma text token tokens is (rest BehindComma e)
one_more text BehindArgument part.Close token tokens is rest e = with_closing text token tokens is (rest BehindClose e)
one_more text BehindComma part.Name token tokens is rest e = with_argument text token tokens (argued text token part.Name is tt) (rest BehindArgument e)
one_more text BehindComma part.ScriptName token tokens is rest e = with_argument text token tokens (argued text token part.ScriptName is tt) (rest BehindArgument e)
one_more text BehindComma part.Number token tokens is rest e = with_argument text token tokens (argued text token part.Number is tt) (rest BehindArgument e)
one_more text BehindComma part.String token tokens is rest e = with_argument text token tokens (argued text token part.String is tt) (rest BehindArgument e)
one_more text BehindClose part.Semicolon token tokens is rest e = with_semicolon text token tokens is (rest Between e)
one_more text BehindImport part.String token tokens is rest e = with_string text token tokens is (rest BehindRequest e)
one_more text BehindRequest part.Semicolon token tokens is rest e = with_semicolon text token tokens is (rest Between e)
one_more text place p token tokens is rest e = absurd cc

completes : (text : List ℕ) (place : Place) (tokens : List Token) → accepts text place tokens ≡ true → Completes text place tokens
completes text Between [] e = record { kept = []; requests = []; are = end }
completes text place (token ∷ tokens) e = one_more text place (part_in text token) token tokens refl (λ next. completes text next tokens) e
completes text place [] e = absurd cc

pub completed : (text : List ℕ) (tokens : List Token) → accepts text Between tokens ≡ true → HasStatements text tokens
completed text tokens e = completes text Between tokens e

-- What reading makes of tokens that are statements.
use Rattle.std.proofs.Common.{◌≡◌, ℕ, true, false, List, [], ◌∷◌, ◌++◌, Option, None, Some, refl, sym, ap, ◌∙◌, append_assoc}
use Rattle.std.specs.List.{fold}
use Rattle.std.specs.Option.{option_map_or}
use Rattle.std.specs.Str.{bytes_eq}
use Rattle.std.proofs.lemmas.List.Sums.{fold-append}
use Rattle.indexmap.specs.IndexSet.{insert_all}
use Rattle.es_tree.specs.declared.tokens.Token.{Token}
use Rattle.bare_modules.specs.Tokens.{text_of}
use Rattle.bare_modules.specs.Parts.{part_in}
use Rattle.bare_modules.specs.Statements.{IsName, IsArgument, AreArguments, AreMoreArguments, IsCall, AreStatements, unquoted}
use Rattle.bare_modules.specs.Statements.AreArguments.{empty, some}
use Rattle.bare_modules.specs.Statements.AreMoreArguments.{none, more}
use Rattle.bare_modules.specs.Statements.IsCall.{call as one_call}
use Rattle.bare_modules.specs.Statements.AreStatements.{end, call, declaration}
use Rattle.bare_modules.specs.Scanning.{Drafted, step_of, put, ask, done, finished}
use Rattle.bare_modules.specs.declared.parts.Part.{Part}
use Rattle.bare_modules.specs.declared.parts.Part.TheVariants as part
use Rattle.bare_modules.specs.declared.read.ModuleText.{ModuleText}
use Rattle.bare_modules.specs.declared.steps.Deed.{Deed}
use Rattle.bare_modules.specs.declared.steps.Deed.TheVariants.{Keep, Ask, Drop}
use Rattle.bare_modules.specs.declared.steps.Place.{Place}
use Rattle.bare_modules.specs.declared.steps.Place.TheVariants.{Between, BehindName, BehindOpen, BehindArgument, BehindComma, BehindClose, BehindImport, BehindRequest}
use Rattle.bare_modules.proofs.Grammar.{accepts, is_between}

-- what the text says, once it ends at this place
abbrev pub ended : Place → Drafted → Option ModuleText
ended Between draft = finished draft
ended _ draft = None

-- what it says, once these tokens are read too
abbrev pub read_on : List ℕ → Place → Drafted → List Token → Option ModuleText
read_on text place draft [] = ended place draft
read_on text place draft (token ∷ tokens) = option_map_or (λ s. read_on text s.1 (done text s.0 draft (part_in text token) token) tokens) (step_of place (part_in text token)) None

-- with these tokens behind the body
abbrev pub puts : List ℕ → Drafted → List Token → Drafted
puts text draft tokens = fold (λ d token. put text d (part_in text token) token) draft tokens

-- with these requests
abbrev pub asks : Drafted → List (List ℕ) → Drafted
asks draft requests = record draft { requests = insert_all bytes_eq draft.requests requests }

-- ---- what is read to an end is accepted

ended_between : (place : Place) (draft : Drafted) (m : ModuleText) → ended place draft ≡ Some m → is_between place ≡ true
ended_between Between draft m e = refl
ended_between place draft m e = absurd cc

pub accepted : (text : List ℕ) (place : Place) (draft : Drafted) (tokens : List Token) (m : ModuleText) → read_on text place draft tokens ≡ Some m → accepts text place tokens ≡ true
accepted text place draft [] m e = ended_between place draft m e
accepted text place draft (token ∷ tokens) m e = by (λ next d. accepted text next d tokens m) (step_of place (part_in text token)) e
  where
    by : ((next : Place) (d : Drafted) → read_on text next d tokens ≡ Some m → accepts text next tokens ≡ true) → (o : Option (Deed × Place))
        → option_map_or (λ s. read_on text s.1 (done text s.0 draft (part_in text token) token) tokens) o None ≡ Some m → option_map_or (λ s. accepts text s.1 tokens) o false ≡ true
    by rest None f = absurd cc
    by rest (Some s) f = rest s.1 (done text s.0 draft (part_in text token) token) f

-- ---- what statements make

pub one_token : (text : List ℕ) (place next : Place) (deed : Deed) (draft : Drafted) (token : Token) (tokens : List Token) → step_of place (part_in text token) ≡ Some (deed, next)
    → read_on text place draft (token ∷ tokens) ≡ read_on text next (done text deed draft (part_in text token) token) tokens
one_token text place next deed draft token tokens e = ap (λ o. option_map_or (λ s. read_on text s.1 (done text s.0 draft (part_in text token) token) tokens) o None) e

name_first : (p : Part) → IsName p → step_of Between p ≡ Some (Keep, BehindName)
name_first part.Name h = refl
name_first part.ScriptName h = refl
name_first p h = absurd h

argument_first : (p : Part) → IsArgument p → step_of BehindOpen p ≡ Some (Keep, BehindArgument)
argument_first part.Name h = refl
argument_first part.ScriptName h = refl
argument_first part.Number h = refl
argument_first part.String h = refl
argument_first p h = absurd h

argument_next : (p : Part) → IsArgument p → step_of BehindComma p ≡ Some (Keep, BehindArgument)
argument_next part.Name h = refl
argument_next part.ScriptName h = refl
argument_next part.Number h = refl
argument_next part.String h = refl
argument_next p h = absurd h

over_more : (text : List ℕ) (tokens tail : List Token) (draft : Drafted) → AreMoreArguments text tokens → read_on text BehindArgument draft (tokens ++ tail) ≡ read_on text BehindArgument (puts text draft tokens) tail
over_more text _ tail draft none = refl
over_more text _ tail draft (more comma argument rest is_comma is_argument are) =
    one_token text BehindArgument BehindComma Keep draft comma (argument ∷ (rest ++ tail)) (ap (λ p. step_of BehindArgument p) is_comma)
    ∙ one_token text BehindComma BehindArgument Keep (puts text draft (comma ∷ [])) argument (rest ++ tail) (argument_next (part_in text argument) is_argument)
    ∙ over_more text rest tail (puts text draft (comma ∷ argument ∷ [])) are

over_arguments : (text : List ℕ) (tokens tail : List Token) (closing : Token) (draft : Drafted) → AreArguments text tokens → part_in text closing ≡ part.Close
    → read_on text BehindOpen draft (tokens ++ closing ∷ tail) ≡ read_on text BehindClose (puts text draft (tokens ++ closing ∷ [])) tail
over_arguments text _ tail closing draft empty is_closing = one_token text BehindOpen BehindClose Keep draft closing tail (ap (λ p. step_of BehindOpen p) is_closing)
over_arguments text _ tail closing draft (some argument rest is_argument are) is_closing =
    one_token text BehindOpen BehindArgument Keep draft argument (rest ++ closing ∷ tail) (argument_first (part_in text argument) is_argument)
    ∙ over_more text rest (closing ∷ tail) (puts text draft (argument ∷ [])) are
    ∙ one_token text BehindArgument BehindClose Keep (puts text draft (argument ∷ rest)) closing tail (ap (λ p. step_of BehindArgument p) is_closing)
    ∙ ap (λ d. read_on text BehindClose d tail) (sym (fold-append (λ d token. put text d (part_in text token) token) draft (argument ∷ rest) (closing ∷ [])))

over_call : (text : List ℕ) (tokens tail : List Token) (draft : Drafted) → IsCall text tokens → read_on text Between draft (tokens ++ tail) ≡ read_on text Between (puts text draft tokens) tail
over_call text _ tail draft (one_call name opening arguments closing semicolon is_name is_opening are is_closing is_semicolon) =
    ap (λ l. read_on text Between draft (name ∷ opening ∷ l)) (append_assoc arguments (closing ∷ semicolon ∷ []) tail)
    ∙ one_token text Between BehindName Keep draft name (opening ∷ (arguments ++ closing ∷ semicolon ∷ tail)) (name_first (part_in text name) is_name)
    ∙ one_token text BehindName BehindOpen Keep (puts text draft (name ∷ [])) opening (arguments ++ closing ∷ semicolon ∷ tail) (ap (λ p. step_of BehindName p) is_opening)
    ∙ over_arguments text arguments (semicolon ∷ tail) closing (puts text draft (name ∷ opening ∷ [])) are is_closing
    ∙ one_token text BehindClose Between Keep (puts text draft (name ∷ opening ∷ (arguments ++ closing ∷ []))) semicolon tail (ap (λ p. step_of BehindClose p) is_semicolon)
    ∙ ap (λ d. read_on text Between d tail) (sym (fold-append (λ d token. put text d (part_in text token) token) draft (name ∷ opening ∷ (arguments ++ closing ∷ [])) (semicolon ∷ []))
    ∙ ap (λ l. puts text draft (name ∷ opening ∷ l)) (append_assoc arguments (closing ∷ []) (semicolon ∷ [])))

-- a request can be asked for before or behind
ask_first : (text : List ℕ) (tokens : List Token) (draft : Drafted) (request : List ℕ) → puts text (ask draft request) tokens ≡ ask (puts text draft tokens) request
ask_first text [] draft request = refl
ask_first text (token ∷ tokens) draft request = ask_first text tokens (put text draft (part_in text token) token) request

pub over_statements : (text : List ℕ) (tokens kept : List Token) (requests : List (List ℕ)) (draft : Drafted) → AreStatements text tokens kept requests → read_on text Between draft tokens ≡ finished (asks (puts text draft kept) requests)
over_statements text _ _ _ draft end = refl
over_statements text _ _ _ draft (call tokens rest kept requests is are) =
    over_call text tokens rest draft is
    ∙ over_statements text rest kept requests (puts text draft tokens) are
    ∙ ap (λ d. finished (asks d requests)) (sym (fold-append (λ d token. put text d (part_in text token) token) draft tokens kept))
over_statements text _ _ _ draft (declaration word string semicolon rest kept requests is_word is_string is_semicolon are) =
    one_token text Between BehindImport Drop draft word (string ∷ semicolon ∷ rest) (ap (λ p. step_of Between p) is_word)
    ∙ one_token text BehindImport BehindRequest Ask draft string (semicolon ∷ rest) (ap (λ p. step_of BehindImport p) is_string)
    ∙ one_token text BehindRequest Between Drop (ask draft (unquoted (text_of text string))) semicolon rest (ap (λ p. step_of BehindRequest p) is_semicolon)
    ∙ over_statements text rest kept requests (ask draft (unquoted (text_of text string))) are
    ∙ ap (λ d. finished (asks d requests)) (ask_first text kept draft (unquoted (text_of text string)))

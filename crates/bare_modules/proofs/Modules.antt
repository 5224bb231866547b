-- The module of a text is what reading its tokens comes to.
use Rattle.std.proofs.Common.{◌≡◌, ℕ, List, [], ◌∷◌, Option, None, Some, refl, sym, ap, subst, ◌∙◌}
use Rattle.es_tree.specs.declared.tokens.Token.{Token}
use Rattle.bare_modules.specs.Tokens.{StandsBehind, HasTokens}
use Rattle.bare_modules.specs.Statements.{AreStatements}
use Rattle.bare_modules.specs.Body.{body_of}
use Rattle.bare_modules.specs.Meaning.{IsModuleText, ReadsModule, has_script_name, each_once, kind_of}
use Rattle.bare_modules.specs.Scanning.{empty_draft}
use Rattle.bare_modules.specs.declared.read.ModuleText.{ModuleText}
use Rattle.bare_modules.specs.declared.steps.Place.TheVariants.{Between}
use Rattle.bare_modules.proofs.Bodies.{answer, answered, is_answer, finished_is, same_kind}
use Rattle.bare_modules.proofs.Grammar.{completed}
use Rattle.bare_modules.proofs.Scans.{read_on, accepted, over_statements}

read_as : (text : List ℕ) (tokens kept : List Token) (requests : List (List ℕ)) → AreStatements text tokens kept requests
    → read_on text Between empty_draft tokens ≡ answer (body_of text kept) (has_script_name text kept) (each_once requests)
read_as text tokens kept requests are = over_statements text tokens kept requests empty_draft are ∙ finished_is text kept requests

-- a module whose fields are these
same_module : (m n : ModuleText) → m.kind ≡ n.kind → m.requests ≡ n.requests → m.body ≡ n.body → m ≡ n
same_module m n kind requests body =
    let a : m ≡ record m { kind = n.kind } = ap (λ k. record m { kind = k }) kind in
    let b : record m { kind = n.kind } ≡ record m { kind = n.kind; requests = n.requests } = ap (λ r. record m { kind = n.kind; requests = r }) requests in
    a ∙ b ∙ ap (λ t. record n { body = t }) body

pub to_reading : (text : List ℕ) (m : ModuleText) (h : IsModuleText text m) → read_on text Between empty_draft h.tokens ≡ Some m
to_reading text m h =
    let kind : m.kind ≡ kind_of (each_once h.requests) = h.kind ∙ sym (same_kind h.requests) in
    read_as text h.tokens h.kept h.requests h.statements
    ∙ answered (body_of text h.kept) (has_script_name text h.kept) (each_once h.requests) (λ is. h.strict (kind ∙ is))
    ∙ ap Some (same_module (record { kind = kind_of (each_once h.requests); requests = each_once h.requests; body = body_of text h.kept }) m (sym kind) (sym h.asked) (sym h.joined))

pub from_reading : (text : List ℕ) (tokens : List Token) (m : ModuleText) → HasTokens text 0 tokens → read_on text Between empty_draft tokens ≡ Some m → IsModuleText text m
from_reading text tokens m read e =
    let found = completed text tokens (accepted text Between empty_draft tokens m e) in
    let says = is_answer (body_of text found.kept) (has_script_name text found.kept) (each_once found.requests) m (sym (read_as text tokens found.kept found.requests found.are) ∙ e) in
    record {
      tokens = tokens;
      kept = found.kept;
      requests = found.requests;
      read = read;
      statements = found.are;
      kind = says.kind ∙ same_kind found.requests;
      strict = says.strict;
      asked = says.asked;
      joined = says.joined;
    }

-- ---- a text is that of one module alone

pub same_token : (text : List ℕ) (at : ℕ) (token other : Token) → StandsBehind text at token → StandsBehind text at other → token ≡ other
same_token text at token other a b = let f = a.read in let g = b.read in cc

same_tokens : (text : List ℕ) (at : ℕ) (tokens others : List Token) → HasTokens text at tokens → HasTokens text at others → tokens ≡ others
same_tokens text at [] [] a b = refl
same_tokens text at [] (other ∷ others) a b = absurd (b.1 (ap (λ t. t.kind) (same_token text at other a.0 b.0 a.1) ∙ a.2))
same_tokens text at (token ∷ tokens) [] a b = absurd (a.1 (ap (λ t. t.kind) (same_token text at token b.0 a.0 b.1) ∙ b.2))
same_tokens text at (token ∷ tokens) (other ∷ others) a b =
    let same = same_token text at token other a.0 b.0 in
    let rest : HasTokens text other.end tokens = subst (λ t. HasTokens text t.end tokens) same a.2 in
    ap (λ t. t ∷ tokens) same ∙ ap (λ l. other ∷ l) (same_tokens text other.end tokens others rest b.2)

pub functional : (text : List ℕ) (m n : ModuleText) → IsModuleText text m → IsModuleText text n → m ≡ n
functional text m n a b =
    let same = same_tokens text 0 a.tokens b.tokens a.read b.read in
    let both : Some m ≡ Some n = sym (to_reading text m a) ∙ ap (λ l. read_on text Between empty_draft l) same ∙ to_reading text n b in
    cc

-- so there is one answer
pub one_answer : (text : List ℕ) (a b : Option ModuleText) → ReadsModule text a → ReadsModule text b → a ≡ b
one_answer text None None h k = refl
one_answer text None (Some n) h k = absurd (h n k)
one_answer text (Some m) None h k = absurd (k m h)
one_answer text (Some m) (Some n) h k = ap Some (functional text m n h k)

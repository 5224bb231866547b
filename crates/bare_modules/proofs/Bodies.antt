-- What is drafted once tokens and requests are taken up.
use Rattle.std.proofs.Common.{◌≡◌, ℕ, Bool, true, false, ◌||◌, List, [], ◌∷◌, ◌++◌, Option, None, Some, refl, sym, ap, ◌∙◌, append_assoc}
use Rattle.std.specs.Prelude.{◌&&◌, if◌then◌else◌}
use Rattle.std.specs.List.{list_any}
use Rattle.std.specs.Option.{option_map_or}
use Rattle.std.specs.Str.{bytes_eq}
use Rattle.std.proofs.Math.Bool.{or_assoc, or-false}
use Rattle.std.proofs.lemmas.List.{append-nil}
use Rattle.indexmap.specs.IndexSet.{insert_all}
use Rattle.es_tree.specs.declared.tokens.Token.{Token}
use Rattle.pk_types.specs.declared.facts.Kind.{Kind}
use Rattle.pk_types.specs.declared.facts.Kind.TheVariants.{Es, Cjs, Json}
use Rattle.bare_modules.specs.Tokens.{text_of}
use Rattle.bare_modules.specs.Parts.{part_in, is_script_name}
use Rattle.bare_modules.specs.Body.{tokens_behind, body_of}
use Rattle.bare_modules.specs.Meaning.{has_script_name, each_once, kind_of}
use Rattle.bare_modules.specs.Scanning.{Drafted, empty_draft, put, put_before, finished, is_es}
use Rattle.bare_modules.specs.declared.read.ModuleText.{ModuleText}
use Rattle.bare_modules.proofs.Scans.{puts, asks}

-- what tokens add to a body whose last token ended there
abbrev added : List ℕ → Option ℕ → List Token → List ℕ
added text None tokens = body_of text tokens
added text (Some end) tokens = tokens_behind text end tokens

added_none : (text : List ℕ) (end : Option ℕ) → added text end [] ≡ []
added_none text None = refl
added_none text (Some end) = refl

added_first : (text : List ℕ) (end : Option ℕ) (token : Token) (tokens : List Token) → added text end (token ∷ tokens) ≡ put_before text end token ++ text_of text token ++ tokens_behind text token.end tokens
added_first text None token tokens = refl
added_first text (Some end) token tokens = refl

regroup : (a b c d : List ℕ) → (a ++ b ++ c) ++ d ≡ a ++ (b ++ c ++ d)
regroup a b c d = simp append_assoc

puts_body : (text : List ℕ) (tokens : List Token) (draft : Drafted) → (puts text draft tokens).body ≡ draft.body ++ added text draft.end tokens
puts_body text [] draft = sym (append-nil draft.body) ∙ ap (λ l. draft.body ++ l) (sym (added_none text draft.end))
puts_body text (token ∷ tokens) draft =
    puts_body text tokens (put text draft (part_in text token) token)
    ∙ regroup draft.body (put_before text draft.end token) (text_of text token) (tokens_behind text token.end tokens)
    ∙ ap (λ l. draft.body ++ l) (sym (added_first text draft.end token tokens))

puts_names : (text : List ℕ) (tokens : List Token) (draft : Drafted) → (puts text draft tokens).has_script_name ≡ (draft.has_script_name || has_script_name text tokens)
puts_names text [] draft = sym (or-false draft.has_script_name)
puts_names text (token ∷ tokens) draft =
    puts_names text tokens (put text draft (part_in text token) token) ∙ or_assoc draft.has_script_name (is_script_name (part_in text token)) (has_script_name text tokens)

puts_requests : (text : List ℕ) (tokens : List Token) (draft : Drafted) → (puts text draft tokens).requests ≡ draft.requests
puts_requests text [] draft = refl
puts_requests text (token ∷ tokens) draft = puts_requests text tokens (put text draft (part_in text token) token)

-- what a text says by its body, whether it has a name of scripts alone, and its requests
abbrev pub answer : List ℕ → Bool → List (List ℕ) → Option ModuleText
answer body has_name requests = if has_name && is_es (kind_of requests) then None else Some (record { kind = kind_of requests; requests = requests; body = body })

pub finished_is : (text : List ℕ) (kept : List Token) (requests : List (List ℕ)) → finished (asks (puts text empty_draft kept) requests) ≡ answer (body_of text kept) (has_script_name text kept) (each_once requests)
finished_is text kept requests =
    ap (λ body. answer body (puts text empty_draft kept).has_script_name (insert_all bytes_eq (puts text empty_draft kept).requests requests)) (puts_body text kept empty_draft)
    ∙ ap (λ b. answer (body_of text kept) b (insert_all bytes_eq (puts text empty_draft kept).requests requests)) (puts_names text kept empty_draft)
    ∙ ap (λ known. answer (body_of text kept) (has_script_name text kept) (insert_all bytes_eq known requests)) (puts_requests text kept empty_draft)

-- ---- the kind that the answer has

some_inserted : (requests : List (List ℕ)) (first : List ℕ) (others : List (List ℕ)) → kind_of (insert_all bytes_eq (first ∷ others) requests) ≡ Es
some_inserted [] first others = refl
some_inserted (request ∷ requests) first others = by (λ l. some_inserted requests first l) (list_any (bytes_eq request) (first ∷ others))
  where
    by : ((l : List (List ℕ)) → kind_of (insert_all bytes_eq (first ∷ l) requests) ≡ Es) → (b : Bool) → kind_of (insert_all bytes_eq (if b then first ∷ others else first ∷ (others ++ request ∷ [])) requests) ≡ Es
    by rest true = rest others
    by rest false = rest (others ++ request ∷ [])

pub same_kind : (requests : List (List ℕ)) → kind_of (each_once requests) ≡ kind_of requests
same_kind [] = refl
same_kind (request ∷ requests) = some_inserted requests request []

no_name : (has_name : Bool) (kind : Kind) → (kind ≡ Es → has_name ≡ false) → (has_name && is_es kind) ≡ false
no_name has_name Es h = ap (λ b. b && true) (h refl)
no_name true Cjs h = refl
no_name false Cjs h = refl
no_name true Json h = refl
no_name false Json h = refl

-- the answer at an ECMAScript module without such names, and at another one
pub answered : (body : List ℕ) (has_name : Bool) (requests : List (List ℕ)) → (kind_of requests ≡ Es → has_name ≡ false)
    → answer body has_name requests ≡ Some (record { kind = kind_of requests; requests = requests; body = body })
answered body has_name requests h = ap (λ b. if b then None else Some (record { kind = kind_of requests; requests = requests; body = body })) (no_name has_name (kind_of requests) h)

-- what an answer says
pub record IsAnswer (body : List ℕ) (has_name : Bool) (requests : List (List ℕ)) (m : ModuleText) : Type 0 where
  pub kind : m.kind ≡ kind_of requests
  pub strict : m.kind ≡ Es → has_name ≡ false
  pub asked : m.requests ≡ requests
  pub joined : m.body ≡ body

without_name : (has_name : Bool) (kind other : Kind) → (has_name && is_es kind) ≡ false → other ≡ kind → other ≡ Es → has_name ≡ false
without_name true Es other e same is = absurd cc
without_name true Cjs other e same is = absurd cc
without_name true Json other e same is = absurd cc
without_name false kind other e same is = refl

pub is_answer : (body : List ℕ) (has_name : Bool) (requests : List (List ℕ)) (m : ModuleText) → answer body has_name requests ≡ Some m → IsAnswer body has_name requests m
is_answer body has_name requests m e = by (has_name && is_es (kind_of requests)) refl e
  where
    by : (b : Bool) → (has_name && is_es (kind_of requests)) ≡ b → (if b then None else Some (record { kind = kind_of requests; requests = requests; body = body })) ≡ Some m → IsAnswer body has_name requests m
    by true f g = absurd cc
    by false f g =
        let same : m.kind ≡ kind_of requests = ap (λ o. option_map_or (λ n. n.kind) o Cjs) (sym g) in
        record {
          kind = same;
          strict = without_name has_name (kind_of requests) m.kind f same;
          asked = ap (λ o. option_map_or (λ n. n.requests) o []) (sym g);
          joined = ap (λ o. option_map_or (λ n. n.body) o []) (sym g);
        }

-- How reading token by token comes to the module of a text.
use Rattle.std.proofs.Common.{◌≡◌, ◌≢◌, ℕ, ◌≤◌, true, false, List, [], ◌∷◌, Option, None, Some, Ok, Err, refl, sym, ap, subst, ◌∙◌, arith, slice_range}
use Rattle.std.specs.Prelude.{Result, IfOk}
use Rattle.std.specs.List.{list_all}
use Rattle.std.specs.Option.{ForSome}
use Rattle.es_tree.specs.declared.tokens.Token.{Token}
use Rattle.es_tree.specs.declared.tokens.TokenKind.TheVariants.{End}
use Rattle.es_tree.specs.declared.tokens.Goal.TheVariants.{Operand}
use Rattle.es_tree.specs.declared.tokens.LexFault.{LexFault}
use Rattle.es_tree.specs.Lexical.{token_at}
use Rattle.bare_modules.specs.Tokens.{is_blank, StandsBehind, HasTokens}
use Rattle.bare_modules.specs.Parts.{part_in}
use Rattle.bare_modules.specs.Meaning.{IsModuleText, ReadsModule}
use Rattle.bare_modules.specs.Scanning.{Drafted, empty_draft, step_of, done}
use Rattle.bare_modules.specs.declared.parts.Part.{Part}
use Rattle.bare_modules.specs.declared.read.ModuleText.{ModuleText}
use Rattle.bare_modules.specs.declared.steps.Deed.{Deed}
use Rattle.bare_modules.specs.declared.steps.Deed.TheVariants.{Keep, Ask, Drop}
use Rattle.bare_modules.specs.declared.steps.Place.{Place}
use Rattle.bare_modules.specs.declared.steps.Place.TheVariants.{Between}
use Rattle.bare_modules.proofs.Modules.{to_reading, from_reading, same_token}
use Rattle.bare_modules.proofs.Scans.{read_on, ended, one_token}

-- from a place on the text goes on to this module
pub record GoesOn (text : List ℕ) (at : ℕ) (place : Place) (draft : Drafted) (m : ModuleText) : Type 0 where
  pub tokens : List Token
  pub read : HasTokens text at tokens
  pub says : read_on text place draft tokens ≡ Some m

-- the modules of a text are those to which it goes on
pub record SameModules (text : List ℕ) (at : ℕ) (place : Place) (draft : Drafted) : Type 0 where
  pub onward : (m : ModuleText) → IsModuleText text m → GoesOn text at place draft m
  pub back : (m : ModuleText) → GoesOn text at place draft m → IsModuleText text m

pub begins : (text : List ℕ) → SameModules text 0 Between empty_draft
begins text = record {
  onward = λ m h. record { tokens = h.tokens; read = h.read; says = to_reading text m h };
  back = λ m h. from_reading text h.tokens m h.read h.says;
}

stands : (text : List ℕ) (at : ℕ) (token : Token) → token_at text at Operand ≡ Ok token → list_all is_blank (slice_range text at token.start) ≡ true → StandsBehind text at token
stands text at token e blank = record { read = e; blank = blank }

-- the tokens from a place on begin with the one that stands there
record Begins (text : List ℕ) (token : Token) (tokens : List Token) : Type 0 where
  rest : List Token
  is : tokens ≡ token ∷ rest
  read : HasTokens text token.end rest

first_token : (text : List ℕ) (at : ℕ) (token : Token) (tokens : List Token) → StandsBehind text at token → token.kind ≢ End → HasTokens text at tokens → Begins text token tokens
first_token text at token [] here not_end read = absurd (not_end (ap (λ t. t.kind) (same_token text at token read.0 here read.1) ∙ read.2))
first_token text at token (other ∷ rest) here not_end read =
    let same : other ≡ token = same_token text at other token read.0 here in
    record { rest = rest; is = ap (λ t. t ∷ rest) same; read = subst (λ t. HasTokens text t.end rest) same read.2 }

-- to go on by one token keeps the modules
pub goes_on : (text : List ℕ) (at : ℕ) (token : Token) (place next : Place) (deed : Deed) (draft new : Drafted) → SameModules text at place draft → token_at text at Operand ≡ Ok token
    → list_all is_blank (slice_range text at token.start) ≡ true → token.kind ≢ End → step_of place (part_in text token) ≡ Some (deed, next)
    → new ≡ done text deed draft (part_in text token) token → SameModules text token.end next new
goes_on text at token place next deed draft new same e blank not_end step is =
    let here = stands text at token e blank in
    subst (λ d. SameModules text token.end next d) (sym is) (record {
      onward = λ m h.
          let g = same.onward m h in
          let b = first_token text at token g.tokens here not_end g.read in
          record { tokens = b.rest; read = b.read; says = sym (one_token text place next deed draft token b.rest step) ∙ ap (λ l. read_on text place draft l) (sym b.is) ∙ g.says };
      back = λ m h. same.back m (record {
        tokens = token ∷ h.tokens;
        read = (here, not_end, h.read);
        says = one_token text place next deed draft token h.tokens step ∙ h.says;
      });
    })

-- a token with which no statement goes on
no_step : (text : List ℕ) (place : Place) (draft : Drafted) (token : Token) (tokens : List Token) (m : ModuleText) → step_of place (part_in text token) ≡ None → read_on text place draft (token ∷ tokens) ≡ Some m → ⊥
no_step text place draft token tokens m step e = let f = rw step at e in cc

pub steps_badly : (text : List ℕ) (at : ℕ) (token : Token) (place : Place) (draft : Drafted) → SameModules text at place draft → token_at text at Operand ≡ Ok token
    → list_all is_blank (slice_range text at token.start) ≡ true → token.kind ≢ End → step_of place (part_in text token) ≡ None → (m : ModuleText) → IsModuleText text m → ⊥
steps_badly text at token place draft same e blank not_end step m h =
    let g = same.onward m h in
    let b = first_token text at token g.tokens (stands text at token e blank) not_end g.read in
    no_step text place draft token b.rest m step (ap (λ l. read_on text place draft l) (sym b.is) ∙ g.says)

-- the end of the text
only_end : (text : List ℕ) (at : ℕ) (token : Token) (tokens : List Token) → StandsBehind text at token → token.kind ≡ End → HasTokens text at tokens → tokens ≡ []
only_end text at token [] here is_end read = refl
only_end text at token (other ∷ rest) here is_end read = absurd (read.1 (ap (λ t. t.kind) (same_token text at other token read.0 here) ∙ is_end))

pub ends : (text : List ℕ) (at : ℕ) (token : Token) (place : Place) (draft : Drafted) → SameModules text at place draft → token_at text at Operand ≡ Ok token
    → list_all is_blank (slice_range text at token.start) ≡ true → token.kind ≡ End → ReadsModule text (ended place draft)
ends text at token place draft same e blank is_end = by (ended place draft) refl
  where
    by : (o : Option ModuleText) → ended place draft ≡ o → ReadsModule text o
    by None f = λ m h.
        let g = same.onward m h in
        let nothing = only_end text at token g.tokens (stands text at token e blank) is_end g.read in
        let says : ended place draft ≡ Some m = ap (λ l. read_on text place draft l) (sym nothing) ∙ g.says in
        absurd cc
    by (Some m) f = same.back m (record { tokens = []; read = (token, stands text at token e blank, is_end); says = f })

elsewhere : (place : Place) (draft : Drafted) → place ≢ Between → ended place draft ≡ None
elsewhere Between draft h = absurd (h refl)
elsewhere place draft h = refl

pub ends_badly : (text : List ℕ) (at : ℕ) (token : Token) (place : Place) (draft : Drafted) → SameModules text at place draft → token_at text at Operand ≡ Ok token
    → list_all is_blank (slice_range text at token.start) ≡ true → token.kind ≡ End → place ≢ Between → (m : ModuleText) → IsModuleText text m → ⊥
ends_badly text at token place draft same e blank is_end not_between = subst (ReadsModule text) (elsewhere place draft not_between) (ends text at token place draft same e blank is_end)

-- a place where no token stands
no_token : (text : List ℕ) (at : ℕ) (fault : LexFault) (tokens : List Token) → token_at text at Operand ≡ Err fault → HasTokens text at tokens → ⊥
no_token text at fault [] e read = let f = read.1.read in cc
no_token text at fault (other ∷ rest) e read = let f = read.0.read in cc

pub reads_badly : (text : List ℕ) (at : ℕ) (fault : LexFault) (place : Place) (draft : Drafted) → SameModules text at place draft → token_at text at Operand ≡ Err fault
    → (m : ModuleText) → IsModuleText text m → ⊥
reads_badly text at fault place draft same e m h = let g = same.onward m h in no_token text at fault g.tokens e g.read

-- a token behind something other than blanks
not_blank : (text : List ℕ) (at : ℕ) (token other : Token) → token_at text at Operand ≡ Ok token → list_all is_blank (slice_range text at token.start) ≡ false → StandsBehind text at other → ⊥
not_blank text at token other e f here =
    let r = here.read in
    let same : other ≡ token = cc in
    let g : list_all is_blank (slice_range text at token.start) ≡ true = subst (λ t. list_all is_blank (slice_range text at t.start) ≡ true) same here.blank in
    absurd cc

no_blanks : (text : List ℕ) (at : ℕ) (token : Token) (tokens : List Token) → token_at text at Operand ≡ Ok token → list_all is_blank (slice_range text at token.start) ≡ false → HasTokens text at tokens → ⊥
no_blanks text at token [] e f read = not_blank text at token read.0 e f read.1
no_blanks text at token (other ∷ rest) e f read = not_blank text at token other e f read.0

pub stands_badly : (text : List ℕ) (at : ℕ) (token : Token) (place : Place) (draft : Drafted) → SameModules text at place draft → token_at text at Operand ≡ Ok token
    → list_all is_blank (slice_range text at token.start) ≡ false → (m : ModuleText) → IsModuleText text m → ⊥
stands_badly text at token place draft same e f m h = let g = same.onward m h in no_blanks text at token g.tokens e f g.read

-- the last token of the body ends no later than the one that was read last
pub keeps_order : (text : List ℕ) (deed : Deed) (draft new : Drafted) (p : Part) (token : Token) (at : ℕ) → ForSome draft.end (λ end. end ≤ at) → at ≤ token.end → new ≡ done text deed draft p token
    → ForSome new.end (λ end. end ≤ token.end)
keeps_order text deed draft new p token at ordered h is = subst (λ d. ForSome d.end (λ end. end ≤ token.end)) (sym is) (by deed)
  where
    by : (deed : Deed) → ForSome (done text deed draft p token).end (λ end. end ≤ token.end)
    by Keep = λ end e. let f : token.end ≡ end = cc in omega arith
    by Ask = λ end e. let f = ordered end e in omega arith
    by Drop = λ end e. let f = ordered end e in omega arith

pub answers : {E : Type 0} (text : List ℕ) (result : Result (Option ModuleText) E) (answer : Option ModuleText) → IfOk result (λ found. found ≡ answer) → ReadsModule text answer → IfOk result (ReadsModule text)
answers text (Ok found) answer is h = subst (ReadsModule text) (sym is) h
answers text (Err e) answer is h = tt

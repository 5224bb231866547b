-- The first fault of a file is the least of those that stand in it.
use Rattle.std.proofs.Common.{◌≡◌, ◌≢◌, ◌⊎◌, inl, inr, ℕ, lit<, false, List, Option, Some, None, Result, Ok, Err, IsErr, IsTrue, refl, sym, subst, ◌∙◌, nat_eq, codes}
use Rattle.std.specs.List.{ends_with}
use Rattle.std.specs.Str.{IsUtf8}
use Rattle.es_grammar.specs.Reading.{Bytes}
use Rattle.es_reader.proofs.Steps.{some_is}
use Rattle.pkg_manifest.specs.declared.package.Manifest.{Manifest}
use Rattle.pk_types.specs.declared.facts.NameKind.{NameKind}
use Rattle.pk_types.specs.declared.facts.NameKind.TheVariants as name
use Rattle.es_facts.specs.Answer.{HasFault, FaultOr}
use Rattle.es_facts.specs.declared.answer.ModuleFault.{ModuleFault}
use Rattle.es_facts.specs.declared.answer.ModuleFault.TheVariants as text_fault
use Rattle.es_facts.specs.declared.answer.Parsed.{Parsed}
use Rattle.module_graph.specs.Shortlex.{IsAtMost}
use Rattle.module_at_path.specs.declared.fault.FileFault.{FileFault}
use Rattle.module_at_path.specs.declared.fault.FileFault.TheVariants as fault
use Rattle.module_at_path.specs.Files.{Scope, File, kind_of, name_kind, says_module, file}
use Rattle.module_at_path.specs.Faults.{StandsIn, Stands, IsFirst, order, of_text, needs_manifest, scope_fault}
use Rattle.module_at_path.specs.Answers.{LacksUtf8, Answers, AnswersText, TakesFileSteps, IsByManifest}
use Rattle.module_at_path.proofs.Names.{IsLike, alike, no_kind}
use Rattle.module_at_path.proofs.Texts.{IsFirstIn, least_large as large_in, least_utf8, first_in, no_fault_in}

module _ (one : File) where
  least_large : (other : ℕ) (further : FileFault) → Stands one other further → IsAtMost (order 0 fault.TooLarge) (order other further)
  least_large other further (Stands.too_large _) = inl refl
  least_large other further (Stands.bad_scope _ _ _ _) = inr (inr (refl, inl (lit< tt)))
  least_large other further (Stands.unknown_type _) = inr (inr (refl, inl (lit< tt)))
  least_large other further (Stands.in_text text named _ _ _ _ in_text) = large_in text named other further in_text

  pub first_large : one.text ≡ None → IsFirst one fault.TooLarge
  first_large none = record { place = 0; stands = Stands.too_large none; least = least_large }

  module _ (text : Bytes) (text_is : one.text ≡ Some text) where
    least_unknown : kind_of one ≡ None → (other : ℕ) (further : FileFault) → Stands one other further → IsAtMost (order 0 fault.UnknownType) (order other further)
    least_unknown none other further (Stands.too_large long) = absurd cc
    least_unknown none other further (Stands.bad_scope named _ is _) = absurd cc
    least_unknown none other further (Stands.unknown_type _) = inl refl
    least_unknown none other further (Stands.in_text _ named _ _ _ is _) = absurd cc

    pub first_unknown : kind_of one ≡ None → IsFirst one fault.UnknownType
    first_unknown none = record { place = 0; stands = Stands.unknown_type none; least = least_unknown none }

    module _ (named : NameKind) (kind_is : kind_of one ≡ Some named) where
      -- what stands in this text of this kind
      in_this : (place : ℕ) (further : FileFault) (other : Bytes) (kind : NameKind) → one.text ≡ Some other → kind_of one ≡ Some kind → StandsIn other kind place further
          → StandsIn text named place further
      in_this place further other kind is kind_was in_text =
          subst (λ bytes. StandsIn bytes named place further) (some_is _ _ (sym is ∙ text_is))
          (subst (λ what. StandsIn other what place further) (some_is _ _ (sym kind_was ∙ kind_is)) in_text)

      least_not_utf8 : (other : ℕ) (further : FileFault) → Stands one other further → IsAtMost (order 0 fault.NotUtf8) (order other further)
      least_not_utf8 other further (Stands.too_large long) = absurd cc
      least_not_utf8 other further (Stands.bad_scope _ _ _ _) = inr (inr (refl, inl (lit< tt)))
      least_not_utf8 other further (Stands.unknown_type none) = absurd cc
      least_not_utf8 other further (Stands.in_text bytes kind _ _ is kind_was in_text) = least_utf8 text named other further (in_this other further bytes kind is kind_was in_text)

      pub first_not_utf8 : LacksUtf8 text named → IsFirst one fault.NotUtf8
      first_not_utf8 lacks =
          record { place = 0; stands = Stands.in_text text named 0 fault.NotUtf8 text_is kind_is (StandsIn.not_utf8 lacks.0 lacks.1); least = least_not_utf8 }

      module _ (bad : List ℕ) (scope_is : one.scope ≡ Err bad) (utf8 : ¬ LacksUtf8 text named) where
        after_scope : (other : ℕ) (further : FileFault) → StandsIn text named other further → IsAtMost (order 0 (fault.BadScope bad)) (order other further)
        after_scope other further (StandsIn.not_utf8 program lacks) = absurd (utf8 (program, lacks))
        after_scope other further (StandsIn.syntax _) = inr (inr (refl, inl (lit< tt)))
        after_scope other further (StandsIn.early _ _ _ _ _ _ _ _) = inr (inr (refl, inl (lit< tt)))
        after_scope other further (StandsIn.refused _ _ _ _ _ _) = inr (inr (refl, inl (lit< tt)))
        after_scope other further (StandsIn.bad_json _ _) = inr (inr (refl, inl (lit< tt)))

        least_scope : (other : ℕ) (further : FileFault) → Stands one other further → IsAtMost (order 0 (fault.BadScope bad)) (order other further)
        least_scope other further (Stands.too_large long) = absurd cc
        least_scope other further (Stands.bad_scope _ _ _ _) = inl refl
        least_scope other further (Stands.unknown_type none) = absurd cc
        least_scope other further (Stands.in_text bytes kind _ _ is kind_was in_text) = after_scope other further (in_this other further bytes kind is kind_was in_text)

        pub first_scope : IsFirst one (fault.BadScope bad)
        first_scope = record { place = 0; stands = Stands.bad_scope named bad kind_is scope_is; least = least_scope }

      module _ (found : Option (List ℕ × Manifest)) (scope_is : one.scope ≡ Ok found) where
        -- nothing stands in the file but what stands in its text
        in_text_alone : (place : ℕ) (further : FileFault) → Stands one place further → StandsIn text named place further
        in_text_alone place further (Stands.too_large long) = absurd cc
        in_text_alone place further (Stands.bad_scope _ bad _ is) = absurd cc
        in_text_alone place further (Stands.unknown_type none) = absurd cc
        in_text_alone place further (Stands.in_text bytes kind _ _ is kind_was in_text) = in_this place further bytes kind is kind_was in_text

        first_of_text : (further : FileFault) → IsFirstIn text named further → IsFirst one further
        first_of_text further first =
            record { place = first.place; stands = Stands.in_text text named first.place further text_is kind_is first.stands; least = λ other again stands. first.least other again (in_text_alone other again stands) }

        first_given : (given : ModuleFault) → FaultOr (HasFault text named) given → (of_text given ≡ fault.NoMemory) ⊎ IsFirst one (of_text given)
        first_given text_fault.NoMemory has = inl refl
        first_given text_fault.NotUtf8 has = inr (first_of_text _ (first_in text named text_fault.NotUtf8 has))
        first_given text_fault.Syntax has = inr (first_of_text _ (first_in text named text_fault.Syntax has))
        first_given (text_fault.Early error start called) has = inr (first_of_text _ (first_in text named (text_fault.Early error start called) has))
        first_given (text_fault.Refused refusal start) has = inr (first_of_text _ (first_in text named (text_fault.Refused refusal start) has))
        first_given text_fault.BadJson has = inr (first_of_text _ (first_in text named text_fault.BadJson has))

        pub answer_of_text : (answer : Result Parsed FileFault) → AnswersText text named answer → Answers one answer
        answer_of_text (Ok parsed) has = record {
          text = text;
          named = named;
          text_is = text_is;
          kind_is = kind_is;
          facts = has;
          no_fault = λ place further stands. no_fault_in text named parsed.facts parsed.outline has place further (in_text_alone place further stands);
        }
        answer_of_text (Err further) is = subst (λ f. (f ≡ fault.NoMemory) ⊎ IsFirst one f) (sym is.is) (first_given is.given is.has)

-- nothing is parsed where the manifest is bad
pub no_steps : (kind : Option NameKind) (text : Bytes) (scope : Scope) (steps : ℕ) → IsErr scope → TakesFileSteps kind text scope steps steps
no_steps None text scope steps bad = refl
no_steps (Some named) text (Err path) steps bad = refl
no_steps (Some named) text (Ok found) steps bad = absurd cc

-- what the name says without a manifest, and with one
pub unknown_always : (path : List ℕ) (scope : Scope) → name_kind false path ≡ None → name_kind (says_module scope) path ≡ None
unknown_always path scope = no_kind (says_module scope) (ends_with nat_eq path (codes ".js")) (ends_with nat_eq path (codes ".mjs")) (ends_with nat_eq path (codes ".cjs")) (ends_with nat_eq path (codes ".json"))

pub alike_always : (path : List ℕ) (scope : Scope) (named : NameKind) → name_kind false path ≡ Some named → IsLike named (name_kind (says_module scope) path)
alike_always path scope named = alike (says_module scope) (ends_with nat_eq path (codes ".js")) (ends_with nat_eq path (codes ".mjs")) (ends_with nat_eq path (codes ".cjs")) (ends_with nat_eq path (codes ".json")) named

-- what the manifest's answer says of the nearest manifest
scope_bad : (scope : Scope) (bad_scope : FileFault) → scope_fault scope ≡ Some bad_scope → (bad : List ℕ) × (scope ≡ Err bad) × (bad_scope ≡ fault.BadScope bad)
scope_bad (Ok found) bad_scope is = absurd cc
scope_bad (Err bad) bad_scope is = (bad, refl, sym (some_is _ _ is))

scope_good : (scope : Scope) → scope_fault scope ≡ None → (found : Option (List ℕ × Manifest)) × (scope ≡ Ok found)
scope_good (Ok found) none = (found, refl)
scope_good (Err bad) none = absurd cc

module _ (one : File) (text : Bytes) (text_is : one.text ≡ Some text) (named : NameKind) (kind_is : kind_of one ≡ Some named) where
  pub bad_answer : (bad_scope answer : FileFault) → scope_fault one.scope ≡ Some bad_scope → IsByManifest text named bad_scope answer
      → (answer ≡ fault.NoMemory) ⊎ IsFirst one answer
  bad_answer bad_scope answer is (inl lacks) = inr (subst (IsFirst one) (sym lacks.1) (first_not_utf8 one text text_is named kind_is lacks.0))
  bad_answer bad_scope answer is (inr utf8) =
      let bad = scope_bad one.scope bad_scope is in
      inr (subst (IsFirst one) (sym (utf8.1 ∙ bad.2)) (first_scope one text text_is named kind_is bad.0 bad.1 utf8.0))

  pub good_answer : scope_fault one.scope ≡ None → (answer : Result Parsed FileFault) → AnswersText text named answer → Answers one answer
  good_answer none = let good = scope_good one.scope none in answer_of_text one text text_is named kind_is good.0 good.1

waits_in : (bytes : Bytes) (kind : NameKind) → ¬ LacksUtf8 bytes kind → (place : ℕ) (further : FileFault) → StandsIn bytes kind place further → IsTrue (needs_manifest further)
waits_in bytes kind utf8 place further (StandsIn.not_utf8 program lacks) = absurd (utf8 (program, lacks))
waits_in bytes kind utf8 place further (StandsIn.syntax _) = refl
waits_in bytes kind utf8 place further (StandsIn.early _ _ _ _ _ _ _ _) = refl
waits_in bytes kind utf8 place further (StandsIn.refused _ _ _ _ _ _) = refl
waits_in bytes kind utf8 place further (StandsIn.bad_json _ _) = refl

module _ (path : List ℕ) (text : Bytes) (named : NameKind) (kind_is : name_kind false path ≡ Some named) (scope : Scope) where
  pub not_utf8_always : LacksUtf8 text named → IsFirst (file path (Some text) scope) fault.NotUtf8
  not_utf8_always lacks =
      let like = alike_always path scope named kind_is in
      first_not_utf8 (file path (Some text) scope) text refl like.kind like.is (like.program lacks.0, lacks.1)

  pub waits : ¬ LacksUtf8 text named → (place : ℕ) (further : FileFault) → Stands (file path (Some text) scope) place further → IsTrue (needs_manifest further)
  waits utf8 place further (Stands.too_large long) = absurd cc
  waits utf8 place further (Stands.bad_scope _ _ _ _) = refl
  waits utf8 place further (Stands.unknown_type none) =
      let like = alike_always path scope named kind_is in
      let known = like.is in absurd cc
  waits utf8 place further (Stands.in_text bytes kind _ _ is kind_was in_text) =
      let like = alike_always path scope named kind_is in
      waits_in bytes kind (λ lacks. utf8 (
        like.back (subst (λ what. what ≢ name.Json) (some_is _ _ (sym kind_was ∙ like.is)) lacks.0),
        subst (λ held. ¬ IsUtf8 held) (sym (some_is _ _ is)) lacks.1,
      )) place further in_text

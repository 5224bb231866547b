-- Parts of an outline that have no mark of an import or an export: one, and several.
use Rattle.std.proofs.Common.{◌≡◌, false, List, [], ◌∷◌, Option, Some, None, map, refl}
use Rattle.std.specs.List.{All}
use Rattle.std.proofs.lemmas.List.Elements.{All-push}
use Rattle.es_tree.specs.declared.tokens.Token.{Token}
use Rattle.es_outline.specs.declared.mark.Mark.{Mark}
use Rattle.es_outline.specs.declared.mark.Mark.TheVariants as mark
use Rattle.es_outline.specs.declared.mark.Role.{Role}
use Rattle.es_outline.specs.declared.mark.Role.TheVariants as is
use Rattle.es_outline.specs.declared.mark.Part.{Part}
use Rattle.es_outline.specs.Outline.{Marks, Lays, ◌⨾◌, nothing, put, told, one, within, named, semicolon, opt, listed}
use Rattle.facts_laws.specs.Plain.{role_declares, part_declares, declares, IsPlain}

-- behind marks without one it leaves marks without one
pub record Keeps (lays : Lays) : Type 0 where
  pub kept : (marks : Marks) → All IsPlain marks → All IsPlain (lays marks)

pub keeps_nothing : Keeps nothing
keeps_nothing = record { kept = λ marks h. h }

pub keeps_put : (one_mark : Mark) → declares one_mark ≡ false → Keeps (put one_mark)
keeps_put one_mark e = record { kept = λ marks h. All-push IsPlain marks one_mark h e }

infixr 6 ◌then◌
pub ◌then◌ : {f g : Lays} → Keeps f → Keeps g → Keeps (f ⨾ g)
(p then q) = record { kept = λ marks h. q.kept _ (p.kept marks h) }

pub keeps_told : (role : Role) (token : Token) → role_declares role ≡ false → Keeps (told role token)
keeps_told role token e = keeps_put (mark.Token role token) e

pub keeps_one : (token : Token) → Keeps (one token)
keeps_one token = keeps_told is.Plain token refl

pub keeps_within : {lays : Lays} (which : Part) → part_declares which ≡ false → Keeps lays → Keeps (within which lays)
keeps_within which e p = keeps_put (mark.Begin which) e then p then keeps_put (mark.End which) refl

pub keeps_named : (role : Role) (name : Option Token) → role_declares role ≡ false → Keeps (named role name)
keeps_named role (Some name) e = keeps_told role name e
keeps_named role None e = keeps_put mark.Unnamed refl

pub keeps_semicolon : (token : Option Token) → Keeps (semicolon token)
keeps_semicolon (Some token) = keeps_one token
keeps_semicolon None = keeps_put mark.NoSemicolon refl

pub keeps_opt_one : (token : Option Token) → Keeps (opt one token)
keeps_opt_one (Some token) = keeps_one token
keeps_opt_one None = keeps_nothing

pub keeps_opt_told : (role : Role) (token : Option Token) → role_declares role ≡ false → Keeps (opt (told role) token)
keeps_opt_told role (Some token) e = keeps_told role token e
keeps_opt_told role None e = keeps_nothing

-- tokens alone
pub keeps_tokens : (role : Role) → role_declares role ≡ false → (tokens : List Token) → Keeps (listed (told role) tokens)
keeps_tokens role e [] = keeps_nothing
keeps_tokens role e (token ∷ tokens) = keeps_told role token e then keeps_tokens role e tokens

-- a list; its items are those of another list, without what is known of these, and then the marks of them
pub keeps_listed : {X Y Z : Type 0} (f : Z → Lays) (g : Y → Z) (h : X → Y) → ((x : X) → Keeps (f (g (h x)))) → (xs : List X) → Keeps (listed f (map g (map h xs)))
keeps_listed f g h each [] = keeps_nothing
keeps_listed f g h each (x ∷ xs) = each x then keeps_listed f g h each xs

-- Functions of the innermost scope are like `var` where frames tell so.
use Rattle.std.proofs.Common.{◌≡◌, ◌≢◌, ◌⊎◌, ◌≤◌, ◌+◌, ◌↔◌, ◌&&◌, ◌||◌, ℕ, Bool, true, false, not, nat_eq, List, [], ◌∷◌, refl, sym, ap, subst, ◌∙◌, arith, ⊎_elim, inl, inr, eq-eqb, true≢false}
use Rattle.std.specs.List.{Contains}
use Rattle.std.proofs.lemmas.Bool.{cases_eq, eqb-true, eqb-false, ne_eqb}
use Rattle.std.proofs.Math.Bool.{or-true}
use Rattle.es_tree.specs.declared.tokens.ProgramGoal.{ProgramGoal}
use Rattle.es_tree.specs.declared.tokens.ProgramGoal.TheVariants.{Script, Module}
use Rattle.es_outline.specs.declared.mark.Mark.TheVariants as mark
use Rattle.es_outline.specs.declared.mark.Part.{Part}
use Rattle.es_outline.specs.declared.mark.Part.TheVariants as part
use Rattle.es_outline.specs.Outline.{Marks}
use Rattle.es_scope.specs.declared.frame.Frame.{Frame}
use Rattle.es_scope.specs.Parts.{Encloses}
use Rattle.es_scope.specs.Source.{Source, IsMark}
use Rattle.es_scope.specs.Scopes.{StandsIn, NearestScope, is_scope, is_var_scope}
use Rattle.es_scope.specs.Twice.{HoistsFunctions}
use Rattle.es_scope.specs.Frames.{frame_at, frames_at, innermost, scopes_of}
use Rattle.es_scope.specs.Claims.{hoists, is_script}
use Rattle.es_scope.proofs.Basics.{both_of}
use Rattle.es_scope.proofs.Agreeing.{below, nearest_scope, nearest_var}
use Rattle.pk_types.proofs.ListMembers.{here}

-- a scope that a `var` belongs to is a scope
var_is_scope : (which : Part) → is_var_scope which ≡ true → is_scope which ≡ true
var_is_scope part.FunctionBody e = refl
var_is_scope part.StaticBlock e = refl
var_is_scope _ e = absurd (true≢false (sym e))

stands_wider : (marks : Marks) (place scope : ℕ) → StandsIn is_var_scope marks place scope → StandsIn is_scope marks place scope
stands_wider marks place _ StandsIn.top = StandsIn.top
stands_wider marks place _ (StandsIn.enclosed which opening k e) = StandsIn.enclosed which opening (var_is_scope which k) e

-- the part that a scope is
record IsPartOf (kinds : Part → Bool) (marks : Marks) (place scope : ℕ) : Type 0 where
  which : Part
  opening : ℕ
  kind : kinds which ≡ true
  encloses : Encloses marks which opening place
  next : opening + 1 ≡ scope

part_of : (kinds : Part → Bool) (marks : Marks) (place scope : ℕ) → StandsIn kinds marks place scope → (scope ≡ 0) ⊎ IsPartOf kinds marks place scope
part_of kinds marks place _ StandsIn.top = inl refl
part_of kinds marks place _ (StandsIn.enclosed which opening k e) = inr (record { which = which; opening = opening; kind = k; encloses = e; next = refl })

record IsHoisting (source : Source) (scope : ℕ) : Type 0 where
  which : Part
  opening : ℕ
  kind : is_var_scope which ≡ true
  begins : IsMark source opening (mark.Begin which)
  next : opening + 1 ≡ scope

hoisting_of : (source : Source) (scope : ℕ) → HoistsFunctions source scope → ((scope ≡ 0) × (source.goal ≡ Script)) ⊎ IsHoisting source scope
hoisting_of source _ (HoistsFunctions.script e) = inl (refl, e)
hoisting_of source _ (HoistsFunctions.body which opening k m) = inr (record { which = which; opening = opening; kind = k; begins = m; next = refl })

script_of : (goal : ProgramGoal) → is_script goal ≡ true → goal ≡ Script
script_of Script e = refl
script_of Module e = absurd (true≢false (sym e))

one_of : (b : Bool) (goal : ProgramGoal) (P : Type 0) → (b ≡ false → P) → (not b || is_script goal) ≡ true → P ⊎ (goal ≡ Script)
one_of false goal P p e = inl (p refl)
one_of true goal P p e = inr (script_of goal e)

told : (goal : ProgramGoal) (frame : Frame) → hoists goal frame ≡ true → (frame.scope ≡ frame.var_scope) × ((frame.scope ≢ 0) ⊎ (goal ≡ Script))
told goal frame e =
    let both = both_of _ _ e in
    (eqb-true frame.scope frame.var_scope both.0, one_of _ goal (frame.scope ≢ 0) (eqb-false frame.scope 0) both.1)

tells : (goal : ProgramGoal) (frame : Frame) → frame.scope ≡ frame.var_scope → (frame.scope ≢ 0) ⊎ (goal ≡ Script) → hoists goal frame ≡ true
tells goal frame same (inl inner) =
    ap (λ b. b && (not (nat_eq frame.scope 0) || is_script goal)) (eq-eqb frame.scope frame.var_scope same)
    ∙ ap (λ b. not b || is_script goal) (ne_eqb frame.scope 0 inner)
tells goal frame same (inr script) =
    ap (λ b. b && (not (nat_eq frame.scope 0) || is_script goal)) (eq-eqb frame.scope frame.var_scope same)
    ∙ ap (λ g. not (nat_eq frame.scope 0) || is_script g) script ∙ or-true (not (nat_eq frame.scope 0))

module _ (source : Source) (place : ℕ) where
  nearest : NearestScope is_scope source.marks place (frame_at source place).scope
  nearest = (nearest_scope source place (frame_at source place).scope).1 refl

  nearest_of_var : NearestScope is_var_scope source.marks place (frame_at source place).var_scope
  nearest_of_var = (nearest_var source place (frame_at source place).var_scope).1 refl

  -- a `var` belongs to the innermost scope or further out
  pub outward : (frame_at source place).var_scope ≤ (frame_at source place).scope
  outward = nearest.nearest _ (stands_wider source.marks place _ nearest_of_var.stands)

  hoisted : HoistsFunctions source (frame_at source place).scope → hoists source.goal (frame_at source place) ≡ true
  hoisted h = ⊎_elim
      (λ top. tells source.goal (frame_at source place) (let out = outward in omega (arith, top.0)) (inr top.1))
      (λ body. ⊎_elim (λ none. absurd (omega (arith, body.next, none))) (λ own. let same : own.opening ≡ body.opening = omega (arith, own.next, body.next) in
      let which : own.which ≡ body.which = cc (own.encloses.begins, body.begins, same) in
      let within : (frame_at source place).scope ≤ (frame_at source place).var_scope =
      nearest_of_var.nearest _ (subst (StandsIn is_var_scope source.marks place) own.next (StandsIn.enclosed own.which own.opening (ap is_var_scope which ∙ body.kind) own.encloses)) in
      let out = outward in
      tells source.goal (frame_at source place) (omega (arith, within, out)) (inl (λ none. omega (arith, body.next, none))))
      (part_of is_scope source.marks place _ nearest.stands))
      (hoisting_of source _ h)

  hoisting : hoists source.goal (frame_at source place) ≡ true → HoistsFunctions source (frame_at source place).scope
  hoisting e =
      let told_so = told source.goal (frame_at source place) e in
      ⊎_elim
      (λ top. ⊎_elim (λ inner. absurd (inner top)) (λ script. subst (HoistsFunctions source) (sym top) (HoistsFunctions.script script)) told_so.1)
      (λ inner. ⊎_elim (λ none. absurd (inner (told_so.0 ∙ none)))
      (λ own. subst (HoistsFunctions source) (own.next ∙ sym told_so.0) (HoistsFunctions.body own.which own.opening own.kind own.encloses.begins))
      (part_of is_var_scope source.marks place _ nearest_of_var.stands))
      (cases_eq (frame_at source place).scope 0)

  pub hoists_functions : HoistsFunctions source (frame_at source place).scope ↔ (hoists source.goal (frame_at source place) ≡ true)
  hoists_functions = (hoisted, hoisting)

first_of : (frames : List Frame) → Contains (scopes_of frames) (innermost frames).scope
first_of [] = here 0 []
first_of (frame ∷ frames) = here frame.scope (scopes_of frames)

-- the innermost scope begins no later than the place
pub innermost_low : (source : Source) (place : ℕ) (frames : List Frame) → frames ≡ frames_at source.marks place → (innermost frames).scope ≤ place
innermost_low source place frames e =
    subst (λ (f : List Frame). (innermost f).scope ≤ place) (sym e) (below source place _ (first_of (frames_at source.marks place)))

-- Texts that are written piece by piece.
use Rattle.std.proofs.Common.{◌≡◌, ℕ, ◌+◌, ◌-◌, ◌<◌, ◌^◌, min, Bool, true, false, if◌then◌else◌, List, [], ◌++◌, length, refl, sym, ap, ◌∙◌, arith, length-append}
use Rattle.std.proofs.lemmas.List.{append_assoc, append-nil}
use Rattle.chunk_files.specs.Pens.{Penned, last_size, size_of, blank, penned}

pub room_left : (size more : ℕ) → size < 2 ^ 64 → min (size + more) (2 ^ 64 - 1) ≡ size + min more (2 ^ 64 - 1 - size)
room_left size more fits = omega arith

kept_twice : (keeps : Bool) (text a b : List ℕ)
    → (if keeps then (if keeps then text ++ a else text) ++ b else (if keeps then text ++ a else text)) ≡ (if keeps then text ++ (a ++ b) else text)
kept_twice true text a b = append_assoc text a b
kept_twice false text a b = refl

sized_twice : (size first second both last : ℕ) → both ≡ first + second
    → (size + min first (last - size)) + min second (last - (size + min first (last - size))) ≡ size + min both (last - size)
sized_twice size first second both last e = omega arith

abbrev pen_of : Bool → List ℕ → ℕ → Penned
pen_of keeps text size = record { keeps = keeps; text = text; size = size }

same_pen : (keeps : Bool) (text more : List ℕ) (size grown : ℕ) → text ≡ more → size ≡ grown → pen_of keeps text size ≡ pen_of keeps more grown
same_pen keeps text more size grown e f = ap (λ (t : List ℕ). pen_of keeps t size) e ∙ ap (pen_of keeps more) f

kept_nothing : (keeps : Bool) (text : List ℕ) → (if keeps then text ++ [] else text) ≡ text
kept_nothing true text = append-nil text
kept_nothing false text = refl

sized_nothing : (size last : ℕ) → size + min 0 (last - size) ≡ size
sized_nothing size last = omega arith

sized : (count last : ℕ) → 0 + min count (last - 0) ≡ min count last
sized count last = omega arith

-- two texts that are written one behind the other are one text
pub penned_twice : (pen : Penned) (a b : List ℕ) → penned (penned pen a) b ≡ penned pen (a ++ b)
unfolding penned
penned_twice pen a b =
    let text = kept_twice pen.keeps pen.text a b in
    let size = sized_twice pen.size (length a) (length b) (length (a ++ b)) last_size (length-append a b) in
    same_pen pen.keeps _ _ _ _ text size

pub penned_nothing : (pen : Penned) → penned pen [] ≡ pen
unfolding penned
penned_nothing pen = same_pen pen.keeps _ _ _ _ (kept_nothing pen.keeps pen.text) (sized_nothing pen.size last_size)

pub kept_text : (text : List ℕ) → (penned (blank true) text).text ≡ text
unfolding penned
kept_text text = refl

pub measured : (text : List ℕ) → (penned (blank false) text).size ≡ size_of (length text)
unfolding penned
measured text = sized (length text) last_size

-- a step behind steps that were made already
pub then_put : (pen middle last : Penned) (a b : List ℕ) → middle ≡ penned pen a → last ≡ penned middle b → last ≡ penned pen (a ++ b)
then_put pen middle last a b e f = f ∙ ap (λ (p : Penned). penned p b) e ∙ penned_twice pen a b

-- the last step, behind steps that were made already
pub at_last : (pen middle : Penned) (a b : List ℕ) → middle ≡ penned pen a → penned middle b ≡ penned pen (a ++ b)
at_last pen middle a b e = ap (λ (p : Penned). penned p b) e ∙ penned_twice pen a b

-- a text more of a list that is written text by text
pub one_put : (pen last whole : Penned) (text rest all : List ℕ) → last ≡ penned pen text → all ≡ text ++ rest → penned pen all ≡ whole → penned last rest ≡ whole
one_put pen last whole text rest all e f h = at_last pen last text rest e ∙ ap (penned pen) (sym f) ∙ h

-- all are written
pub none_left : (pen whole : Penned) (rest : List ℕ) → rest ≡ [] → penned pen rest ≡ whole → pen ≡ whole
none_left pen whole rest e f = sym (penned_nothing pen) ∙ ap (penned pen) (sym e) ∙ f

-- What is told of a reading, from its one outcome.
use Rattle.std.proofs.Common.{◌≡◌, ◌≢◌, ◌↔◌, ℕ, ◌<◌, ◌≤◌, true, List, [], ◌∷◌, length, Result, Ok, Err, refl, sym, ap, subst, arith}
use Rattle.std.specs.Result.{IsErrAnd}
use Rattle.pk_base.specs.declared.path.PathFault.{PathFault}
use Rattle.pk_base.specs.declared.path.PathFault.TheVariants.{Empty, Long, Bad, NoMemory}
use Rattle.pk_base.specs.Paths.{is_path, IsFirstBreak}
use Rattle.pk_base.specs.PathFaults.{IsFaultOf}
use Rattle.pk_base.proofs.Breaks.{no_break-from_is_path, short_path, same_first}

abbrev IsFilePath : List ℕ → Type 0
IsFilePath text = (text ≢ []) × (is_path text ≡ true)

some_byte : (text : List ℕ) → text ≢ [] → 0 < length text
some_byte [] h = absurd (h refl)
some_byte (c ∷ cs) h = omega arith

no_first : (text : List ℕ) (p : ℕ) → IsFilePath text → ¬ (IsFirstBreak text p)
no_first text p h f = no_break-from_is_path text (some_byte text h.0) h.1 p f.breaks

no_length : (text : List ℕ) (n : ℕ) → text ≡ [] → n ≡ length text → ¬ (1024 < n)
no_length text n e f l = let z : length text ≡ 0 = ap length e in absurd (omega arith)

long_path : (text : List ℕ) (n : ℕ) → is_path text ≡ true → n ≡ length text → ¬ (1024 < n)
long_path text n h f l = let short = short_path text h in absurd (omega arith)

-- a file's path, or a fault other than memory
abbrev pub Outcome : List ℕ → Result (List ℕ) PathFault → Type 0
Outcome text (Ok path) = IsFilePath text
Outcome text (Err Empty) = text ≡ []
Outcome text (Err (Long n)) = (n ≡ length text) × (1024 < n)
Outcome text (Err (Bad p)) = (text ≢ []) × (length text ≤ 1024) × IsFirstBreak text p
Outcome text (Err NoMemory) = IsFilePath text

pub Outcome-from_fault : (text : List ℕ) (fault : PathFault) → IsFaultOf text fault → Outcome text (Err fault)
Outcome-from_fault text Empty h = h
Outcome-from_fault text (Long n) h = h
Outcome-from_fault text (Bad p) h = h
Outcome-from_fault text NoMemory h = absurd h

pub Outcome-from_err : (text : List ℕ) (r : Result (List ℕ) PathFault) (fault : PathFault) → IsErrAnd r (λ e. e ≡ fault) → IsFaultOf text fault → Outcome text r
Outcome-from_err text (Ok path) fault e h = absurd e
Outcome-from_err text (Err told) fault e h = Outcome-from_fault text told (subst (IsFaultOf text) (sym e) h)

pub Outcome-from_memory : (text : List ℕ) (r : Result (List ℕ) PathFault) → IsErrAnd r (λ e. e ≡ NoMemory) → IsFilePath text → Outcome text r
Outcome-from_memory text (Ok path) e h = absurd e
Outcome-from_memory text (Err told) e h = subst (λ f. Outcome text (Err f)) (sym e) h

pub empty_is : (text : List ℕ) (r : Result (List ℕ) PathFault) → Outcome text r → (r ≡ Err Empty) ↔ (text ≡ [])
empty_is text (Ok path) h = (λ e. cc, λ e. absurd (h.0 e))
empty_is text (Err Empty) h = (λ e. h, λ e. refl)
empty_is text (Err (Long n)) h = (λ e. cc, λ e. absurd (no_length text n e h.0 h.1))
empty_is text (Err (Bad p)) h = (λ e. cc, λ e. absurd (h.0 e))
empty_is text (Err NoMemory) h = (λ e. cc, λ e. absurd (h.0 e))

pub long_is : (text : List ℕ) (r : Result (List ℕ) PathFault) → Outcome text r → (n : ℕ) → (r ≡ Err (Long n)) ↔ ((n ≡ length text) × (1024 < n))
long_is text (Ok path) h n = (λ e. cc, λ w. absurd (long_path text n h.1 w.0 w.1))
long_is text (Err Empty) h n = (λ e. cc, λ w. absurd (no_length text n h w.0 w.1))
long_is text (Err (Long m)) h n = (λ e. let same : m ≡ n = cc in (omega arith, omega arith), λ w. let same : m ≡ n = omega arith in cc)
long_is text (Err (Bad p)) h n = (λ e. cc, λ w. absurd (omega arith))
long_is text (Err NoMemory) h n = (λ e. cc, λ w. absurd (long_path text n h.1 w.0 w.1))

pub bad_is : (text : List ℕ) (r : Result (List ℕ) PathFault) → Outcome text r → (p : ℕ) → (r ≡ Err (Bad p)) ↔ ((text ≢ []) × (length text ≤ 1024) × IsFirstBreak text p)
bad_is text (Ok path) h p = (λ e. cc, λ w. absurd (no_first text p h w.2))
bad_is text (Err Empty) h p = (λ e. cc, λ w. absurd (w.0 h))
bad_is text (Err (Long n)) h p = (λ e. cc, λ w. absurd (omega arith))
bad_is text (Err (Bad q)) h p =
    (λ e. let same : q ≡ p = cc in (h.0, h.1, subst (IsFirstBreak text) same h.2), λ w. let same : q ≡ p = same_first text q p h.2 w.2 in cc)
bad_is text (Err NoMemory) h p = (λ e. cc, λ w. absurd (no_first text p h w.2))

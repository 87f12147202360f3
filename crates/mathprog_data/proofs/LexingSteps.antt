-- What the lexer sees of a text from a state on, a byte or a run of bytes at a time.
use Rattle.mathprog_data.proofs.Common.{◌≡◌, ℕ, Bool, true, false, cond, ◌==◌, List, [], ◌∷◌, ◌++◌, length, Option, None, Some, refl, sym, ap, ◌∙◌, not-true, length-append, Mark, Pending, place_after, is_separator, is_symbol_byte, is_quote, stops, State, Step, continues, passed, begun, ended, settled, sign_of, sign_taken, Run, run, and_then}
use Rattle.mathprog_data.specs.declared.lexer.pending.Pending.TheVariants as pendings
use Rattle.mathprog_data.specs.declared.lexeme.Sign.{Sign as TheSign}
use Rattle.mathprog_data.proofs.LexingPlaces.{place_after_byte}

-- the state after these bytes, in which this is pending since a place
abbrev pub at : Pending → List ℕ → ℕ → Mark → Option Mark → State
at pending front from start bad =
    record { pending = pending; place = length front; mark = place_after front; from = from; start = start; bad = bad }

-- the state after these bytes, in which this is pending since it began after those
abbrev pub since : Pending → List ℕ → List ℕ → Option Mark → State
since pending front began bad = at pending front (length began) (place_after began) bad

-- the state after these bytes, in which nothing is pending
abbrev pub gap : List ℕ → State
gap front = at pendings.Gap front 0 (record { line = 1; column = 1 }) None

-- a byte taken is one more before the place
pub at_passed : (pending next : Pending) (front : List ℕ) (byte from : ℕ) (start : Mark) (bad : Option Mark)
    → passed (at pending front from start bad) byte next ≡ at next (front ++ byte ∷ []) from start bad
at_passed pending next front byte from start bad = simp (length-append, place_after_byte)

-- a byte that begins something is the first before whose place that begins
pub at_begun : (pending next : Pending) (front : List ℕ) (byte from : ℕ) (start : Mark) (bad : Option Mark)
    → begun (at pending front from start bad) byte next ≡ since next (front ++ byte ∷ []) front None
at_begun pending next front byte from start bad = simp (length-append, place_after_byte)

-- what isn't gone on with ends, and the rest goes on where nothing is pending
pub run_settled : (s : State) (rest : List ℕ) → stops (continues s.pending) rest ≡ true → run s rest ≡ and_then (ended s s.pending) (run (settled s) rest)
unfolding run
run_settled s [] stopped = refl
run_settled s (byte ∷ rest) stopped =
    let off : continues s.pending byte ≡ false = not-true _ stopped in rw off refl

-- where nothing is pending, what was kept of an earlier token doesn't count
abbrev sees_same : (front rest : List ℕ) → ℕ → Mark → Option Mark → Type 0
sees_same front rest from start bad = run (at pendings.Gap front from start bad) rest ≡ run (gap front) rest

-- what is seen from a step on, before these bytes
abbrev pub follow : List ℕ → Step → Run
follow rest step = and_then step.seen (run step.state rest)

by_cond : (rest : List ℕ) (b : Bool) (x x' y y' : Step) → follow rest x ≡ follow rest x' → follow rest y ≡ follow rest y' → follow rest (cond b x y) ≡ follow rest (cond b x' y')
by_cond rest true x x' y y' p q = p
by_cond rest false x x' y y' p q = q

by_sign : (front rest : List ℕ) (byte from : ℕ) (start : Mark) (bad : Option Mark) (sign : Option TheSign)
    → follow rest (sign_taken (at pendings.Gap front from start bad) byte sign) ≡ follow rest (sign_taken (gap front) byte sign)
by_sign front rest byte from start bad None = refl
by_sign front rest byte from start bad (Some sign) = refl

pub run_gap : (front rest : List ℕ) (from : ℕ) (start : Mark) (bad : Option Mark) → sees_same front rest from start bad
unfolding run
run_gap front [] from start bad = refl
run_gap front (byte ∷ rest) from start bad =
    let same : run (passed (at pendings.Gap front from start bad) byte pendings.Gap) rest ≡ run (passed (gap front) byte pendings.Gap) rest =
    ap (λ s. run s rest) (at_passed pendings.Gap pendings.Gap front byte from start bad)
    ∙ run_gap (front ++ byte ∷ []) rest from start bad
    ∙ ap (λ s. run s rest) (sym (at_passed pendings.Gap pendings.Gap front byte 0 (record { line = 1; column = 1 }) None)) in
    by_cond rest (is_symbol_byte byte) _ _ _ _ refl
    (by_cond rest (is_separator byte) _ _ _ _ same
    (by_cond rest (byte == 58) _ _ _ _ refl
    (by_cond rest (is_quote byte) _ _ _ _ refl
    (by_cond rest (byte == 35) _ _ _ _ refl
    (by_cond rest (byte == 47) _ _ _ _ refl (by_sign front rest byte from start bad (sign_of byte)))))))

-- what isn't gone on with ends, and the rest goes on where nothing is pending and nothing is kept
pub run_ended : (pending : Pending) (front : List ℕ) (from : ℕ) (start : Mark) (bad : Option Mark) (rest : List ℕ)
    → stops (continues pending) rest ≡ true
    → run (at pending front from start bad) rest ≡ and_then (ended (at pending front from start bad) pending) (run (gap front) rest)
run_ended pending front from start bad rest stopped =
    run_settled (at pending front from start bad) rest stopped
    ∙ ap (and_then (ended (at pending front from start bad) pending)) (run_gap front rest from start bad)

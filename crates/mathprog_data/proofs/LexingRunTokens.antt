-- What the lexer sees of signs, symbols and what is begun and not whole.
use Rattle.mathprog_data.proofs.Common.{◌≡◌, ℕ, List, [], ◌∷◌, ◌++◌, length, None, Some, refl, ap, ◌∙◌, list_all, and_parts, append_assoc, Kind, Span, Token, Pending, place_after, is_symbol_byte, SignToken, BareToken, IsWhole, sign_bytes, begun, opened, sign_taken, token_of, silent, run, and_then}
use Rattle.mathprog_data.specs.declared.lexeme.Sign.{Sign as TheSign}
use Rattle.mathprog_data.specs.declared.lexeme.Sign.TheVariants as signs
use Rattle.mathprog_data.specs.declared.lexer.Kind.TheVariants.{Sign, Bare}
use Rattle.mathprog_data.specs.declared.lexer.pending.Pending.TheVariants as pendings
use Rattle.mathprog_data.proofs.LexingSteps.{since, gap, follow, at_passed, at_begun, run_ended, run_gap}
use Rattle.mathprog_data.proofs.LexingRunGaps.{GoesOn, through}

-- a token of this kind that is spelled so after these bytes
abbrev pub span : Kind → (front bytes : List ℕ) → Span
span kind front bytes = record { kind = kind; from = length front; to = length (front ++ bytes); at = place_after front }

-- of these bytes the lexer sees this token, and goes on after them
abbrev pub SeesToken : Kind → (front bytes rest : List ℕ) → Type 0
SeesToken kind front bytes rest = run (gap front) (bytes ++ rest) ≡ and_then (Token (span kind front bytes)) (run (gap (front ++ bytes)) rest)

-- a byte with which something begins
pub begins : (pending : Pending) (front rest : List ℕ) (byte : ℕ) → opened (gap front) byte ≡ silent (begun (gap front) byte pending)
    → run (gap front) (byte ∷ rest) ≡ run (since pending (front ++ byte ∷ []) front None) rest
unfolding run
begins pending front rest byte e =
    ap (follow rest) e ∙ ap (λ s. run s rest) (at_begun pendings.Gap pending front byte 0 (record { line = 1; column = 1 }) None)

-- a sign of one byte
one_byte : (sign : TheSign) (front rest : List ℕ) (byte : ℕ) → opened (gap front) byte ≡ sign_taken (gap front) byte (Some sign)
    → SeesToken (Sign sign) front (byte ∷ []) rest
unfolding run
one_byte sign front rest byte e =
    ap (follow rest) e
    ∙ ap (λ s. and_then (token_of s (Sign sign)) (run s rest)) (at_begun pendings.Gap pendings.Gap front byte 0 (record { line = 1; column = 1 }) None)
    ∙ ap (and_then (Token (span (Sign sign) front (byte ∷ [])))) (run_gap (front ++ byte ∷ []) rest (length front) (place_after front) None)

gives : (front rest : List ℕ) → SeesToken (Sign signs.Gives) front (58 ∷ 61 ∷ []) rest
unfolding run
gives front rest =
    begins pendings.Colon front (61 ∷ rest) 58 refl
    ∙ ap (λ s. and_then (token_of s (Sign signs.Gives)) (run s rest)) (at_passed pendings.Colon pendings.Gap (front ++ 58 ∷ []) 61 (length front) (place_after front) None)
    ∙ ap (λ f. and_then (token_of (since pendings.Gap f front None) (Sign signs.Gives)) (run (since pendings.Gap f front None) rest)) (append_assoc front (58 ∷ []) (61 ∷ []))
    ∙ ap (and_then (Token (span (Sign signs.Gives) front (58 ∷ 61 ∷ [])))) (run_gap (front ++ 58 ∷ 61 ∷ []) rest (length front) (place_after front) None)

pub run_sign : (sign : TheSign) (front rest : List ℕ) → IsWhole (SignToken sign) rest → SeesToken (Sign sign) front (sign_bytes sign) rest
run_sign signs.Semicolon front rest whole = one_byte signs.Semicolon front rest 59 refl
run_sign signs.Comma front rest whole = one_byte signs.Comma front rest 44 refl
run_sign signs.Colon front rest whole =
    begins pendings.Colon front rest 58 refl ∙ run_ended pendings.Colon (front ++ 58 ∷ []) (length front) (place_after front) None rest whole
run_sign signs.Gives front rest whole = gives front rest
run_sign signs.OpenBracket front rest whole = one_byte signs.OpenBracket front rest 91 refl
run_sign signs.CloseBracket front rest whole = one_byte signs.CloseBracket front rest 93 refl
run_sign signs.OpenParen front rest whole = one_byte signs.OpenParen front rest 40 refl
run_sign signs.CloseParen front rest whole = one_byte signs.CloseParen front rest 41 refl
run_sign signs.Star front rest whole = one_byte signs.Star front rest 42 refl

bare_goes_on : GoesOn is_symbol_byte pendings.Bare
unfolding run
bare_goes_on front byte rest from start bad e =
    rw e (ap (λ s. run s rest) (at_passed pendings.Bare pendings.Bare front byte from start bad))

pub run_bare : (front bytes rest : List ℕ) → IsWhole (BareToken bytes) rest → SeesToken Bare front bytes rest
run_bare front [] rest whole = absurd (whole.0 refl)
run_bare front (byte ∷ bytes) rest whole =
    let parts = and_parts (is_symbol_byte byte) (list_all is_symbol_byte bytes) whole.1 in
    begins pendings.Bare front (bytes ++ rest) byte (rw parts.0 refl)
    ∙ through is_symbol_byte pendings.Bare bare_goes_on bytes (front ++ byte ∷ []) rest (length front) (place_after front) None parts.1
    ∙ ap (λ f. run (since pendings.Bare f front None) rest) (append_assoc front (byte ∷ []) bytes)
    ∙ run_ended pendings.Bare (front ++ byte ∷ bytes) (length front) (place_after front) None rest whole.2

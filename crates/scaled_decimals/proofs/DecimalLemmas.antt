-- The number that the parts of a text write.
use Rattle.scaled_decimals.proofs.Common.{◌≡◌, ℕ, ◌+◌, ◌*◌, ◌<◌, ◌≤◌, ◌^◌, List, true, false, Bool, not, cond, eqb, ltb, ℤ, pow-add, sym, refl, ap, ap₂, ◌∙◌, arith, Result, Ok, Err, lit<, min, unsigned_abs, IfOk, mul_comm, ltb-false, DecFault, NotNumber, TooLarge, mantissa, raised, lowered, numerator, denominator, billionths, is_above, is_rounded, with_sign, read_ratio, decimal_of, Reads, nearest, NumberText, Spells, is_minus, IsKept}
use Rattle.scaled_decimals.proofs.RatioLemmas.{ltb-scale, nearest_within}
use Rattle.scaled_decimals.proofs.DigitLemmas.{ten_pos}
use Rattle.scaled_decimals.proofs.FractionLemmas.{unsigned_abs-with_sign}

answer : Bool → Bool → ℕ → Bool → Result (ℤ × Bool) DecFault
answer negative above q rounded = cond above (Err TooLarge) (Ok (with_sign negative q, rounded))

pub decimal_ratio : (p : NumberText) → read_ratio (is_minus p.sign) (mantissa p * 10 ^ (9 + raised p)) (10 ^ lowered p) ≡ decimal_of p
unfolding numerator denominator answer
decimal_ratio p =
    let top : mantissa p * 10 ^ (9 + raised p) ≡ 10 ^ 9 * (mantissa p * 10 ^ raised p) = ap (λ k. mantissa p * k) (pow-add 10 9 (raised p)) ∙ omega arith in
    let left : 10 ^ 24 * 10 ^ lowered p ≡ 10 ^ 15 * 10 ^ lowered p * 10 ^ 9 = omega arith in
    let right : 10 ^ 9 * (mantissa p * 10 ^ raised p) ≡ mantissa p * 10 ^ raised p * 10 ^ 9 = mul_comm (10 ^ 9) (mantissa p * 10 ^ raised p) in
    let above : ltb (10 ^ 24 * 10 ^ lowered p) (10 ^ 9 * (mantissa p * 10 ^ raised p)) ≡ ltb (10 ^ 15 * 10 ^ lowered p) (mantissa p * 10 ^ raised p) =
    ap₂ ltb left right ∙ ltb-scale (10 ^ 15 * 10 ^ lowered p) (mantissa p * 10 ^ raised p) (10 ^ 9) (lit< tt) in
    ap (λ n. read_ratio (is_minus p.sign) n (10 ^ lowered p)) top
    ∙ ap (λ a. answer (is_minus p.sign) a (nearest (10 ^ 9 * (mantissa p * 10 ^ raised p)) (10 ^ lowered p)) (not (eqb (nearest (10 ^ 9 * (mantissa p * 10 ^ raised p)) (10 ^ lowered p) * 10 ^ lowered p) (10 ^ 9 * (mantissa p * 10 ^ raised p))))) above

pub decimal_from : (p : NumberText) (negative : Bool) (a b : ℕ) → negative ≡ is_minus p.sign → a ≡ 9 + raised p → b ≡ lowered p → read_ratio negative (mantissa p * 10 ^ a) (10 ^ b) ≡ decimal_of p
decimal_from p negative a b sign up down =
    ap₂ (λ s k. read_ratio s (mantissa p * 10 ^ k) (10 ^ b)) sign up ∙ ap (λ k. read_ratio (is_minus p.sign) (mantissa p * 10 ^ (9 + raised p)) (10 ^ k)) down ∙ decimal_ratio p

pub kept-exact : (n : ℕ) → IsKept (2 ^ 99) n n
kept-exact n = record { same = λ small. refl; large = λ big. big }

pub kept-capped : (n e : ℕ) → n < 2 ^ 66 → IsKept (2 ^ 99) (n + e) (n + min e (2 ^ 127))
kept-capped n e few = record { same = λ small. omega arith; large = λ big. omega arith }

answered : (p : NumberText) (text : List ℕ) (b : Bool) (v : ℤ × Bool) (r : Result (ℤ × Bool) DecFault) → is_above p ≡ b → Spells p text → r ≡ cond b (Err TooLarge) (Ok v) → decimal_of p ≡ cond b (Err TooLarge) (Ok v) → Reads text r
answered p text true v (Ok x) above is e d = let no : Ok x ≡ Err TooLarge = e in cc
answered p text true v (Err TooLarge) above is e d = (p, is, above)
answered p text true v (Err NotNumber) above is e d = let no : NotNumber ≡ TooLarge = cc in absurd cc
answered p text false v (Ok x) above is e d = (p, is, d ∙ sym e)
answered p text false v (Err x) above is e d = let no : Err x ≡ Ok v = e in cc

-- the answer that a number reads as is right
pub Reads-from : (p : NumberText) (text : List ℕ) (r : Result (ℤ × Bool) DecFault) → Spells p text → r ≡ decimal_of p → Reads text r
Reads-from p text r is e = answered p text (is_above p) (with_sign (is_minus p.sign) (billionths p), is_rounded p) r refl is e refl

-- a number that isn't above the limit has 10^24 billionths at most
pub billionths_within : (p : NumberText) → is_above p ≡ false → billionths p ≤ 10 ^ 24
unfolding denominator
billionths_within p e =
    let within = ltb-false (10 ^ 15 * denominator p) (numerator p) e in
    nearest_within (10 ^ 9 * numerator p) (denominator p) (10 ^ 24) (ten_pos (lowered p)) (omega arith)

bounded : (p : NumberText) (b : Bool) (r : Result (ℤ × Bool) DecFault) → is_above p ≡ b → r ≡ cond b (Err TooLarge) (Ok (with_sign (is_minus p.sign) (billionths p), is_rounded p)) → IfOk r (λ v. unsigned_abs v.0 ≤ 10 ^ 24)
bounded p b (Err x) above e = tt
bounded p true (Ok v) above e = let no : Ok v ≡ Err TooLarge = e in cc
bounded p false (Ok v) above e =
    let same : v ≡ (with_sign (is_minus p.sign) (billionths p), is_rounded p) = cc in
    let size : unsigned_abs v.0 ≡ billionths p = ap (λ (w : ℤ × Bool). unsigned_abs w.0) same ∙ unsigned_abs-with_sign (is_minus p.sign) (billionths p) in
    let within = billionths_within p above in
    omega arith

pub IfOk-bound : (p : NumberText) (r : Result (ℤ × Bool) DecFault) → r ≡ decimal_of p → IfOk r (λ v. unsigned_abs v.0 ≤ 10 ^ 24)
IfOk-bound p r e = bounded p (is_above p) r refl e

-- The digits before and after the point are one number.
use Rattle.scaled_decimals.proofs.Common.{◌≡◌, ℕ, List, ◌+◌, ◌++◌, ◌^◌, ◌<◌, Bool, length, true, false, cond, arith, sym, ap, ap₂, ◌∙◌, subst, min, mantissa, raised, lowered, number_of, continued, NumberText, fraction_digits, exponent_digits, is_lowering, IsHead, IsKept}
use Rattle.scaled_decimals.proofs.DecimalLemmas.{decimal_from, kept-exact, kept-capped}
use Rattle.scaled_decimals.proofs.DigitLemmas.{continued-zero, continued-append}
use Rattle.scaled_decimals.proofs.HeadLemmas.{IsHead-none}
use Rattle.scaled_decimals.proofs.reading.decimal.Goals as goal

pub extended-requires-clause-digits : goal.extended-requires-clause-digits
extended-requires-clause-digits c = c.requires.whole

pub extended-head-requires-clause-digits : goal.extended-head-requires-clause-digits
extended-head-requires-clause-digits c = c.requires.places

-- the mantissa, of the two runs of digits
all : (p : NumberText) (whole places : List ℕ) → whole ≡ p.whole → places ≡ fraction_digits p.fraction → continued (continued 0 whole) places ≡ mantissa p
all p whole places w f =
    sym (continued-append 0 whole places) ∙ continued-zero (whole ++ places) ∙ ap₂ (λ x y. number_of (x ++ y)) w f

-- the powers of ten, by the sign of the exponent
raised-is : (p : NumberText) (lowering : Bool) (power : List ℕ) → lowering ≡ is_lowering p.exponent → power ≡ exponent_digits p.exponent → raised p ≡ cond lowering 0 (number_of power)
raised-is p lowering power s d = ap₂ (λ b ds. cond b 0 (number_of ds)) (sym s) (sym d)

lowered-is : (p : NumberText) (lowering : Bool) (places power : List ℕ) → lowering ≡ is_lowering p.exponent → places ≡ fraction_digits p.fraction → power ≡ exponent_digits p.exponent → lowered p ≡ length places + cond lowering (number_of power) 0
lowered-is p lowering places power s f d = ap₂ (λ b ds. length (fraction_digits p.fraction) + cond b (number_of ds) 0) (sym s) (sym d) ∙ ap (λ ds. length ds + cond lowering (number_of power) 0) (sym f)

capped-is : (power : List ℕ) (capped : ℕ) → capped ≡ min (continued 0 power) (2 ^ 127) → min (number_of power) (2 ^ 127) ≡ capped
capped-is power capped e = ap (λ n. min n (2 ^ 127)) (sym (continued-zero power)) ∙ sym e

pub returns-then-parts : goal.returns-then-parts
returns-then-parts c =
    λ p is.
    let places = c.args.parts.places.now in
    let power = c.args.parts.power.now in
    let head : IsHead c.extended-head.result (mantissa p) =
    subst (λ (m : ℕ). IsHead c.extended-head.result m) (all p c.args.parts.whole.now places is.whole is.places)
    (c.extended-head.ensures.head (continued 0 c.args.parts.whole.now) (c.extended.ensures.head 0 IsHead-none)) in
    let few : length places < 2 ^ 66 = omega (arith, c.ranges.parts) in
    let down : IsKept (2 ^ 99) (length places + number_of power) (length places + c.capped_number-power.result) =
    subst (λ (k : ℕ). IsKept (2 ^ 99) (length places + number_of power) (length places + k)) (capped-is power c.capped_number-power.result c.capped_number-power.ensures) (kept-capped (length places) (number_of power) few) in
    let minus = sym c.if-parts.true ∙ is.lowering in
    c.scaled.ensures (mantissa p) 9 (length places + number_of power) head (kept-exact 9) down
    ∙ decimal_from p c.args.parts.negative 9 (length places + number_of power) is.negative
    (ap (λ k. 9 + k) (sym (raised-is p true power minus is.power))) (sym (lowered-is p true places power minus is.places is.power))

pub returns-else-parts : goal.returns-else-parts
returns-else-parts c =
    λ p is.
    let places = c.args.parts.places.now in
    let power = c.args.parts.power.now in
    let head : IsHead c.extended-head.result (mantissa p) =
    subst (λ (m : ℕ). IsHead c.extended-head.result m) (all p c.args.parts.whole.now places is.whole is.places)
    (c.extended-head.ensures.head (continued 0 c.args.parts.whole.now) (c.extended.ensures.head 0 IsHead-none)) in
    let nine : 9 < 2 ^ 66 = omega arith in
    let up : IsKept (2 ^ 99) (9 + number_of power) (9 + c.capped_number-power.result) =
    subst (λ (k : ℕ). IsKept (2 ^ 99) (9 + number_of power) (9 + k)) (capped-is power c.capped_number-power.result c.capped_number-power.ensures) (kept-capped 9 (number_of power) nine) in
    let plus = sym c.if-parts.false ∙ is.lowering in
    let bottom : length places ≡ lowered p = omega (arith, lowered-is p false places power plus is.places is.power) in
    c.scaled-else-parts.ensures (mantissa p) (9 + number_of power) (length places) head up (kept-exact (length places))
    ∙ decimal_from p c.args.parts.negative (9 + number_of power) (length places) is.negative
    (ap (λ k. 9 + k) (sym (raised-is p false power plus is.power))) bottom

-- A quotient whose product with the divisor is the number.
use Rattle.int_tableau.proofs.Common.{◌≡◌, ℤ, pos, sym, ap, ap₂, ◌∙◌, subst, arith, ◌*ℤ◌, ◌∣◌, unsigned_abs, int_div, ◌<ℤ◌, ◌≤ℤ◌, dvd-mul_left, ints, unsigned_abs-mul, gcd_of, dvd-gcd_of, gcd_of-dvd_left, pos-unsigned_abs, int_div-mul, *ℤ_cancel, nonzero_of_pos}
use Rattle.std.proofs.lemmas.Nat.Gcd.{dvd_antisymm, dvd_refl}

-- the divisor divides the number
divides : (q d n : ℤ) → q *ℤ d ≡ n → unsigned_abs d ∣ unsigned_abs n
divides q d n e = subst (λ m. unsigned_abs d ∣ m) (sym (unsigned_abs-mul q d) ∙ ap unsigned_abs e) (dvd-mul_left (unsigned_abs d) (unsigned_abs q))

pub guessed_quotient : (q d n : ℤ) → pos 0 <ℤ d → q *ℤ d ≡ n → int_div n d ≡ q
guessed_quotient q d n h e =
    let size : pos (unsigned_abs d) ≡ d = pos-unsigned_abs d (omega (arith, ints, h)) in
    *ℤ_cancel (int_div n d) q d (nonzero_of_pos d h)
    (ap₂ (λ x y. int_div n x *ℤ y) (sym size) (sym size) ∙ int_div-mul n (unsigned_abs d) (divides q d n e) ∙ sym e)

pub guessed_divisor : (q d n : ℤ) → pos 0 ≤ℤ d → q *ℤ d ≡ n → d ≡ pos (gcd_of (unsigned_abs d) (unsigned_abs n))
guessed_divisor q d n h e =
    sym (pos-unsigned_abs d h)
    ∙ ap pos (dvd_antisymm (dvd-gcd_of (unsigned_abs d) (unsigned_abs d) (unsigned_abs n) (dvd_refl (unsigned_abs d)) (divides q d n e)) (gcd_of-dvd_left (unsigned_abs d) (unsigned_abs n)))

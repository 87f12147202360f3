-- The first digits of a number, with one more digit after them.
use Rattle.scaled_decimals.proofs.Common.{◌≡◌, ℕ, ◌+◌, ◌*◌, ◌^◌, ◌<◌, ◌≤◌, false, Bool, not, eqb, refl, ap, ap₂, ◌∙◌, inl, inr, arith, ◌||◌, cases_lt, nat_tests, pow-suc, IsHead, Head}
use Rattle.std.proofs.Math.Numerals.{add-one}

-- no digits write 0
pub IsHead-none : IsHead (record { value = 0; dropped = 0; rest = false }) 0
IsHead-none = record { tail = 0; digits = refl; short = omega arith; rest = refl; full = λ some. absurd (omega arith) }

-- without left out digits the head is the number
pub IsHead-whole : (h : Head) (m : ℕ) → h.dropped ≡ 0 → IsHead h m → m ≡ h.value
IsHead-whole h m e is =
    let one : 10 ^ h.dropped ≡ 1 = ap (λ k. 10 ^ k) e in
    let more : h.value * 10 ^ h.dropped ≡ h.value * 1 = ap (λ k. h.value * k) one in
    let short = is.short in
    let digits = is.digits in
    omega arith

not-zero-more : (r : Bool) (t d : ℕ) → r ≡ not (eqb t 0) → (r || not (eqb d 0)) ≡ not (eqb (t * 10 + d) 0)
not-zero-more r t d e = grind (arith, nat_tests)

pub IsHead-dropped : (h g : Head) (m d : ℕ) → d < 10 → (h.dropped ≡ 0 → 10 ^ 36 ≤ h.value) → g.value ≡ h.value → g.dropped ≡ h.dropped + 1 → g.rest ≡ (h.rest || not (eqb d 0)) → IsHead h m → IsHead g (m * 10 + d)
IsHead-dropped h g m d digit enough value dropped rest is =
    let ten : 10 ^ g.dropped ≡ 10 ^ h.dropped * 10 = ap (λ k. 10 ^ k) (dropped ∙ add-one h.dropped) ∙ pow-suc 10 h.dropped in
    let more : g.value * 10 ^ g.dropped ≡ h.value * (10 ^ h.dropped * 10) = ap₂ (λ x y. x * y) value ten in
    let short = is.short in
    let digits = is.digits in
    record {
      tail = is.tail * 10 + d;
      digits = omega arith;
      short = omega arith;
      rest = rest ∙ not-zero-more h.rest is.tail d is.rest;
      full = λ some. elim (cases_lt 0 h.dropped) [ inl more ↦ let big = is.full more in omega arith | inr none ↦ let big = enough (omega arith) in omega arith ];
    }

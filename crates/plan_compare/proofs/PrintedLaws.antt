-- A number of millionths over a million prints as that number.
use Rattle.plan_compare.proofs.Common.{◌≡◌, ℕ, ◌<◌, ◌^◌, ℤ, pos, negsuc, ◌+ℤ◌, ◌-ℤ◌, ◌*ℤ◌, ◌<ℤ◌, ◌≤ℤ◌, neg_ℤ, Bool, true, false, List, Some, refl, arith, if◌then◌else◌, ints, FitsSigned, IsTrue, ◌↔◌, w128, InRange, in_range, InRange-from_test, Rational, lowest, ≤ℤ_cancel, ring, millionths, millionths_text, number_or, both_near, million, million_nonzero}
use Rattle.std.specs.Int.Signed.{mag}
use Rattle.exact_num.proofs.RationalLaws.{lowest-IsLowest, lowest-cross}

-- twice a whole number between -1 and 1
none : (k d : ℤ) → pos 0 <ℤ d → ((k *ℤ d) +ℤ (k *ℤ d)) ≤ℤ d → neg_ℤ d ≤ℤ ((k *ℤ d) +ℤ (k *ℤ d)) → k ≡ pos 0
none k d positive up low =
    let twice : (k +ℤ k) *ℤ d ≡ (k *ℤ d) +ℤ (k *ℤ d) = simp ring in
    let one : pos 1 *ℤ d ≡ d = omega (arith, ints) in
    let less_one : neg_ℤ (pos 1) *ℤ d ≡ neg_ℤ d = omega (arith, ints) in
    let most = ≤ℤ_cancel (k +ℤ k) (pos 1) d positive (omega (arith, ints)) in
    let least = ≤ℤ_cancel (neg_ℤ (pos 1)) (k +ℤ k) d positive (omega (arith, ints)) in
    omega (arith, ints)

pub printed-back : (z : ℤ) → millionths (lowest z million) ≡ z
printed-back z =
    let x : Rational = lowest z million in
    let is = lowest-IsLowest z million million_nonzero in
    let positive : pos 0 <ℤ x.bottom = is.positive in
    let near = both_near x positive in
    let cross : x.top *ℤ million ≡ z *ℤ x.bottom = lowest-cross z million million_nonzero in
    let apart : millionths x *ℤ x.bottom -ℤ million *ℤ x.top ≡ (millionths x -ℤ z) *ℤ x.bottom =
    let left : million *ℤ x.top ≡ x.top *ℤ million = simp ring in
    let right : (millionths x -ℤ z) *ℤ x.bottom ≡ millionths x *ℤ x.bottom -ℤ z *ℤ x.bottom = simp ring in
    omega (arith, ints, left, right, cross) in
    let same : millionths x -ℤ z ≡ pos 0 = none (millionths x -ℤ z) x.bottom positive (omega (arith, ints, near.0, apart)) (omega (arith, ints, near.1, apart)) in
    omega (arith, ints, same)

-- the text of a number that fits, and of one that doesn't
pub fitting-text : (word : List ℕ) (z : ℤ) → in_range z ≡ true → number_or word (Some z) ≡ millionths_text z
fitting-text word z h = by (in_range z) h
  where
    by : (b : Bool) → b ≡ true → (if b then millionths_text z else word) ≡ millionths_text z
    by true h = refl
    by false h = absurd (cc h)

pub wide-text : (word : List ℕ) (z : ℤ) → in_range z ≡ false → number_or word (Some z) ≡ word
wide-text word z h = by (in_range z) h
  where
    by : (b : Bool) → b ≡ false → (if b then millionths_text z else word) ≡ word
    by true h = absurd (cc h)
    by false h = refl

-- the test of a number
pub fits-from : (b : Bool) (z : ℤ) → (IsTrue b ↔ InRange z) → b ≡ true → InRange z
fits-from b z fits h = fits.0 h

pub fits-not : (b : Bool) (z : ℤ) → (IsTrue b ↔ InRange z) → b ≡ false → in_range z ≡ false
fits-not b z fits h = by (in_range z) refl
  where
    by : (test : Bool) → in_range z ≡ test → test ≡ false
    by true is = absurd (let yes : b ≡ true = fits.1 (InRange-from_test z is) in cc (yes, h))
    by false is = refl

-- a number of 128 bits with a sign
pub fits-signed : (z : ℤ) → mag z < 2 ^ 127 → FitsSigned w128 z
fits-signed (pos n) h = let below : n < 2 ^ 127 = h in omega (arith, ints)
fits-signed (negsuc n) h = let below : n < 2 ^ 127 = h in omega (arith, ints)

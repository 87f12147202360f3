-- A value rounded down isn't above it, and one rounded up isn't below it.
use Rattle.std.proofs.Common.{◌≡◌, ◌≢◌, ◌<◌, ◌≤◌, ◌*◌, ◌^◌, ℤ, pos, negsuc, ◌+ℤ◌, ◌-ℤ◌, ◌*ℤ◌, ◌<ℤ◌, ◌≤ℤ◌, neg_ℤ, nat_lt, Bool, true, false, Option, Some, None, refl, ap, sym, subst, ◌∙◌, inl, inr, ◌⊎◌, arith, if◌then◌else◌}
use Rattle.std.specs.Prelude.{unsigned_abs, FitsSigned, IsTrue, ◌↔◌}
use Rattle.std.specs.Int.{w128}
use Rattle.std.specs.Int.Signed.{mag}
use Rattle.std.specs.Cmp.{int_ranks}
use Rattle.std.specs.Option.{option_and_then, unwrap_or}
use Rattle.std.specs.Ordering.{is_gt, is_lt, int_cmp, MatchOrdering}
use Rattle.std.specs.declared.cmp.Ordering.{Ordering}
use Rattle.std.specs.declared.cmp.Ordering.TheVariants.{Less, Equal, Greater}
use Rattle.std.proofs.lemmas.Int.{ints}
use Rattle.exact_num.specs.Range.{InRange, in_range}
use Rattle.exact_num.proofs.RangeLaws.{InRange-from_test}
use Rattle.exact_num.specs.Rational.{Rational, order_of, pair}
use Rattle.exact_num.proofs.Integers.{*ℤ-≤ℤ, ≤ℤ_cancel}
use Rattle.exact_num.proofs.RationalLaws.{lowest-IsLowest, lowest-cross}
use Rattle.exact_num.proofs.Ring.{products, ring}
use Rattle.scaled_decimals.specs.PrintedPlaces.{millionths}
use Rattle.scaled_decimals.proofs.PrintedLaws.{near}
use Rattle.value_millionths.specs.Outwards.{down, fitting, lowered, parts, raised, up}
use Rattle.value_millionths.specs.Shown.{shown, size_of}

abbrev pub million : ℤ
million = pos 1000000

pub million_nonzero : million ≢ pos 0
million_nonzero h = cc h

-- ---- the nearest number

-- a number that there is is the rounded value
pub shown-is : (x : Rational) (z : ℤ) → shown x ≡ Some z → z ≡ millionths x
shown-is x z h = by (nat_lt (size_of x) (2 ^ 127)) h
  where
    by : (b : Bool) → (if b then Some (millionths x) else None) ≡ Some z → z ≡ millionths x
    by true h = sym (ap (λ (o : Option ℤ). unwrap_or o z) h)
    by false h = absurd (cc h)

pub fitting-is : (y z : ℤ) → fitting y ≡ Some z → z ≡ y
fitting-is y z h = by (in_range y) h
  where
    by : (b : Bool) → (if b then Some y else None) ≡ Some z → z ≡ y
    by true h = sym (ap (λ (o : Option ℤ). unwrap_or o z) h)
    by false h = absurd (cc h)

-- twice the millionths of n / d, and twice a million n
near-cases : (z den : ℤ) → pos 0 <ℤ den → 2 * unsigned_abs z ≤ unsigned_abs den → ((z +ℤ z) ≤ℤ den) × (neg_ℤ den ≤ℤ (z +ℤ z))
near-cases (pos n) (pos d) h within = (omega (arith, ints), omega (arith, ints))
near-cases (negsuc n) (pos d) h within = (omega (arith, ints), omega (arith, ints))
near-cases z (negsuc d) h within = absurd (omega (arith, ints))

abbrev pub rounded : Rational → ℤ
rounded x = millionths (pair x.top x.bottom)

pub both_near : (x : Rational) → pos 0 <ℤ x.bottom
    → (((rounded x *ℤ x.bottom -ℤ million *ℤ x.top) +ℤ (rounded x *ℤ x.bottom -ℤ million *ℤ x.top)) ≤ℤ x.bottom) × (neg_ℤ x.bottom ≤ℤ ((rounded x *ℤ x.bottom -ℤ million *ℤ x.top) +ℤ (rounded x *ℤ x.bottom -ℤ million *ℤ x.top)))
both_near x positive = near-cases (rounded x *ℤ x.bottom -ℤ million *ℤ x.top) x.bottom positive (near x.top x.bottom positive)

-- ---- one less, and one more

one-less : (n b t : ℤ) → pos 0 <ℤ b → ((n *ℤ b -ℤ million *ℤ t) +ℤ (n *ℤ b -ℤ million *ℤ t)) ≤ℤ b → ((n +ℤ negsuc 0) *ℤ b) ≤ℤ (million *ℤ t)
one-less n b t positive within =
    let minus : n +ℤ negsuc 0 ≡ n -ℤ pos 1 = omega (arith, ints) in
    let moved : (n +ℤ negsuc 0) *ℤ b ≡ (n -ℤ pos 1) *ℤ b = ap (λ (k : ℤ). k *ℤ b) minus in
    let spread : (n -ℤ pos 1) *ℤ b ≡ n *ℤ b -ℤ b = simp ring in
    omega (arith, ints)

one-more : (n b t : ℤ) → pos 0 <ℤ b → neg_ℤ b ≤ℤ ((n *ℤ b -ℤ million *ℤ t) +ℤ (n *ℤ b -ℤ million *ℤ t)) → (million *ℤ t) ≤ℤ ((n +ℤ pos 1) *ℤ b)
one-more n b t positive within =
    let spread : (n +ℤ pos 1) *ℤ b ≡ n *ℤ b +ℤ b = simp ring in
    omega (arith, ints)

-- ---- how so many millionths stand to a value

not-greater : (a b : ℤ) (o : Ordering) → MatchOrdering o (a <ℤ b) (a ≡ b) (b <ℤ a) → is_gt o ≡ false → a ≤ℤ b
not-greater a b Less h k = omega (arith, ints)
not-greater a b Equal h k = omega (arith, ints)
not-greater a b Greater h k = absurd (cc k)

not-less : (a b : ℤ) (o : Ordering) → MatchOrdering o (a <ℤ b) (a ≡ b) (b <ℤ a) → is_lt o ≡ false → b ≤ℤ a
not-less a b Less h k = absurd (cc k)
not-less a b Equal h k = omega (arith, ints)
not-less a b Greater h k = omega (arith, ints)

module _ (n : ℤ) (x : Rational) where
  here_positive : pos 0 <ℤ (parts n).bottom
  here_positive = (lowest-IsLowest n million million_nonzero).positive

  -- n millionths and the value over one denominator
  left_side : ((parts n).top *ℤ x.bottom) *ℤ million ≡ (n *ℤ x.bottom) *ℤ (parts n).bottom
  left_side =
      let cross : (parts n).top *ℤ million ≡ n *ℤ (parts n).bottom = lowest-cross n million million_nonzero in
      let first : ((parts n).top *ℤ x.bottom) *ℤ million ≡ ((parts n).top *ℤ million) *ℤ x.bottom = simp products in
      let moved : ((parts n).top *ℤ million) *ℤ x.bottom ≡ (n *ℤ (parts n).bottom) *ℤ x.bottom = ap (λ (t : ℤ). t *ℤ x.bottom) cross in
      let last : (n *ℤ (parts n).bottom) *ℤ x.bottom ≡ (n *ℤ x.bottom) *ℤ (parts n).bottom = simp products in
      omega (arith, ints, first, moved, last)

  right_side : (x.top *ℤ (parts n).bottom) *ℤ million ≡ (million *ℤ x.top) *ℤ (parts n).bottom
  right_side = simp products

  not-above : is_gt (order_of (parts n) x) ≡ false → (n *ℤ x.bottom) ≤ℤ (million *ℤ x.top)
  unfolding order_of
  not-above h =
      let below : ((parts n).top *ℤ x.bottom) ≤ℤ (x.top *ℤ (parts n).bottom) =
      not-greater ((parts n).top *ℤ x.bottom) (x.top *ℤ (parts n).bottom) (int_cmp ((parts n).top *ℤ x.bottom) (x.top *ℤ (parts n).bottom)) (int_ranks ((parts n).top *ℤ x.bottom) (x.top *ℤ (parts n).bottom)) h in
      let times = *ℤ-≤ℤ ((parts n).top *ℤ x.bottom) (x.top *ℤ (parts n).bottom) million (omega (arith, ints)) below in
      ≤ℤ_cancel (n *ℤ x.bottom) (million *ℤ x.top) (parts n).bottom here_positive (omega (arith, ints, times, left_side, right_side))

  not-below : is_lt (order_of (parts n) x) ≡ false → (million *ℤ x.top) ≤ℤ (n *ℤ x.bottom)
  unfolding order_of
  not-below h =
      let above : (x.top *ℤ (parts n).bottom) ≤ℤ ((parts n).top *ℤ x.bottom) =
      not-less ((parts n).top *ℤ x.bottom) (x.top *ℤ (parts n).bottom) (int_cmp ((parts n).top *ℤ x.bottom) (x.top *ℤ (parts n).bottom)) (int_ranks ((parts n).top *ℤ x.bottom) (x.top *ℤ (parts n).bottom)) h in
      let times = *ℤ-≤ℤ (x.top *ℤ (parts n).bottom) ((parts n).top *ℤ x.bottom) million (omega (arith, ints)) above in
      ≤ℤ_cancel (million *ℤ x.top) (n *ℤ x.bottom) (parts n).bottom here_positive (omega (arith, ints, times, left_side, right_side))

-- ---- the laws

some-is : (n z : ℤ) → Some n ≡ Some z → z ≡ n
some-is n z h = sym (ap (λ (o : Option ℤ). unwrap_or o z) h)

module _ (x : Rational) (z : ℤ) (positive : pos 0 <ℤ x.bottom) where
  lowered-below : (n : ℤ) → shown x ≡ Some n → lowered x n ≡ Some z → (z *ℤ x.bottom) ≤ℤ (million *ℤ x.top)
  lowered-below n is told = fits (in_range n) told
    where
      side : (g : Bool) → is_gt (order_of (parts n) x) ≡ g → (if g then fitting (n +ℤ negsuc 0) else Some n) ≡ Some z → (z *ℤ x.bottom) ≤ℤ (million *ℤ x.top)
      side true at h =
          let nearest : n ≡ rounded x = shown-is x n is in
          let less = one-less (rounded x) x.bottom x.top positive (both_near x positive).0 in
          subst (λ (k : ℤ). (k *ℤ x.bottom) ≤ℤ (million *ℤ x.top)) (sym (fitting-is (n +ℤ negsuc 0) z h))
          (subst (λ (k : ℤ). ((k +ℤ negsuc 0) *ℤ x.bottom) ≤ℤ (million *ℤ x.top)) (sym nearest) less)
      side false at h = subst (λ (k : ℤ). (k *ℤ x.bottom) ≤ℤ (million *ℤ x.top)) (sym (some-is n z h)) (not-above n x at)

      fits : (b : Bool) → (if b then (if is_gt (order_of (parts n) x) then fitting (n +ℤ negsuc 0) else Some n) else None) ≡ Some z → (z *ℤ x.bottom) ≤ℤ (million *ℤ x.top)
      fits false h = absurd (cc h)
      fits true h = side (is_gt (order_of (parts n) x)) refl h

  raised-above : (n : ℤ) → shown x ≡ Some n → raised x n ≡ Some z → (million *ℤ x.top) ≤ℤ (z *ℤ x.bottom)
  raised-above n is told = fits (in_range n) told
    where
      side : (l : Bool) → is_lt (order_of (parts n) x) ≡ l → (if l then fitting (n +ℤ pos 1) else Some n) ≡ Some z → (million *ℤ x.top) ≤ℤ (z *ℤ x.bottom)
      side true at h =
          let nearest : n ≡ rounded x = shown-is x n is in
          let more = one-more (rounded x) x.bottom x.top positive (both_near x positive).1 in
          subst (λ (k : ℤ). (million *ℤ x.top) ≤ℤ (k *ℤ x.bottom)) (sym (fitting-is (n +ℤ pos 1) z h))
          (subst (λ (k : ℤ). (million *ℤ x.top) ≤ℤ ((k +ℤ pos 1) *ℤ x.bottom)) (sym nearest) more)
      side false at h = subst (λ (k : ℤ). (million *ℤ x.top) ≤ℤ (k *ℤ x.bottom)) (sym (some-is n z h)) (not-below n x at)

      fits : (b : Bool) → (if b then (if is_lt (order_of (parts n) x) then fitting (n +ℤ pos 1) else Some n) else None) ≡ Some z → (million *ℤ x.top) ≤ℤ (z *ℤ x.bottom)
      fits false h = absurd (cc h)
      fits true h = side (is_lt (order_of (parts n) x)) refl h

  down-of : (o : Option ℤ) → shown x ≡ o → option_and_then (lowered x) o ≡ Some z → (z *ℤ x.bottom) ≤ℤ (million *ℤ x.top)
  down-of None is h = absurd (cc h)
  down-of (Some n) is h = lowered-below n is h

  up-of : (o : Option ℤ) → shown x ≡ o → option_and_then (raised x) o ≡ Some z → (million *ℤ x.top) ≤ℤ (z *ℤ x.bottom)
  up-of None is h = absurd (cc h)
  up-of (Some n) is h = raised-above n is h

pub down-below : (x : Rational) (z : ℤ) → pos 0 <ℤ x.bottom → down x ≡ Some z → (z *ℤ x.bottom) ≤ℤ (pos 1000000 *ℤ x.top)
down-below x z positive told = down-of x z positive (shown x) refl told

pub up-above : (x : Rational) (z : ℤ) → pos 0 <ℤ x.bottom → up x ≡ Some z → (pos 1000000 *ℤ x.top) ≤ℤ (z *ℤ x.bottom)
up-above x z positive told = up-of x z positive (shown x) refl told

-- ---- the tests of the code

-- what the test of a number says
pub fits-from : (b : Bool) (z : ℤ) → (IsTrue b ↔ InRange z) → b ≡ true → InRange z
fits-from b z fits h = fits.0 h

pub fits-not : (b : Bool) (z : ℤ) → (IsTrue b ↔ InRange z) → b ≡ false → in_range z ≡ false
fits-not b z fits h = by (in_range z) refl
  where
    by : (test : Bool) → in_range z ≡ test → test ≡ false
    by true is = absurd (let yes : b ≡ true = fits.1 (InRange-from_test z is) in cc (yes, h))
    by false is = refl

-- a number of 128 bits with a sign
pub fits-signed : (z : ℤ) → mag z < 2 ^ 127 → FitsSigned w128 z
fits-signed (pos n) h = let below : n < 2 ^ 127 = h in omega (arith, ints)
fits-signed (negsuc n) h = let below : n < 2 ^ 127 = h in omega (arith, ints)

-- an order that isn't one of three
pub is-gt-of : (o : Ordering) → (o ≡ Less) ⊎ (o ≡ Equal) → is_gt o ≡ false
is-gt-of o (inl h) = ap is_gt h
is-gt-of o (inr h) = ap is_gt h

pub is-lt-of : (o : Ordering) → (o ≡ Equal) ⊎ (o ≡ Greater) → is_lt o ≡ false
is-lt-of o (inl h) = ap is_lt h
is-lt-of o (inr h) = ap is_lt h

module _ (x : Rational) (n : ℤ) where
  pub lowered-none : in_range n ≡ false → None ≡ lowered x n
  lowered-none h = sym (ap (λ (b : Bool). if b then (if is_gt (order_of (parts n) x) then fitting (n +ℤ negsuc 0) else Some n) else None) h)

  lowered-is : (g : Bool) → in_range n ≡ true → is_gt (order_of (parts n) x) ≡ g → lowered x n ≡ (if g then fitting (n +ℤ negsuc 0) else Some n)
  lowered-is g h k =
      ap (λ (b : Bool). if b then (if is_gt (order_of (parts n) x) then fitting (n +ℤ negsuc 0) else Some n) else None) h
      ∙ ap (λ (b : Bool). if b then fitting (n +ℤ negsuc 0) else Some n) k

  pub lowered-less : in_range n ≡ true → Greater ≡ order_of (parts n) x → fitting (n +ℤ negsuc 0) ≡ lowered x n
  lowered-less h k = sym (lowered-is true h (ap is_gt (sym k)))

  pub lowered-same : in_range n ≡ true → is_gt (order_of (parts n) x) ≡ false → Some n ≡ lowered x n
  lowered-same h k = sym (lowered-is false h k)

  pub raised-none : in_range n ≡ false → None ≡ raised x n
  raised-none h = sym (ap (λ (b : Bool). if b then (if is_lt (order_of (parts n) x) then fitting (n +ℤ pos 1) else Some n) else None) h)

  raised-is : (l : Bool) → in_range n ≡ true → is_lt (order_of (parts n) x) ≡ l → raised x n ≡ (if l then fitting (n +ℤ pos 1) else Some n)
  raised-is l h k =
      ap (λ (b : Bool). if b then (if is_lt (order_of (parts n) x) then fitting (n +ℤ pos 1) else Some n) else None) h
      ∙ ap (λ (b : Bool). if b then fitting (n +ℤ pos 1) else Some n) k

  pub raised-more : in_range n ≡ true → Less ≡ order_of (parts n) x → fitting (n +ℤ pos 1) ≡ raised x n
  raised-more h k = sym (raised-is true h (ap is_lt (sym k)))

  pub raised-same : in_range n ≡ true → is_lt (order_of (parts n) x) ≡ false → Some n ≡ raised x n
  raised-same h k = sym (raised-is false h k)

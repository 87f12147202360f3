-- Products of numbers below 2^63, and their differences; and a list that is written has no more entries than columns before the next.
use Rattle.int_tableau.proofs.Common.{◌≡◌, ◌*◌, ◌<◌, ◌≤◌, ◌+◌, ◌^◌, ℕ, suc, ℤ, true, List, [], ◌∷◌, length, sym, ◌∙◌, subst, arith, ◌-ℤ◌, ◌*ℤ◌, unsigned_abs, ints, unsigned_abs-mul, InRange, all_fit, in_range-yes, goes_on, less_formed, IsSparse, head_column}
use Rattle.std.proofs.lemmas.Nat.{mul-le, mul-lt}
use Rattle.int_tableau.proofs.HeadLaws.{IsMerging}
use Rattle.int_tableau.proofs.EntryLaws.{head_column-from}

pub product_below : (a x : ℤ) → unsigned_abs a < 2 ^ 63 → unsigned_abs x < 2 ^ 63 → unsigned_abs (a *ℤ x) < 2 ^ 126
product_below a x h k =
    let both : unsigned_abs a * unsigned_abs x < 2 ^ 63 * 2 ^ 63 = mul-lt (unsigned_abs a) (unsigned_abs x) (2 ^ 63) (2 ^ 63) h k in
    subst (λ n. n < 2 ^ 126) (sym (unsigned_abs-mul a x)) both

pub in_range_below : (z : ℤ) → unsigned_abs z < 2 ^ 126 → InRange z
in_range_below z h = omega arith

difference_fits : (p q : ℤ) → unsigned_abs p < 2 ^ 126 → unsigned_abs q < 2 ^ 126 → InRange (p -ℤ q)
difference_fits p q h k = omega (arith, ints)

pub less_fits : (a b x y : ℤ) → unsigned_abs a < 2 ^ 63 → unsigned_abs b < 2 ^ 63 → unsigned_abs x < 2 ^ 63 → unsigned_abs y < 2 ^ 63 → InRange ((a *ℤ x) -ℤ (b *ℤ y))
less_fits a b x y ha hb hx hy = difference_fits (a *ℤ x) (b *ℤ y) (product_below a x ha hx) (product_below b y hb hy)

-- the numbers formed
pub formed_fit : (a b x y : ℤ) → unsigned_abs a < 2 ^ 63 → unsigned_abs b < 2 ^ 63 → unsigned_abs x < 2 ^ 63 → unsigned_abs y < 2 ^ 63 → all_fit (less_formed a b x y) ≡ true
formed_fit a b x y ha hb hx hy =
    goes_on a b x y (in_range-yes (a *ℤ x) (in_range_below (a *ℤ x) (product_below a x ha hx))) (in_range-yes (b *ℤ y) (in_range_below (b *ℤ y) (product_below b y hb hy)))
    ∙ in_range-yes ((a *ℤ x) -ℤ (b *ℤ y)) (less_fits a b x y ha hb hx hy)

-- ---- products that are sure to have 64 bits

-- by bounds of the two numbers
pub sure_at : (a b x y : ℤ) (m n : ℕ) → unsigned_abs x ≤ m → unsigned_abs y ≤ n → (unsigned_abs a * m) + (unsigned_abs b * n) < 2 ^ 63 → (unsigned_abs a * unsigned_abs x) + (unsigned_abs b * unsigned_abs y) < 2 ^ 63
sure_at a b x y m n h k below =
    let first : unsigned_abs a * unsigned_abs x ≤ unsigned_abs a * m = mul-le (unsigned_abs a) (unsigned_abs x) (unsigned_abs a) m (omega arith) h in
    let second : unsigned_abs b * unsigned_abs y ≤ unsigned_abs b * n = mul-le (unsigned_abs b) (unsigned_abs y) (unsigned_abs b) n (omega arith) k in
    omega arith

pub sure_first : (a b x y : ℤ) → (unsigned_abs a * unsigned_abs x) + (unsigned_abs b * unsigned_abs y) < 2 ^ 63 → unsigned_abs (a *ℤ x) < 2 ^ 63
sure_first a b x y h = subst (λ n. n < 2 ^ 63) (sym (unsigned_abs-mul a x)) (omega arith)

pub sure_second : (a b x y : ℤ) → (unsigned_abs a * unsigned_abs x) + (unsigned_abs b * unsigned_abs y) < 2 ^ 63 → unsigned_abs (b *ℤ y) < 2 ^ 63
sure_second a b x y h = subst (λ n. n < 2 ^ 63) (sym (unsigned_abs-mul b y)) (omega arith)

pub sure_less : (a b x y : ℤ) → (unsigned_abs a * unsigned_abs x) + (unsigned_abs b * unsigned_abs y) < 2 ^ 63 → unsigned_abs ((a *ℤ x) -ℤ (b *ℤ y)) < 2 ^ 63
sure_less a b x y h =
    let both : unsigned_abs (a *ℤ x) + unsigned_abs (b *ℤ y) < 2 ^ 63 = omega (arith, unsigned_abs-mul a x, unsigned_abs-mul b y, h) in
    between (a *ℤ x) (b *ℤ y) both
  where
    between : (p q : ℤ) → unsigned_abs p + unsigned_abs q < 2 ^ 63 → unsigned_abs (p -ℤ q) < 2 ^ 63
    between p q h = omega (arith, ints)

pub sure_fits : (a b x y : ℤ) → (unsigned_abs a * unsigned_abs x) + (unsigned_abs b * unsigned_abs y) < 2 ^ 63 → all_fit (less_formed a b x y) ≡ true
sure_fits a b x y h =
    goes_on a b x y (in_range-yes (a *ℤ x) (in_range_short (a *ℤ x) (sure_first a b x y h))) (in_range-yes (b *ℤ y) (in_range_short (b *ℤ y) (sure_second a b x y h)))
    ∙ in_range-yes ((a *ℤ x) -ℤ (b *ℤ y)) (in_range_short ((a *ℤ x) -ℤ (b *ℤ y)) (sure_less a b x y h))
  where
    in_range_short : (z : ℤ) → unsigned_abs z < 2 ^ 63 → InRange z
    in_range_short z h = omega arith

-- ---- how many entries there are

pub entries_below : (low high : ℕ) (es : List (ℕ × ℤ)) → low ≤ high → IsSparse low high es → low + length es ≤ high
entries_below low high [] h s = omega arith
entries_below low high (e ∷ es) h s =
    let from : low ≤ e.0 = s.0.from in
    let below : e.0 < high = s.0.below in
    let rest : suc e.0 + length es ≤ high = entries_below (suc e.0) high es (omega arith) s.1 in
    omega arith

-- what is written before column d has room for one more among n
pub room_left : (n d : ℕ) (a b : ℤ) (xs ys ls rs out : List (ℕ × ℤ)) → IsMerging n a b xs ys ls rs out → d ≡ head_column n ls → d < n → length out < n
room_left n d a b xs ys ls rs out m e h =
    let written : 0 + length out ≤ m.column = entries_below 0 m.column out (omega arith) m.merge.written in
    let from : m.column ≤ head_column n ls = head_column-from m.column n ls m.merge.left m.within in
    omega (arith, e)

pub room_right : (n d : ℕ) (a b : ℤ) (xs ys ls rs out : List (ℕ × ℤ)) → IsMerging n a b xs ys ls rs out → d ≡ head_column n rs → d < n → length out < n
room_right n d a b xs ys ls rs out m e h =
    let written : 0 + length out ≤ m.column = entries_below 0 m.column out (omega arith) m.merge.written in
    let from : m.column ≤ head_column n rs = head_column-from m.column n rs m.merge.right m.within in
    omega (arith, e)

-- Numbers that fit by their sizes.
use Rattle.simplex_core.proofs.Common.{◌≡◌, ◌≢◌, ℕ, suc, ◌+◌, ◌*◌, ◌^◌, ◌<◌, ◌≤◌, ℤ, ◌-ℤ◌, ◌*ℤ◌, Bool, true, false, List, [], ◌∷◌, ◌++◌, ◌&&◌, length, get_or, take, drop, arith, refl, sym, ap, ◌∙◌, if◌then◌else◌, unsigned_abs, flat_map, ints, unsigned_abs-mul, mul-le, get_or-take, get_or-drop, length-take-le, length-drop, div-le_self, gcd_of, in_range, all_fit, unsigned_abs-int_div, in_range-yes, all_fit-nil, all_fit-cons, all_fit-append, is_zero, Line, entry_of, numbers_of, factor_of, less_formed, all_less_formed, cleared_formed, Tableau, line_of, no_line, others, pivot_formed, AllWithin}
use Rattle.std.specs.Cmp.Derive.{both_true}

-- ---- one number

pub size-times : (a x : ℤ) (m n : ℕ) → unsigned_abs a ≤ m → unsigned_abs x ≤ n → unsigned_abs (a *ℤ x) ≤ m * n
size-times a x m n h k = omega (arith, unsigned_abs-mul a x, mul-le (unsigned_abs a) (unsigned_abs x) m n h k)

pub size-minus : (u v : ℤ) → unsigned_abs (u -ℤ v) ≤ unsigned_abs u + unsigned_abs v
size-minus u v = omega (arith, ints)

-- one product, another, and their difference
pub less_formed-fits : (a b x y : ℤ) (k l m n : ℕ) → unsigned_abs a ≤ k → unsigned_abs b ≤ l → unsigned_abs x ≤ m → unsigned_abs y ≤ n → (k * m) + (l * n) < 2 ^ 127 → all_fit (less_formed a b x y) ≡ true
less_formed-fits a b x y k l m n ha hb hx hy h =
    let first : unsigned_abs (a *ℤ x) ≤ k * m = size-times a x k m ha hx in
    let second : unsigned_abs (b *ℤ y) ≤ l * n = size-times b y l n hb hy in
    let third : unsigned_abs ((a *ℤ x) -ℤ (b *ℤ y)) ≤ unsigned_abs (a *ℤ x) + unsigned_abs (b *ℤ y) = size-minus (a *ℤ x) (b *ℤ y) in
    joined (a *ℤ x) ((b *ℤ y) ∷ ((a *ℤ x) -ℤ (b *ℤ y)) ∷ []) (in_range-yes (a *ℤ x) (omega arith))
    (joined (b *ℤ y) (((a *ℤ x) -ℤ (b *ℤ y)) ∷ []) (in_range-yes (b *ℤ y) (omega arith))
    (joined ((a *ℤ x) -ℤ (b *ℤ y)) [] (in_range-yes ((a *ℤ x) -ℤ (b *ℤ y)) (omega arith)) all_fit-nil))
  where
    joined : (z : ℤ) (zs : List ℤ) → in_range z ≡ true → all_fit zs ≡ true → all_fit (z ∷ zs) ≡ true
    joined z zs e f = all_fit-cons z zs ∙ both_true e f

-- ---- lines

all_less_formed-fits : (a b : ℤ) (xs ys : List ℤ) (k l m n : ℕ) → unsigned_abs a ≤ k → unsigned_abs b ≤ l → AllWithin m xs → AllWithin n ys → (k * m) + (l * n) < 2 ^ 127 → all_fit (all_less_formed a b xs ys) ≡ true
all_less_formed-fits a b [] ys k l m n ha hb hx hy h = all_fit-nil
all_less_formed-fits a b (x ∷ xs) [] k l m n ha hb hx hy h = all_fit-nil
all_less_formed-fits a b (x ∷ xs) (y ∷ ys) k l m n ha hb hx hy h =
    all_fit-append (less_formed a b x y) (all_less_formed a b xs ys)
    ∙ both_true (less_formed-fits a b x y k l m n ha hb hx.0 hy.0 h) (all_less_formed-fits a b xs ys k l m n ha hb hx.1 hy.1 h)

size-factor_of : (p q : ℤ) → unsigned_abs (factor_of p q) ≤ unsigned_abs p
size-factor_of p q = omega (arith, unsigned_abs-int_div p (gcd_of (unsigned_abs p) (unsigned_abs q)), div-le_self (unsigned_abs p) (gcd_of (unsigned_abs p) (unsigned_abs q)))

pub cleared_formed-fits : (c : ℕ) (pivot line : Line) (m n p q : ℕ) → AllWithin m (numbers_of line) → AllWithin n (numbers_of pivot) → unsigned_abs (entry_of pivot c) ≤ p → unsigned_abs (entry_of line c) ≤ q → (p * m) + (q * n) < 2 ^ 127
    → all_fit (cleared_formed c pivot line) ≡ true
cleared_formed-fits c pivot line m n p q hm hn hp hq h = cases (is_zero (entry_of line c))
  where
    first : unsigned_abs (factor_of (entry_of pivot c) (entry_of line c)) ≤ p
    first = omega (arith, size-factor_of (entry_of pivot c) (entry_of line c))

    second : unsigned_abs (factor_of (entry_of line c) (entry_of pivot c)) ≤ q
    second = omega (arith, size-factor_of (entry_of line c) (entry_of pivot c))

    cases : (t : Bool) → all_fit (if t then [] else all_less_formed (factor_of (entry_of pivot c) (entry_of line c)) (factor_of (entry_of line c) (entry_of pivot c)) (numbers_of line) (numbers_of pivot)) ≡ true
    cases true = all_fit-nil
    cases false = all_less_formed-fits (factor_of (entry_of pivot c) (entry_of line c)) (factor_of (entry_of line c) (entry_of pivot c)) (numbers_of line) (numbers_of pivot) p q m n first second hm hn h

-- ---- the whole pivot

flat-fits : (f : Line → List ℤ) (ls : List Line) → ((i : ℕ) → i < length ls → all_fit (f (get_or ls i no_line)) ≡ true) → all_fit (flat_map f ls) ≡ true
flat-fits f [] h = all_fit-nil
flat-fits f (l ∷ ls) h = all_fit-append (f l) (flat_map f ls) ∙ both_true (h 0 (omega arith)) (flat-fits f ls (λ i k. h (suc i) (omega arith)))

flat_map-append : (f : Line → List ℤ) (ls ms : List Line) → all_fit (flat_map f (ls ++ ms)) ≡ (all_fit (flat_map f ls) && all_fit (flat_map f ms))
flat_map-append f [] ms = ap (λ t. t && all_fit (flat_map f ms)) (sym all_fit-nil)
flat_map-append f (l ∷ ls) ms =
    all_fit-append (f l) (flat_map f (ls ++ ms))
    ∙ ap (λ t. all_fit (f l) && t) (flat_map-append f ls ms)
    ∙ associated (all_fit (f l)) (all_fit (flat_map f ls)) (all_fit (flat_map f ms))
    ∙ ap (λ t. t && all_fit (flat_map f ms)) (sym (all_fit-append (f l) (flat_map f ls)))
  where
    associated : (a b c : Bool) → (a && (b && c)) ≡ ((a && b) && c)
    associated true b c = refl
    associated false b c = refl

others-fit : (f : Line → List ℤ) (r : ℕ) (ls : List Line) → r < length ls → ((i : ℕ) → i < length ls → i ≢ r → all_fit (f (get_or ls i no_line)) ≡ true) → all_fit (flat_map f (others r ls)) ≡ true
others-fit f r ls k h =
    flat_map-append f (take r ls) (drop (r + 1) ls)
    ∙ both_true
    (flat-fits f (take r ls) (λ i j.
    let below : i < r = omega (arith, j, length-take-le r ls (omega arith)) in
    ap (λ (l : Line). all_fit (f l)) (get_or-take r ls i no_line below) ∙ h i (omega arith) (λ e. absurd (omega (arith, e)))))
    (flat-fits f (drop (r + 1) ls) (λ i j.
    ap (λ (l : Line). all_fit (f l)) (get_or-drop (r + 1) ls i no_line) ∙ h ((r + 1) + i) (omega (arith, j, length-drop (r + 1) ls)) (λ e. absurd (omega (arith, e)))))

-- sizes of the lines and of their entries in the column
pub pivot_formed-fits : (r c : ℕ) (t : Tableau) (size entry : ℕ → ℕ) → r < length t.lines
    → ((i : ℕ) → i < length t.lines → AllWithin (size i) (numbers_of (line_of t i))) → ((i : ℕ) → i < length t.lines → unsigned_abs (entry_of (line_of t i) c) ≤ entry i)
    → ((i : ℕ) → i < length t.lines → i ≢ r → (entry r * size i) + (entry i * size r) < 2 ^ 127)
    → all_fit (pivot_formed r c t) ≡ true
pivot_formed-fits r c t size entry k sizes entries narrow =
    others-fit (cleared_formed c (line_of t r)) r t.lines k (λ i j n.
    cleared_formed-fits c (line_of t r) (line_of t i) (size i) (size r) (entry r) (entry i) (sizes i j) (sizes r k) (entries r k) (entries i j) (narrow i j n))

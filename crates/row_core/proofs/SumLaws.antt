-- Sums of terms over one denominator and over another, and how they go with gathering.
use Rattle.row_core.proofs.Common.{◌≡◌, ℤ, pos, neg_ℤ, ◌+ℤ◌, ◌*ℤ◌, List, [], ◌∷◌, ◌++◌, refl, sym, ap, ap₂, ◌∙◌, subst, arith, ◌<ℤ◌, Ordering, Less, Equal, Greater, ints, *ℤ_cancel, nonzero_of_pos, *ℤ_pos, lowest-cross, lowest-IsLowest, ring, products, zero-*ℤ, zero-+ℤ, +ℤ-zero, *ℤ-one, one-*ℤ, *ℤ_assoc, *ℤ_left_comm, +ℤ_left_comm, neg_ℤ-*ℤ, Rational, plus, times, negated, whole, lowest, Var, var_cmp, with_term, gathered_onto, gathered, IsOver, IsSumOver}
use Rattle.row_core.proofs.Orders.{var_cmp_exact}

swap_last : (a b c : ℤ) → (a *ℤ b) *ℤ c ≡ (a *ℤ c) *ℤ b
swap_last a b c = simp products

swap_middle : (a b c d : ℤ) → (a *ℤ b) *ℤ (c *ℤ d) ≡ (a *ℤ c) *ℤ (b *ℤ d)
swap_middle a b c d = simp products

one_positive : pos 0 <ℤ pos 1
one_positive = omega (arith, ints)

-- one number over two denominators
pub IsOver-agree : (s t : ℤ) (c : Rational) (z w : ℤ) → IsOver s c z → IsOver t c w → z *ℤ t ≡ w *ℤ s
IsOver-agree s t c z w p q =
    *ℤ_cancel (z *ℤ t) (w *ℤ s) c.bottom (nonzero_of_pos c.bottom p.positive)
    (swap_last z t c.bottom ∙ ap (λ y. y *ℤ t) p.cross ∙ swap_last c.top s t ∙ ap (λ y. y *ℤ s) (sym q.cross) ∙ swap_last w c.bottom s)

sum_scaled : (z y rest t : ℤ) → ((z *ℤ y) +ℤ rest) *ℤ t ≡ ((z *ℤ t) *ℤ y) +ℤ (rest *ℤ t)
sum_scaled z y rest t = simp ring

-- one sum over two denominators
pub IsSumOver-agree : (s t : ℤ) (x : Var → ℤ) (terms : List (Var × Rational)) (n m : ℤ) → IsSumOver s x terms n → IsSumOver t x terms m → n *ℤ t ≡ m *ℤ s
IsSumOver-agree s t x [] n m p q = ap (λ y. y *ℤ t) p ∙ zero-*ℤ t ∙ sym (zero-*ℤ s) ∙ ap (λ y. y *ℤ s) (sym q)
IsSumOver-agree s t x (term ∷ terms) n m (z, rest, over, sum, is) (w, rest', over', sum', is') =
    ap (λ y. y *ℤ t) is ∙ sum_scaled z (x term.0) rest t
    ∙ ap₂ (λ y u. (y *ℤ x term.0) +ℤ u) (IsOver-agree s t term.1 z w over over') (IsSumOver-agree s t x terms rest rest' sum sum')
    ∙ sym (ap (λ y. y *ℤ s) is' ∙ sum_scaled w (x term.0) rest' s)

-- ---- gathering

cross_sum : (s a b c d z w : ℤ) → z *ℤ b ≡ a *ℤ s → w *ℤ d ≡ c *ℤ s → (z +ℤ w) *ℤ (b *ℤ d) ≡ (a *ℤ d +ℤ c *ℤ b) *ℤ s
cross_sum s a b c d z w p q =
    let first : (z +ℤ w) *ℤ (b *ℤ d) ≡ (z *ℤ b) *ℤ d +ℤ (w *ℤ d) *ℤ b = simp ring in
    let last : (a *ℤ s) *ℤ d +ℤ (c *ℤ s) *ℤ b ≡ (a *ℤ d +ℤ c *ℤ b) *ℤ s = simp ring in
    first ∙ ap₂ (λ y u. y *ℤ d +ℤ u *ℤ b) p q ∙ last

-- n/d over s, from the numbers multiplied out
pub IsOver-lowest : (s n d z : ℤ) → pos 0 <ℤ d → z *ℤ d ≡ n *ℤ s → IsOver s (lowest n d) z
IsOver-lowest s n d z positive cross =
    let nonzero = nonzero_of_pos d positive in
    record {
      positive = (lowest-IsLowest n d nonzero).positive;
      cross =
          *ℤ_cancel (z *ℤ (lowest n d).bottom) ((lowest n d).top *ℤ s) d nonzero
          (swap_last z (lowest n d).bottom d ∙ ap (λ y. y *ℤ (lowest n d).bottom) cross ∙ swap_last n s (lowest n d).bottom
          ∙ ap (λ y. y *ℤ s) (sym (lowest-cross n d nonzero)) ∙ swap_last (lowest n d).top d s);
    }

-- numbers over one denominator are added
pub IsOver-plus : (s : ℤ) (c e : Rational) (z w : ℤ) → IsOver s c z → IsOver s e w → IsOver s (plus c e) (z +ℤ w)
unfolding plus
IsOver-plus s c e z w p q =
    IsOver-lowest s (c.top *ℤ e.bottom +ℤ e.top *ℤ c.bottom) (c.bottom *ℤ e.bottom) (z +ℤ w) (*ℤ_pos c.bottom e.bottom p.positive q.positive)
    (cross_sum s c.top c.bottom e.top e.bottom z w p.cross q.cross)

-- numbers over two denominators are multiplied
pub IsOver-times : (s t : ℤ) (c e : Rational) (z w : ℤ) → IsOver s c z → IsOver t e w → IsOver (s *ℤ t) (times c e) (z *ℤ w)
unfolding times
IsOver-times s t c e z w p q =
    IsOver-lowest (s *ℤ t) (c.top *ℤ e.top) (c.bottom *ℤ e.bottom) (z *ℤ w) (*ℤ_pos c.bottom e.bottom p.positive q.positive)
    (swap_middle z w c.bottom e.bottom ∙ ap₂ (λ y u. y *ℤ u) p.cross q.cross ∙ swap_middle c.top s e.top t)

-- a negative number
pub IsOver-negated : (s : ℤ) (c : Rational) (z : ℤ) → IsOver s c z → IsOver s (negated c) (neg_ℤ z)
IsOver-negated s c z p =
    record { positive = p.positive; cross = neg_ℤ-*ℤ z c.bottom ∙ ap neg_ℤ p.cross ∙ sym (neg_ℤ-*ℤ c.top s) }

-- a number over its own denominator, and n/d over d
pub IsOver-own : (c : Rational) → pos 0 <ℤ c.bottom → IsOver c.bottom c c.top
IsOver-own c positive = record { positive = positive; cross = refl }

pub IsOver-ratio : (n d : ℤ) → pos 0 <ℤ d → IsOver d (lowest n d) n
IsOver-ratio n d positive = IsOver-lowest d n d n positive refl

-- a whole number
pub IsOver-whole : (s n : ℤ) → IsOver s (whole n) (n *ℤ s)
IsOver-whole s n = record { positive = one_positive; cross = *ℤ-one (n *ℤ s) }

-- the same number over a multiple of the denominator
pub IsOver-multiplied : (k s : ℤ) (c : Rational) (z : ℤ) → IsOver s c z → IsOver (k *ℤ s) c (k *ℤ z)
IsOver-multiplied k s c z p =
    record { positive = p.positive; cross = *ℤ_assoc k z c.bottom ∙ ap (λ y. k *ℤ y) p.cross ∙ *ℤ_left_comm k c.top s }

moved : (a b c : ℤ) → (a +ℤ b) +ℤ c ≡ b +ℤ (a +ℤ c)
moved a b c = omega (arith, ints)

added_same : (w z y rest : ℤ) → (z *ℤ y) +ℤ ((w *ℤ y) +ℤ rest) ≡ ((w +ℤ z) *ℤ y) +ℤ rest
added_same w z y rest = simp ring

-- a term more is its value more
pub IsSumOver-with_term : (s : ℤ) (x : Var → ℤ) (new : Var × Rational) (terms : List (Var × Rational)) (z n : ℤ) → IsOver s new.1 z → IsSumOver s x terms n → IsSumOver s x (with_term new terms) ((z *ℤ x new.0) +ℤ n)
IsSumOver-with_term s x new [] z n over sum = (z, n, over, sum, refl)
IsSumOver-with_term s x new (term ∷ terms) z n over (w, rest, over', sum', is) =
    let Placed : Ordering → Type 0 = λ o. IsSumOver s x (elim o [ Less ↦ new ∷ term ∷ terms | Equal ↦ (term.0, plus term.1 new.1) ∷ terms | Greater ↦ term ∷ with_term new terms ]) ((z *ℤ x new.0) +ℤ n) in
    let before : Placed Less = (z, n, over, (w, rest, over', sum', is), refl) in
    let there : var_cmp new.0 term.0 ≡ Equal → Placed Equal =
    λ h. (
      w +ℤ z,
      rest,
      IsOver-plus s term.1 new.1 w z over' over,
      sum',
      ap₂ (λ y u. (z *ℤ y) +ℤ u) (ap x (var_cmp_exact new.0 term.0 h)) is ∙ added_same w z (x term.0) rest,
    ) in
    let after : Placed Greater = (
      w,
      (z *ℤ x new.0) +ℤ rest,
      over',
      IsSumOver-with_term s x new terms z rest over sum',
      ap (λ u. (z *ℤ x new.0) +ℤ u) is ∙ +ℤ_left_comm (z *ℤ x new.0) (w *ℤ x term.0) rest,
    ) in
    let cases : (o : Ordering) → var_cmp new.0 term.0 ≡ o → Placed o = λ o. elim o as (λ p. var_cmp new.0 term.0 ≡ p → Placed p) [ Less ↦ λ h. before | Equal ↦ there | Greater ↦ λ h. after ] in
    cases (var_cmp new.0 term.0) refl

-- terms taken one after another
pub IsSumOver-gathered_onto : (s : ℤ) (x : Var → ℤ) (terms more : List (Var × Rational)) (n m : ℤ) → IsSumOver s x terms n → IsSumOver s x more m → IsSumOver s x (gathered_onto terms more) (m +ℤ n)
IsSumOver-gathered_onto s x terms [] n m p q = subst (IsSumOver s x terms) (sym (ap (λ y. y +ℤ n) q ∙ zero-+ℤ n)) p
IsSumOver-gathered_onto s x terms (new ∷ more) n m p (z, rest, over, sum, is) =
    let all : rest +ℤ ((z *ℤ x new.0) +ℤ n) ≡ m +ℤ n = sym (ap (λ y. y +ℤ n) is ∙ moved (z *ℤ x new.0) rest n) in
    subst (IsSumOver s x (gathered_onto (with_term new terms) more)) all
    (IsSumOver-gathered_onto s x (with_term new terms) more ((z *ℤ x new.0) +ℤ n) rest (IsSumOver-with_term s x new terms z n over p) sum)

-- gathered terms have the sum of the terms as they are written
pub IsSumOver-gathered : (s : ℤ) (x : Var → ℤ) (written : List (Var × Rational)) (n : ℤ) → IsSumOver s x written n → IsSumOver s x (gathered written) n
IsSumOver-gathered s x written n p = subst (IsSumOver s x (gathered written)) (+ℤ-zero n) (IsSumOver-gathered_onto s x [] written (pos 0) n refl p)

-- ---- terms as an equation writes them

-- 1 and -1
pub IsOver-one : (s : ℤ) → IsOver s (whole (pos 1)) s
IsOver-one s = record { positive = one_positive; cross = *ℤ-one s ∙ sym (one-*ℤ s) }

-- nothing on the right side
pub IsOver-zero : (s : ℤ) → IsOver s (whole (pos 0)) (pos 0)
IsOver-zero s = record { positive = one_positive; cross = zero-*ℤ (pos 1) ∙ sym (zero-*ℤ s) }

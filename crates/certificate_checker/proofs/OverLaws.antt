-- Exact values and whole numbers over one denominator: signs, order and sums.
use Rattle.certificate_checker.proofs.Common.{◌≡◌, ℕ, ◌<◌, ℤ, pos, ◌+ℤ◌, ◌-ℤ◌, ◌*ℤ◌, Bool, true, false, List, [], ◌∷◌, refl, sym, ap, ap₂, ◌∙◌, subst, arith, if◌then◌else◌, ◌<ℤ◌, ◌≤ℤ◌, ◌↔◌, is_eq, is_le, int_cmp, MatchOrdering, Ordering, ints, Rational, whole, order_of, *ℤ_pos, int_cmp-mul, ring, products, zero-*ℤ, zero-+ℤ, Sense, Least, Equal, Most, Var, sum_from, AreOver, is_zero, row_sum, Stands, IsOver, is_zero-fact, sum-IsOver, Stands-times, IsOver-zero, cost_entries, cost_value, cost_of, sum_over}
use Rattle.std.specs.Cmp.{int_ranks}
use Rattle.std.specs.declared.cmp.Ordering.TheVariants.{Less, Equal as Alike, Greater}

-- ---- signs

-- two sides stand as their difference does to 0
Stands-difference : (sense : Sense) (a b : ℤ) → Stands sense (a -ℤ b) (pos 0) ↔ Stands sense a b
Stands-difference Least a b = (λ h. omega (arith, ints), λ h. omega (arith, ints))
Stands-difference Equal a b = (λ h. omega (arith, ints), λ h. omega (arith, ints))
Stands-difference Most a b = (λ h. omega (arith, ints), λ h. omega (arith, ints))

-- the numerator of a value stands to 0 as the whole number over q does
numerator_stands : (sense : Sense) (q : ℤ) (r : Rational) (z : ℤ) → pos 0 <ℤ q → IsOver q r z → Stands sense r.top (pos 0) ↔ Stands sense z (pos 0)
numerator_stands sense q r z positive over =
    let first = Stands-times sense r.top (pos 0) q positive in
    let last = Stands-times sense z (pos 0) r.bottom over.positive in
    let Here : ℤ → ℤ → Type 0 = λ y u. Stands sense y u in
    let right : pos 0 *ℤ q ≡ pos 0 *ℤ r.bottom = zero-*ℤ q ∙ sym (zero-*ℤ r.bottom) in
    let across = λ (h : Here (r.top *ℤ q) (pos 0 *ℤ q)). subst (λ u. Here (z *ℤ r.bottom) u) right (subst (λ y. Here y (pos 0 *ℤ q)) (sym over.cross) h) in
    let back = λ (h : Here (z *ℤ r.bottom) (pos 0 *ℤ r.bottom)). subst (λ u. Here (r.top *ℤ q) u) (sym right) (subst (λ y. Here y (pos 0 *ℤ r.bottom)) over.cross h) in
    (λ h. last.1 (across (first.0 h)), λ h. first.1 (back (last.0 h)))

pub over_stands : (sense : Sense) (q : ℤ) (r : Rational) (a b : ℤ) → pos 0 <ℤ q → IsOver q r (a -ℤ b) → Stands sense r.top (pos 0) ↔ Stands sense a b
over_stands sense q r a b positive over =
    let first = numerator_stands sense q r (a -ℤ b) positive over in
    let last = Stands-difference sense a b in
    (λ h. last.0 (first.0 h), λ h. first.1 (last.1 h))

pub over_nonnegative : (q : ℤ) (r : Rational) (z : ℤ) → pos 0 <ℤ q → IsOver q r z → (pos 0 ≤ℤ r.top) ↔ (pos 0 ≤ℤ z)
over_nonnegative q r z positive over = numerator_stands Least q r z positive over

pub over_nonpositive : (q : ℤ) (r : Rational) (z : ℤ) → pos 0 <ℤ q → IsOver q r z → (r.top ≤ℤ pos 0) ↔ (z ≤ℤ pos 0)
over_nonpositive q r z positive over = numerator_stands Most q r z positive over

-- ---- order

moved : (t q b : ℤ) → (t *ℤ q) *ℤ b ≡ (t *ℤ b) *ℤ q
moved t q b = simp products

swapped : (b c : ℤ) → b *ℤ c ≡ c *ℤ b
swapped b c = simp products

assoc : (z b c : ℤ) → z *ℤ (b *ℤ c) ≡ (z *ℤ b) *ℤ c
assoc z b c = simp products

-- values are ordered as the whole numbers over q
pub over_order : (q : ℤ) (r s : Rational) (y z : ℤ) → pos 0 <ℤ q → IsOver q r y → IsOver q s z → order_of r s ≡ int_cmp y z
unfolding order_of
over_order q r s y z positive p o =
    let left : y *ℤ (r.bottom *ℤ s.bottom) ≡ (r.top *ℤ s.bottom) *ℤ q = assoc y r.bottom s.bottom ∙ ap (λ n. n *ℤ s.bottom) p.cross ∙ moved r.top q s.bottom in
    let right : z *ℤ (r.bottom *ℤ s.bottom) ≡ (s.top *ℤ r.bottom) *ℤ q =
    ap (λ n. z *ℤ n) (swapped r.bottom s.bottom) ∙ assoc z s.bottom r.bottom ∙ ap (λ n. n *ℤ r.bottom) o.cross ∙ moved s.top q r.bottom in
    sym (int_cmp-mul (r.top *ℤ s.bottom) (s.top *ℤ r.bottom) q positive)
    ∙ ap₂ int_cmp (sym left) (sym right)
    ∙ int_cmp-mul y z (r.bottom *ℤ s.bottom) (*ℤ_pos r.bottom s.bottom p.positive o.positive)

-- ---- the cost

cost_sum : (cost : Var → ℤ) (vs : List Var) (x : Var → ℤ) → row_sum x (cost_entries cost vs) ≡ cost_of cost vs x
cost_sum cost [] x = refl
cost_sum cost (v ∷ vs) x = cases (is_zero (cost v)) refl (cost_sum cost vs x)
  where
    none : is_zero (cost v) ≡ true → (rest : ℤ) → rest ≡ (cost v *ℤ x v) +ℤ rest
    none is rest = let nothing : cost v *ℤ x v ≡ pos 0 = ap (λ n. n *ℤ x v) (is_zero-fact (cost v) is) ∙ zero-*ℤ (x v) in omega (arith, ints)

    cases : (b : Bool) → is_zero (cost v) ≡ b → row_sum x (cost_entries cost vs) ≡ cost_of cost vs x → row_sum x (if b then cost_entries cost vs else ((v, cost v) ∷ cost_entries cost vs)) ≡ (cost v *ℤ x v) +ℤ sum_over vs (λ w. cost w *ℤ x w)
    cases true is rest = rest ∙ none is (cost_of cost vs x)
    cases false is rest = ap (λ z. (cost v *ℤ x v) +ℤ z) rest

pub cost-IsOver : (q : ℤ) (x : Var → ℤ) (value : Var → Rational) (cost : Var → ℤ) (vars : List Var) → AreOver q x value → IsOver q (cost_value cost vars value) (cost_of cost vars x)
cost-IsOver q x value cost vars over =
    subst (IsOver q (cost_value cost vars value)) (zero-+ℤ (row_sum x (cost_entries cost vars)) ∙ cost_sum cost vars x)
    (sum-IsOver q x value (whole (pos 0)) (pos 0) (cost_entries cost vars) over (IsOver-zero q))

-- ---- what a comparison of whole numbers says

ranked_equal : (a b : ℤ) (o : Ordering) → MatchOrdering o (a <ℤ b) (a ≡ b) (b <ℤ a) → is_eq o ≡ true → a ≡ b
ranked_equal a b Less h k = absurd (cc k)
ranked_equal a b Alike h k = h
ranked_equal a b Greater h k = absurd (cc k)

pub equal_from : (a b : ℤ) → is_eq (int_cmp a b) ≡ true → a ≡ b
equal_from a b h = ranked_equal a b (int_cmp a b) (int_ranks a b) h

ranked_most : (a b : ℤ) (o : Ordering) → MatchOrdering o (a <ℤ b) (a ≡ b) (b <ℤ a) → is_le o ≡ true → a ≤ℤ b
ranked_most a b Less h k = omega (arith, ints)
ranked_most a b Alike h k = omega (arith, ints)
ranked_most a b Greater h k = absurd (cc k)

pub most_from : (a b : ℤ) → is_le (int_cmp a b) ≡ true → a ≤ℤ b
most_from a b h = ranked_most a b (int_cmp a b) (int_ranks a b) h

pub most_to : (a b : ℤ) → a ≤ℤ b → is_le (int_cmp a b) ≡ true
most_to a b h = cases (int_cmp a b) (int_ranks a b)
  where
    cases : (o : Ordering) → MatchOrdering o (a <ℤ b) (a ≡ b) (b <ℤ a) → is_le o ≡ true
    cases Less k = refl
    cases Alike k = refl
    cases Greater k = absurd (omega (arith, ints))

-- Weak duality.
use Rattle.certificate_checker.proofs.Common.{◌≡◌, ℕ, ◌<◌, ℤ, pos, neg_ℤ, ◌+ℤ◌, ◌*ℤ◌, Bool, true, false, List, [], ◌∷◌, sym, ap, ◌∙◌, subst, arith, ◌<ℤ◌, ◌≤ℤ◌, ints, ≤ℤ-*ℤ, *ℤ-≤ℤ, *ℤ_pos, ring, products, zero-*ℤ, *ℤ_comm, neg_ℤ-*ℤ, Row, RowName, Sense, Least, Equal, Most, Var, kind_is_free, ascends, var_cmp, row_sum, Stands, no_cost, cost_of, AllStand, IsRight, HaveRightSigns, MeetsAll, sum_over, weighted, column_sum, HasVariablesOf, IsSigned, AreSigned, IsWithin, AreWithin, bound_of, Proves, Refutes}
use Rattle.certificate_checker.proofs.SumLaws.{sum_over-same, sum_over-times, sum_over-zero, weighted-by_columns}

-- a factor that is not positive turns the order
turned : (k a b : ℤ) → k ≤ℤ pos 0 → a ≤ℤ b → (k *ℤ b) ≤ℤ (k *ℤ a)
turned k a b h l =
    let m : (neg_ℤ k *ℤ a) ≤ℤ (neg_ℤ k *ℤ b) = ≤ℤ-*ℤ a b (neg_ℤ k) (omega (arith, ints)) l in
    let e = neg_ℤ-*ℤ k a in
    let f = neg_ℤ-*ℤ k b in
    omega (arith, ints)

-- a row with its multiplier
row_within : (sense : Sense) (y sum right : ℤ) → IsSigned sense y → Stands sense sum right → (y *ℤ right) ≤ℤ (y *ℤ sum)
row_within Least y sum right h k = ≤ℤ-*ℤ right sum y h k
row_within Equal y sum right h k = let e : y *ℤ sum ≡ y *ℤ right = ap (λ z. y *ℤ z) k in omega (arith, ints)
row_within Most y sum right h k = turned y sum right h k

pub rows_within : (x : Var → ℤ) (y : RowName → ℤ) (right : Row → ℤ) (rows : List Row) → AreSigned y rows → AllStand right rows x → weighted y right rows ≤ℤ weighted y (λ row. row_sum x row.entries.items) rows
rows_within x y right [] h k = omega (arith, ints)
rows_within x y right (row ∷ rows) h k =
    let first = row_within row.sense (y row.name) (row_sum x row.entries.items) (right row) h.0 k.0 in
    let rest = rows_within x y right rows h.1 k.1 in
    omega (arith, ints)

-- a column with its variable's number
column_within : (free : Bool) (sum cost x : ℤ) → IsWithin free sum cost → IsRight free x → (sum *ℤ x) ≤ℤ (cost *ℤ x)
column_within true sum cost x h k = let e : sum *ℤ x ≡ cost *ℤ x = ap (λ z. z *ℤ x) h in omega (arith, ints)
column_within false sum cost x h k = *ℤ-≤ℤ sum cost x k h

pub columns_within : (vars : List Var) (sum cost x : Var → ℤ) → AreWithin vars sum cost → HaveRightSigns vars x → sum_over vars (λ v. sum v *ℤ x v) ≤ℤ sum_over vars (λ v. cost v *ℤ x v)
columns_within [] sum cost x h k = omega (arith, ints)
columns_within (v ∷ vs) sum cost x h k =
    let first = column_within (kind_is_free v.kind) (sum v) (cost v) (x v) h.0 k.0 in
    let rest = columns_within vs sum cost x h.1 k.1 in
    omega (arith, ints)

swapped : (c s x : ℤ) → (c *ℤ s) *ℤ x ≡ s *ℤ (c *ℤ x)
swapped c s x = simp products

-- with any right sides: the multipliers' sum of them is at most the cost
pub weak_duality : (cost : Var → ℤ) (rows : List Row) (vars : List Var) (s : ℕ) (y : RowName → ℤ) (right : Row → ℤ) (x : Var → ℤ)
    → ascends var_cmp vars ≡ true → HasVariablesOf rows vars → Proves cost rows vars s y → AllStand right rows x → HaveRightSigns vars x
    → weighted y right rows ≤ℤ (pos s *ℤ cost_of cost vars x)
weak_duality cost rows vars s y right x h k proves holds signs =
    let first = rows_within x y right rows proves.signs holds in
    let exchanged = weighted-by_columns x y vars rows h k in
    let last = columns_within vars (column_sum y rows) (λ v. cost v *ℤ pos s) x proves.columns signs in
    let scaled : sum_over vars (λ v. (cost v *ℤ pos s) *ℤ x v) ≡ pos s *ℤ cost_of cost vars x =
    sum_over-same vars (λ v. (cost v *ℤ pos s) *ℤ x v) (λ v. pos s *ℤ (cost v *ℤ x v)) (λ v. swapped (cost v) (pos s) (x v)) ∙ sum_over-times vars (pos s) (λ v. cost v *ℤ x v) in
    omega (arith, ints)

factor_out : (y r q w : ℤ) → (y *ℤ (r *ℤ q)) +ℤ (w *ℤ q) ≡ ((y *ℤ r) +ℤ w) *ℤ q
factor_out y r q w = simp ring

pub weighted-right : (y : RowName → ℤ) (q : ℕ) (rows : List Row) → weighted y (λ row. row.rhs *ℤ pos q) rows ≡ bound_of y rows *ℤ pos q
weighted-right y q [] = sym (zero-*ℤ (pos q))
weighted-right y q (row ∷ rows) = ap (λ z. (y row.name *ℤ (row.rhs *ℤ pos q)) +ℤ z) (weighted-right y q rows) ∙ factor_out (y row.name) row.rhs (pos q) (bound_of y rows)

-- the bound over s is at most the cost over q
pub Proves-bound : (cost : Var → ℤ) (rows : List Row) (vars : List Var) (s : ℕ) (y : RowName → ℤ) (q : ℕ) (x : Var → ℤ)
    → ascends var_cmp vars ≡ true → HasVariablesOf rows vars → Proves cost rows vars s y → MeetsAll rows vars q x
    → (bound_of y rows *ℤ pos q) ≤ℤ (pos s *ℤ cost_of cost vars x)
Proves-bound cost rows vars s y q x h k proves meets =
    subst (λ z. z ≤ℤ (pos s *ℤ cost_of cost vars x)) (weighted-right y q rows)
    (weak_duality cost rows vars s y (λ row. row.rhs *ℤ pos q) x h k proves meets.rows_hold meets.signs)

-- no plan meets the rows
pub Refutes-none : (rows : List Row) (vars : List Var) (s : ℕ) (y : RowName → ℤ) (q : ℕ) (x : Var → ℤ)
    → ascends var_cmp vars ≡ true → HasVariablesOf rows vars → Refutes rows vars s y → ¬ (MeetsAll rows vars q x)
Refutes-none rows vars s y q x h k refutes meets =
    let b : ℤ = bound_of y rows in
    let least : (b *ℤ pos q) ≤ℤ (pos s *ℤ cost_of no_cost vars x) = Proves-bound no_cost rows vars s y q x h k refutes.proves meets in
    let none : cost_of no_cost vars x ≡ pos 0 = sum_over-zero vars (λ v. pos 0 *ℤ x v) (λ v. zero-*ℤ (x v)) in
    let nothing : pos s *ℤ cost_of no_cost vars x ≡ pos 0 = ap (λ z. pos s *ℤ z) none ∙ *ℤ_comm (pos s) (pos 0) ∙ zero-*ℤ (pos s) in
    let size : 0 < q = meets.positive in
    let some : pos 0 <ℤ (b *ℤ pos q) = *ℤ_pos b (pos q) refutes.positive (omega (arith, ints)) in
    omega (arith, ints)

-- With one plan and a direction there is a plan of any lower cost.
use Rattle.certificate_checker.proofs.Common.{◌≡◌, ℕ, suc, ℤ, pos, negsuc, ◌+ℤ◌, ◌-ℤ◌, ◌*ℤ◌, Bool, true, false, List, [], ◌∷◌, sym, ap, ◌∙◌, subst, arith, ◌<ℤ◌, ◌≤ℤ◌, unsigned_abs, ints, ≤ℤ-*ℤ, *ℤ_nonnegative, ring, *ℤ-zero, Row, Sense, Least, Equal, Most, Var, kind_is_free, row_sum, Stands, cost_of, AllStand, IsRight, HaveRightSigns, MeetsAll, sum_over, Descends, CostsLess}

-- the plan moved along the direction
abbrev along : (Var → ℤ) → ℕ → (Var → ℤ) → Var → ℤ
along x t d v = x v +ℤ (pos t *ℤ d v)

entry_step : (n x t d s r : ℤ) → (n *ℤ (x +ℤ (t *ℤ d))) +ℤ (s +ℤ (t *ℤ r)) ≡ ((n *ℤ x) +ℤ s) +ℤ (t *ℤ ((n *ℤ d) +ℤ r))
entry_step n x t d s r = simp ring

row_sum-along : (x : Var → ℤ) (t : ℕ) (d : Var → ℤ) (es : List (Var × ℤ)) → row_sum (along x t d) es ≡ row_sum x es +ℤ (pos t *ℤ row_sum d es)
row_sum-along x t d [] = sym (ap (λ z. pos 0 +ℤ z) (*ℤ-zero (pos t)))
row_sum-along x t d (e ∷ es) = ap (λ z. (e.1 *ℤ along x t d e.0) +ℤ z) (row_sum-along x t d es) ∙ entry_step e.1 (x e.0) (pos t) (d e.0) (row_sum x es) (row_sum d es)

sum_over-along : (vs : List Var) (c x : Var → ℤ) (t : ℕ) (d : Var → ℤ) → sum_over vs (λ v. c v *ℤ along x t d v) ≡ sum_over vs (λ v. c v *ℤ x v) +ℤ (pos t *ℤ sum_over vs (λ v. c v *ℤ d v))
sum_over-along [] c x t d = sym (ap (λ z. pos 0 +ℤ z) (*ℤ-zero (pos t)))
sum_over-along (v ∷ vs) c x t d = ap (λ z. (c v *ℤ along x t d v) +ℤ z) (sum_over-along vs c x t d) ∙ entry_step (c v) (x v) (pos t) (d v) (sum_over vs (λ w. c w *ℤ x w)) (sum_over vs (λ w. c w *ℤ d w))

stands_along : (sense : Sense) (a b right : ℤ) (t : ℕ) → Stands sense a right → Stands sense b (pos 0) → Stands sense (a +ℤ (pos t *ℤ b)) right
stands_along Least a b right t h k = let m = *ℤ_nonnegative (pos t) b (omega (arith, ints)) k in omega (arith, ints)
stands_along Equal a b right t h k = let m : pos t *ℤ b ≡ pos 0 = ap (λ z. pos t *ℤ z) k ∙ *ℤ-zero (pos t) in omega (arith, ints)
stands_along Most a b right t h k =
    let m : (pos t *ℤ b) ≤ℤ (pos t *ℤ pos 0) = ≤ℤ-*ℤ b (pos 0) (pos t) (omega (arith, ints)) k in
    let z = *ℤ-zero (pos t) in
    omega (arith, ints)

all_along : (rows : List Row) (right : Row → ℤ) (x : Var → ℤ) (t : ℕ) (d : Var → ℤ) → AllStand right rows x → AllStand (λ row. pos 0) rows d → AllStand right rows (along x t d)
all_along [] right x t d h k = tt
all_along (row ∷ rows) right x t d h k = (
  subst (λ z. Stands row.sense z (right row)) (sym (row_sum-along x t d row.entries.items)) (stands_along row.sense (row_sum x row.entries.items) (row_sum d row.entries.items) (right row) t h.0 k.0),
  all_along rows right x t d h.1 k.1,
)

right_along : (free : Bool) (a b : ℤ) (t : ℕ) → IsRight free a → IsRight free b → IsRight free (a +ℤ (pos t *ℤ b))
right_along true a b t h k = tt
right_along false a b t h k = let m = *ℤ_nonnegative (pos t) b (omega (arith, ints)) k in omega (arith, ints)

signs_along : (vs : List Var) (x : Var → ℤ) (t : ℕ) (d : Var → ℤ) → HaveRightSigns vs x → HaveRightSigns vs d → HaveRightSigns vs (along x t d)
signs_along [] x t d h k = tt
signs_along (v ∷ vs) x t d h k = (right_along (kind_is_free v.kind) (x v) (d v) t h.0 k.0, signs_along vs x t d h.1 k.1)

-- a falling cost falls below any number
below : (c d n : ℤ) → d <ℤ pos 0 → (c +ℤ (pos (suc (unsigned_abs (c -ℤ n))) *ℤ d)) <ℤ n
below c d n h =
    let t : ℤ = pos (suc (unsigned_abs (c -ℤ n))) in
    let most : d ≤ℤ negsuc 0 = omega (arith, ints) in
    let m : (t *ℤ d) ≤ℤ (t *ℤ negsuc 0) = ≤ℤ-*ℤ d (negsuc 0) t (omega (arith, ints)) most in
    omega (arith, ints)

pub Descends-less : (cost : Var → ℤ) (rows : List Row) (vars : List Var) (d : Var → ℤ) (q : ℕ) (x : Var → ℤ) (n : ℤ) → Descends cost rows vars d → MeetsAll rows vars q x → CostsLess cost rows vars n
Descends-less cost rows vars d q x n descends meets =
    let t : ℕ = suc (unsigned_abs (cost_of cost vars x -ℤ (n *ℤ pos q))) in
    record {
      over = q;
      plan = along x t d;
      meets = record {
        positive = meets.positive;
        rows_hold = all_along rows (λ row. row.rhs *ℤ pos q) x t d meets.rows_hold descends.rows_stand;
        signs = signs_along vars x t d meets.signs descends.signs;
      };
      less = subst (λ z. z <ℤ (n *ℤ pos q)) (sym (sum_over-along vars cost x t d)) (below (cost_of cost vars x) (cost_of cost vars d) (n *ℤ pos q) descends.falls);
    }

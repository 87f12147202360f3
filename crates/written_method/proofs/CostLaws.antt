-- The cost of a plan at an optimal end is the bound of the multipliers, and along the direction of an unbounded end z falls.
use Rattle.written_method.proofs.Common.{◌≡◌, ◌≢◌, ℕ, zero, suc, ◌+◌, ◌<◌, ℤ, pos, neg_ℤ, ◌+ℤ◌, ◌-ℤ◌, ◌*ℤ◌, true, false, Option, Some, None, List, [], ◌∷◌, ◌++◌, length, get_or, arith, refl, sym, ap, ap₂, ◌∙◌, subst, inl, inr, if◌then◌else◌, ◌<ℤ◌, ◌≤ℤ◌, ◌==◌, nat_tests, ints, Rational, whole, *ℤ_cancel, nonzero_of_pos, *ℤ_pos, ring, zero-*ℤ, *ℤ-zero, one-*ℤ, *ℤ-one, Var, number_at, row_sum, IsOver, factor_pos, IsOver-lowest, IsOver-zero, IsShaped, IsBasic, right_sum, AreOverFrom, ValuesAreOver, Meets, HasBoundAsCost, Descends, AreOfBasis, weighted_right, width_of, zeros, row_line, row_lines, cost_line, tableau_with, Line, entry_of, Values, sum_from, excess, weighted, SolvesRows, Inequality, LinearProgram, IsPosed, State, Optimal, Unbounded, values_of, direction_of, optimal_multipliers, Tableau, line_of, basic_of, rows_of, by_variable, row_of_basic, column_value, column_direction, slope_of}
use Rattle.written_method.proofs.ChosenLaws.{due-two, deciding-two, IsStuck, round-NoRow}
use Rattle.written_method.proofs.ColumnLaws.{right_sum-is}
use Rattle.written_method.proofs.EndLaws.{of_basis-rows, of_basis-cost, combination-right}
use Rattle.written_method.proofs.EndValueLaws.{AreShared, shared, AreValues, values-of, by_row, by_row-own, by_row-none, by_row-nonnegative, share_nonnegative, row_of-some, row_of-none}
use Rattle.written_method.proofs.FirstLaws.{firsts_of, no_row, rows_of-first, line-row}
use Rattle.written_method.proofs.MeetsLaws.{columns-Meet}
use Rattle.written_method.proofs.PhaseLaws.{IsReachedFrom}
use Rattle.written_method.proofs.PivotLaws.{minus-is, same_or_not}
use Rattle.written_method.proofs.ReachedLaws.{IsReached, IsEnd, never-NoRow}
use Rattle.written_method.proofs.VariableLaws.{variable_sum, variable_sum-entries, sum_from-columns}

-- ---- the line of z at values of a basis

sum-zeros : (n c : ℕ) (x : ℕ → ℤ) → sum_from c (zeros n ++ []) x ≡ pos 0
sum-zeros zero c x = refl
sum-zeros (suc n) c x = ap₂ ◌+ℤ◌ (zero-*ℤ (x c)) (sum-zeros n (suc c) x)

-- the cost's sum over the columns is that over the variables
cost-sum : (p : LinearProgram) (f : ℕ → Rational) (column : ℕ → ℤ) (q k : ℤ) (x : Var → ℤ) → IsPosed p → ((c : ℕ) → IsOver k (f c) (column c)) → ValuesAreOver q x (by_variable f 0 p.columns)
    → sum_from 0 (cost_line p false).entries column *ℤ q ≡ k *ℤ row_sum x p.cost
cost-sum p f column q k x posed over w =
    sum_from-columns (number_at p.cost) f 0 p.columns x column q k (zeros (length p.rows) ++ []) w over (pos 0) (sum-zeros (length p.rows) (0 + width_of p.columns) column)
    ∙ ap (λ z. (k *ℤ variable_sum (number_at p.cost) p.columns x) +ℤ z) (zero-*ℤ q)
    ∙ plus_zero (k *ℤ variable_sum (number_at p.cost) p.columns x)
    ∙ ap (λ z. k *ℤ z) (variable_sum-entries p.columns p.cost x posed.columns posed.cost_ascends posed.cost_among)
  where
    plus_zero : (z : ℤ) → z +ℤ pos 0 ≡ z
    plus_zero z = omega (arith, ints)

-- the first lines are solved, and so they weigh nothing
weighted-solved : (vs : List Var) (n low slack : ℕ) (rows : List Inequality) (line : Line) (v : Values) → ((i : ℕ) → i < length rows → excess (row_line vs false n (low + i) (get_or rows i no_row)) v (pos 0) ≡ pos 0)
    → weighted slack (row_lines vs false n low rows) line v (pos 0) ≡ pos 0
weighted-solved vs n low slack [] line v h = refl
weighted-solved vs n low slack (row ∷ rows) line v h =
    ap₂ (λ a b. (entry_of line slack *ℤ a) +ℤ b) (ap (λ j. excess (row_line vs false n j row) v (pos 0)) (omega arith) ∙ h 0 (omega arith))
    (weighted-solved vs n (suc low) (suc slack) rows line v (λ i k. ap (λ j. excess (row_line vs false n j (get_or rows i no_row)) v (pos 0)) (omega arith) ∙ h (suc i) (omega arith)))
    ∙ ap (λ z. z +ℤ pos 0) (*ℤ-zero (entry_of line slack))

-- what values of a basis, with one more column, make of the line of z and of the row of the cost
basis-cost : (p : LinearProgram) (t : Tableau) (e : ℕ) (v : Values) → IsReachedFrom p false t → AreOfBasis t e v
    → p.cost_own *ℤ (((entry_of (line_of t (rows_of t)) e *ℤ v.column e) +ℤ ((line_of t (rows_of t)).own *ℤ pos 0)) -ℤ ((line_of t (rows_of t)).right *ℤ v.q))
    ≡ (line_of t (rows_of t)).own *ℤ ((sum_from 0 (cost_line p false).entries v.column +ℤ (p.cost_own *ℤ pos 0)) -ℤ (p.cost_right *ℤ v.q))
basis-cost p t e v u basis =
    let line : Line = line_of t (rows_of t) in
    let lines : rows_of t < length t.lines = u.shaped.lines in
    let solved : SolvesRows (tableau_with p false) v = u.solves v (λ i h. of_basis-rows t e v i (pos 0) u.shaped u.basic basis h) in
    let none : weighted (width_of p.columns) (firsts_of p false) line v (pos 0) ≡ pos 0 =
    weighted-solved p.columns (length p.rows) 0 (width_of p.columns) p.rows line v
    (λ i h. ap (λ j. excess (row_line p.columns false (length p.rows) j (get_or p.rows i no_row)) v (pos 0)) (omega arith) ∙ ap (λ (l : Line). excess l v (pos 0)) (sym (line-row p false i no_row h)) ∙ solved i (omega (arith, rows_of-first p false))) in
    ap (λ z. p.cost_own *ℤ z) (sym (of_basis-cost t e v (rows_of t) (pos 0) u.shaped u.basic basis (omega arith) lines))
    ∙ u.combined (rows_of t) (omega arith) v (pos 0)
    ∙ ap (λ z. (p.cost_own *ℤ z) +ℤ (line.own *ℤ excess (cost_line p false) v (pos 0))) none
    ∙ ap (λ z. z +ℤ (line.own *ℤ excess (cost_line p false) v (pos 0))) (*ℤ-zero p.cost_own)
    ∙ zero_plus (line.own *ℤ excess (cost_line p false) v (pos 0))
  where
    zero_plus : (z : ℤ) → pos 0 +ℤ z ≡ z
    zero_plus z = omega (arith, ints)

-- ---- optimal

-- from the two lines: own times the cost's sum is minus what the multipliers make of the right sides
sum_step : (k o rt q s cr wr e y : ℤ) → y ≡ pos 0 → k *ℤ (((e *ℤ y) +ℤ (o *ℤ pos 0)) -ℤ (rt *ℤ q)) ≡ o *ℤ ((s +ℤ (k *ℤ pos 0)) -ℤ (cr *ℤ q)) → k *ℤ rt ≡ (k *ℤ wr) +ℤ (o *ℤ cr) → o *ℤ s ≡ neg_ℤ ((k *ℤ wr) *ℤ q)
sum_step k o rt q s cr wr e y h g w =
    let left : k *ℤ (((e *ℤ y) +ℤ (o *ℤ pos 0)) -ℤ (rt *ℤ q)) ≡ neg_ℤ ((k *ℤ rt) *ℤ q) = ap (λ z. k *ℤ z) (away (e *ℤ y) (o *ℤ pos 0) (rt *ℤ q) (ap (λ z. e *ℤ z) h ∙ *ℤ-zero e) (*ℤ-zero o)) ∙ out k rt q in
    let right : o *ℤ ((s +ℤ (k *ℤ pos 0)) -ℤ (cr *ℤ q)) ≡ (o *ℤ s) -ℤ ((o *ℤ cr) *ℤ q) = ap (λ z. o *ℤ (z -ℤ (cr *ℤ q))) (ap (λ z. s +ℤ z) (*ℤ-zero k) ∙ plus_zero s) ∙ spread o s cr q in
    let parts : (k *ℤ rt) *ℤ q ≡ ((k *ℤ wr) *ℤ q) +ℤ ((o *ℤ cr) *ℤ q) = ap (λ z. z *ℤ q) w ∙ over (k *ℤ wr) (o *ℤ cr) q in
    let all : neg_ℤ ((k *ℤ rt) *ℤ q) ≡ (o *ℤ s) -ℤ ((o *ℤ cr) *ℤ q) = sym left ∙ g ∙ right in
    omega (arith, ints, all, parts)
  where
    away : (a b c : ℤ) → a ≡ pos 0 → b ≡ pos 0 → (a +ℤ b) -ℤ c ≡ neg_ℤ c
    away a b c p r = omega (arith, ints)

    plus_zero : (z : ℤ) → z +ℤ pos 0 ≡ z
    plus_zero z = omega (arith, ints)

    out : (a b c : ℤ) → a *ℤ neg_ℤ (b *ℤ c) ≡ neg_ℤ ((a *ℤ b) *ℤ c)
    out a b c = simp ring

    spread : (a b c d : ℤ) → a *ℤ (b -ℤ (c *ℤ d)) ≡ (a *ℤ b) -ℤ ((a *ℤ c) *ℤ d)
    spread a b c d = simp (minus-is, ring)

    over : (a b c : ℤ) → (a +ℤ b) *ℤ c ≡ (a *ℤ c) +ℤ (b *ℤ c)
    over a b c = simp ring

bound_step : (k o q0 s wr q r d y : ℤ) → pos 0 <ℤ o → pos 0 <ℤ q0 → o *ℤ s ≡ neg_ℤ ((k *ℤ wr) *ℤ q0) → s *ℤ q ≡ q0 *ℤ r → y *ℤ o ≡ d *ℤ wr → neg_ℤ (d *ℤ r) ≡ k *ℤ (y *ℤ q)
bound_step k o q0 s wr q r d y p m e f g =
    *ℤ_cancel (neg_ℤ (d *ℤ r)) (k *ℤ (y *ℤ q)) (o *ℤ q0) (nonzero_of_pos (o *ℤ q0) (*ℤ_pos o q0 p m))
    (gather d r o q0
    ∙ ap (λ z. neg_ℤ (d *ℤ (o *ℤ z))) (sym f)
    ∙ turn d o s q
    ∙ ap (λ z. neg_ℤ (d *ℤ (q *ℤ z))) e
    ∙ twice d q k wr q0
    ∙ ap (λ z. (k *ℤ (q *ℤ q0)) *ℤ z) (sym g)
    ∙ back k q q0 y o)
  where
    gather : (d r o q0 : ℤ) → neg_ℤ (d *ℤ r) *ℤ (o *ℤ q0) ≡ neg_ℤ (d *ℤ (o *ℤ (q0 *ℤ r)))
    gather d r o q0 = simp ring

    turn : (d o s q : ℤ) → neg_ℤ (d *ℤ (o *ℤ (s *ℤ q))) ≡ neg_ℤ (d *ℤ (q *ℤ (o *ℤ s)))
    turn d o s q = simp ring

    twice : (d q k wr q0 : ℤ) → neg_ℤ (d *ℤ (q *ℤ neg_ℤ ((k *ℤ wr) *ℤ q0))) ≡ (k *ℤ (q *ℤ q0)) *ℤ (d *ℤ wr)
    twice d q k wr q0 = simp ring (omega (arith, ints))

    back : (k q q0 y o : ℤ) → (k *ℤ (q *ℤ q0)) *ℤ (y *ℤ o) ≡ (k *ℤ (y *ℤ q)) *ℤ (o *ℤ q0)
    back k q q0 y o = simp ring

-- the cost of the plan is the bound of the multipliers
pub optimal-HasBoundAsCost : (p : LinearProgram) (s : State) (q : ℤ) (x : Var → ℤ) (d : ℤ) (y : ℕ → ℤ) → IsPosed p → IsReached p s → IsEnd Optimal s
    → ValuesAreOver q x (values_of p s.tableau) → AreOverFrom d y 0 (optimal_multipliers p s.tableau) → HasBoundAsCost p q x d y
optimal-HasBoundAsCost p s q x d y posed u e values multipliers =
    let t : Tableau = s.tableau in
    let from : IsReachedFrom p false t = u.two e.1 in
    let line : Line = line_of t (rows_of t) in
    let lines : rows_of t < length t.lines = from.shaped.lines in
    let own : pos 0 <ℤ line.own = from.costs (rows_of t) (omega arith) lines in
    let w : AreValues t = values-of t from.shaped from.basic from.feasible in
    let v : Values = record { q = w.q; column = w.column } in
    let sum : ℤ = sum_from 0 (cost_line p false).entries w.column in
    let right : ℤ = weighted_right (width_of p.columns) (firsts_of p false) line in
    let step : line.own *ℤ sum ≡ neg_ℤ ((p.cost_own *ℤ right) *ℤ w.q) =
    sum_step p.cost_own line.own line.right w.q sum p.cost_right right (entry_of line t.columns) (w.column t.columns) w.nothing (basis-cost p t t.columns v from w.of_basis)
    (combination-right (width_of p.columns) (firsts_of p false) (cost_line p false) line (from.combined (rows_of t) (omega arith))) in
    bound_step p.cost_own line.own w.q sum right q (row_sum x p.cost) d (right_sum y 0 p.rows) own w.positive step
    (cost-sum p (column_value t) w.column q w.q x posed w.over values)
    (right_sum-is p.columns false (length p.rows) 0 (width_of p.columns) 0 p.rows line line.own d y own multipliers)

-- ---- unbounded

eq_yes : (a b : ℕ) → a ≡ b → (a == b) ≡ true
eq_yes a b h = grind (arith, nat_tests)

eq_no : (a b : ℕ) → a ≢ b → (a == b) ≡ false
eq_no a b h = grind (arith, nat_tests)

-- the direction in which column e grows: over q, in each column
pub record AreDirection (t : Tableau) (e : ℕ) : Type 0 where
  pub q : ℤ
  pub positive : pos 0 <ℤ q
  pub column : ℕ → ℤ
  pub of_basis : AreOfBasis t e (record { q = pos 0; column = column })
  pub own : column e ≡ q
  pub nonnegative : (c : ℕ) → pos 0 ≤ℤ column c
  pub over : (c : ℕ) → IsOver q (column_direction t e c) (column c)

pub direction-is : (t : Tableau) (e : ℕ) → IsShaped t → IsBasic t → ((r : ℕ) → r < rows_of t → basic_of t r ≢ e) → ((r : ℕ) → r < rows_of t → entry_of (line_of t r) e ≤ℤ pos 0) → AreDirection t e
direction-is t e s b apart low = made (shared (rows_of t) (λ r. entry_of (line_of t r) (basic_of t r)) (λ r. neg_ℤ (entry_of (line_of t r) e)) b.own)
  where
    made : AreShared (rows_of t) (λ r. entry_of (line_of t r) (basic_of t r)) (λ r. neg_ℤ (entry_of (line_of t r) e)) → AreDirection t e
    made w =
        record {
          q = w.q;
          positive = w.positive;
          column = column;
          of_basis = record {
            apart = apart;
            basics = λ r h.
                ap (λ y. entry_of (line_of t r) (basic_of t r) *ℤ y) (elsewhere (basic_of t r) (apart r h) ∙ by_row-own t w.z r s b h)
                ∙ w.share r h
                ∙ less (entry_of (line_of t r) e) w.q (line_of t r).right
                ∙ ap (λ y. ((line_of t r).right *ℤ pos 0) -ℤ (entry_of (line_of t r) e *ℤ y)) (sym here);
            others = λ c n none. elsewhere c n ∙ by_row-none t w.z c none;
          };
          own = here;
          nonnegative = λ c. elim (same_or_not c e) [
            | inl q ↦ subst (λ z. pos 0 ≤ℤ z) (sym (ap column q ∙ here)) (let p : pos 0 <ℤ w.q = w.positive in omega (arith, ints))
            | inr n ↦ subst (λ z. pos 0 ≤ℤ z) (sym (elsewhere c n))
                (by_row-nonnegative t w.z c (λ r h. share_nonnegative (entry_of (line_of t r) (basic_of t r)) (w.z r) (neg_ℤ (entry_of (line_of t r) e)) w.q (b.own r h) (opposite (entry_of (line_of t r) e) (low r h)) w.positive (w.share r h)))
          ];
          over = λ c. elim (same_or_not c e) [
            | inl q ↦ subst (λ d. IsOver w.q (column_direction t e d) (column d)) (sym q) over_own
            | inr n ↦ subst (IsOver w.q (column_direction t e c)) (sym (elsewhere c n)) (over_other c n (row_of_basic c 0 t.basics) refl)
          ];
        }
      where
        column : ℕ → ℤ
        column c = if c == e then w.q else by_row t w.z c

        here : column e ≡ w.q
        here = ap (λ t'. if t' then w.q else by_row t w.z e) (eq_yes e e refl)

        elsewhere : (c : ℕ) → c ≢ e → column c ≡ by_row t w.z c
        elsewhere c n = ap (λ t'. if t' then w.q else by_row t w.z c) (eq_no c e n)

        less : (a q r : ℤ) → neg_ℤ a *ℤ q ≡ (r *ℤ pos 0) -ℤ (a *ℤ q)
        less a q r = moved a q ∙ sym (ap (λ z. z -ℤ (a *ℤ q)) (*ℤ-zero r) ∙ from_zero (a *ℤ q))
          where
            moved : (a q : ℤ) → neg_ℤ a *ℤ q ≡ neg_ℤ (a *ℤ q)
            moved a q = simp ring

            from_zero : (z : ℤ) → pos 0 -ℤ z ≡ neg_ℤ z
            from_zero z = omega (arith, ints)

        opposite : (a : ℤ) → a ≤ℤ pos 0 → pos 0 ≤ℤ neg_ℤ a
        opposite a h = omega (arith, ints)

        over_own : IsOver w.q (column_direction t e e) (column e)
        over_own =
            subst (λ z. IsOver w.q z (column e)) (sym (ap (λ t'. if t' then whole (pos 1) else (elim (row_of_basic e 0 t.basics) as (λ _. Rational) [ None ↦ whole (pos 0) | Some r ↦ slope_of (line_of t r) e e ])) (eq_yes e e refl)))
            (subst (IsOver w.q (whole (pos 1))) (sym here) (record { positive = omega (arith, ints); cross = *ℤ-one w.q ∙ sym (one-*ℤ w.q) }))

        over_other : (c : ℕ) → c ≢ e → (o : Option ℕ) → row_of_basic c 0 t.basics ≡ o → IsOver w.q (column_direction t e c) (by_row t w.z c)
        over_other c n o k =
            subst (λ z. IsOver w.q z (by_row t w.z c)) (sym (ap (λ t'. if t' then whole (pos 1) else (elim (row_of_basic c 0 t.basics) as (λ _. Rational) [ None ↦ whole (pos 0) | Some r ↦ slope_of (line_of t r) e c ])) (eq_no c e n)))
            (subst (λ z. IsOver w.q (elim z as (λ _. Rational) [ None ↦ whole (pos 0) | Some r ↦ slope_of (line_of t r) e c ]) (by_row t w.z c)) (sym k) (by_place o k))
          where
            swap : (a b : ℤ) → a *ℤ b ≡ b *ℤ a
            swap a b = simp ring

            by_place : (o : Option ℕ) → row_of_basic c 0 t.basics ≡ o → IsOver w.q (elim o as (λ _. Rational) [ None ↦ whole (pos 0) | Some r ↦ slope_of (line_of t r) e c ]) (by_row t w.z c)
            by_place None k = subst (IsOver w.q (whole (pos 0))) (sym (by_row-none t w.z c (row_of-none c 0 t.basics k))) (IsOver-zero w.q)
            by_place (Some r) k =
                let m = row_of-some c 0 t.basics r k in
                let at : m.0 ≡ r = omega (arith, m.2) in
                let row : r < rows_of t = subst (λ j. j < rows_of t) at m.1 in
                let basic : basic_of t r ≡ c = ap (λ j. basic_of t j) (sym at) ∙ m.3 in
                let value : by_row t w.z c ≡ w.z r = ap (by_row t w.z) (sym basic) ∙ by_row-own t w.z r s b row in
                subst (IsOver w.q (slope_of (line_of t r) e c)) (sym value)
                (IsOver-lowest w.q (neg_ℤ (entry_of (line_of t r) e)) (entry_of (line_of t r) c) (w.z r) (subst (λ d. pos 0 <ℤ entry_of (line_of t r) d) basic (b.own r row))
                (swap (w.z r) (entry_of (line_of t r) c) ∙ ap (λ d. entry_of (line_of t r) d *ℤ w.z r) (sym basic) ∙ w.share r row))

-- what is known where no row can leave
pub record IsRay (p : LinearProgram) (t : Tableau) (e : ℕ) : Type 0 where
  pub from : IsReachedFrom p false t
  pub entering : pos 0 <ℤ entry_of (line_of t (rows_of t)) e
  pub direction : AreDirection t e

pub unbounded-IsRay : (p : LinearProgram) (s : State) (e : ℕ) → IsReached p s → IsEnd (Unbounded e) s → IsRay p s.tableau e
unbounded-IsRay p s e u d =
    let t : Tableau = s.tableau in
    let two = never-NoRow p s e u d in
    let from : IsReachedFrom p false t = u.two two in
    let stuck : IsStuck s e = round-NoRow s e from.shaped (sym (due-two s two) ∙ d) in
    let enters : pos 0 <ℤ entry_of (line_of t (rows_of t)) e = subst (λ (l : Line). pos 0 <ℤ entry_of l e) (deciding-two s two) stuck.entering in
    let lines : rows_of t < length t.lines = from.shaped.lines in
    record {
      from = from;
      entering = enters;
      direction = direction-is t e from.shaped from.basic
          (λ r h q.
          let none : entry_of (line_of t (rows_of t)) e ≡ pos 0 = ap (λ c. entry_of (line_of t (rows_of t)) c) (sym q) ∙ from.basic.others (rows_of t) r lines h (λ k. omega arith) in
          omega (arith, ints))
          stuck.rows;
    }

-- the direction meets the rows with right sides 0
pub direction-Meets : (p : LinearProgram) (t : Tableau) (e : ℕ) (q : ℤ) (x : Var → ℤ) → IsPosed p → IsRay p t e → pos 0 <ℤ q → ValuesAreOver q x (direction_of p t e) → Meets p (pos 0) x
direction-Meets p t e q x posed ray positive over =
    let w : AreDirection t e = ray.direction in
    let v : Values = record { q = pos 0; column = w.column } in
    columns-Meet p (column_direction t e) v w.q q (pos 0) x posed
    (record { scale = w.positive; over = w.over; nonnegative = w.nonnegative; q_positive = positive; right = *ℤ-zero w.q ∙ sym (zero-*ℤ q) })
    (ray.from.solves v (λ i h. of_basis-rows t e v i (pos 0) ray.from.shaped ray.from.basic w.of_basis h))
    over

falls_step : (k o a q0 s q r rt cr : ℤ) → pos 0 <ℤ k → pos 0 <ℤ o → pos 0 <ℤ a → pos 0 <ℤ q0 → pos 0 <ℤ q
    → k *ℤ (((a *ℤ q0) +ℤ (o *ℤ pos 0)) -ℤ (rt *ℤ pos 0)) ≡ o *ℤ ((s +ℤ (k *ℤ pos 0)) -ℤ (cr *ℤ pos 0)) → s *ℤ q ≡ q0 *ℤ r → pos 0 <ℤ r
falls_step k o a q0 s q r rt cr pk po pa pq0 pq g f =
    let left : k *ℤ (((a *ℤ q0) +ℤ (o *ℤ pos 0)) -ℤ (rt *ℤ pos 0)) ≡ k *ℤ (a *ℤ q0) = ap (λ z. k *ℤ z) (away (a *ℤ q0) (o *ℤ pos 0) (rt *ℤ pos 0) (*ℤ-zero o) (*ℤ-zero rt)) in
    let right : o *ℤ ((s +ℤ (k *ℤ pos 0)) -ℤ (cr *ℤ pos 0)) ≡ o *ℤ s = ap (λ z. o *ℤ z) (away s (k *ℤ pos 0) (cr *ℤ pos 0) (*ℤ-zero k) (*ℤ-zero cr)) in
    let all : o *ℤ s ≡ k *ℤ (a *ℤ q0) = sym right ∙ sym g ∙ left in
    let product : r *ℤ (o *ℤ q0) ≡ (k *ℤ (a *ℤ q0)) *ℤ q = turn r o q0 ∙ ap (λ z. o *ℤ z) (sym f) ∙ assoc o s q ∙ ap (λ z. z *ℤ q) all in
    factor_pos r (o *ℤ q0) (*ℤ_pos o q0 po pq0) (subst (λ z. pos 0 <ℤ z) (sym product) (*ℤ_pos (k *ℤ (a *ℤ q0)) q (*ℤ_pos k (a *ℤ q0) pk (*ℤ_pos a q0 pa pq0)) pq))
  where
    away : (x y z : ℤ) → y ≡ pos 0 → z ≡ pos 0 → (x +ℤ y) -ℤ z ≡ x
    away x y z p q = omega (arith, ints)

    turn : (r o q : ℤ) → r *ℤ (o *ℤ q) ≡ o *ℤ (q *ℤ r)
    turn r o q = simp ring

    assoc : (a b c : ℤ) → a *ℤ (b *ℤ c) ≡ (a *ℤ b) *ℤ c
    assoc a b c = simp ring

-- and along it z falls
pub direction-Descends : (p : LinearProgram) (t : Tableau) (e : ℕ) (q : ℤ) (x : Var → ℤ) → IsPosed p → IsRay p t e → pos 0 <ℤ q → ValuesAreOver q x (direction_of p t e) → Descends p x
direction-Descends p t e q x posed ray positive over =
    let w : AreDirection t e = ray.direction in
    let v : Values = record { q = pos 0; column = w.column } in
    let line : Line = line_of t (rows_of t) in
    let lines : rows_of t < length t.lines = ray.from.shaped.lines in
    let own : pos 0 <ℤ line.own = ray.from.costs (rows_of t) (omega arith) lines in
    let both = basis-cost p t e v ray.from w.of_basis in
    falls_step p.cost_own line.own (entry_of line e) w.q (sum_from 0 (cost_line p false).entries w.column) q (row_sum x p.cost) line.right p.cost_right posed.cost_positive own ray.entering w.positive positive
    (ap (λ z. p.cost_own *ℤ (((entry_of line e *ℤ z) +ℤ (line.own *ℤ pos 0)) -ℤ (line.right *ℤ pos 0))) (sym w.own) ∙ both)
    (cost-sum p (column_direction t e) w.column q w.q x posed w.over over)

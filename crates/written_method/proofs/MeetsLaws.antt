-- Values of columns that solve the first lines meet the rows of the linear program, and an optimal plan costs its bound.
use Rattle.written_method.proofs.Common.{◌≡◌, ◌≢◌, ℕ, zero, suc, ◌+◌, ◌<◌, ℤ, pos, neg_ℤ, ◌+ℤ◌, ◌-ℤ◌, ◌*ℤ◌, Bool, true, false, List, [], ◌∷◌, ◌++◌, length, get_or, arith, refl, sym, ap, ap₂, ◌∙◌, subst, ◌⊎◌, inl, inr, if◌then◌else◌, ◌<ℤ◌, ◌≤ℤ◌, ints, Rational, minus, ≤ℤ_cancel, *ℤ_nonnegative, ring, zero-*ℤ, one-*ℤ, Sense, Least, Equal, Most, Var, ascends, variables_of, var_cmp, number_at, row_sum, IsOver, IsOver-agree, ValuesAreOver, MeetRows, Meets, as_most, by_column, width_of, zeros, slack_entries, right_of, row_line, tableau_with, Values, sum_from, excess, SolvesRows, Inequality, LinearProgram, is_split, IsAmong, AreAmong, ArePosed, IsPosed, values_of, Tableau, by_variable, column_value}
use Rattle.row_core.specs.Statements.{Stands}
use Rattle.written_method.proofs.EndLaws.{of_basis-rows}
use Rattle.written_method.proofs.EndValueLaws.{AreValues, values-of}
use Rattle.written_method.proofs.FirstLaws.{no_row, rows_of-first, line-row}
use Rattle.written_method.proofs.PhaseLaws.{IsReachedFrom}
use Rattle.written_method.proofs.VariableLaws.{variable_sum, variable_sum-negated, variable_sum-entries, sum_from-columns}

-- ---- one row

variable_sum-as_most : (s : Sense) (f : Var → ℤ) (vs : List Var) (x : Var → ℤ) → variable_sum (λ v. as_most s (f v)) vs x ≡ as_most s (variable_sum f vs x)
variable_sum-as_most Least f vs x = variable_sum-negated f vs x
variable_sum-as_most Equal f vs x = refl
variable_sum-as_most Most f vs x = refl

zeros-nonnegative : (n low : ℕ) (column : ℕ → ℤ) → sum_from low (zeros n ++ []) column ≡ pos 0
zeros-nonnegative zero low column = refl
zeros-nonnegative (suc n) low column = ap₂ ◌+ℤ◌ (zero-*ℤ (column low)) (zeros-nonnegative n (suc low) column)

slack-nonnegative : (n i low : ℕ) (column : ℕ → ℤ) → ((c : ℕ) → pos 0 ≤ℤ column c) → pos 0 ≤ℤ sum_from low (slack_entries n i ++ []) column
slack-nonnegative zero i low column h = omega (arith, ints)
slack-nonnegative (suc n) zero low column h =
    let here : pos 0 ≤ℤ column low = h low in
    omega (arith, ints, one-*ℤ (column low), zeros-nonnegative n (suc low) column)
slack-nonnegative (suc n) (suc i) low column h =
    let later : pos 0 ≤ℤ sum_from (suc low) (slack_entries n i ++ []) column = slack-nonnegative n i (suc low) column h in
    omega (arith, ints, zero-*ℤ (column low))

-- at most the right side, as the row reads at most
stands_of : (s : Sense) (a r q : ℤ) → s ≢ Equal → as_most s a ≤ℤ (as_most s r *ℤ q) → Stands s a (r *ℤ q)
stands_of Least a r q n h = omega (arith, ints, moved r q)
  where
    moved : (r q : ℤ) → neg_ℤ r *ℤ q ≡ neg_ℤ (r *ℤ q)
    moved r q = simp ring
stands_of Equal a r q n h = absurd (n refl)
stands_of Most a r q n h = h

row_step : (sum vs rest right vq q k rq : ℤ) → pos 0 <ℤ k → pos 0 ≤ℤ rest → pos 0 <ℤ q → k *ℤ rq ≡ vq *ℤ q → sum ≡ right *ℤ vq → sum *ℤ q ≡ (k *ℤ vs) +ℤ (rest *ℤ q) → vs ≤ℤ (right *ℤ rq)
row_step sum vs rest right vq q k rq p r pq e f g =
    let some : pos 0 ≤ℤ (rest *ℤ q) = *ℤ_nonnegative rest q r (omega (arith, ints)) in
    let whole : (k *ℤ vs) +ℤ (rest *ℤ q) ≡ (right *ℤ rq) *ℤ k = sym g ∙ ap (λ z. z *ℤ q) f ∙ assoc right vq q ∙ ap (λ z. right *ℤ z) (sym e) ∙ back right k rq in
    ≤ℤ_cancel vs (right *ℤ rq) k p (omega (arith, ints, whole, swap vs k))
  where
    assoc : (a b c : ℤ) → (a *ℤ b) *ℤ c ≡ a *ℤ (b *ℤ c)
    assoc a b c = simp ring

    back : (a k b : ℤ) → a *ℤ (k *ℤ b) ≡ (a *ℤ b) *ℤ k
    back a k b = simp ring

    swap : (a b : ℤ) → a *ℤ b ≡ b *ℤ a
    swap a b = simp ring

solved_sum : (s o r q : ℤ) → (s +ℤ (pos 0 *ℤ o)) -ℤ (r *ℤ q) ≡ pos 0 → s ≡ r *ℤ q
solved_sum s o r q h = omega (arith, ints, zero-*ℤ o)

-- ---- all rows

-- values of the columns over k, whose right sides count v.q for q of the variables' values
pub record AreColumns (f : ℕ → Rational) (v : Values) (k q rq : ℤ) : Type 0 where
  pub scale : pos 0 <ℤ k
  pub over : (c : ℕ) → IsOver k (f c) (v.column c)
  pub nonnegative : (c : ℕ) → pos 0 ≤ℤ v.column c
  pub q_positive : pos 0 <ℤ q
  pub right : k *ℤ rq ≡ v.q *ℤ q

row-meets : (vs : List Var) (n i : ℕ) (row : Inequality) (f : ℕ → Rational) (v : Values) (k q rq : ℤ) (x : Var → ℤ) → AreColumns f v k q rq → ValuesAreOver q x (by_variable f 0 vs)
    → ascends var_cmp vs ≡ true → row.sense ≢ Equal → ascends var_cmp (variables_of row.entries) ≡ true → AreAmong vs row.entries
    → excess (row_line vs false n i row) v (pos 0) ≡ pos 0 → Stands row.sense (row_sum x row.entries) (row.right *ℤ rq)
row-meets vs n i row f v k q rq x w over a n_equal b m zero_excess =
    let F : Var → ℤ = λ u. as_most row.sense (number_at row.entries u) in
    let rest : ℤ = sum_from (0 + width_of vs) (slack_entries n i ++ []) v.column in
    let sum : sum_from 0 (by_column F vs ++ (slack_entries n i ++ [])) v.column *ℤ q ≡ (k *ℤ variable_sum F vs x) +ℤ (rest *ℤ q) =
    sum_from-columns F f 0 vs x v.column q k (slack_entries n i ++ []) over w.over rest refl in
    let is : sum_from 0 (by_column F vs ++ (slack_entries n i ++ [])) v.column ≡ right_of row *ℤ v.q = solved_sum (sum_from 0 (by_column F vs ++ (slack_entries n i ++ [])) v.column) (pos 0) (right_of row) v.q zero_excess in
    let below : variable_sum F vs x ≤ℤ (right_of row *ℤ rq) = row_step (sum_from 0 (by_column F vs ++ (slack_entries n i ++ [])) v.column) (variable_sum F vs x) rest (right_of row) v.q q k rq w.scale (slack-nonnegative n i (0 + width_of vs) v.column w.nonnegative) w.q_positive w.right is sum in
    let value : variable_sum F vs x ≡ as_most row.sense (row_sum x row.entries) = variable_sum-as_most row.sense (number_at row.entries) vs x ∙ ap (as_most row.sense) (variable_sum-entries vs row.entries x a b m) in
    stands_of row.sense (row_sum x row.entries) row.right rq n_equal (subst (λ z. z ≤ℤ (right_of row *ℤ rq)) value below)

rows-meet : (vs : List Var) (n low : ℕ) (rows : List Inequality) (f : ℕ → Rational) (v : Values) (k q rq : ℤ) (x : Var → ℤ) → AreColumns f v k q rq → ValuesAreOver q x (by_variable f 0 vs)
    → ascends var_cmp vs ≡ true → ArePosed vs rows → ((i : ℕ) → i < length rows → excess (row_line vs false n (low + i) (get_or rows i no_row)) v (pos 0) ≡ pos 0) → MeetRows rq x rows
rows-meet vs n low [] f v k q rq x w over a b h = tt
rows-meet vs n low (row ∷ rows) f v k q rq x w over a b h = (
  row-meets vs n low row f v k q rq x w over a b.0 b.1 b.2 (ap (λ j. excess (row_line vs false n j row) v (pos 0)) (omega arith) ∙ h 0 (omega arith)),
  rows-meet vs n (suc low) rows f v k q rq x w over a b.3 (λ i l. ap (λ j. excess (row_line vs false n j (get_or rows i no_row)) v (pos 0)) (omega arith) ∙ h (suc i) (omega arith)),
)

signs-meet : (vs : List Var) (c : ℕ) (f : ℕ → Rational) (v : Values) (k q rq : ℤ) (x : Var → ℤ) → AreColumns f v k q rq → ValuesAreOver q x (by_variable f c vs) → (u : Var) → IsAmong u vs → is_split u ≡ false → pos 0 ≤ℤ x u
signs-meet [] c f v k q rq x w over u h e = absurd h
signs-meet (t ∷ ts) c f v k q rq x w over u h e = cases (is_split t) refl over (λ o m. signs-meet ts (suc (suc c)) f v k q rq x w o u m e) (λ o m. signs-meet ts (suc c) f v k q rq x w o u m e) h
  where
    value : IsOver q (f c) (x t) → pos 0 ≤ℤ x t
    value o =
        let same : x t *ℤ k ≡ v.column c *ℤ q = IsOver-agree q k (f c) (x t) (v.column c) o (w.over c) in
        let product : pos 0 ≤ℤ (v.column c *ℤ q) = *ℤ_nonnegative (v.column c) q (w.nonnegative c) (let p : pos 0 <ℤ q = w.q_positive in omega (arith, ints)) in
        ≤ℤ_cancel (pos 0) (x t) k w.scale (subst (λ z. z ≤ℤ (x t *ℤ k)) (sym (zero-*ℤ k)) (subst (λ z. pos 0 ≤ℤ z) (sym same) product))

    cases : (b : Bool) → is_split t ≡ b → ValuesAreOver q x (if b then (t, minus (f c) (f (suc c))) ∷ by_variable f (suc (suc c)) ts else (t, f c) ∷ by_variable f (suc c) ts)
        → (ValuesAreOver q x (by_variable f (suc (suc c)) ts) → IsAmong u ts → pos 0 ≤ℤ x u) → (ValuesAreOver q x (by_variable f (suc c) ts) → IsAmong u ts → pos 0 ≤ℤ x u) → (u ≡ t) ⊎ IsAmong u ts → pos 0 ≤ℤ x u
    cases true d o two one m = elim m [ inl s ↦ absurd (cc (e, d, ap is_split s)) | inr n ↦ two o.1 n ]
    cases false d o two one m = elim m [ inl s ↦ subst (λ y. pos 0 ≤ℤ x y) (sym s) (value o.0) | inr n ↦ one o.1 n ]

pub columns-Meet : (p : LinearProgram) (f : ℕ → Rational) (v : Values) (k q rq : ℤ) (x : Var → ℤ) → IsPosed p → AreColumns f v k q rq → SolvesRows (tableau_with p false) v → ValuesAreOver q x (by_variable f 0 p.columns) → Meets p rq x
columns-Meet p f v k q rq x posed w solved over = record {
  rows = rows-meet p.columns (length p.rows) 0 p.rows f v k q rq x w over posed.columns posed.rows
      (λ i h. ap (λ j. excess (row_line p.columns false (length p.rows) j (get_or p.rows i no_row)) v (pos 0)) (omega arith) ∙ ap (λ l. excess l v (pos 0)) (sym (line-row p false i no_row h)) ∙ solved i (omega (arith, rows_of-first p false)));
  signs = λ u among split. signs-meet p.columns 0 f v k q rq x w over u among split;
}

-- the plan of a tableau that is reached in phase 2 meets the rows
pub plan-Meets : (p : LinearProgram) (t : Tableau) (q : ℤ) (x : Var → ℤ) → IsPosed p → IsReachedFrom p false t → pos 0 <ℤ q → ValuesAreOver q x (values_of p t) → Meets p q x
plan-Meets p t q x posed u positive over =
    let w : AreValues t = values-of t u.shaped u.basic u.feasible in
    let v : Values = record { q = w.q; column = w.column } in
    columns-Meet p (column_value t) v w.q q q x posed
    (record { scale = w.positive; over = w.over; nonnegative = w.nonnegative; q_positive = positive; right = refl })
    (u.solves v (λ i h. of_basis-rows t t.columns v i (pos 0) u.shaped u.basic w.of_basis h))
    over

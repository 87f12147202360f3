-- What values of columns come to in the program of rows.
use Rattle.mps_plans.proofs.Common.{◌≡◌, ℕ, ◌+◌, ◌≤◌, ◌^◌, Bool, true, false, cond, List, [], ◌∷◌, ◌++◌, length, map, Some, None, refl, ap, ap₂, sym, ◌∙◌, subst, arith, inl, inr, ℤ, pos, ◌+ℤ◌, ◌*ℤ◌, ◌≤ℤ◌, ◌↔◌, ◌==◌, AllByRecursion, enumerate_from, flat_map, bytes_eq, Row, Var, TOTAL_DISCOUNTED_COST, kind_is_free, ascends, variables_of, contents_of, AllStand, HaveRightSigns, IsRight, Name, EachHolds, EachIsAtLeast, HoldsOf, IsAtLeast, Numbers, StandsTo, sum_of, IsFrom, all-numbered, all-with, lettered-apart, name-itself, numbered-from, column_of, cost_of_column, letter_of, name_of_column, place_of, program_column, program_row, Among, IsBefore, all-after, among-after, place-first, place-later, AreValuesOf}
use Rattle.exact_num.proofs.Ring.{zero-*ℤ, zero-+ℤ}
use Rattle.row_core.specs.declared.Sense.{Sense}
use Rattle.row_core.specs.declared.Sense.TheVariants.{Least, Equal, Most}
use Rattle.row_core.specs.Order.{var_cmp}
use Rattle.row_core.specs.Rows.{RowHolds, row_sum}
use Rattle.row_core.specs.Statements.{Stands}
use Rattle.row_core.proofs.AscendingLaws.{ascends-tail}
use Rattle.certificate_checker.specs.Costs.{cost_of, model_cost}

-- ---- the value of a variable's column

value-at : (value : Name → ℤ) (x : Var → ℤ) (k : ℕ) (ws : List Var) (v : Var) → ascends var_cmp ws ≡ true → Among ws v
    → AllByRecursion (λ c. value (name_of_column c.0) ≡ x c.1) (enumerate_from k ws) → value (name_of_column (k + place_of v ws)) ≡ x v
value-at value x k [] v up there are = absurd there
value-at value x k (w ∷ ws) v up (inl e) are =
    subst (λ u. value (name_of_column (k + place_of u (w ∷ ws))) ≡ x u) e (
    let count : k + place_of w (w ∷ ws) ≡ k = omega (arith, place-first w ws) in
    ap (λ n. value (name_of_column n)) count ∙ are.0)
value-at value x k (w ∷ ws) v up (inr later) are =
    let count : k + place_of v (w ∷ ws) ≡ k + 1 + place_of v ws = omega (arith, place-later w v ws (among-after w v ws (all-after w ws up) later)) in
    ap (λ n. value (name_of_column n)) count ∙ value-at value x (k + 1) ws v (ascends-tail var_cmp w ws up) later are.1

module _ (columns : List Var) (up : ascends var_cmp columns ≡ true) (x : Var → ℤ) (value : Name → ℤ) (are : AreValuesOf columns x value) where
  -- the sum of a row
  pub sum-is : (es : List (Var × ℤ)) → AllByRecursion (Among columns) (variables_of es) → sum_of value (map (λ e. (column_of columns e.0, e.1)) es) ≡ row_sum x es
  sum-is [] among = refl
  sum-is (e ∷ es) among =
      ap₂ (λ a b. (e.1 *ℤ a) +ℤ b) (value-at value x 1 columns e.0 up among.0 are) (sum-is es among.1)

  -- a row holds
  stands-to : (s : Sense) (a b r : ℤ) → a ≡ b → StandsTo (letter_of s) a r ↔ Stands s b r
  stands-to Least a b r e = (λ h. subst (λ z. r ≤ℤ z) e h, λ h. subst (λ z. r ≤ℤ z) (sym e) h)
  stands-to Equal a b r e = (λ h. sym e ∙ h, λ h. e ∙ h)
  stands-to Most a b r e = (λ h. subst (λ z. z ≤ℤ r) e h, λ h. subst (λ z. z ≤ℤ r) (sym e) h)

  pub row-holds : (q i : ℕ) (row : Row) → AllByRecursion (Among columns) (variables_of row.entries.items) → HoldsOf q value (program_row columns (i, contents_of row)) ↔ RowHolds row q x
  row-holds q i row among = stands-to row.sense _ _ (row.rhs *ℤ pos q) (sum-is row.entries.items among)

  -- all rows hold
  pub rows-hold : (q k : ℕ) (rows : List Row) → AllByRecursion (λ row. AllByRecursion (Among columns) (variables_of row.entries.items)) rows
      → EachHolds q value (map (program_row columns) (enumerate_from k (map contents_of rows))) ↔ AllStand (λ row. row.rhs *ℤ pos q) rows x
  rows-hold q k [] among = (λ h. tt, λ h. tt)
  rows-hold q k (row ∷ rows) among =
      let one = row-holds q k row among.0 in
      let rest = rows-hold q (k + 1) rows among.1 in
      (λ h. (one.0 h.0, rest.0 h.1), λ h. (one.1 h.0, rest.1 h.1))

-- ---- bounds

zero-times : (q : ℕ) → pos 0 *ℤ pos q ≡ pos 0
zero-times q = zero-*ℤ (pos q)

bound-is : (q : ℕ) (free : Bool) (a z : ℤ) → a ≡ z → IsAtLeast q a (cond free None (Some (pos 0))) ↔ IsRight free z
bound-is q true a z e = (λ h. tt, λ h. tt)
bound-is q false a z e =
    (λ h. subst (λ y. pos 0 ≤ℤ y) e (subst (λ y. y ≤ℤ a) (zero-times q) h), λ h. subst (λ y. y ≤ℤ a) (sym (zero-times q)) (subst (λ y. pos 0 ≤ℤ y) (sym e) h))

pub bounds-are : (q k : ℕ) (x : Var → ℤ) (value : Name → ℤ) (ws : List Var) → AllByRecursion (λ c. value (name_of_column c.0) ≡ x c.1) (enumerate_from k ws)
    → EachIsAtLeast q value (map program_column (enumerate_from k ws)) ↔ HaveRightSigns ws x
bounds-are q k x value [] are = (λ h. tt, λ h. tt)
bounds-are q k x value (w ∷ ws) are =
    let one = bound-is q (kind_is_free w.kind) (value (name_of_column k)) (x w) are.0 in
    let rest = bounds-are q (k + 1) x value ws are.1 in
    (λ h. (one.0 h.0, rest.0 h.1), λ h. (one.1 h.0, rest.1 h.1))

-- ---- costs

cost-step : (b : Bool) (k : ℕ) (value : Name → ℤ) (ns : Numbers) (z rest : ℤ) → value (name_of_column k) ≡ z → sum_of value ns ≡ rest
    → sum_of value (cond b ((name_of_column k, pos 1) ∷ []) [] ++ ns) ≡ (cond b (pos 1) (pos 0) *ℤ z) +ℤ rest
cost-step true k value ns z rest e f = ap₂ (λ a b. (pos 1 *ℤ a) +ℤ b) e f
cost-step false k value ns z rest e f = f ∙ sym (zero-+ℤ rest) ∙ ap (λ a. a +ℤ rest) (sym (zero-*ℤ z))

pub costs-are : (k : ℕ) (x : Var → ℤ) (value : Name → ℤ) (ws : List Var) → AllByRecursion (λ c. value (name_of_column c.0) ≡ x c.1) (enumerate_from k ws)
    → sum_of value (flat_map cost_of_column (enumerate_from k ws)) ≡ cost_of model_cost ws x
costs-are k x value [] are = refl
costs-are k x value (w ∷ ws) are = cost-step (w.kind == TOTAL_DISCOUNTED_COST) k value (flat_map cost_of_column (enumerate_from (k + 1) ws)) (x w) (cost_of model_cost ws x) are.0 (costs-are (k + 1) x value ws are.1)

-- ---- values for a plan

-- the number of the first variable whose column has this name
abbrev pub value_by_name : (Var → ℤ) → Name → List (ℕ × Var) → ℤ
value_by_name x name [] = pos 0
value_by_name x name (c ∷ cs) = cond (bytes_eq (name_of_column c.0) name) (x c.1) (value_by_name x name cs)

by-name : (x : Var → ℤ) (k : ℕ) (ws : List Var) → k + length ws ≤ 10 ^ 64 → AllByRecursion (λ c. value_by_name x (name_of_column c.0) (enumerate_from k ws) ≡ x c.1) (enumerate_from k ws)
by-name x k [] few = tt
by-name x k (w ∷ ws) few =
    let more : k + 1 + length ws ≤ 10 ^ 64 = omega arith in (
      ap (λ b. cond b (x w) (value_by_name x (name_of_column k) (enumerate_from (k + 1) ws))) (name-itself (name_of_column k)),
      all-with (IsFrom (k + 1)) _ _
          (λ c from there. ap (λ b. cond b (x w) (value_by_name x (name_of_column c.0) (enumerate_from (k + 1) ws))) (lettered-apart 67 k c.0 (omega arith) from.1 (λ e. omega (arith, from.0, e))) ∙ there)
          (enumerate_from (k + 1) ws) (numbered-from (k + 1) ws more) (by-name x (k + 1) ws more),
    )

pub values-for : (columns : List Var) → 1 + length columns ≤ 10 ^ 64 → (x : Var → ℤ) → (values : Name → ℤ) × AreValuesOf columns x values
values-for columns few x = (λ name. value_by_name x name (enumerate_from 1 columns), by-name x 1 columns few)

-- ---- a plan for values

plan-at : (value : Name → ℤ) (k : ℕ) (ws : List Var) → ascends var_cmp ws ≡ true
    → AllByRecursion (λ c. value (name_of_column c.0) ≡ value (name_of_column (k + place_of c.1 ws))) (enumerate_from k ws)
plan-at value k [] up = tt
plan-at value k (w ∷ ws) up =
    let first : k ≡ k + place_of w (w ∷ ws) = omega (arith, place-first w ws) in (
      ap (λ n. value (name_of_column n)) first,
      all-with (λ c. IsBefore w c.1) _ _ later (enumerate_from (k + 1) ws) (all-numbered (IsBefore w) (k + 1) ws (all-after w ws up)) (plan-at value (k + 1) ws (ascends-tail var_cmp w ws up)),
    )
  where
    later : (c : ℕ × Var) → IsBefore w c.1 → value (name_of_column c.0) ≡ value (name_of_column (k + 1 + place_of c.1 ws))
        → value (name_of_column c.0) ≡ value (name_of_column (k + place_of c.1 (w ∷ ws)))
    later c after is =
        let count : k + 1 + place_of c.1 ws ≡ k + place_of c.1 (w ∷ ws) = omega (arith, place-later w c.1 ws after) in
        is ∙ ap (λ n. value (name_of_column n)) count

pub plan-for : (columns : List Var) → ascends var_cmp columns ≡ true → (value : Name → ℤ) → (x : Var → ℤ) × AreValuesOf columns x value
plan-for columns up value = (λ v. value (column_of columns v), plan-at value 1 columns up)

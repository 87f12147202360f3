-- Lifted multipliers keep the signs, the columns and the bound of those of the reduced rows.
use Rattle.variable_elimination.proofs.Common.{◌≡◌, ℕ, suc, ℤ, pos, ◌+ℤ◌, ◌*ℤ◌, Bool, true, false, List, [], ◌∷◌, map, length, refl, sym, ap, ap₂, ◌∙◌, subst, arith, Option, ◌<ℤ◌, ints, Rational, value_of, Frac, zero-*ℤ, *ℤ-zero, one-*ℤ, *ℤ_comm, Row, RowName, Var, Form, ascends, before_first, variables_of, var_cmp, row_name_cmp, value_in, number_at, row_sum, alone, both_passed, Reduced, AreOverFrom, number_sum, right_sum, Definition, definitions_of, others_of, rows_of, defined, is_among, AreTriangular, cost_variable, cost_variables, cost_form, minus_one_at, coefficient, scaled_multipliers, named_multipliers, inequality_of, column_sum, bound_of, AreNamedOver, KeepBound, KeepSum, IsPartOf, IsWhole, AvoidAll, AreMet, multiples_of, names_of}
use Rattle.variable_elimination.proofs.CarriedLaws.{total, column_kept, bound_kept}
use Rattle.variable_elimination.proofs.CostLaws.{keys-minus}
use Rattle.variable_elimination.proofs.CostSums.{cost_entries, cost-defined, cost-other, cost-met, price-alone}
use Rattle.variable_elimination.proofs.DefinedColumns.{defined-others, defined_columns}
use Rattle.variable_elimination.proofs.LinearLaws.{linear-row, linear-zero}
use Rattle.variable_elimination.proofs.MatchedLaws.{AreMatched, matched, matched-excess, matched-signs, all-signed}
use Rattle.variable_elimination.proofs.RowNameLaws.{NamesAscend, definitions_in, others-ascend, others_apart}
use Rattle.variable_elimination.proofs.VariableLaws.{none_there}

-- ---- sums over the reduced rows

pub number_sum-is : (l : ℕ → ℤ) (i : ℕ) (rows : List Row) (v : Var) → number_sum l i (map inequality_of rows) v ≡ multiples_of i l (λ row. number_at row.entries.items v) rows
number_sum-is l i [] v = refl
number_sum-is l i (row ∷ rows) v = ap (λ z. (l i *ℤ number_at row.entries.items v) +ℤ z) (number_sum-is l (suc i) rows v)

pub right_sum-is : (l : ℕ → ℤ) (i : ℕ) (rows : List Row) → right_sum l i (map inequality_of rows) ≡ multiples_of i l (λ row. row.rhs) rows
right_sum-is l i [] = refl
right_sum-is l i (row ∷ rows) = ap (λ z. (l i *ℤ row.rhs) +ℤ z) (right_sum-is l (suc i) rows)

nothing_of : (vars : List Var) (w : Var) (l : ℕ → ℤ) (i : ℕ) (rows : List Row) → AvoidAll vars rows → is_among vars w ≡ true → multiples_of i l (total (alone w)) rows ≡ pos 0
nothing_of vars w l i [] h k = refl
nothing_of vars w l i (row ∷ rows) h k =
    ap₂ (λ a b. (l i *ℤ a) +ℤ b) (none_there vars w row.entries.items h.0 k) (nothing_of vars w l (suc i) rows h.1 k) ∙ ap (λ z. z +ℤ pos 0) (*ℤ-zero (l i))

length-map : {A B : Type 0} (f : A → B) (xs : List A) → length (map f xs) ≡ length xs
length-map f [] = refl
length-map f (x ∷ xs) = ap suc (length-map f xs)

module _ (rows : List Row) (defs : List (Option Var)) (reduced : Reduced) (lambda : List Frac) (with_cost : Bool) (same : length defs ≡ length rows) (triangular : AreTriangular (definitions_of rows defs)) (ordered : NamesAscend rows)
    (counted : length lambda ≡ length reduced.rows.items) (part : IsPartOf rows defs reduced) (s : ℤ) (y : RowName → ℤ) (l : ℕ → ℤ) (positive : pos 0 <ℤ s)
    (over : AreNamedOver s y (value_in row_name_cmp (named_multipliers with_cost rows (definitions_of rows defs) (names_of reduced.rows.items) (map value_of reduced.scales.items) (map value_of lambda))))
    (from : AreOverFrom s l 0 (map value_of lambda)) where
  abbrev ds : List Definition
  ds = definitions_of rows defs

  abbrev first : List (RowName × Rational)
  first = scaled_multipliers (names_of reduced.rows.items) (map value_of reduced.scales.items) (map value_of lambda) []

  pub all_matched : AreMatched (rows_of ds) (others_of rows defs) reduced.rows.items y l 0
  all_matched =
      matched (rows_of ds) s y l positive (value_in row_name_cmp (named_multipliers with_cost rows ds (names_of reduced.rows.items) (map value_of reduced.scales.items) (map value_of lambda))) over
      (others_of rows defs) reduced.rows.items reduced.scales.items (map value_of lambda) 0 [] part.reductions (others-ascend rows defs ordered) (λ r k. refl)
      (λ r k. defined-others with_cost rows ds first r.name (others_apart rows defs r ordered k)) from (length-map value_of lambda ∙ counted)

  pub all_columns : (w : Var) → is_among (defined ds) w ≡ true → column_sum y rows w ≡ coefficient with_cost w *ℤ s
  all_columns = defined_columns with_cost rows ds first ordered s y positive over triangular (definitions_in rows rows defs (λ r k. k))

-- ---- at no cost

module _ (rows : List Row) (defs : List (Option Var)) (reduced : Reduced) (lambda : List Frac) (same : length defs ≡ length rows) (triangular : AreTriangular (definitions_of rows defs)) (ordered : NamesAscend rows)
    (counted : length lambda ≡ length reduced.rows.items) (part : IsPartOf rows defs reduced) (s : ℤ) (y : RowName → ℤ) (l : ℕ → ℤ) (positive : pos 0 <ℤ s)
    (over : AreNamedOver s y (value_in row_name_cmp (named_multipliers false rows (definitions_of rows defs) (names_of reduced.rows.items) (map value_of reduced.scales.items) (map value_of lambda))))
    (from : AreOverFrom s l 0 (map value_of lambda)) where
  abbrev kept : List Row
  kept = reduced.rows.items

  abbrev vars : List Var
  vars = defined (definitions_of rows defs)

  match_all : AreMatched (rows_of (definitions_of rows defs)) (others_of rows defs) kept y l 0
  match_all = all_matched rows defs reduced lambda false same triangular ordered counted part s y l positive over from

  sums_zero : (w : Var) → is_among vars w ≡ true → column_sum y rows w ≡ pos 0
  sums_zero w h = all_columns rows defs reduced lambda false same triangular ordered counted part s y l positive over from w h ∙ zero-*ℤ s

  plain : (a b : ℤ) → pos 1 *ℤ a ≡ (pos 1 *ℤ b) +ℤ (s *ℤ pos 0) → a ≡ b
  plain a b h = let x = one-*ℤ a in let z = one-*ℤ b in let w = *ℤ-zero s in omega (arith, ints)

  no_cost : (q : ℤ) → (pos 1 *ℤ pos 0) +ℤ pos 0 ≡ pos 0 *ℤ q
  no_cost q = sym (zero-*ℤ q)

  pub keeps_sum : KeepSum rows vars reduced y l
  keeps_sum = record {
    signs = λ h. all-signed rows defs y same triangular (matched-signs (rows_of (definitions_of rows defs)) (others_of rows defs) kept y l 0 match_all h);
    defined = sums_zero;
    columns = λ v h.
        plain (column_sum y rows v) (multiples_of 0 l (λ row. number_at row.entries.items v) kept)
        (column_kept rows defs same triangular y l kept (λ q x met. matched-excess (definitions_of rows defs) (others_of rows defs) kept y l 0 q x match_all met) (pos 1) s (pos 0) (λ x. pos 0) (λ x. pos 0) linear-zero linear-zero
        (λ q x met. no_cost q) (λ w k. sums_zero w k ∙ sym (*ℤ-zero s)) (λ w k. nothing_of vars w l 0 kept part.without k) (λ w k. refl) v refl)
        ∙ sym (number_sum-is l 0 kept v);
    bound = plain (bound_of y rows) (multiples_of 0 l (λ row. row.rhs) kept)
        (bound_kept rows defs same triangular y l kept (λ q x met. matched-excess (definitions_of rows defs) (others_of rows defs) kept y l 0 q x match_all met) (pos 1) s (pos 0) (λ x. pos 0) (λ x. pos 0) linear-zero linear-zero
        (λ q x met. no_cost q) (λ w k. sums_zero w k ∙ sym (*ℤ-zero s)) (λ w k. nothing_of vars w l 0 kept part.without k) (λ w k. refl))
        ∙ sym (right_sum-is l 0 kept);
  }

-- ---- with the cost

module _ (rows : List Row) (defs : List (Option Var)) (reduced : Reduced) (lambda : List Frac) (same : length defs ≡ length rows) (triangular : AreTriangular (definitions_of rows defs)) (ordered : NamesAscend rows)
    (counted : length lambda ≡ length reduced.rows.items) (is_whole : IsWhole rows defs reduced) (s : ℤ) (y : RowName → ℤ) (l : ℕ → ℤ) (positive : pos 0 <ℤ s)
    (over : AreNamedOver s y (value_in row_name_cmp (named_multipliers true rows (definitions_of rows defs) (names_of reduced.rows.items) (map value_of reduced.scales.items) (map value_of lambda))))
    (from : AreOverFrom s l 0 (map value_of lambda)) where
  abbrev rows_kept : List Row
  rows_kept = reduced.rows.items

  abbrev vars_defined : List Var
  vars_defined = defined (definitions_of rows defs)

  abbrev cost : (Var → ℤ) → ℤ
  cost x = row_sum x (cost_entries defs)

  abbrev price : (Var → ℤ) → ℤ
  price x = row_sum x reduced.cost.items

  match_whole : AreMatched (rows_of (definitions_of rows defs)) (others_of rows defs) rows_kept y l 0
  match_whole = all_matched rows defs reduced lambda true same triangular ordered counted is_whole.part s y l positive over from

  sums_right : (w : Var) → is_among vars_defined w ≡ true → column_sum y rows w ≡ coefficient true w *ℤ s
  sums_right w h = all_columns rows defs reduced lambda true same triangular ordered counted is_whole.part s y l positive over from w h

  costs_ascend : ascends var_cmp (cost_variables [] defs) ≡ true
  costs_ascend =
      let first = is_whole.reduced_cost.cost_row.first in
      let up : ascends var_cmp (variables_of (cost_form defs).entries) ≡ true = subst (λ (f : Form). ascends var_cmp (variables_of f.entries) ≡ true) is_whole.reduced_cost.cost_row.form first.ascending in
      ap (ascends var_cmp) (sym (keys-minus (cost_variables [] defs)))
      ∙ (both_passed (before_first var_cmp cost_variable (variables_of (map minus_one_at (cost_variables [] defs)))) (ascends var_cmp (variables_of (map minus_one_at (cost_variables [] defs)))) up).1

  right_column : (w : Var) → is_among vars_defined w ≡ true → column_sum y rows w ≡ s *ℤ cost (alone w)
  right_column w h = sums_right w h ∙ ap (λ z. z *ℤ s) (sym (cost-defined rows defs w same costs_ascend h)) ∙ *ℤ_comm (cost (alone w)) s

  met_cost : (q : ℤ) (x : Var → ℤ) → AreMet (definitions_of rows defs) q x → (reduced.cost_own *ℤ cost x) +ℤ price x ≡ reduced.cost_rhs *ℤ q
  met_cost q x met = cost-met (definitions_of rows defs) defs is_whole.form reduced q x is_whole.plain is_whole.reduced_cost is_whole.cost met

  pub keeps_bound : KeepBound rows vars_defined reduced s y l
  keeps_bound = record {
    signs = λ h. all-signed rows defs y same triangular (matched-signs (rows_of (definitions_of rows defs)) (others_of rows defs) rows_kept y l 0 match_whole h);
    defined = sums_right;
    columns = λ v h.
        column_kept rows defs same triangular y l rows_kept (λ q x met. matched-excess (definitions_of rows defs) (others_of rows defs) rows_kept y l 0 q x match_whole met) reduced.cost_own s reduced.cost_rhs cost price (linear-row (cost_entries defs)) (linear-row reduced.cost.items)
        met_cost right_column (λ w k. nothing_of vars_defined w l 0 rows_kept is_whole.part.without k) (λ w k. none_there vars_defined w reduced.cost.items is_whole.without k) v (cost-other rows defs v same costs_ascend h)
        ∙ ap₂ (λ a b. (reduced.cost_own *ℤ a) +ℤ (s *ℤ b)) (sym (number_sum-is l 0 rows_kept v)) (price-alone is_whole.form defs (rows_of (definitions_of rows defs)) reduced v is_whole.reduced_cost is_whole.cost);
    bound =
        bound_kept rows defs same triangular y l rows_kept (λ q x met. matched-excess (definitions_of rows defs) (others_of rows defs) rows_kept y l 0 q x match_whole met) reduced.cost_own s reduced.cost_rhs cost price (linear-row (cost_entries defs)) (linear-row reduced.cost.items)
        met_cost right_column (λ w k. nothing_of vars_defined w l 0 rows_kept is_whole.part.without k) (λ w k. none_there vars_defined w reduced.cost.items is_whole.without k)
        ∙ ap (λ a. (reduced.cost_own *ℤ a) +ℤ (s *ℤ reduced.cost_rhs)) (sym (right_sum-is l 0 rows_kept));
  }

-- What is left has no defined variable, and each variable of it is a column: it is ready to be solved.
use Rattle.variable_elimination.proofs.Common.{◌≡◌, zero, suc, ◌<◌, ◌≤◌, ◌+◌, ◌^◌, ℤ, pos, Bool, true, false, not, ◌||◌, List, [], ◌∷◌, ◌++◌, inl, inr, map, filter, length, refl, sym, ap, ◌∙◌, subst, arith, if◌then◌else◌, both_true, is_eq, is_lt, Ordering, flat_map-cons, InRange, in_range, all_fit, all_fit-cons, Row, Var, TOTAL_DISCOUNTED_COST, Form, form_of, ascends, before_first, numbers_of, variables_of, var_cmp, both_passed, ascends-skip, row_fits, rhs_fits, var_cmp_total, number_at-fits, Definition, definitions_of, others_of, defined, is_among, avoids, AreTriangular, ReducedRow, at_first, reduced_row, is_kept, reduced_rows, is_column, column_entries, expanded_all, cost_variable, minus_one_at, placed, with_cost_variable, cost_variables, cost_form, cost_row, other_entries, unscaled, Reduced, is_split, IsAmong, AreAmong, RowsAreAmong, IsReady, AreColumns, IsCostOf, are_known, AreKnown, AvoidAll, Shape, shape_of, shape}
use Rattle.std.specs.Prelude.{Option, Some, None, ⊤, Contains, ◌<ℤ◌, ◌==◌}
use Rattle.std.specs.declared.cmp.Ordering.TheVariants.{Less, Equal as Alike, Greater}
use Rattle.written_method.specs.FirstTableau.{width_of}
use Rattle.variable_elimination.proofs.FormLaws.{Ascends, HaveOnly}
use Rattle.variable_elimination.proofs.LeftLaws.{avoids-from_none, DefinitionsHaveOnly, IsDone, expanded-done}
use Rattle.variable_elimination.proofs.LiftLaws.{from_not}
use Rattle.variable_elimination.proofs.VariableLaws.{itself}

-- ---- lists of variables

pub among-from_contains : (vs : List Var) (v : Var) → Contains vs v → IsAmong v vs
among-from_contains [] v (k, h, e) = absurd (omega arith)
among-from_contains (w ∷ vs) v (zero, h, e) = inl (sym e)
among-from_contains (w ∷ vs) v (suc k, h, e) = inr (among-from_contains vs v (k, omega arith, e))

pub contains-from_among : (vs : List Var) (v : Var) → IsAmong v vs → Contains vs v
contains-from_among [] v h = absurd h
contains-from_among (w ∷ vs) v (inl e) = (0, omega arith, sym e)
contains-from_among (w ∷ vs) v (inr h) = later (contains-from_among vs v h)
  where
    later : Contains vs v → Contains (w ∷ vs) v
    later (k, l, e) = (suc k, omega arith, e)

among-left : (vs ws : List Var) (v : Var) → IsAmong v vs → IsAmong v (vs ++ ws)
among-left [] ws v h = absurd h
among-left (u ∷ vs) ws v (inl e) = inl e
among-left (u ∷ vs) ws v (inr h) = inr (among-left vs ws v h)

among-right : (vs ws : List Var) (v : Var) → IsAmong v ws → IsAmong v (vs ++ ws)
among-right [] ws v h = h
among-right (u ∷ vs) ws v h = inr (among-right vs ws v h)

-- ---- the variables of the named rows

-- a variable that isn't defined is a column
abbrev pub IsColumnBeyond : List Var → List Var → Var → Type 0
IsColumnBeyond vars columns v = is_among vars v ≡ false → IsAmong v columns

abbrev pub RowsHaveOnly : (Var → Type 0) → List Row → Type 0
RowsHaveOnly P [] = ⊤
RowsHaveOnly P (row ∷ rows) = HaveOnly P row.entries.items × RowsHaveOnly P rows

module _ (vars columns : List Var) where
  known_entries : (es : List (Var × ℤ)) → are_known vars es ≡ true → ((v : Var) → IsAmong v (filter is_column (variables_of es)) → IsAmong v columns) → HaveOnly (IsColumnBeyond vars columns) es
  known_entries [] h into = tt
  known_entries (e ∷ es) h into = (here, known_entries es parts.1 (λ v k. into v (later v k)))
    where
      parts : ((is_among vars e.0 || is_column e.0) ≡ true) × (are_known vars es ≡ true)
      parts = both_passed (is_among vars e.0 || is_column e.0) (are_known vars es) h

      later : (v : Var) → IsAmong v (filter is_column (variables_of es)) → IsAmong v (filter is_column (variables_of (e ∷ es)))
      later v k = cases (is_column e.0)
        where
          cases : (t : Bool) → IsAmong v (if t then (e.0 ∷ filter is_column (variables_of es)) else filter is_column (variables_of es))
          cases true = inr k
          cases false = k

      there : is_column e.0 ≡ true → IsAmong e.0 (filter is_column (variables_of (e ∷ es)))
      there k = subst (λ t. IsAmong e.0 (if t then (e.0 ∷ filter is_column (variables_of es)) else filter is_column (variables_of es))) (sym k) (inl refl)

      either : (a b : Bool) → (a || b) ≡ true → a ≡ false → b ≡ true
      either true b k l = absurd (cc l)
      either false b k l = k

      here : is_among vars e.0 ≡ false → IsAmong e.0 columns
      here apart = into e.0 (there (either (is_among vars e.0) (is_column e.0) parts.0 apart))

  known_rows : (rows : List Row) → AreKnown vars rows → ((v : Var) → IsAmong v (column_entries rows) → IsAmong v columns) → RowsHaveOnly (IsColumnBeyond vars columns) rows
  known_rows [] h into = tt
  known_rows (row ∷ rows) h into = (
    known_entries row.entries.items h.0 (λ v k. into v (subst (IsAmong v) (sym parts) (among-left (filter is_column (variables_of row.entries.items)) (column_entries rows) v k))),
    known_rows rows h.1 (λ v k. into v (subst (IsAmong v) (sym parts) (among-right (filter is_column (variables_of row.entries.items)) (column_entries rows) v k))),
  )
    where
      parts : column_entries (row ∷ rows) ≡ filter is_column (variables_of row.entries.items) ++ column_entries rows
      parts = flat_map-cons (λ (r : Row). filter is_column (variables_of r.entries.items)) row rows

  pub known_columns : (rows : List Row) → AreKnown vars rows → AreColumns rows columns → RowsHaveOnly (IsColumnBeyond vars columns) rows
  known_columns rows known are = known_rows rows known (λ v k. among-from_contains columns v ((are.each v).1 (contains-from_among (column_entries rows) v k)))

-- definitions and other rows apart
module _ (P : Var → Type 0) where
  pub definitions_only : (rows : List Row) (defs : List (Option Var)) → RowsHaveOnly P rows → DefinitionsHaveOnly P (definitions_of rows defs)
  definitions_only [] defs h = tt
  definitions_only (row ∷ rows) [] h = tt
  definitions_only (row ∷ rows) (None ∷ defs) h = definitions_only rows defs h.1
  definitions_only (row ∷ rows) (Some v ∷ defs) h = (h.0, definitions_only rows defs h.1)

  pub others_only : (rows : List Row) (defs : List (Option Var)) → RowsHaveOnly P rows → RowsHaveOnly P (others_of rows defs)
  others_only [] defs h = tt
  others_only (row ∷ rows) [] h = tt
  others_only (row ∷ rows) (None ∷ defs) h = (h.0, others_only rows defs h.1)
  others_only (row ∷ rows) (Some v ∷ defs) h = others_only rows defs h.1

-- ---- the reduced rows

abbrev EachForm : (Form → Type 0) → List ReducedRow → Type 0
EachForm Q [] = ⊤
EachForm Q (r ∷ rs) = Q r.scaled.form × EachForm Q rs

abbrev pub EachRow : (Form → Type 0) → List Row → Type 0
EachRow Q [] = ⊤
EachRow Q (row ∷ rows) = Q (form_of row) × EachRow Q rows

module _ (Q : Form → Type 0) where
  each-kept : (rs : List ReducedRow) → EachForm Q rs → EachForm Q (filter is_kept rs)
  each-kept [] h = tt
  each-kept (r ∷ rs) h = cases (is_kept r) (each-kept rs h.1)
    where
      cases : (t : Bool) → EachForm Q (filter is_kept rs) → EachForm Q (if t then (r ∷ filter is_kept rs) else filter is_kept rs)
      cases true rest = (h.0, rest)
      cases false rest = rest

  each-row : (rows : List Row) (rs : List ReducedRow) → map shape_of rows ≡ map shape rs → EachForm Q rs → EachRow Q rows
  each-row [] rs e h = tt
  each-row (row ∷ rows) [] e h = absurd (cc e)
  each-row (row ∷ rows) (r ∷ rs) e h =
      let first : shape_of row ≡ shape r = cc e in
      let rest : map shape_of rows ≡ map shape rs = cc e in
      (subst Q (sym (ap (λ (s : Shape). s.form) first)) h.0, each-row rows rs rest h.1)

module _ (ds : List Definition) (P : Var → Type 0) (triangular : AreTriangular ds) (only : DefinitionsHaveOnly P ds) where
  each-reduced : (others : List Row) → RowsHaveOnly P others → EachForm (IsDone (defined ds) P) (map (reduced_row (expanded_all [] ds)) others)
  each-reduced [] h = tt
  each-reduced (row ∷ rows) h = (expanded-done ds P (at_first row) triangular only row.ascending h.0, each-reduced rows h.1)

  pub rows_done : (others rows : List Row) → RowsHaveOnly P others → map shape_of rows ≡ map shape (reduced_rows (expanded_all [] ds) others) → EachRow (IsDone (defined ds) P) rows
  rows_done others rows h e =
      each-row (IsDone (defined ds) P) rows (reduced_rows (expanded_all [] ds) others) e
      (each-kept (IsDone (defined ds) P) (map (reduced_row (expanded_all [] ds)) others) (each-reduced others h))

pub rows_avoid : (vars : List Var) (P : Var → Type 0) (rows : List Row) → EachRow (IsDone vars P) rows → AvoidAll vars rows
rows_avoid vars P [] h = tt
rows_avoid vars P (row ∷ rows) h = (avoids-from_none vars row.entries.items row.nonzero h.0.none, rows_avoid vars P rows h.1)

among_columns : (vars columns : List Var) (es : List (Var × ℤ)) → avoids vars es ≡ true → HaveOnly (IsColumnBeyond vars columns) es → AreAmong columns es
among_columns vars columns [] h k = tt
among_columns vars columns (e ∷ es) h k =
    let parts = both_passed (not (is_among vars e.0)) (avoids vars es) h in
    (k.0 (from_not (is_among vars e.0) parts.0), among_columns vars columns es parts.1 k.1)

pub rows_among : (vars columns : List Var) (rows : List Row) → EachRow (IsDone vars (IsColumnBeyond vars columns)) rows → RowsAreAmong columns rows
rows_among vars columns [] h = tt
rows_among vars columns (row ∷ rows) h = (
  among_columns vars columns row.entries.items (avoids-from_none vars row.entries.items row.nonzero h.0.none) h.0.only,
  rows_among vars columns rows h.1,
)

-- ---- the cost

-- the same, but for the variable that stands for the cost
abbrev pub IsColumnOrCost : List Var → List Var → Var → Type 0
IsColumnOrCost vars columns v = is_eq (var_cmp v cost_variable) ≡ false → is_among vars v ≡ false → IsAmong v columns

or_cost : (vars columns : List Var) (es : List (Var × ℤ)) → HaveOnly (IsColumnBeyond vars columns) es → HaveOnly (IsColumnOrCost vars columns) es
or_cost vars columns [] h = tt
or_cost vars columns (e ∷ es) h = (λ apart. h.0, or_cost vars columns es h.1)

pub definitions_or_cost : (vars columns : List Var) (ds : List Definition) → DefinitionsHaveOnly (IsColumnBeyond vars columns) ds → DefinitionsHaveOnly (IsColumnOrCost vars columns) ds
definitions_or_cost vars columns [] h = tt
definitions_or_cost vars columns (d ∷ ds) h = (or_cost vars columns d.row.entries.items h.0, definitions_or_cost vars columns ds h.1)

-- each of the variables is one of the list
abbrev AreAll : List Var → List Var → Type 0
AreAll vars [] = ⊤
AreAll vars (v ∷ vs) = (is_among vars v ≡ true) × AreAll vars vs

placed_all : (vars : List Var) (v : Var) (vs : List Var) → is_among vars v ≡ true → AreAll vars vs → AreAll vars (placed v vs)
placed_all vars v [] h k = (h, tt)
placed_all vars v (w ∷ ws) h k = cases (var_cmp v w) (placed_all vars v ws h k.1)
  where
    cases : (o : Ordering) → AreAll vars (placed v ws) → AreAll vars (elim o [ Less ↦ v ∷ w ∷ ws | Alike ↦ w ∷ ws | Greater ↦ w ∷ placed v ws ])
    cases Less later = (h, k)
    cases Alike later = k
    cases Greater later = (k.0, later)

is_first : (v : Var) (vs : List Var) → is_among (v ∷ vs) v ≡ true
is_first v vs = ap (λ o. is_eq o || is_among vs v) (itself v)

or_true : (a : Bool) → (a || true) ≡ true
or_true true = refl
or_true false = refl

costs_all : (vars : List Var) (rows : List Row) (defs : List (Option Var)) (so_far : List Var) → length defs ≡ length rows
    → ((v : Var) → is_among (defined (definitions_of rows defs)) v ≡ true → is_among vars v ≡ true) → AreAll vars so_far → AreAll vars (cost_variables so_far defs)
costs_all vars [] [] so_far same into h = h
costs_all vars [] (o ∷ defs) so_far same into h = absurd (omega arith)
costs_all vars (row ∷ rows) [] so_far same into h = h
costs_all vars (row ∷ rows) (None ∷ defs) so_far same into h = costs_all vars rows defs so_far (omega arith) into h
costs_all vars (row ∷ rows) (Some v ∷ defs) so_far same into h =
    costs_all vars rows defs (with_cost_variable so_far (Some v)) (omega arith)
    (λ w k. into w (ap (λ t. is_eq (var_cmp w v) || t) k ∙ or_true (is_eq (var_cmp w v))))
    (cases (v.kind == TOTAL_DISCOUNTED_COST))
  where
    cases : (t : Bool) → AreAll vars (if t then placed v so_far else so_far)
    cases true = placed_all vars v so_far (into v (is_first v (defined (definitions_of rows defs)))) h
    cases false = h

minus_only : (vars columns vs : List Var) → AreAll vars vs → HaveOnly (IsColumnOrCost vars columns) (map minus_one_at vs)
minus_only vars columns [] h = tt
minus_only vars columns (v ∷ vs) h = (λ apart not_there. absurd (cc (h.0, not_there)), minus_only vars columns vs h.1)

pub cost_only : (columns : List Var) (rows : List Row) (defs : List (Option Var)) → length defs ≡ length rows → HaveOnly (IsColumnOrCost (defined (definitions_of rows defs)) columns) (cost_form defs).entries
cost_only columns rows defs same = (
  λ apart not_there. absurd (cc (ap is_eq (itself cost_variable), apart)),
  minus_only (defined (definitions_of rows defs)) columns (cost_variables [] defs) (costs_all (defined (definitions_of rows defs)) rows defs [] same (λ v k. k) tt),
)

-- ---- the entries of the cost, without its own variable

pub others_avoid : (vars : List Var) (v : Var) (es : List (Var × ℤ)) → avoids vars es ≡ true → avoids vars (other_entries var_cmp v es) ≡ true
others_avoid vars v [] h = refl
others_avoid vars v (e ∷ es) h = cases (is_eq (var_cmp e.0 v)) (others_avoid vars v es parts.1)
  where
    parts : (not (is_among vars e.0) ≡ true) × (avoids vars es ≡ true)
    parts = both_passed (not (is_among vars e.0)) (avoids vars es) h

    cases : (t : Bool) → avoids vars (other_entries var_cmp v es) ≡ true → avoids vars (if t then other_entries var_cmp v es else (e ∷ other_entries var_cmp v es)) ≡ true
    cases true rest = rest
    cases false rest = both_true parts.0 rest

before_others : (w v : Var) (es : List (Var × ℤ)) → ascends var_cmp (w ∷ variables_of es) ≡ true → before_first var_cmp w (variables_of (other_entries var_cmp v es)) ≡ true
before_others w v [] h = refl
before_others w v (e ∷ es) h = cases (is_eq (var_cmp e.0 v)) (before_others w v es (ascends-skip var_cmp var_cmp_total w e.0 (variables_of es) h))
  where
    cases : (t : Bool) → before_first var_cmp w (variables_of (other_entries var_cmp v es)) ≡ true → before_first var_cmp w (variables_of (if t then other_entries var_cmp v es else (e ∷ other_entries var_cmp v es))) ≡ true
    cases true rest = rest
    cases false rest = (both_passed (is_lt (var_cmp w e.0)) (ascends var_cmp (e.0 ∷ variables_of es)) h).0

pub others_ascend : (v : Var) (es : List (Var × ℤ)) → Ascends es → Ascends (other_entries var_cmp v es)
others_ascend v [] h = refl
others_ascend v (e ∷ es) h = cases (is_eq (var_cmp e.0 v)) (others_ascend v es parts.1)
  where
    parts : (before_first var_cmp e.0 (variables_of es) ≡ true) × Ascends es
    parts = both_passed (before_first var_cmp e.0 (variables_of es)) (ascends var_cmp (variables_of es)) h

    cases : (t : Bool) → Ascends (other_entries var_cmp v es) → Ascends (if t then other_entries var_cmp v es else (e ∷ other_entries var_cmp v es))
    cases true rest = rest
    cases false rest = both_true (before_others e.0 v es h) rest

pub others_fit : (v : Var) (es : List (Var × ℤ)) → all_fit (numbers_of es) ≡ true → all_fit (numbers_of (other_entries var_cmp v es)) ≡ true
others_fit v [] h = h
others_fit v (e ∷ es) h = cases (is_eq (var_cmp e.0 v)) (others_fit v es parts.1)
  where
    parts : (in_range e.1 ≡ true) × (all_fit (numbers_of es) ≡ true)
    parts = both_passed (in_range e.1) (all_fit (numbers_of es)) (sym (all_fit-cons e.1 (numbers_of es)) ∙ h)

    cases : (t : Bool) → all_fit (numbers_of (other_entries var_cmp v es)) ≡ true → all_fit (numbers_of (if t then other_entries var_cmp v es else (e ∷ other_entries var_cmp v es))) ≡ true
    cases true rest = rest
    cases false rest = all_fit-cons e.1 (numbers_of (other_entries var_cmp v es)) ∙ both_true parts.0 rest

pub others_among : (vars columns : List Var) (es : List (Var × ℤ)) → avoids vars es ≡ true → HaveOnly (IsColumnOrCost vars columns) es → AreAmong columns (other_entries var_cmp cost_variable es)
others_among vars columns [] h k = tt
others_among vars columns (e ∷ es) h k = cases (is_eq (var_cmp e.0 cost_variable)) refl (others_among vars columns es parts.1 k.1)
  where
    parts : (not (is_among vars e.0) ≡ true) × (avoids vars es ≡ true)
    parts = both_passed (not (is_among vars e.0)) (avoids vars es) h

    cases : (t : Bool) → is_eq (var_cmp e.0 cost_variable) ≡ t → AreAmong columns (other_entries var_cmp cost_variable es) → AreAmong columns (if t then other_entries var_cmp cost_variable es else (e ∷ other_entries var_cmp cost_variable es))
    cases true is rest = rest
    cases false is rest = (k.0 is (from_not (is_among vars e.0) parts.0), rest)

-- ---- all of it

-- two columns for a variable at most
pub width_bound : (columns : List Var) → width_of columns ≤ length columns + length columns
width_bound [] = omega arith
width_bound (v ∷ vs) = cases (is_split v) (width_bound vs)
  where
    cases : (t : Bool) → width_of vs ≤ length vs + length vs → (if t then suc (suc (width_of vs)) else suc (width_of vs)) ≤ length (v ∷ vs) + length (v ∷ vs)
    cases true h = omega arith
    cases false h = omega arith

module _ (rows : List Row) (defs : List (Option Var)) (columns : List Var) (same : length defs ≡ length rows) (triangular : AreTriangular (definitions_of rows defs)) (known : AreKnown (defined (definitions_of rows defs)) rows) (are : AreColumns rows columns) where
  abbrev vars : List Var
  vars = defined (definitions_of rows defs)

  abbrev forms : List (Var × Form)
  forms = expanded_all [] (definitions_of rows defs)

  only : RowsHaveOnly (IsColumnBeyond vars columns) rows
  only = known_columns vars columns rows known are

  pub all_rows_done : (kept : List Row) → map shape_of kept ≡ map shape (reduced_rows forms (others_of rows defs)) → EachRow (IsDone vars (IsColumnBeyond vars columns)) kept
  all_rows_done kept e =
      rows_done (definitions_of rows defs) (IsColumnBeyond vars columns) triangular (definitions_only (IsColumnBeyond vars columns) rows defs only) (others_of rows defs) kept (others_only (IsColumnBeyond vars columns) rows defs only) e

  -- the row that says what the cost is at first has such variables
  pub cost_done : (first row : Row) → form_of first ≡ cost_form defs → form_of row ≡ cost_row forms defs → IsDone vars (IsColumnOrCost vars columns) (form_of row)
  cost_done first row e f =
      subst (IsDone vars (IsColumnOrCost vars columns)) (sym f)
      (expanded-done (definitions_of rows defs) (IsColumnOrCost vars columns) (unscaled (cost_form defs)) triangular
      (definitions_or_cost vars columns (definitions_of rows defs) (definitions_only (IsColumnBeyond vars columns) rows defs only))
      (subst (λ (g : Form). Ascends g.entries) e first.ascending)
      (cost_only columns rows defs same))

  pub cost_avoids : (row : Row) → IsDone vars (IsColumnOrCost vars columns) (form_of row) → avoids vars row.entries.items ≡ true
  cost_avoids row d = avoids-from_none vars row.entries.items row.nonzero d.none

  -- what is made of these parts is ready
  pub all_ready : (made : Reduced) (row : Row) → made.columns.items ≡ columns → EachRow (IsDone vars (IsColumnBeyond vars columns)) made.rows.items → IsCostOf (form_of row) made → IsDone vars (IsColumnOrCost vars columns) (form_of row)
      → pos 0 <ℤ made.cost_own → length made.columns.items + length made.columns.items + length made.rows.items + 1 < 2 ^ 64 → IsReady made
  all_ready made row e rows_are cost d positive few = record {
    columns = ap (ascends var_cmp) e ∙ are.ascending;
    rows_among = subst (λ vs. RowsAreAmong vs made.rows.items) (sym e) (rows_among vars columns made.rows.items rows_are);
    cost_ascends = ap (λ es. ascends var_cmp (variables_of es)) cost.cost ∙ others_ascend cost_variable row.entries.items row.ascending;
    cost_among = subst (λ vs. AreAmong vs made.cost.items) (sym e) (subst (AreAmong columns) (sym cost.cost) (others_among vars columns row.entries.items (cost_avoids row d) d.only));
    cost_fits = ap (λ (es : List (Var × ℤ)). all_fit (numbers_of es)) cost.cost ∙ others_fit cost_variable row.entries.items (row_fits row);
    right_fits = subst InRange (sym cost.right_side) (rhs_fits row);
    own_fits = subst InRange (sym cost.own) (number_at-fits row.entries.items cost_variable (row_fits row));
    own_positive = positive;
    countable = let w = width_bound made.columns.items in omega arith;
  }

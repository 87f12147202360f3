-- The multipliers of definitions as they are computed, from the last to the first: each makes the column of its variable right.
use Rattle.variable_elimination.proofs.Common.{◌≡◌, ℤ, pos, ◌+ℤ◌, ◌*ℤ◌, Bool, true, false, not, ◌||◌, List, [], ◌∷◌, ◌++◌, inl, inr, map, filter, refl, sym, ap, ap₂, ◌∙◌, subst, arith, if◌then◌else◌, ◌<ℤ◌, is_eq, ints, flat_map-cons, Rational, ring, zero-*ℤ, *ℤ_comm, Row, RowName, Var, row_in_column, column_of, variables_of, var_cmp, row_name_cmp, value_in, number_at, row_sum, IsOver, alone, both_passed, row_sum-alone, var_cmp_exact, row_name_cmp_total, Definition, defined, is_among, own_of, avoids, AreTriangular, coefficient, multiplier_of, defined_multipliers, column_sum, AreNamedOver}
use Rattle.variable_elimination.proofs.LeftLaws.{number_at-none}
use Rattle.variable_elimination.proofs.LiftLaws.{alike, neither}
use Rattle.variable_elimination.proofs.RowNameLaws.{NamesAscend, RowIn, DefinitionsIn, same_name, name_itself, one_row, weighted-one, is_defined_by}
use Rattle.variable_elimination.proofs.SolvedLaws.{sum_of, sum_of-append, alone_by, AreOverAt, solved-meets}
use Rattle.variable_elimination.proofs.ValueSteps.{value_in-insert}
use Rattle.variable_elimination.proofs.VariableLaws.{itself, turned}

or_true : (a : Bool) → (a || true) ≡ true
or_true true = refl
or_true false = refl

-- ---- columns

abbrev cells : RowName → Var → List (Var × ℤ) → List (RowName × ℤ)
cells name v es = map (λ e. (name, e.1)) (filter (λ e. is_eq (var_cmp e.0 v)) es)

cells-sum : (z : RowName → ℤ) (name : RowName) (v : Var) (es : List (Var × ℤ)) → sum_of z (cells name v es) ≡ row_sum (alone v) es *ℤ z name
cells-sum z name v [] = sym (zero-*ℤ (z name))
cells-sum z name v (e ∷ es) = cases (is_eq (var_cmp e.0 v)) (cells-sum z name v es)
  where
    here : (n a y : ℤ) → (n *ℤ y) +ℤ (a *ℤ y) ≡ ((n *ℤ pos 1) +ℤ a) *ℤ y
    here n a y = simp ring

    there : (n a y : ℤ) → a *ℤ y ≡ ((n *ℤ pos 0) +ℤ a) *ℤ y
    there n a y = simp ring

    cases : (t : Bool) → sum_of z (cells name v es) ≡ row_sum (alone v) es *ℤ z name
        → sum_of z (map (λ f. (name, f.1)) (if t then (e ∷ filter (λ f. is_eq (var_cmp f.0 v)) es) else filter (λ f. is_eq (var_cmp f.0 v)) es)) ≡ ((e.1 *ℤ (if t then pos 1 else pos 0)) +ℤ row_sum (alone v) es) *ℤ z name
    cases true rest = ap (λ s. (e.1 *ℤ z name) +ℤ s) rest ∙ here e.1 (row_sum (alone v) es) (z name)
    cases false rest = rest ∙ there e.1 (row_sum (alone v) es) (z name)

-- the sum over a column is that over the rows
pub column-sum : (z : RowName → ℤ) (v : Var) (rows : List Row) → sum_of z (column_of rows v) ≡ column_sum z rows v
column-sum z v [] = refl
column-sum z v (row ∷ rows) =
    ap (sum_of z) (flat_map-cons (row_in_column v) row rows)
    ∙ sum_of-append z (row_in_column v row) (column_of rows v)
    ∙ ap₂ (λ a b. a +ℤ b) (cells-sum z row.name v row.entries.items ∙ ap (λ n. n *ℤ z row.name) (row_sum-alone v row.entries.items row.ascending) ∙ *ℤ_comm (number_at row.entries.items v) (z row.name)) (column-sum z v rows)

over-append : (s : ℤ) (value : RowName → Rational) (y : RowName → ℤ) (key : RowName) (xs zs : List (RowName × ℤ)) → AreOverAt row_name_cmp s value y key xs → AreOverAt row_name_cmp s value y key zs → AreOverAt row_name_cmp s value y key (xs ++ zs)
over-append s value y key [] zs h k = k
over-append s value y key (x ∷ xs) zs h k = (h.0, over-append s value y key xs zs h.1 k)

cells_over : (s : ℤ) (value : RowName → Rational) (y : RowName → ℤ) (key name : RowName) (v : Var) (es : List (Var × ℤ)) → (is_among (variables_of es) v ≡ true → is_eq (row_name_cmp name key) ≡ false → IsOver s (value name) (y name)) → AreOverAt row_name_cmp s value y key (cells name v es)
cells_over s value y key name v [] over = tt
cells_over s value y key name v (e ∷ es) over =
    cases (is_eq (var_cmp e.0 v)) refl (cells_over s value y key name v es (λ h. over (ap (λ t. is_eq (var_cmp v e.0) || t) h ∙ or_true (is_eq (var_cmp v e.0)))))
  where
    cases : (t : Bool) → is_eq (var_cmp e.0 v) ≡ t → AreOverAt row_name_cmp s value y key (cells name v es)
        → AreOverAt row_name_cmp s value y key (map (λ f. (name, f.1)) (if t then (e ∷ filter (λ f. is_eq (var_cmp f.0 v)) es) else filter (λ f. is_eq (var_cmp f.0 v)) es))
    cases true is rest = (over (ap (λ t. t || is_among (variables_of es) v) (turned v e.0 ∙ is)), rest)
    cases false is rest = rest

-- the values of the other rows that have an entry in the column are y over s
column_over : (s : ℤ) (value : RowName → Rational) (y : RowName → ℤ) (key : RowName) (v : Var) (rows : List Row)
    → ((r : Row) → RowIn r rows → is_among (variables_of r.entries.items) v ≡ true → is_eq (row_name_cmp r.name key) ≡ false → IsOver s (value r.name) (y r.name)) → AreOverAt row_name_cmp s value y key (column_of rows v)
column_over s value y key v [] over = tt
column_over s value y key v (row ∷ rows) over =
    subst (λ es. AreOverAt row_name_cmp s value y key es) (sym (flat_map-cons (row_in_column v) row rows))
    (over-append s value y key (row_in_column v row) (column_of rows v) (cells_over s value y key row.name v row.entries.items (over row (inl refl))) (column_over s value y key v rows (λ r k. over r (inr k))))

-- ---- values of names that aren't those of definitions

pub defined-others : (with_cost : Bool) (rows : List Row) (ds : List Definition) (made : List (RowName × Rational)) (n : RowName) → is_defined_by ds n ≡ false → value_in row_name_cmp (defined_multipliers with_cost rows ds made) n ≡ value_in row_name_cmp made n
defined-others with_cost rows [] made n h = refl
defined-others with_cost rows (d ∷ ds) made n h =
    let parts = neither (is_eq (row_name_cmp n d.row.name)) (is_defined_by ds n) h in
    let later : List (RowName × Rational) = defined_multipliers with_cost rows ds made in
    let one : Rational = multiplier_of with_cost rows (value_in row_name_cmp later) d in
    value_in-insert row_name_cmp row_name_cmp_total later d.row.name one n
    ∙ ap (λ t. if t then one else value_in row_name_cmp later n) parts.0
    ∙ defined-others with_cost rows ds made n parts.1

-- ---- one definition after another

-- entries that avoid a variable don't have it
avoided : (vars : List Var) (es : List (Var × ℤ)) (w : Var) → avoids vars es ≡ true → is_among vars w ≡ true → is_among (variables_of es) w ≡ true → ⊥
avoided vars [] w h k l = absurd (cc l)
avoided vars (e ∷ es) w h k l = cases (is_eq (var_cmp w e.0)) refl l (avoided vars es w parts.1 k)
  where
    parts : (not (is_among vars e.0) ≡ true) × (avoids vars es ≡ true)
    parts = both_passed (not (is_among vars e.0)) (avoids vars es) h

    cases : (t : Bool) → is_eq (var_cmp w e.0) ≡ t → (t || is_among (variables_of es) w) ≡ true → (is_among (variables_of es) w ≡ true → ⊥) → ⊥
    cases true is m rest =
        let same : w ≡ e.0 = var_cmp_exact w e.0 (alike (var_cmp w e.0) is) in
        let there : not (is_among vars e.0) ≡ false = ap not (ap (is_among vars) (sym same) ∙ k) in
        absurd (cc (there, parts.0))
    cases false is m rest = rest m

-- a definition has an entry at its variable
own_there : (d : Definition) → pos 0 <ℤ own_of d → is_among (variables_of d.row.entries.items) d.variable ≡ true
own_there d h = cases (is_among (variables_of d.row.entries.items) d.variable) refl
  where
    cases : (t : Bool) → is_among (variables_of d.row.entries.items) d.variable ≡ t → t ≡ true
    cases true is = refl
    cases false is = absurd (let none : own_of d ≡ pos 0 = number_at-none d.row.entries.items d.variable is in omega (arith, ints))

not_true : (b : Bool) → (b ≡ true → ⊥) → b ≡ false
not_true true h = absurd (h refl)
not_true false h = refl

module _ (with_cost : Bool) (rows : List Row) (all : List Definition) (first : List (RowName × Rational)) (ordered : NamesAscend rows) (s : ℤ) (y : RowName → ℤ) (positive : pos 0 <ℤ s)
    (over : AreNamedOver s y (value_in row_name_cmp (defined_multipliers with_cost rows all first))) where
  abbrev last : RowName → Rational
  last = value_in row_name_cmp (defined_multipliers with_cost rows all first)

  abbrev from : List Definition → RowName → Rational
  from left = value_in row_name_cmp (defined_multipliers with_cost rows left first)

  abbrev Agree : (RowName → Bool) → List Definition → Type 0
  Agree before left = (n : RowName) → before n ≡ false → last n ≡ from left n

  abbrev Apart : (RowName → Bool) → List Definition → Type 0
  Apart before left = (r : Row) → RowIn r rows → (w : Var) → is_among (defined left) w ≡ true → is_among (variables_of r.entries.items) w ≡ true → before r.name ≡ false

  inserted : (d : Definition) (rest : List Definition) (n : RowName) → from (d ∷ rest) n ≡ (if is_eq (row_name_cmp n d.row.name) then multiplier_of with_cost rows (from rest) d else from rest n)
  inserted d rest n = value_in-insert row_name_cmp row_name_cmp_total (defined_multipliers with_cost rows rest first) d.row.name (multiplier_of with_cost rows (from rest) d) n

  first_there : (d : Definition) (rest : List Definition) → is_among (defined (d ∷ rest)) d.variable ≡ true
  first_there d rest = ap (λ o. is_eq o || is_among (defined rest) d.variable) (itself d.variable)

  -- the column of the next
  column_right : (before : RowName → Bool) (d : Definition) (rest : List Definition) → pos 0 <ℤ own_of d → RowIn d.row rows → Agree before (d ∷ rest) → Apart before (d ∷ rest) → column_sum y rows d.variable ≡ coefficient with_cost d.variable *ℤ s
  column_right before d rest own within agree apart =
      sym (column-sum y d.variable rows)
      ∙ solved-meets row_name_cmp same_name (coefficient with_cost d.variable) s y (from rest) d.row.name (column_of rows d.variable) (own_of d) positive own
      (sym (column-sum (alone_by row_name_cmp d.row.name) d.variable rows ∙ weighted-one (λ row. number_at row.entries.items d.variable) rows d.row ordered within))
      (column_over s (from rest) y d.row.name d.variable rows (λ r k l m.
      subst (λ z. IsOver s z (y r.name)) (agree r.name (apart r k d.variable (first_there d rest) l) ∙ inserted d rest r.name ∙ ap (λ t. if t then multiplier_of with_cost rows (from rest) d else from rest r.name) m) (over r.name)))
      (subst (λ z. IsOver s z (y d.row.name))
      (agree d.row.name (apart d.row within d.variable (first_there d rest) (own_there d own)) ∙ inserted d rest d.row.name ∙ ap (λ o. if is_eq o then multiplier_of with_cost rows (from rest) d else from rest d.row.name) (name_itself d.row.name))
      (over d.row.name))

  columns_from : (before : RowName → Bool) (left : List Definition) → AreTriangular left → DefinitionsIn rows left → Agree before left → Apart before left → (w : Var) → is_among (defined left) w ≡ true → column_sum y rows w ≡ coefficient with_cost w *ℤ s
  columns_from before [] triangular within agree apart w h = absurd (cc h)
  columns_from before (d ∷ rest) triangular within agree apart w h =
      cases (is_eq (var_cmp w d.variable)) refl h
      (columns_from (λ n. is_eq (row_name_cmp n d.row.name) || before n) rest triangular.3 within.1
      (λ n k. let parts = neither (is_eq (row_name_cmp n d.row.name)) (before n) k in
      agree n parts.1 ∙ inserted d rest n ∙ ap (λ t. if t then multiplier_of with_cost rows (from rest) d else from rest n) parts.0)
      (λ r k u l m. ap₂ (λ a b. a || b) (not_true (is_eq (row_name_cmp r.name d.row.name)) (different r k u l m)) (apart r k u (ap (λ t. is_eq (var_cmp u d.variable) || t) l ∙ or_true (is_eq (var_cmp u d.variable))) m))
      w)
    where
      different : (r : Row) → RowIn r rows → (u : Var) → is_among (defined rest) u ≡ true → is_among (variables_of r.entries.items) u ≡ true → is_eq (row_name_cmp r.name d.row.name) ≡ true → ⊥
      different r k u l m e =
          let same : r ≡ d.row = one_row rows r d.row ordered k within.0 e in
          avoided (defined rest) d.row.entries.items u triangular.1 l (subst (λ (t : Row). is_among (variables_of t.entries.items) u ≡ true) same m)

      cases : (t : Bool) → is_eq (var_cmp w d.variable) ≡ t → (t || is_among (defined rest) w) ≡ true → (is_among (defined rest) w ≡ true → column_sum y rows w ≡ coefficient with_cost w *ℤ s) → column_sum y rows w ≡ coefficient with_cost w *ℤ s
      cases true is l later =
          subst (λ u. column_sum y rows u ≡ coefficient with_cost u *ℤ s) (sym (var_cmp_exact w d.variable (alike (var_cmp w d.variable) is))) (column_right before d rest triangular.0.positive within.0 agree apart)
      cases false is l later = later l

  -- each defined variable's column has the sum that its coefficient says
  pub defined_columns : AreTriangular all → DefinitionsIn rows all → (w : Var) → is_among (defined all) w ≡ true → column_sum y rows w ≡ coefficient with_cost w *ℤ s
  defined_columns triangular within w h = columns_from (λ n. false) all triangular within (λ n k. refl) (λ r k u l m. refl) w h

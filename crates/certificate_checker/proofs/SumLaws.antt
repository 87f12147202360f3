-- The sum of rows, row by row and column by column.
use Rattle.certificate_checker.proofs.Common.{◌≡◌, ℤ, pos, ◌+ℤ◌, ◌*ℤ◌, Bool, true, false, ◌||◌, ◌&&◌, ℕ, zero, suc, ◌<◌, ◌++◌, length, get_or, List, [], ◌∷◌, refl, sym, ap, ap₂, ◌∙◌, subst, arith, if◌then◌else◌, Contains, flat_map, is_eq, is_lt, ordering_reverse, Ordering, ints, ring, zero-*ℤ, *ℤ-zero, one-*ℤ, +ℤ-zero, zero-+ℤ, Row, RowName, Var, before_first, ascends, variables_of, var_cmp, number_at, row_sum, alone, both_passed, Less-from_test, ascends-skip, row_sum-alone, var_cmp_total, var_cmp_exact, sum_over, weighted, column_sum, HasVariablesOf}
use Rattle.std.specs.declared.cmp.Ordering.TheVariants.{Less, Equal, Greater}
use Rattle.std.proofs.lemmas.List.Elements.{Contains-append_left, Contains-append_right}

-- ---- variables that are among others

-- the variable is one of the list, as a test
abbrev pub is_among : List Var → Var → Bool
is_among [] v = false
is_among (w ∷ ws) v = is_eq (var_cmp v w) || is_among ws v

-- the variables of all entries are
abbrev pub has_all : List Var → List (Var × ℤ) → Bool
has_all vars [] = true
has_all vars (e ∷ es) = is_among vars e.0 && has_all vars es

found_at : (vs : List Var) (w : Var) (i : ℕ) → i < length vs → get_or vs i w ≡ w → is_among vs w ≡ true
found_at [] w i inside e = absurd (omega (arith, inside))
found_at (v ∷ vs) w zero inside e = ap (λ o. is_eq o || is_among vs w) (same_alike w v (sym e))
  where
    itself : (o : Ordering) → o ≡ ordering_reverse o → o ≡ Equal
    itself Less h = absurd (cc h)
    itself Equal h = refl
    itself Greater h = absurd (cc h)

    same_alike : (a b : Var) → a ≡ b → var_cmp a b ≡ Equal
    same_alike a b h = subst (λ c. var_cmp a c ≡ Equal) h (itself (var_cmp a a) (var_cmp_total.antisymm a a))
found_at (v ∷ vs) w (suc i) inside e = either (is_eq (var_cmp w v)) (found_at vs w i (omega (arith, inside)) e)
  where
    either : (b : Bool) → is_among vs w ≡ true → (b || is_among vs w) ≡ true
    either true h = refl
    either false h = h

both : (a b : Bool) → a ≡ true → b ≡ true → (a && b) ≡ true
both true b h k = k
both false b h k = absurd (cc h)

has_all-from : (vars : List Var) (es : List (Var × ℤ)) → ((v : Var) → Contains (variables_of es) v → Contains vars v) → has_all vars es ≡ true
has_all-from vars [] h = refl
has_all-from vars (e ∷ es) h =
    let here = h e.0 (0, omega arith, refl) in
    both (is_among vars e.0) (has_all vars es) (found_at vars e.0 here.0 here.1 here.2)
    (has_all-from vars es (λ v k. h v (suc k.0, omega (arith, k.1), k.2)))

-- ---- sums over variables

pub sum_over-same : (vs : List Var) (f g : Var → ℤ) → ((v : Var) → f v ≡ g v) → sum_over vs f ≡ sum_over vs g
sum_over-same [] f g h = refl
sum_over-same (v ∷ vs) f g h = ap₂ (λ y z. y +ℤ z) (h v) (sum_over-same vs f g h)

pub sum_over-zero : (vs : List Var) (f : Var → ℤ) → ((v : Var) → f v ≡ pos 0) → sum_over vs f ≡ pos 0
sum_over-zero [] f h = refl
sum_over-zero (v ∷ vs) f h = ap₂ (λ y z. y +ℤ z) (h v) (sum_over-zero vs f h)

four : (a b c d : ℤ) → (a +ℤ b) +ℤ (c +ℤ d) ≡ (a +ℤ c) +ℤ (b +ℤ d)
four a b c d = omega (arith, ints)

pub sum_over-sum : (vs : List Var) (f g : Var → ℤ) → sum_over vs (λ v. f v +ℤ g v) ≡ sum_over vs f +ℤ sum_over vs g
sum_over-sum [] f g = refl
sum_over-sum (v ∷ vs) f g = ap (λ z. (f v +ℤ g v) +ℤ z) (sum_over-sum vs f g) ∙ four (f v) (g v) (sum_over vs f) (sum_over vs g)

out : (k a b : ℤ) → k *ℤ (a +ℤ b) ≡ (k *ℤ a) +ℤ (k *ℤ b)
out k a b = simp ring

pub sum_over-times : (vs : List Var) (k : ℤ) (f : Var → ℤ) → sum_over vs (λ v. k *ℤ f v) ≡ k *ℤ sum_over vs f
sum_over-times [] k f = sym (*ℤ-zero k)
sum_over-times (v ∷ vs) k f = ap (λ z. (k *ℤ f v) +ℤ z) (sum_over-times vs k f) ∙ sym (out k (f v) (sum_over vs f))

-- ---- one entry

alike : (o : Ordering) → is_eq o ≡ true → o ≡ Equal
alike Less h = absurd (cc h)
alike Equal h = refl
alike Greater h = absurd (cc h)

-- after a variable none of an ascending list is the same
nothing_after : (x : Var → ℤ) (w : Var) (vs : List Var) → ascends var_cmp (w ∷ vs) ≡ true → sum_over vs (λ v. alone v w *ℤ x v) ≡ pos 0
nothing_after x w [] h = refl
nothing_after x w (v ∷ vs) h =
    let less : var_cmp w v ≡ Less = Less-from_test (var_cmp w v) (both_passed (is_lt (var_cmp w v)) (ascends var_cmp (v ∷ vs)) h).0 in
    ap₂ (λ o z. ((if is_eq o then pos 1 else pos 0) *ℤ x v) +ℤ z) less (nothing_after x w vs (ascends-skip var_cmp var_cmp_total w v vs h))
    ∙ ap (λ z. z +ℤ pos 0) (zero-*ℤ (x v))

-- a variable of an ascending list is found there once
pub found_once : (x : Var → ℤ) (w : Var) (vs : List Var) → ascends var_cmp vs ≡ true → is_among vs w ≡ true → sum_over vs (λ v. alone v w *ℤ x v) ≡ x w
found_once x w [] h k = absurd (cc k)
found_once x w (v ∷ vs) h k = cases (λ l. found_once x w vs (both_passed (before_first var_cmp v vs) (ascends var_cmp vs) h).1 l) (is_eq (var_cmp w v)) refl k
  where
    cases : (is_among vs w ≡ true → sum_over vs (λ v. alone v w *ℤ x v) ≡ x w) → (t : Bool) → is_eq (var_cmp w v) ≡ t → (t || is_among vs w) ≡ true → ((if t then pos 1 else pos 0) *ℤ x v) +ℤ sum_over vs (λ v. alone v w *ℤ x v) ≡ x w
    cases later true is k =
        let same : w ≡ v = var_cmp_exact w v (alike (var_cmp w v) is) in
        ap₂ (λ y z. y +ℤ z) (one-*ℤ (x v)) (nothing_after x w vs (subst (λ u. ascends var_cmp (u ∷ vs) ≡ true) (sym same) h)) ∙ +ℤ-zero (x v) ∙ ap x (sym same)
    cases later false is k = ap₂ (λ y z. y +ℤ z) (zero-*ℤ (x v)) (later k) ∙ zero-+ℤ (x w)

-- ---- one row

first_step : (n a r x : ℤ) → ((n *ℤ a) +ℤ r) *ℤ x ≡ (n *ℤ (a *ℤ x)) +ℤ (r *ℤ x)
first_step n a r x = simp ring

-- the sum of a row, column by column
pub row_sum-by_columns : (x : Var → ℤ) (vars : List Var) (es : List (Var × ℤ)) → ascends var_cmp vars ≡ true → has_all vars es ≡ true → row_sum x es ≡ sum_over vars (λ v. row_sum (alone v) es *ℤ x v)
row_sum-by_columns x vars [] h k = sym (sum_over-zero vars (λ v. pos 0 *ℤ x v) (λ v. zero-*ℤ (x v)))
row_sum-by_columns x vars (e ∷ es) h k =
    let parts = both_passed (is_among vars e.0) (has_all vars es) k in
    sym (sum_over-same vars (λ v. ((e.1 *ℤ alone v e.0) +ℤ row_sum (alone v) es) *ℤ x v) (λ v. (e.1 *ℤ (alone v e.0 *ℤ x v)) +ℤ (row_sum (alone v) es *ℤ x v)) (λ v. first_step e.1 (alone v e.0) (row_sum (alone v) es) (x v))
    ∙ sum_over-sum vars (λ v. e.1 *ℤ (alone v e.0 *ℤ x v)) (λ v. row_sum (alone v) es *ℤ x v)
    ∙ ap₂ (λ y z. y +ℤ z) (sum_over-times vars e.1 (λ v. alone v e.0 *ℤ x v) ∙ ap (λ z. e.1 *ℤ z) (found_once x e.0 vars h parts.0)) (sym (row_sum-by_columns x vars es h parts.1)))

-- ---- all rows

row_step : (y n c x : ℤ) → ((y *ℤ n) +ℤ c) *ℤ x ≡ (y *ℤ (n *ℤ x)) +ℤ (c *ℤ x)
row_step y n c x = simp ring

-- the weighted sum of the rows is that of the columns
pub weighted-by_columns : (x : Var → ℤ) (y : RowName → ℤ) (vars : List Var) (rows : List Row) → ascends var_cmp vars ≡ true → HasVariablesOf rows vars
    → weighted y (λ row. row_sum x row.entries.items) rows ≡ sum_over vars (λ v. column_sum y rows v *ℤ x v)
weighted-by_columns x y vars [] h k = sym (sum_over-zero vars (λ v. pos 0 *ℤ x v) (λ v. zero-*ℤ (x v)))
weighted-by_columns x y vars (row ∷ rows) h k =
    let others : List Var = flat_map (λ r. variables_of r.entries.items) rows in
    let own : has_all vars row.entries.items ≡ true = has_all-from vars row.entries.items (λ v in_row. k v (Contains-append_left (variables_of row.entries.items) others v in_row)) in
    let rest : HasVariablesOf rows vars = λ v in_rows. k v (Contains-append_right (variables_of row.entries.items) others v in_rows) in
    let one : row_sum x row.entries.items ≡ sum_over vars (λ v. number_at row.entries.items v *ℤ x v) =
    row_sum-by_columns x vars row.entries.items h own
    ∙ sum_over-same vars (λ v. row_sum (alone v) row.entries.items *ℤ x v) (λ v. number_at row.entries.items v *ℤ x v) (λ v. ap (λ z. z *ℤ x v) (row_sum-alone v row.entries.items row.ascending)) in
    ap₂ (λ a b. (y row.name *ℤ a) +ℤ b) one (weighted-by_columns x y vars rows h rest)
    ∙ sym (sum_over-same vars (λ v. ((y row.name *ℤ number_at row.entries.items v) +ℤ column_sum y rows v) *ℤ x v) (λ v. (y row.name *ℤ (number_at row.entries.items v *ℤ x v)) +ℤ (column_sum y rows v *ℤ x v)) (λ v. row_step (y row.name) (number_at row.entries.items v) (column_sum y rows v) (x v))
    ∙ sum_over-sum vars (λ v. y row.name *ℤ (number_at row.entries.items v *ℤ x v)) (λ v. column_sum y rows v *ℤ x v)
    ∙ ap (λ z. z +ℤ sum_over vars (λ v. column_sum y rows v *ℤ x v)) (sum_over-times vars (y row.name) (λ v. number_at row.entries.items v *ℤ x v)))

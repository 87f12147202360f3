-- Multipliers, made one after another.
use Rattle.variable_elimination.proofs.Common.{◌≡◌, ℕ, zero, suc, ◌+◌, ◌<◌, ◌≤◌, ℤ, Bool, true, false, List, [], ◌∷◌, ◌++◌, map, length, get_or, drop, sym, ap, ap₂, ◌∙◌, subst, arith, Option, Some, None, BTreeMap, insert_entry, option_or, drop_more, product_formed, all_fit, Rational, times, Step, first_wide, value_of, Frac, first_wide-append, first_wide-fits, first_wide-stops, first_wide-nil, Row, RowName, Var, Place, LiftMultiplier, column_of, row_name_cmp, value_in, number_at, Definition, definitions_of, AreTriangular, coefficient, scaled_multipliers, scaled_steps, defined_multipliers, defined_steps, multiplier_formed, solved_for, solved_formed, AreScaling, AreDone, names_of, values_in}
use Rattle.variable_elimination.proofs.DefinitionSteps.{no_definition_left}

-- ---- lists

pub next_item : {A : Type 0} (xs : List A) (i : ℕ) (x : A) → i < length xs → x ≡ get_or xs i x → drop i xs ≡ x ∷ drop (i + 1) xs
next_item xs i x h is = drop_more xs i x h ∙ ap (λ y. y ∷ drop (i + 1) xs) (sym is)

pub one_column : (o : Option (List (RowName × ℤ))) (a b : List (RowName × ℤ)) → o ≡ Some a → o ≡ Some b → a ≡ b
one_column o a b h k = cc (h, k)

-- a row that defines nothing is no definition
pub nothing-left : (rows : List Row) (defs : List (Option Var)) (i : ℕ) → i < length rows → length defs ≡ length rows → get_or defs i None ≡ None
    → definitions_of (drop i rows) (drop i defs) ≡ definitions_of (drop (i + 1) rows) (drop (i + 1) defs)
nothing-left [] defs i h same found = absurd (omega (arith, h))
nothing-left (row ∷ rows) defs i h same found =
    let all : List Row = row ∷ rows in
    let inside : i < length defs = omega (arith, h, same) in
    ap₂ definitions_of (drop_more all i row h) (drop_more defs i None inside)
    ∙ ap (λ (o : Option Var). definitions_of (get_or all i row ∷ drop (i + 1) all) (o ∷ drop (i + 1) defs)) found

-- ---- reduced rows

module _ (rows : List Row) (scales lambda : List Frac) (left rest : List Row) (left_scales rest_scales left_lambda rest_lambda : List Frac) (row : Row) (scale multiplier : Frac) (now : BTreeMap RowName Frac)
    (rows_are : left ≡ row ∷ rest) (scales_are : left_scales ≡ scale ∷ rest_scales) (lambda_are : left_lambda ≡ multiplier ∷ rest_lambda) (before : AreScaling rows scales lambda left left_scales left_lambda now) where
  so_far : AreScaling rows scales lambda (row ∷ rest) (scale ∷ rest_scales) (multiplier ∷ rest_lambda) now
  so_far =
      subst (λ (ls : List Frac). AreScaling rows scales lambda (row ∷ rest) (scale ∷ rest_scales) ls now) lambda_are
      (subst (λ (ss : List Frac). AreScaling rows scales lambda (row ∷ rest) ss left_lambda now) scales_are
      (subst (λ (rs : List Row). AreScaling rows scales lambda rs left_scales left_lambda now) rows_are before))

  pub scaling-next : (new : BTreeMap RowName Frac) → values_in new ≡ insert_entry row_name_cmp (values_in now) row.name (times (value_of multiplier) (value_of scale)) → all_fit (product_formed (value_of multiplier) (value_of scale)) ≡ true
      → AreScaling rows scales lambda rest rest_scales rest_lambda new
  scaling-next new pushed fit = record {
    made = ap (scaled_multipliers (names_of rest) (map value_of rest_scales) (map value_of rest_lambda)) pushed ∙ so_far.made;
    steps = so_far.steps
        ∙ first_wide-fits (record { place = LiftMultiplier row.name; formed = product_formed (value_of multiplier) (value_of scale) }) (scaled_steps (names_of rest) (map value_of rest_scales) (map value_of rest_lambda)) fit;
  }

  pub scaling-stop : all_fit (product_formed (value_of multiplier) (value_of scale)) ≡ false → first_wide (scaled_steps (names_of rows) (map value_of scales) (map value_of lambda)) ≡ Some (LiftMultiplier row.name)
  scaling-stop wide =
      so_far.steps
      ∙ first_wide-stops (record { place = LiftMultiplier row.name; formed = product_formed (value_of multiplier) (value_of scale) }) (scaled_steps (names_of rest) (map value_of rest_scales) (map value_of rest_lambda)) wide

pub scaling-end : (rows : List Row) (scales lambda : List Frac) (left : List Row) (left_scales left_lambda : List Frac) (now : BTreeMap RowName Frac) → left ≡ [] → AreScaling rows scales lambda left left_scales left_lambda now
    → (values_in now ≡ scaled_multipliers (names_of rows) (map value_of scales) (map value_of lambda) []) × (first_wide (scaled_steps (names_of rows) (map value_of scales) (map value_of lambda)) ≡ None)
scaling-end rows scales lambda left left_scales left_lambda now e s = (
  ap (λ (rs : List Row). scaled_multipliers (names_of rs) (map value_of left_scales) (map value_of left_lambda) (values_in now)) (sym e) ∙ s.made,
  s.steps ∙ ap (λ (rs : List Row). first_wide (scaled_steps (names_of rs) (map value_of left_scales) (map value_of left_lambda))) e ∙ first_wide-nil,
)

-- ---- definitions

pub triangular-drop : (rows : List Row) (defs : List (Option Var)) (i : ℕ) → AreTriangular (definitions_of rows defs) → AreTriangular (definitions_of (drop i rows) (drop i defs))
triangular-drop rows defs zero h = h
triangular-drop [] defs (suc i) h = tt
triangular-drop (row ∷ rows) [] (suc i) h = nothing (drop i rows)
  where
    nothing : (rs : List Row) → AreTriangular (definitions_of rs [])
    nothing [] = tt
    nothing (r ∷ rs) = tt
triangular-drop (row ∷ rows) (None ∷ defs) (suc i) h = triangular-drop rows defs i h
triangular-drop (row ∷ rows) (Some v ∷ defs) (suc i) h = triangular-drop rows defs i h.3

abbrev one_step : Bool → List Row → List (RowName × Rational) → Definition → List Definition → Step Place
one_step with_cost rows first d rest = record { place = LiftMultiplier d.row.name; formed = multiplier_formed with_cost rows (value_in row_name_cmp (defined_multipliers with_cost rows rest first)) d }

-- what stops the last definitions stops all
pub stop-all : (with_cost : Bool) (rows : List Row) (first : List (RowName × Rational)) (all : List Row) (defs : List (Option Var)) (i : ℕ) (p : Place)
    → first_wide (defined_steps with_cost rows (definitions_of (drop i all) (drop i defs)) first) ≡ Some p → first_wide (defined_steps with_cost rows (definitions_of all defs) first) ≡ Some p
stop-all with_cost rows first all defs zero p h = h
stop-all with_cost rows first [] defs (suc i) p h = h
stop-all with_cost rows first (row ∷ all) [] (suc i) p h = nothing (drop i all) h
  where
    nothing : (rs : List Row) → first_wide (defined_steps with_cost rows (definitions_of rs []) first) ≡ Some p → first_wide (defined_steps with_cost rows (definitions_of (row ∷ all) []) first) ≡ Some p
    nothing [] k = k
    nothing (r ∷ rs) k = k
stop-all with_cost rows first (row ∷ all) (None ∷ defs) (suc i) p h = stop-all with_cost rows first all defs i p h
stop-all with_cost rows first (row ∷ all) (Some v ∷ defs) (suc i) p h =
    let rest = definitions_of all defs in
    let last : List (Step Place) = one_step with_cost rows first (record { row = row; variable = v }) rest ∷ [] in
    first_wide-append (defined_steps with_cost rows rest first) last ∙ ap (λ o. option_or o (first_wide last)) (stop-all with_cost rows first all defs i p h)

module _ (with_cost : Bool) (rows : List Row) (first : List (RowName × Rational)) (d : Definition) (rest : List Definition) where
  abbrev next : Step Place
  next = one_step with_cost rows first d rest

  both : first_wide (defined_steps with_cost rows (d ∷ rest) first) ≡ option_or (first_wide (defined_steps with_cost rows rest first)) (first_wide (next ∷ []))
  both = first_wide-append (defined_steps with_cost rows rest first) (next ∷ [])

  pub step-fits : first_wide (defined_steps with_cost rows rest first) ≡ None → all_fit next.formed ≡ true → first_wide (defined_steps with_cost rows (d ∷ rest) first) ≡ None
  step-fits h k = both ∙ ap (λ o. option_or o (first_wide (next ∷ []))) h ∙ first_wide-fits next [] k ∙ first_wide-nil

  pub step-stops : first_wide (defined_steps with_cost rows rest first) ≡ None → all_fit next.formed ≡ false → first_wide (defined_steps with_cost rows (d ∷ rest) first) ≡ Some (LiftMultiplier d.row.name)
  step-stops h k = both ∙ ap (λ o. option_or o (first_wide (next ∷ []))) h ∙ first_wide-stops next [] k

-- ---- the loop, from the last row to the first

pub done-start : (with_cost : Bool) (rows : List Row) (defs : List (Option Var)) (left : ℕ) (m : BTreeMap RowName Frac) → length rows ≤ left → AreDone with_cost rows (drop left rows) (drop left defs) (values_in m) m
done-start with_cost rows defs left m h = record {
  made = ap (λ ds. defined_multipliers with_cost rows ds (values_in m)) (sym (no_definition_left rows defs left h));
  steps = ap (λ ds. first_wide (defined_steps with_cost rows ds (values_in m))) (no_definition_left rows defs left h) ∙ first_wide-nil;
}

module _ (with_cost : Bool) (rows : List Row) (defs : List (Option Var)) (first : List (RowName × Rational)) (i left : ℕ) (is : left ≡ i + 1) (m : BTreeMap RowName Frac) (before : AreDone with_cost rows (drop left rows) (drop left defs) first m) where
  abbrev later : List Definition
  later = definitions_of (drop (i + 1) rows) (drop (i + 1) defs)

  so_done : AreDone with_cost rows (drop (i + 1) rows) (drop (i + 1) defs) first m
  so_done = subst (λ n. AreDone with_cost rows (drop n rows) (drop n defs) first m) is before

  -- no definition there
  pub done-none : definitions_of (drop i rows) (drop i defs) ≡ later → AreDone with_cost rows (drop i rows) (drop i defs) first m
  done-none e = record {
    made = so_done.made ∙ ap (λ ds. defined_multipliers with_cost rows ds first) (sym e);
    steps = ap (λ ds. first_wide (defined_steps with_cost rows ds first)) e ∙ so_done.steps;
  }

  module _ (row : Row) (v : Var) (column : List (RowName × ℤ)) (e : definitions_of (drop i rows) (drop i defs) ≡ record { row = row; variable = v } ∷ later) (whole : column ≡ column_of rows v) where
    abbrev one : Definition
    one = record { row = row; variable = v }

    -- what the code makes is the multiplier, and what it forms its numbers
    abbrev by_column : List (RowName × Rational) → List (RowName × ℤ) → Rational
    by_column values cells = solved_for row_name_cmp (value_in row_name_cmp values) row.name cells (coefficient with_cost v) (number_at row.entries.items v)

    abbrev formed_by : List (RowName × Rational) → List (RowName × ℤ) → Bool
    formed_by values cells = all_fit (solved_formed row_name_cmp (value_in row_name_cmp values) row.name cells (coefficient with_cost v) (number_at row.entries.items v))

    formed_is : formed_by (values_in m) column ≡ formed_by (defined_multipliers with_cost rows later first) (column_of rows v)
    formed_is = ap₂ formed_by so_done.made whole

    pub done-next : (n : BTreeMap RowName Frac) → values_in n ≡ insert_entry row_name_cmp (values_in m) row.name (by_column (values_in m) column) → formed_by (values_in m) column ≡ true → AreDone with_cost rows (drop i rows) (drop i defs) first n
    done-next n pushed fit = record {
      made = pushed
          ∙ ap₂ (λ values cells. insert_entry row_name_cmp values row.name (by_column values cells)) so_done.made whole
          ∙ ap (λ ds. defined_multipliers with_cost rows ds first) (sym e);
      steps = ap (λ ds. first_wide (defined_steps with_cost rows ds first)) e ∙ step-fits with_cost rows first one later so_done.steps (sym formed_is ∙ fit);
    }

    pub done-stop : formed_by (values_in m) column ≡ false → first_wide (defined_steps with_cost rows (definitions_of rows defs) first) ≡ Some (LiftMultiplier row.name)
    done-stop wide =
        stop-all with_cost rows first rows defs i (LiftMultiplier row.name)
        (ap (λ ds. first_wide (defined_steps with_cost rows ds first)) e ∙ step-stops with_cost rows first one later so_done.steps (sym formed_is ∙ wide))

-- ---- all steps

pub both-fit : (a b : List (Step Place)) → first_wide a ≡ None → first_wide b ≡ None → first_wide (a ++ b) ≡ None
both-fit a b h k = first_wide-append a b ∙ ap₂ option_or h k

pub first-stops : (a b : List (Step Place)) (p : Place) → first_wide a ≡ Some p → first_wide (a ++ b) ≡ Some p
first-stops a b p h = first_wide-append a b ∙ ap (λ o. option_or o (first_wide b)) h

pub second-stops : (a b : List (Step Place)) (p : Place) → first_wide a ≡ None → first_wide b ≡ Some p → first_wide (a ++ b) ≡ Some p
second-stops a b p h k = first_wide-append a b ∙ ap₂ option_or h k

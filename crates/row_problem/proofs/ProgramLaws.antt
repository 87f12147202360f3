-- What is left of rows is the written method's linear program.
use Rattle.row_problem.proofs.Common.{◌≡◌, List, [], ◌∷◌, map, filter, refl, sym, ap, ◌∙◌, value_of, Frac, Row, RowName, Option, Result, Ok, Err, IfOk, Var, Stopped, Reduced, ReducedRow, expanded_all, is_column, reduced_row, Inequality, LinearProgram, program_of, defined, definitions_of, others_of, rows_of, IsReady, AreColumns, IsWhole, IsWithout, AreReductions, AreThese, Shape, scale_in, scale_worth, shape, shape_of, AreVariablesOf, names_of, Model, cost_left, kept_scale, name_left, program_left, rows_left, scale_left, IsProblem, IsProgramOf}
use Rattle.variable_elimination.specs.CostRows.{IsCostOf}
use Rattle.std.proofs.lemmas.Simd.{map-map}
use Rattle.row_problem.proofs.PosedLaws.{posed}
use Rattle.row_problem.proofs.ProblemLaws.{columns-are}

-- what is made of equal things that two lists are mapped to is equal
same-after : {A B S C : Type 0} (f : A → S) (g : B → S) (k : S → C) (xs : List A) (ys : List B) → map f xs ≡ map g ys → map (λ x. k (f x)) xs ≡ map (λ y. k (g y)) ys
same-after f g k xs ys e = sym (map-map k f xs) ∙ ap (map k) e ∙ map-map k g ys

pub same-program : (a b : LinearProgram) → a.rows ≡ b.rows → a.columns ≡ b.columns → a.cost ≡ b.cost → a.cost_right ≡ b.cost_right → a.cost_own ≡ b.cost_own → a ≡ b
same-program a b rows columns cost right own =
    let same : ◌≡◌ {A = LinearProgram} (record { rows = a.rows; columns = a.columns; cost = a.cost; cost_right = a.cost_right; cost_own = a.cost_own })
    (record { rows = b.rows; columns = b.columns; cost = b.cost; cost_right = b.cost_right; cost_own = b.cost_own }) = cc (rows, columns, cost, right, own) in
    same

abbrev shape_inequality : Shape → Inequality
shape_inequality s = record { sense = s.sense; entries = s.form.entries; right = s.form.right }

abbrev shape_name : Shape → RowName
shape_name s = s.name

pub program-is : (rows : List Row) (defs : List (Option Var)) (vars : List Var) (reduced : Reduced) → reduced.columns.items ≡ filter is_column vars → AreThese (rows_left rows defs) reduced.rows.items reduced.scales.items
    → IsCostOf (cost_left rows defs) reduced → program_of reduced ≡ program_left rows defs vars Model
unfolding program_left
program-is rows defs vars reduced columns these of =
    same-program (program_of reduced) (program_left rows defs vars Model) (same-after shape_of shape shape_inequality reduced.rows.items (rows_left rows defs) these.rows_are) columns of.cost of.right_side of.own

pub names-are : (left : List ReducedRow) (rows : List Row) (scales : List Frac) → AreThese left rows scales → names_of rows ≡ map name_left left
names-are left rows scales these = same-after shape_of shape shape_name rows left these.rows_are

pub scales-are : (left : List ReducedRow) (rows : List Row) (scales : List Frac) → AreThese left rows scales → map value_of scales ≡ map scale_left left
scales-are left rows scales these = same-after scale_worth scale_in kept_scale scales left these.scales_are

-- as the call answers
pub program-answer : (rows : List Row) (defs : List (Option Var)) (vars : List Var) → IsProblem rows defs vars → AreVariablesOf rows vars → (answer : Result Reduced Stopped) → IfOk answer (λ made. AreThese (rows_left rows defs) made.rows.items made.scales.items)
    → IfOk answer (λ made. AreColumns rows made.columns.items) → IfOk answer (IsCostOf (cost_left rows defs)) → IfOk answer (λ made. AreReductions (rows_of (definitions_of rows defs)) (others_of rows defs) made.rows.items made.scales.items)
    → IfOk answer (IsWithout (defined (definitions_of rows defs))) → IfOk answer (IsWhole rows defs) → IfOk answer IsReady → IfOk answer (IsProgramOf rows defs vars Model)
program-answer rows defs vars problem variables (Err e) these are of reductions without whole ready = tt
program-answer rows defs vars problem variables (Ok made) these are of reductions without whole ready =
    let columns = columns-are rows defs vars problem variables made.columns.items are in
    record {
      problem = problem;
      part = whole.part;
      whole = λ e. whole;
      reductions = reductions;
      columns = columns;
      ready = ready;
      posed = posed rows defs vars made (map (reduced_row (expanded_all [] (definitions_of rows defs))) (others_of rows defs)) problem reductions without.rows these.rows_are ready;
      left = program-is rows defs vars made columns these of;
      names = names-are (rows_left rows defs) made.rows.items made.scales.items these;
      scales = scales-are (rows_left rows defs) made.rows.items made.scales.items these;
    }

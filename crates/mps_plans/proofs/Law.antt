-- The text of the equations reads as a program of their plans.
use Rattle.mps_plans.proofs.Common.{◌≡◌, ℕ, ◌+◌, ◌<◌, ◌^◌, true, List, [], ◌∷◌, length, map, Some, refl, ap, sym, ◌∙◌, subst, arith, inl, inr, ◌⊎◌, ℤ, Contains, ◌↔◌, AllByRecursion, AllZip, enumerate_from, Data, AreComplete, Row, RowName, Var, TOTAL_DISCOUNTED_COST, row_name, variable_name, variables_of, contents_of, MeetsAll, all_variables, exists, instances, Feasible, Name, is_one_line, MeetsProgram, Program, all-each, all-weaker, AreReadable, program_column, program_of_rows, program_row, Among, AreValuesOf, HaveOneLineNames, IsProgramOf, PlanWithValues, RowSays}
use Rattle.row_core.proofs.Members.{Contains-from_Has, Has}
use Rattle.row_core.specs.RowLists.{AreVariablesOf, entry_variables}
use Rattle.row_book.specs.Books.{AreRowsOf}
use Rattle.row_book.proofs.Columns.{all-stand}
use Rattle.row_book.proofs.Within.{variables-exist}
use Rattle.command_answers.specs.CheckedPlans.{IsBookOf}
use Rattle.command_answers.proofs.CheckedRows.{feasible-from_rows, rows-from_feasible}
use Rattle.command_answers.proofs.PlanCosts.{all-of, cost-is}
use Rattle.mps_meaning.specs.Reading.{program_of}
use Rattle.mps_reading.proofs.ReadRows.{among-from, rows-read, with-columns}
use Rattle.mps_reading.proofs.Stated.{IsWithColumns}
use Rattle.mps_writer.specs.MpsText.{mps_text}
use Rattle.mps_plans.proofs.Counts.{few-instances, few-variables}
use Rattle.mps_plans.proofs.NameLines.{row_name-line, variable_name-line}
use Rattle.mps_plans.proofs.Values.{bounds-are, costs-are, plan-for, row-holds, rows-hold, values-for}

-- ---- lists

all-among : (P : Var → Type 0) (vs : List Var) (v : Var) → AllByRecursion P vs → Among vs v → P v
all-among P [] v all there = absurd there
all-among P (w ∷ vs) v all (inl e) = subst P e all.0
all-among P (w ∷ vs) v all (inr later) = all-among P vs v all.1 later

each-there : (P : Var → Type 0) (vs : List Var) → ((v : Var) → Has vs v → P v) → AllByRecursion P vs
each-there P [] holds = tt
each-there P (w ∷ vs) holds = (holds w (inl refl), each-there P vs (λ v there. holds v (inr there)))

rows-count : (places : ℕ) (d : Data) (names : List RowName) (rows : List Row) → AreRowsOf places d names rows → length rows ≡ length names
rows-count places d [] [] are = refl
rows-count places d [] (row ∷ rows) are = absurd are
rows-count places d (name ∷ names) [] are = absurd are
rows-count places d (name ∷ names) (row ∷ rows) are = let rest = rows-count places d names rows are.1 in omega arith

module _ (places : ℕ) (d : Data) (rows : List Row) (columns : List Var) (complete : AreComplete d) (named : HaveOneLineNames d.sets)
    (are : AreRowsOf places d (instances d) rows) (listed : AreVariablesOf rows columns) where
  exist : (v : Var) → Contains columns v → exists d v ≡ true
  exist v there = all-among (λ v. exists d v ≡ true) columns v (variables-exist places d rows columns are listed) (among-from columns v there)

  whole : (v : Var) → exists d v ≡ true → Contains columns v
  whole v there = (listed.each v).1 (Contains-from_Has (entry_variables rows) v (all-stand places d rows v complete are there))

  book : IsBookOf places d rows columns
  book = record { are_rows = are; ascending = listed.ascending; exist = exist; whole = whole }

  -- the columns are the variables that exist
  columns-all : columns ≡ all_variables d
  columns-all = all-of d columns listed.ascending exist whole

  listed-each : AllByRecursion (Contains columns) (entry_variables rows)
  listed-each = each-there (Contains columns) (entry_variables rows) (λ v there. (listed.each v).1 (Contains-from_Has (entry_variables rows) v there))

  few-columns : length columns < 10 ^ 64
  few-columns = subst (λ vs. length vs < 10 ^ 64) (sym columns-all) (few-variables d complete.sets)

  readable : AreReadable d.sets rows columns
  readable = record {
    few_rows = subst (λ n. n < 10 ^ 64) (sym (rows-count places d (instances d) rows are)) (few-instances d complete.sets);
    few_columns = few-columns;
    row_names = all-each (λ row. is_one_line (row_name d.sets row.name) ≡ true) (λ row. row_name-line d.sets named row.name) rows;
    column_names = all-each (λ v. is_one_line (variable_name d.sets v) ≡ true) (variable_name-line d.sets named) columns;
    ascending = listed.ascending;
    used = each-there (λ v. (v.kind ≡ TOTAL_DISCOUNTED_COST) ⊎ Contains (entry_variables rows) v) columns (λ v there. inr ((listed.each v).0 (Contains-from_Has columns v there)));
    listed = listed-each;
  }

  among-each : AllByRecursion (λ row. AllByRecursion (Among columns) (variables_of row.entries.items)) rows
  among-each = all-weaker (λ row. IsWithColumns columns (contents_of row)) _ (λ row is. is.among) rows (with-columns columns rows listed-each)

  each-says : (both : PlanWithValues) → AreValuesOf columns both.plan both.values → (k : ℕ) (names : List RowName) (rs : List Row) → AreRowsOf places d names rs
      → AllByRecursion (λ row. AllByRecursion (Among columns) (variables_of row.entries.items)) rs
      → AllZip (RowSays places d both) names (map (program_row columns) (enumerate_from k (map contents_of rs)))
  each-says both valued k [] [] are among = tt
  each-says both valued k [] (row ∷ rs) are among = absurd are
  each-says both valued k (name ∷ names) [] are among = absurd are
  each-says both valued k (name ∷ names) (row ∷ rs) are among =
      let holds = row-holds columns listed.ascending both.plan both.values valued both.q k row among.0 in
      let says = are.0.says both.q both.plan in
      ((λ h. says.0 (holds.0 h), λ h. holds.1 (says.1 h)), each-says both valued (k + 1) names rs are.1 among.1)

  solutions : (q : ℕ) (x : Var → ℤ) (values : Name → ℤ) → AreValuesOf columns x values → MeetsProgram (program_of_rows rows columns) q values ↔ Feasible places d q x
  solutions q x values valued =
      let hold = rows-hold columns listed.ascending x values valued q 1 rows among-each in
      let bounds = bounds-are q 1 x values columns valued in (
        λ meets. feasible-from_rows places d rows columns book q x (record { positive = meets.positive; rows_hold = hold.0 meets.rows; signs = bounds.0 meets.columns }),
        λ feasible.
            let all : MeetsAll rows columns q x = rows-from_feasible places d rows columns book q x feasible in
            record { positive = all.positive; rows = hold.1 all.rows_hold; columns = bounds.1 all.signs },
      )

  valued-by : (x : Var → ℤ) (values : Name → ℤ) → AreValuesOf (all_variables d) x values → AreValuesOf columns x values
  valued-by x values valued = subst (λ vs. AreValuesOf vs x values) (sym columns-all) valued

  is-program : IsProgramOf places d (program_of_rows rows columns)
  is-program = record {
    columns = ap (λ vs. map program_column (enumerate_from 1 vs)) columns-all;
    valued = λ x. values-for (all_variables d) (omega (arith, few-variables d complete.sets)) x;
    rows = λ both valued. each-says both (valued-by both.plan both.values valued) 1 (instances d) rows are among-each;
    feasible = λ q x values valued. solutions q x values (valued-by x values valued);
    costs = λ x values valued. costs-are 1 x values columns (valued-by x values valued) ∙ cost-is d columns listed.ascending exist whole x;
    planned = λ values. let found = plan-for columns listed.ascending values in (found.0, subst (λ vs. AreValuesOf vs found.0 values) columns-all found.1);
  }

  pub means : (program : Program) × (program_of (mps_text d.sets rows columns) ≡ Some program) × IsProgramOf places d program
  means = (program_of_rows rows columns, rows-read d.sets rows columns readable, is-program)

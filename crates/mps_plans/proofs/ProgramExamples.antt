-- The program of data with a region and a year and nothing else, written down by hand, and near misses of it.
use Rattle.mps_plans.proofs.Common.{◌≡◌, ℕ, Bool, true, false, List, [], ◌∷◌, drop, map, ap, sym, refl, arith, true≢false, AllByRecursion, enumerate_from, list_all, Data, Var, kind_is_free, all_variables, index, name_at, Feasible, Meets, model_period_cost_by_region, re_total_production_of_target_fuel_annual, total_capacity_in_reserve_margin, total_discounted_cost, total_re_production_annual, Name, EachIsAtLeast, HoldsOf, Letter, MeetsProgram, Numbers, Program, ProgramColumn, ProgramRow, program_column, AreValuesOf, IsProgramOf}
use Rattle.std.specs.Prelude.{ℤ, pos, negsuc, ◌≤ℤ◌, ◌↔◌, codes, is_some, None, Some}
use Rattle.std.specs.Fmt.{digits}
use Rattle.std.proofs.lemmas.Int.{ints}
use Rattle.row_core.specs.declared.equation_numbers.TheConstants.{ACC4, RE2, RE3, RE4, RM1, TDC2}
use Rattle.named_equations.proofs.InstanceTests.{Has-variables}
use Rattle.row_book.proofs.Lists.{all-has}
use Rattle.mps_plans.proofs.Values.{plan-for, values-for}

-- ---- data, and their program

abbrev one_region : Data
one_region = record {
  sets = (codes "R" ∷ []) ∷ [] ∷ [] ∷ [] ∷ [] ∷ [] ∷ (codes "2020" ∷ []) ∷ [] ∷ [] ∷ [] ∷ [] ∷ [] ∷ [];
  given = [];
  defaults = [];
  second = false;
}

abbrev row : List ℕ → Letter → Numbers → ProgramRow
row name sense entries = record { name = name; sense = sense; entries = entries; right_side = pos 0 }

-- no cost is due, since there is no technology: TDC2
abbrev no_cost : ProgramRow
no_cost = row (codes "R1") Letter.E ((codes "C1", pos 1) ∷ [])

-- the cost of the region is that of the year: Acc4
abbrev same_cost : ProgramRow
same_cost = row (codes "R2") Letter.E ((codes "C1", negsuc 0) ∷ (codes "C2", pos 1) ∷ [])

-- no capacity is in the margin: RM1
abbrev no_margin : ProgramRow
no_margin = row (codes "R3") Letter.E ((codes "C3", pos 1) ∷ [])

-- there is no renewable production, and none of the target's fuels: RE2 and RE3
abbrev no_renewable : ProgramRow
no_renewable = row (codes "R4") Letter.E ((codes "C4", pos 1) ∷ [])

abbrev no_target : ProgramRow
no_target = row (codes "R5") Letter.E ((codes "C5", pos 1) ∷ [])

-- which is at least none: RE4
abbrev at_least_none : ProgramRow
at_least_none = row (codes "R6") Letter.L ((codes "C4", negsuc 0) ∷ [])

-- the column of TotalCapacityInReserveMargin
abbrev margin : ProgramColumn
margin = record { name = codes "C3"; least = Some (pos 0) }

-- the program with these costs, this first and this last row, and this column as the third
abbrev program_with : Numbers → ProgramRow → ProgramRow → ProgramColumn → Program
program_with costs first last third = record {
  costs = costs;
  rows = first ∷ same_cost ∷ no_margin ∷ no_renewable ∷ no_target ∷ last ∷ [];
  columns =
      record { name = codes "C1"; least = None }
      ∷ record { name = codes "C2"; least = None }
      ∷ third
      ∷ record { name = codes "C4"; least = Some (pos 0) }
      ∷ record { name = codes "C5"; least = Some (pos 0) }
      ∷ [];
}

abbrev costs : Numbers
costs = (codes "C1", pos 1) ∷ []

abbrev program : Program
program = program_with costs no_cost at_least_none margin

-- ---- it is that of the data

module _ (q : ℕ) (x : Var → ℤ) (values : Name → ℤ) (are : AreValuesOf (all_variables one_region) x values) where
  first : values (codes "C1") ≡ x (total_discounted_cost 0 0)
  unfolding digits
  first = are.0

  second : values (codes "C2") ≡ x (model_period_cost_by_region 0)
  unfolding digits
  second = are.1.0

  third : values (codes "C3") ≡ x (total_capacity_in_reserve_margin 0 0)
  unfolding digits
  third = are.1.1.0

  fourth : values (codes "C4") ≡ x (total_re_production_annual 0 0)
  unfolding digits
  fourth = are.1.1.1.0

  fifth : values (codes "C5") ≡ x (re_total_production_of_target_fuel_annual 0 0)
  unfolding digits
  fifth = are.1.1.1.1.0

  -- the row says what the equation says
  abbrev Says : ℕ → ProgramRow → Type 0
  Says eq row = HoldsOf q values row ↔ Meets 6 one_region q x (name_at eq (index 0 0 0 0 0 0 0 0))

  rows-say : Says TDC2 no_cost × Says ACC4 same_cost × Says RM1 no_margin × Says RE2 no_renewable × Says RE3 no_target × Says RE4 at_least_none
  rows-say = (
    (λ h. omega (arith, ints, h, first), λ m. omega (arith, ints, m, first)),
    (λ h. omega (arith, ints, h, first, second), λ m. omega (arith, ints, m, first, second)),
    (λ h. omega (arith, ints, h, third), λ m. omega (arith, ints, m, third)),
    (λ h. omega (arith, ints, h, fourth), λ m. omega (arith, ints, m, fourth)),
    (λ h. omega (arith, ints, h, fifth), λ m. omega (arith, ints, m, fifth)),
    (λ h. omega (arith, ints, h, fourth), λ m. omega (arith, ints, m, fourth)),
  )

  -- the variables after the first two aren't free
  signs : EachIsAtLeast q values program.columns → AllByRecursion (λ v. kind_is_free v.kind ≡ false → pos 0 ≤ℤ x v) (all_variables one_region)
  signs columns =
      (λ fixed. absurd (true≢false fixed), (λ fixed. absurd (true≢false fixed), (λ fixed. omega (arith, ints, columns.1.1.0, third), (λ fixed. omega (arith, ints, columns.1.1.1.0, fourth), (λ fixed. omega (arith, ints, columns.1.1.1.1.0, fifth), tt)))))

  feasible-from : MeetsProgram program q values → Feasible 6 one_region q x
  feasible-from meets =
      let say = rows-say in
      let rows = meets.rows in record {
        positive = meets.positive;
        equations = (say.0.0 rows.0, (say.1.0 rows.1.0, (say.2.0 rows.1.1.0, (say.3.0 rows.1.1.1.0, (say.4.0 rows.1.1.1.1.0, (say.5.0 rows.1.1.1.1.1.0, tt))))));
        signs = λ v is fixed. all-has (λ v. kind_is_free v.kind ≡ false → pos 0 ≤ℤ x v) (all_variables one_region) v (signs meets.columns) ((Has-variables one_region v).1 is) fixed;
      }

  meets-from : Feasible 6 one_region q x → MeetsProgram program q values
  meets-from feasible =
      let say = rows-say in
      let them = feasible.equations in
      let third_sign : pos 0 ≤ℤ x (total_capacity_in_reserve_margin 0 0) = feasible.signs (total_capacity_in_reserve_margin 0 0) refl refl in
      let fourth_sign : pos 0 ≤ℤ x (total_re_production_annual 0 0) = feasible.signs (total_re_production_annual 0 0) refl refl in
      let fifth_sign : pos 0 ≤ℤ x (re_total_production_of_target_fuel_annual 0 0) = feasible.signs (re_total_production_of_target_fuel_annual 0 0) refl refl in record {
        positive = feasible.positive;
        rows = (say.0.1 them.0, (say.1.1 them.1.0, (say.2.1 them.1.1.0, (say.3.1 them.1.1.1.0, (say.4.1 them.1.1.1.1.0, (say.5.1 them.1.1.1.1.1.0, tt))))));
        columns = (tt, (tt, (omega (arith, ints, third, third_sign), (omega (arith, ints, fourth, fourth_sign), (omega (arith, ints, fifth, fifth_sign), tt)))));
      }

same-columns : program.columns ≡ map program_column (enumerate_from 1 (all_variables one_region))
unfolding digits
same-columns = refl

is-program : IsProgramOf 6 one_region program
is-program = record {
  columns = same-columns;
  valued = λ x. values-for (all_variables one_region) (omega arith) x;
  rows = λ both are. let say = rows-say both.q both.plan both.values are in (say.0, (say.1, (say.2, (say.3, (say.4, (say.5, tt))))));
  feasible = λ q x values are. (feasible-from q x values are, meets-from q x values are);
  costs = λ x values are. omega (arith, ints, first 1 x values are);
  planned = λ values. plan-for (all_variables one_region) refl values;
}

-- ---- near misses

-- the costs left out: every plan would cost nothing
free_of_cost : ¬ (IsProgramOf 6 one_region (program_with [] no_cost at_least_none margin))
free_of_cost is = let found = is.valued (λ v. pos 1) in absurd (omega (arith, ints, is.costs (λ v. pos 1) found.0 found.1))

-- a right side of 1: the plan of zeros meets TDC2, and not the row
another_side : ¬ (IsProgramOf 6 one_region (program_with costs (record no_cost { right_side = pos 1 }) at_least_none margin))
another_side is =
    let found = is.valued (λ v. pos 0) in
    let none : found.0 (codes "C1") ≡ pos 0 = first 1 (λ v. pos 0) found.0 found.1 in
    let holds = (is.rows (record { q = 1; plan = λ v. pos 0; values = found.0 }) found.1).0.1 refl in
    absurd (omega (arith, ints, none, holds))

-- the other sense: a plan of ones meets RE4, and not the row
another_sense : ¬ (IsProgramOf 6 one_region (program_with costs no_cost (record at_least_none { sense = Letter.G }) margin))
another_sense is =
    let found = is.valued (λ v. pos 1) in
    let one : found.0 (codes "C4") ≡ pos 1 = fourth 1 (λ v. pos 1) found.0 found.1 in
    let holds = (is.rows (record { q = 1; plan = λ v. pos 1; values = found.0 }) found.1).1.1.1.1.1.0.1 (omega (arith, ints)) in
    absurd (omega (arith, ints, one, holds))

-- whether each column after the second has a least value
abbrev have_bounds : List ProgramColumn → Bool
have_bounds columns = list_all (λ column. is_some column.least) (drop 2 columns)

-- no bound of the capacity in the margin
unbounded_margin : ¬ (IsProgramOf 6 one_region (program_with costs no_cost at_least_none (record margin { least = None })))
unfolding digits
unbounded_margin is = let differ : false ≡ true = ap have_bounds is.columns in absurd (true≢false (sym differ))

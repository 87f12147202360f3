-- What was found of the linear program and carried back, over some common denominators, makes the checker say yes.
use Rattle.row_problem.proofs.Common.{◌≡◌, ℕ, ◌*◌, ◌<◌, ℤ, pos, ◌*ℤ◌, true, List, map, subst, arith, ◌<ℤ◌, ints, Rational, value_of, Frac, *ℤ_comm, Row, RowName, Var, ascends, keys_of, row_name_cmp, var_cmp, Reduced, AreOverFrom, Meets, ValuesAreOver, program_of, AreMultipliersOver, AreOverSome, IsFoundPlan, IsFoundRefutation, BecomesPlan, BecomesRefutation, Values, Multipliers}
use Rattle.written_method.specs.Certificates.{Refutes}
use Rattle.row_problem.proofs.OverLaws.{IsOverSome, multipliers-more, over-multiplied, values-listed}

pub positive : (n : ℕ) → 0 < n → pos 0 <ℤ pos n
positive n h = omega (arith, ints, h)

-- ---- common denominators

-- multipliers of rows and a list of fractions, over one number
pub record AreOverOne (multipliers : Multipliers) (numbers : List Rational) : Type 0 where
  pub over : ℕ
  pub named : RowName → ℤ
  pub number : ℕ → ℤ
  pub are : AreMultipliersOver over named multipliers
  pub from : AreOverFrom (pos over) number 0 numbers

abbrev pub over-one : (multipliers : Multipliers) (numbers : List Rational) → AreOverSome row_name_cmp multipliers → IsOverSome numbers → AreOverOne multipliers numbers
over-one multipliers numbers m o = record {
  over = o.over * m.over;
  named = λ name. pos o.over *ℤ m.number name;
  number = λ j. pos m.over *ℤ o.number j;
  are = multipliers-more o.over m.over m.number multipliers o.positive (m.positive, m.each);
  from = subst (λ t. AreOverFrom t (λ j. pos m.over *ℤ o.number j) 0 numbers) (*ℤ_comm (pos m.over) (pos o.over)) (over-multiplied (pos m.over) (pos o.over) o.number 0 numbers o.each);
}

-- ---- what is found

-- values that meet the linear program, over any common denominator
abbrev pub found-plan : (rows : List Row) (vars : List Var) (reduced : Reduced) (values plan : Values) → keys_of values ≡ reduced.columns.items → ascends var_cmp (keys_of values) ≡ true → AreOverSome var_cmp values → AreOverSome var_cmp plan
    → ((q : ℤ) (x : Var → ℤ) → pos 0 <ℤ q → ValuesAreOver q x values → Meets (program_of reduced) q x) → BecomesPlan rows vars reduced values plan → IsFoundPlan rows vars plan
found-plan rows vars reduced values plan keyed up some made meet becomes = record {
  over = made.over;
  number = made.number;
  are = (made.positive, made.each);
  meets =
      becomes some.over made.over some.number made.number keyed (some.positive, some.each) (made.positive, made.each)
      (meet (pos some.over) some.number (positive some.over some.positive) (values-listed values (pos some.over) some.number up some.each));
}

-- multipliers that refute it
pub found-refutation : (rows : List Row) (vars : List Var) (reduced : Reduced) (lambda : List Frac) (multipliers : Multipliers) → AreOverSome row_name_cmp multipliers → IsOverSome (map value_of lambda)
    → ((d : ℤ) (y : ℕ → ℤ) → pos 0 <ℤ d → AreOverFrom d y 0 (map value_of lambda) → Refutes (program_of reduced) y) → BecomesRefutation rows vars reduced lambda multipliers → IsFoundRefutation rows vars multipliers
found-refutation rows vars reduced lambda multipliers some_multipliers some_lambda refute becomes =
    let one = over-one multipliers (map value_of lambda) some_multipliers some_lambda in
    record {
      over = one.over;
      number = one.named;
      are = one.are;
      refutes = becomes one.over one.named one.number one.are one.from (refute (pos one.over) one.number (positive one.over one.are.0) one.from);
    }

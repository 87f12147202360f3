-- What is said of rows is said of copies, which have the same names, senses, entries and right sides.
use Rattle.row_problem.proofs.Common.{◌≡◌, ℤ, pos, List, [], ◌∷◌, ◌++◌, map, refl, sym, ap, ◌∙◌, subst, Rational, Row, Var, Check, evaluated, evaluated_formed, var_cmp, value_in, stands, AllPass, Condition, formed_at, model_cost, IsFoundPlan, IsPlan, plan_cost, absolute, plan_conditions, RowContents, contents_of, Values}
use Rattle.certificate_checker.specs.Reasons.{row_missed}
use Rattle.row_problem.proofs.CopiedRows.{copied-meets}

-- the condition of a row, by its contents
abbrev condition_in : (Var → Rational) → RowContents → Condition
condition_in value s = record {
  seen = formed_at (Check s.name) (evaluated_formed value s.entries s.rhs);
  holds = stands s.sense (evaluated value s.entries s.rhs).top (pos 0);
  reason = row_missed s.name (absolute (evaluated value s.entries s.rhs));
  amount = [];
}

-- the conditions of the rows come first, and then those of no rows
conditions-split : (cost : Var → ℤ) (vars : List Var) (plan : Values) (rows : List Row)
    → plan_conditions cost rows vars plan ≡ map (condition_in (value_in var_cmp plan)) (map contents_of rows) ++ plan_conditions cost [] vars plan
conditions-split cost vars plan [] = refl
conditions-split cost vars plan (row ∷ rows) = ap {B = List Condition} (λ cs. condition_in (value_in var_cmp plan) (contents_of row) ∷ cs) (conditions-split cost vars plan rows)

pub copied-conditions : (cost : Var → ℤ) (vars : List Var) (plan : Values) (copies rows : List Row) → map contents_of copies ≡ map contents_of rows → plan_conditions cost copies vars plan ≡ plan_conditions cost rows vars plan
copied-conditions cost vars plan copies rows e =
    conditions-split cost vars plan copies ∙ ap (λ (ss : List RowContents). map (condition_in (value_in var_cmp plan)) ss ++ plan_conditions cost [] vars plan) e ∙ sym (conditions-split cost vars plan rows)

-- a plan of copies is one of the rows
pub copied-plan : (vars : List Var) (plan : Values) (cost : Rational) (copies rows : List Row) → map contents_of copies ≡ map contents_of rows → IsPlan copies vars plan cost → IsPlan rows vars plan (plan_cost vars plan)
copied-plan vars plan cost copies rows e h = record {
  pass = subst AllPass (copied-conditions model_cost vars plan copies rows e) h.pass;
  some = h.some;
  meets = λ q x are. copied-meets vars q x copies rows e (h.meets q x are);
  costs = λ q x are. rw h.cost_is at (h.costs q x are);
  cost_is = refl;
}

-- and what is found of the rows is found of the copies
pub copied-found : (vars : List Var) (plan : Values) (copies rows : List Row) → map contents_of copies ≡ map contents_of rows → IsFoundPlan rows vars plan → IsFoundPlan copies vars plan
copied-found vars plan copies rows e h = record { over = h.over; number = h.number; are = h.are; meets = copied-meets vars h.over h.number rows copies (sym e) h.meets }

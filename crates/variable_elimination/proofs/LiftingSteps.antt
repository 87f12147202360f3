-- The loop over definitions: the values as the code keeps them, and what is left to be made and formed.
use Rattle.variable_elimination.proofs.Common.{◌≡◌, true, false, List, [], ◌∷◌, sym, ap, ◌∙◌, subst, Some, None, BTreeMap, insert_entry, all_fit, Rational, first_wide, Frac, first_wide-fits, first_wide-stops, first_wide-nil, Row, Var, var_cmp, value_in, Definition, lifted, lifted_steps, lifted_value, lifted_formed, right_by, place_by, definition_by, IsLifting, values_in}
use Rattle.variable_elimination.specs.declared.lifting.Lift.{Lift}

-- ---- definitions

-- one definition more
pub IsLifting-next : (goal : Lift) (all : List Definition) (row : Row) (v : Var) (rest left : List Definition) (values : List (Var × Rational)) (now new : BTreeMap Var Frac) → left ≡ definition_by row v ∷ rest
    → values_in new ≡ insert_entry var_cmp (values_in now) v (lifted_value (right_by goal) (value_in var_cmp (values_in now)) (definition_by row v))
    → all_fit (lifted_formed (right_by goal) (value_in var_cmp (values_in now)) (definition_by row v)) ≡ true
    → IsLifting goal all left values now → IsLifting goal all rest values new
IsLifting-next goal all row v rest left values now new e pushed fit before = next (subst (λ ds. IsLifting goal all ds values now) e before)
  where
    next : IsLifting goal all (definition_by row v ∷ rest) values now → IsLifting goal all rest values new
    next s = record {
      made = ap (lifted (right_by goal) rest) pushed ∙ s.made;
      steps = s.steps
          ∙ first_wide-fits (record { place = place_by goal v; formed = lifted_formed (right_by goal) (value_in var_cmp (values_in now)) (definition_by row v) })
          (lifted_steps (right_by goal) (place_by goal) rest (insert_entry var_cmp (values_in now) v (lifted_value (right_by goal) (value_in var_cmp (values_in now)) (definition_by row v)))) fit
          ∙ ap (λ vs. first_wide (lifted_steps (right_by goal) (place_by goal) rest vs)) (sym pushed);
    }

-- it stops where the next definition forms a number that doesn't fit
pub IsLifting-stop : (goal : Lift) (all : List Definition) (row : Row) (v : Var) (rest left : List Definition) (values : List (Var × Rational)) (now : BTreeMap Var Frac) → left ≡ definition_by row v ∷ rest
    → IsLifting goal all left values now → all_fit (lifted_formed (right_by goal) (value_in var_cmp (values_in now)) (definition_by row v)) ≡ false
    → first_wide (lifted_steps (right_by goal) (place_by goal) all values) ≡ Some (place_by goal v)
IsLifting-stop goal all row v rest left values now e before wide = stop (subst (λ ds. IsLifting goal all ds values now) e before)
  where
    stop : IsLifting goal all (definition_by row v ∷ rest) values now → first_wide (lifted_steps (right_by goal) (place_by goal) all values) ≡ Some (place_by goal v)
    stop s =
        s.steps
        ∙ first_wide-stops (record { place = place_by goal v; formed = lifted_formed (right_by goal) (value_in var_cmp (values_in now)) (definition_by row v) })
        (lifted_steps (right_by goal) (place_by goal) rest (insert_entry var_cmp (values_in now) v (lifted_value (right_by goal) (value_in var_cmp (values_in now)) (definition_by row v)))) wide

-- where none is left, all is made, and all numbers fit
pub IsLifting-end : (goal : Lift) (all rest : List Definition) (values : List (Var × Rational)) (now : BTreeMap Var Frac) → rest ≡ [] → IsLifting goal all rest values now
    → (values_in now ≡ lifted (right_by goal) all values) × (first_wide (lifted_steps (right_by goal) (place_by goal) all values) ≡ None)
IsLifting-end goal all rest values now e s = (
  ap (λ ds. lifted (right_by goal) ds (values_in now)) (sym e) ∙ s.made,
  s.steps ∙ ap (λ ds. first_wide (lifted_steps (right_by goal) (place_by goal) ds (values_in now))) e ∙ first_wide-nil,
)

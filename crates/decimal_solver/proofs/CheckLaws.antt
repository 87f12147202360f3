-- Whether all conditions of a check hold and every number that is formed for them fits, as a test; and three such checks one after another.
use Rattle.row_problem.proofs.Common.{◌≡◌, ℕ, Bool, true, false, List, [], ◌∷◌, Option, Some, None, ap, ap₂, sym, ◌∙◌, refl, ◌&&◌, is_none, Rational, Row, Var, AllPass, Condition, first_failing, model_cost, gap_condition, bound_conditions, plan_conditions, multiplier_bound, plan_cost, IsRefused, passes, NoAnswer, Nothing, Budget, Width, Memory, Values, Multipliers}
use Rattle.decimal_solver.proofs.Words.{Attempt, checked, IsNothing}

and_false : (b : Bool) → (b && false) ≡ false
and_false true = refl
and_false false = refl

pub passes-yes : (cs : List Condition) → AllPass cs → passes cs ≡ true
passes-yes cs h = ap₂ (λ a b. is_none a && is_none b) h.fit h.hold

-- what is refused doesn't pass
refused : (cs : List Condition) (whole : Option Attempt) (stop : NoAnswer) → IsRefused cs stop → (passes cs ≡ false → whole ≡ None) → IsNothing whole stop
refused cs whole Nothing h fails = fails h
refused cs whole Budget h fails = absurd h
refused cs whole (Width place) h fails = fails (ap (λ o. is_none o && is_none (first_failing cs)) h)
refused cs whole Memory h fails = tt

-- ---- three checks one after another

module _ (rows : List Row) (vars : List Var) (ppm : ℕ) (plan : Values) (multipliers : Multipliers) (pivots : ℕ) where
  abbrev plan_passes : Bool
  plan_passes = passes (plan_conditions model_cost rows vars plan)

  abbrev bound_passes : Bool
  bound_passes = passes (bound_conditions model_cost rows vars multipliers)

  abbrev gap_passes : Rational → Rational → Bool
  gap_passes cost bound = passes (gap_condition cost bound ppm ∷ [])

  abbrev whole : Option Attempt
  whole = checked rows vars ppm plan multipliers pivots

  pub no_plan : (stop : NoAnswer) → IsRefused (plan_conditions model_cost rows vars plan) stop → IsNothing whole stop
  no_plan stop h = refused (plan_conditions model_cost rows vars plan) whole stop h (λ f. rw f refl)

  pub no_bound : (stop : NoAnswer) → IsRefused (bound_conditions model_cost rows vars multipliers) stop → IsNothing whole stop
  no_bound stop h = refused (bound_conditions model_cost rows vars multipliers) whole stop h (λ f. rw (f, and_false plan_passes) refl)

  pub no_gap : (cost bound : Rational) → cost ≡ plan_cost vars plan → bound ≡ multiplier_bound rows multipliers → (stop : NoAnswer) → IsRefused (gap_condition cost bound ppm ∷ []) stop → IsNothing whole stop
  no_gap cost bound e f stop h = refused (gap_condition cost bound ppm ∷ []) whole stop h (λ failed. rw (sym (ap₂ gap_passes e f) ∙ failed, and_false bound_passes, and_false plan_passes) refl)

  pub all_yes : (cost bound : Rational) → cost ≡ plan_cost vars plan → bound ≡ multiplier_bound rows multipliers → plan_passes ≡ true → bound_passes ≡ true → gap_passes cost bound ≡ true
      → checked rows vars ppm plan multipliers pivots ≡ Some (record { plan = plan; multipliers = multipliers; cost = cost; bound = bound; pivots = pivots })
  all_yes cost bound e f p b g =
      rw (p, b, sym (ap₂ gap_passes e f) ∙ g) (ap₂ {C = Option Attempt} (λ c d. Some (record { plan = plan; multipliers = multipliers; cost = c; bound = d; pivots = pivots })) (sym e) (sym f))

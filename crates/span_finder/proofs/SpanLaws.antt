-- The two trials over rows of which the last limits the cost: what they come to.
use Rattle.span_finder.proofs.Common.{◌≡◌, ℕ, pos, true, List, [], ◌∷◌, ◌++◌, inl, inr, sym, ap, ◌∙◌, subst, Option, Some, None, Result, Ok, Err, IfOk, IfErr, ◌*ℤ◌, ◌≤ℤ◌, all_fit, Rational, first_wide, value_of, Frac, Row, Var, Place, Stopped, span_name, ascends, var_cmp, value_in, IsStop, Has-from_Contains, elimination_steps, IsFirst, One, Least, Greatest, Values, solved_end, Width, HasLimitRow, limit_formed, EndsSo, IsStopped, SpanEnd, Stops, StopsAt, both_trials, greatest_end, least_end, plain_fail, span_seen, spanned, unless_stopped, IsHighEnd, IsNearPlan, IsSpan, AreFound, IsCapacityOf, IsExtreme, IsHighFound, Span, SpanFail}
use Rattle.row_core.specs.declared.place.Stopped.TheVariants as parts
use Rattle.span_finder.specs.declared.found.SpanFail.TheVariants as fails
use Rattle.span_finder.proofs.LimitedLaws.{near-from, near-to}
use Rattle.span_finder.proofs.ValueLaws.{always-more}

-- ---- how they end

module _ (rows : List Row) (defs : List (Option Var)) (vars : List Var) (var : Var) (pivots : ℕ) where
  abbrev next : Values → SpanEnd
  next low = greatest_end pivots low (solved_end rows defs vars (One var Greatest) pivots)

  pub both-end : (low : Values) → ((after : Values → SpanEnd) → after low ≡ least_end pivots after (solved_end rows defs vars (One var Least) pivots)) → next low ≡ both_trials rows defs vars var pivots
  unfolding both_trials
  both-end low h = h next

  pub both-stop : (fail : SpanFail) → ((after : Values → SpanEnd) → StopsAt (least_end pivots after (solved_end rows defs vars (One var Least) pivots)) fail) → StopsAt (both_trials rows defs vars var pivots) fail
  unfolding both_trials
  both-stop fail h = h next

  pub trials-from : first_wide (elimination_steps rows defs) ≡ None → spanned rows defs vars var pivots ≡ both_trials rows defs vars var pivots
  unfolding spanned
  trials-from h = ap (λ o. unless_stopped o (both_trials rows defs vars var pivots)) h

  pub spanned-wide : (place : Place) → first_wide (elimination_steps rows defs) ≡ Some place → spanned rows defs vars var pivots ≡ IsStopped (Width place)
  unfolding spanned
  spanned-wide place h = ap (λ o. unless_stopped o (both_trials rows defs vars var pivots)) h

pub both-found : (rows : List Row) (vars : List Var) (var : Var) (low : Values) (answer : Result Span SpanFail) → IsExtreme rows vars var Least low
    → IfOk answer (λ span. (span.low_plan ≡ low) × (value_of span.low ≡ value_in var_cmp low var)) → IfOk answer (λ span. IsHighFound rows vars var span.high_plan span.high span.direction) → IfOk answer (AreFound rows vars var)
both-found rows vars var low (Ok span) e l h = record {
  low_is = l.1 ∙ ap (λ (p : Values). value_in var_cmp p var) (sym l.0);
  low = subst (IsExtreme rows vars var Least) (sym l.0) e;
  high = h;
}
both-found rows vars var low (Err fail) e l h = tt

-- ---- a stop before them

module _ (rows : List Row) (defs : List (Option Var)) (vars : List Var) (limit : Rational) where
  -- of the row that limits the cost
  pub stops-row : (var : Var) (pivots : ℕ) (e : Stopped) → IsStop (Place.Row span_name) (all_fit (limit_formed vars limit)) e → Stops rows defs vars limit var pivots (plain_fail e)
  stops-row var pivots (parts.Width at) h = inl (record { wide = h.1; is = ap Width h.0 })
  stops-row var pivots parts.Memory h = tt

  -- of the elimination
  pub stops-plain : (var : Var) (pivots : ℕ) (all : List Row) (e : Stopped) → HasLimitRow rows vars limit all → IsFirst (first_wide (elimination_steps all (defs ++ None ∷ []))) e → Stops rows defs vars limit var pivots (plain_fail e)
  stops-plain var pivots all (parts.Width place) of h = inr (record { all = all; limited = of; ends = spanned-wide all (defs ++ None ∷ []) vars var pivots place h })
  stops-plain var pivots all parts.Memory of h = tt

-- ---- what is answered

module _ (rows : List Row) (defs : List (Option Var)) (vars : List Var) (limit : Rational) (var : Var) (pivots : ℕ) (all : List Row) (more : List (Option Var)) (of : HasLimitRow rows vars limit all) (is : more ≡ defs ++ None ∷ [])
    (fit : first_wide (elimination_steps all more) ≡ None) where
  ends-so : (end : SpanEnd) → both_trials all more vars var pivots ≡ end → EndsSo rows defs vars limit var pivots end
  ends-so end e = record { all = all; limited = of; ends = subst (λ ds. spanned all ds vars var pivots ≡ end) is (trials-from all more vars var pivots fit ∙ e) }

  pub answer-ends : (answer : Result Span SpanFail) → IfOk answer (λ span. span_seen span ≡ both_trials all more vars var pivots) → IfOk answer (λ span. EndsSo rows defs vars limit var pivots (span_seen span))
  answer-ends (Ok span) e = ends-so (span_seen span) (sym e)
  answer-ends (Err fail) e = tt

  pub answer-stops : (answer : Result Span SpanFail) → IfErr answer (StopsAt (both_trials all more vars var pivots)) → IfErr answer (Stops rows defs vars limit var pivots)
  answer-stops (Ok span) h = tt
  answer-stops (Err (fails.Stopped stop)) h = inr (ends-so (IsStopped stop) h)
  answer-stops (Err fails.Memory) h = tt

-- ---- what it is worth

module _ (rows : List Row) (vars : List Var) (limit : Rational) (var : Var) (all : List Row) (up : ascends var_cmp vars ≡ true) (of : HasLimitRow rows vars limit all) (capacity : IsCapacityOf vars var) where
  near-plan : (plan : Values) → IsExtreme all vars var Least plan → IsNearPlan rows vars limit plan
  near-plan plan e = record { whole = e.complete; some = e.is_plan.some; near = λ q x are. near-from rows vars limit all of q x (e.is_plan.meets q x are) }

  high-plan : (plan : Values) (high : Option Frac) (direction : Option Values) → IsHighFound all vars var plan high direction → IsNearPlan rows vars limit plan
  high-plan plan (Some high) None f = let e = f.1 in record { whole = e.complete; some = e.is_plan.some; near = λ q x are. near-from rows vars limit all of q x (e.is_plan.meets q x are) }
  high-plan plan (Some high) (Some direction) f = absurd f
  high-plan plan None (Some direction) f = record { whole = f.complete; some = f.is_plan.some; near = λ q x are. near-from rows vars limit all of q x (f.is_plan.meets q x are) }
  high-plan plan None None f = absurd f

  high-end : (plan : Values) (high : Option Frac) (direction : Option Values) → IsHighFound all vars var plan high direction → IsHighEnd rows vars limit var plan high direction
  high-end plan (Some high) None f =
      let e = f.1 in (
        f.0,
        λ q x near. subst (λ r. (x var *ℤ r.bottom) ≤ℤ (r.top *ℤ pos q)) (sym f.0) (e.none_passes q x (near-to rows vars limit all of q x near)),
      )
  high-end plan (Some high) (Some direction) f = absurd f
  high-end plan None (Some direction) f =
      let some = f.is_plan.some in (
        f.along,
        λ n.
            let more = always-more all vars var up (Has-from_Contains vars var capacity.listed) direction some.over some.number (f.is_plan.meets some.over some.number (some.positive, some.each)) f.descends n in
            record { over = more.0; plan = more.1; near = near-from rows vars limit all of more.0 more.1 more.2; more = more.3 },
      )
  high-end plan None None f = absurd f

  is-span : (span : Span) → AreFound all vars var span → IsSpan rows vars limit var span
  is-span span found = record {
    low_plan = near-plan span.low_plan found.low;
    low_is = found.low_is;
    low = λ q x near. subst (λ r. (r.top *ℤ pos q) ≤ℤ (x var *ℤ r.bottom)) (sym found.low_is) (found.low.none_passes q x (near-to rows vars limit all of q x near));
    high_plan = high-plan span.high_plan span.high span.direction found.high;
    high = high-end span.high_plan span.high span.direction found.high;
  }

  pub answer-spans : (answer : Result Span SpanFail) → IfOk answer (AreFound all vars var) → IfOk answer (IsSpan rows vars limit var)
  answer-spans (Ok span) found = is-span span found
  answer-spans (Err fail) found = tt

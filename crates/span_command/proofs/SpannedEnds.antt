-- What is due for a solution of a book, for a span near its cost, and for each stop, over the named equations.
use Rattle.span_command.proofs.Common.{◌≡◌, ◌++◌, ℕ, List, Option, Some, None, inl, inr, refl, sym, ap, ◌∙◌, codes, Rational, value_of, Frac, true, Data, SetLists, Row, Var, var_cmp, value_in, HasNoBound, HasNoPlan, HasOptimum, IsPivotDue, IsStopOf, IsWide, MethodEnd, end_seen, method_end, Certified, end_line, unbounded_text, Budget, Width, IsBookOf, Status, SolveMethod, first_wide, Place, elimination_steps, vars-are, optimum, refuted, unbounded, definers, EndsSo, slack_formed, slack_limit, IsNearPlan, IsLowEnd, IsToldSpan, IsToldStop, TellsNear, TellsSolution, span_lines, Wanted, DueBy, DueForEnd, DueForMethod, HasLeastCost, bounded_text, chosen_table, head_text, limited_line, rising_text}
use Rattle.exact_num.specs.Range.{all_fit}
use Rattle.named_equations.specs.Existence.{all_variables}
use Rattle.certified_answers.specs.Worth.{plan_cost}
use Rattle.certified_answers.specs.Answers.{IsComplete, IsNamed, IsProved}
use Rattle.certified_answers.specs.declared.answers.Certified.TheVariants as found
use Rattle.certified_answers.specs.declared.answers.NoAnswer.{NoAnswer}
use Rattle.certified_answers.specs.declared.answers.NoAnswer.TheVariants as stops
use Rattle.row_core.specs.declared.place.Place.TheVariants.{SumGap}
use Rattle.result_tables.specs.Lines.{amount_line}
use Rattle.command_answers.specs.Lines.{uncertified_line}
use Rattle.command_answers.specs.declared.status.Status.TheVariants.{Done, Uncertified}
use Rattle.command_answers.proofs.BookLists.{end-of-elimination}
use Rattle.command_words.specs.declared.command.SolveMethod.TheVariants.{Exact, Rounded}
use Rattle.command_answers.specs.ToldStops.{TellsStop}
use Rattle.span_finder.specs.SpanEnds as trials
use Rattle.span_finder.specs.Spans as over_rows
use Rattle.span_command.proofs.NearRows.{high-end, low-end, no-high-end}

module _ (places : ℕ) (d : Data) (rows : List Row) (vars : List Var) (book : IsBookOf places d rows vars) (sets : SetLists) (same : sets ≡ d.sets) (var : Var) (wanted : Wanted) (rounded : ℕ) (status : Status) (text : List ℕ) where
  are : vars ≡ all_variables d
  are = vars-are places d rows vars book

  ends : (end : MethodEnd) → end ≡ method_end rows vars wanted.pivots → method_end rows (all_variables d) wanted.pivots ≡ end
  ends end is = rw are at (sym is)

  -- ---- near a least cost

  module _ (cost : Rational) (least : HasLeastCost places d rows wanted.pivots cost) (fits : all_fit (slack_formed cost wanted.slack) ≡ true) where
    abbrev limit : Rational
    limit = slack_limit cost wanted.slack

    due-from_high : (low plan : List (Var × Rational)) (high : Option Frac) (direction : Option (List (Var × Rational)))
        → EndsSo rows (definers rows) vars limit var wanted.pivots (trials.end_seen low plan direction) → IsLowEnd places d limit var low → IsNearPlan rows vars limit plan
        → over_rows.IsHighEnd rows vars limit var plan high direction → status ≡ Done → text ≡ span_lines sets cost limit (value_in var_cmp low var) low plan high direction
        → DueForEnd places d rows var wanted rounded status text
    due-from_high low plan (Some high) None so low_end near_plan is status_is text_is =
        inl (record {
          cost = cost;
          low = low;
          high = plan;
          least = least;
          fits = fits;
          ends = rw are at so;
          low_end = low_end;
          high_end = high-end places d rows vars book limit var plan near_plan (value_of high) is.0 is.1;
          status_is = status_is;
          text_is = text_is
              ∙ ap (λ (v : Rational). head_text cost limit (value_in var_cmp low var) ++ amount_line (codes "high") v ++ chosen_table sets (codes "Low") low ++ chosen_table sets (codes "High") plan ++ end_line) is.0
              ∙ ap (λ (ss : SetLists). bounded_text ss cost limit var low plan) same;
        })
    due-from_high low plan None (Some direction) so low_end near_plan is status_is text_is =
        inr (inl (record {
          cost = cost;
          low = low;
          high = plan;
          direction = direction;
          least = least;
          fits = fits;
          ends = rw are at so;
          low_end = low_end;
          no_high_end = no-high-end places d rows vars book limit var plan near_plan is.1;
          status_is = status_is;
          text_is = text_is ∙ ap (λ (ss : SetLists). rising_text ss cost limit var low plan direction) same;
        }))
    due-from_high low plan (Some high) (Some direction) so low_end near_plan is status_is text_is = absurd is
    due-from_high low plan None None so low_end near_plan is status_is text_is = absurd is

    due-from_span : IsToldSpan sets rows vars cost limit var wanted.pivots status text → DueForEnd places d rows var wanted rounded status text
    due-from_span told =
        let span = told.span in
        let proved = told.proved in
        due-from_high span.low_plan span.high_plan span.high span.direction told.ends (low-end places d rows vars book limit var span.low_plan proved.low_plan (value_of span.low) proved.low_is proved.low) proved.high_plan proved.high
        told.status_is (rw proved.low_is at told.text_is)

    due-from_limit : IsToldStop sets rows vars limit var wanted.pivots status text → DueForEnd places d rows var wanted rounded status text
    due-from_limit told =
        inr (inr (inr (inr (inr (inr (record {
          cost = cost;
          stop = told.stop;
          least = least;
          fits = fits;
          stops = rw are at told.stops;
          status_is = told.status_is;
          line_is = told.line_is ∙ ap (λ ss. limited_line ss told.stop) same;
        }))))))

  due-from_near : (cost : Rational) → HasLeastCost places d rows wanted.pivots cost → TellsNear sets rows vars cost var wanted status text → DueForEnd places d rows var wanted rounded status text
  due-from_near cost least (inl wide) =
      inr (inr (inr (inr (inr (inl (record { cost = cost; least = least; wide = wide.0; status_is = wide.1; line_is = wide.2 ∙ ap (λ (ss : SetLists). uncertified_line ss (Width SumGap)) same }))))))
  due-from_near cost least (inr (fits, inl told)) = due-from_span cost least fits told
  due-from_near cost least (inr (fits, inr told)) = due-from_limit cost least fits told

  -- ---- solutions

  pub due-from_solution : (solution : Certified) → end_seen solution ≡ method_end rows vars wanted.pivots → IsProved rows vars solution → IsComplete vars solution → IsNamed rows solution
      → TellsSolution sets rows vars var wanted rounded places solution status text → DueForEnd places d rows var wanted rounded status text
  due-from_solution (found.Optimal plan multipliers cost bound made) end proved whole named told =
      due-from_near (value_of cost)
      (record {
        plan = plan;
        multipliers = multipliers;
        bound = value_of bound;
        made = made;
        end = ends (HasOptimum plan multipliers made) end;
        optimum = optimum places d rows vars book plan multipliers (value_of cost) (value_of bound) 0 proved.0 proved.1 proved.2 whole named;
      })
      told
  due-from_solution (found.Infeasible multipliers made) end proved whole named told =
      inr (inr (inl (record {
        multipliers = multipliers;
        made = made;
        end = ends (HasNoPlan multipliers made) end;
        refuted = refuted places d rows vars book multipliers proved named;
        status_is = told.0;
        text_is = told.1;
      })))
  due-from_solution (found.Unbounded plan direction made) end proved whole named told =
      inr (inr (inr (inl (record {
        plan = plan;
        direction = direction;
        made = made;
        end = ends (HasNoBound plan direction made) end;
        unbounded = unbounded places d rows vars book plan direction (plan_cost vars plan) proved.0 proved.1 whole.0 whole.1;
        status_is = told.0;
        text_is = told.1 ∙ ap (λ (ss : SetLists). unbounded_text ss direction made rounded places) same;
      }))))

  -- ---- stops before the least cost

  pub due-from_stop : (stop : NoAnswer) → IsStopOf (method_end rows vars wanted.pivots) stop → TellsStop sets wanted.pivots stop status text → DueForEnd places d rows var wanted rounded status text
  due-from_stop stops.Nothing stopped told = absurd stopped
  due-from_stop stops.Budget stopped told =
      inr (inr (inr (inr (inl (record { stop = Budget wanted.pivots; end = inl (ends IsPivotDue (sym stopped), refl); status_is = told.0; line_is = told.1 ∙ ap (λ (ss : SetLists). uncertified_line ss (Budget wanted.pivots)) same })))))
  due-from_stop (stops.Width place) stopped told =
      inr (inr (inr (inr (inl (record { stop = Width place; end = inr (place, ends (IsWide place) (sym stopped), refl); status_is = told.0; line_is = told.1 ∙ ap (λ ss. uncertified_line ss (Width place)) same })))))
  due-from_stop stops.Memory stopped told = absurd told

  -- where the elimination stops, so does the exact method
  pub due-from_elimination : (place : Place) → first_wide (elimination_steps rows (definers rows)) ≡ Some place → status ≡ Uncertified (Width place) → text ≡ uncertified_line sets (Width place)
      → DueForMethod places d rows var wanted rounded status text
  due-from_elimination place wide status_is line_is = by wanted.method
    where
      due : DueForEnd places d rows var wanted rounded status text
      due = due-from_stop (stops.Width place) (end-of-elimination rows vars wanted.pivots place wide) (status_is, line_is)

      by : (m : SolveMethod) → DueBy m places d rows var wanted rounded status text
      by Exact = due
      by Rounded = inr due

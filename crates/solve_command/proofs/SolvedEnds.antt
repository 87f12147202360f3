-- What is due for a solution of a book of rows, and for a stop of the method, over the named equations.
use Rattle.solve_command.proofs.Common.{◌≡◌, ◌==◌, ℕ, Bool, true, false, inl, inr, Some, None, List, refl, sym, ap, ◌∙◌, subst, if◌then◌else◌, is_none, Rational, first_wide, value_of, Data, SetLists, Row, RowName, Var, Place, price_steps, all_variables, HasNoBound, HasNoPlan, HasOptimum, IsPivotDue, IsStopOf, IsWide, MethodEnd, end_seen, elimination_steps, grid_end, method_end, definers, Uncertified, SolveMethod, Exact, Rounded, IsComplete, IsNamed, IsProved, Certified, descent_file, refutation_file, Shown, Report, Summary, Wanted, Status, IsBookOf, uncertified_line, ComesToEnd, DueBy, DueForEnd, DueForMethod, PricesFit, priced, second_end, IsToldSecond, TellsExactly, HasFractions, ReadsBack, TellsDescent, TellsRefutation, are, near, optimum, refuted, unbounded}
use Rattle.command_answers.proofs.BookLists.{end-of-elimination}
use Rattle.certified_answers.specs.Worth.{plan_cost}
use Rattle.certified_answers.specs.declared.answers.Certified.TheVariants as found
use Rattle.certified_answers.specs.declared.answers.NoAnswer.{NoAnswer}
use Rattle.certified_answers.specs.declared.answers.NoAnswer.TheVariants as stops
use Rattle.simplex_core.specs.declared.stops.Stop.TheVariants.{Width}
use Rattle.solve_command.specs.Shown.{HasPrices}
use Rattle.command_answers.specs.ToldStops.{TellsStop}
use Rattle.result_tables.specs.declared.attempts.FoundBy.TheVariants.{ByMethod, OnGrid}
use Rattle.solve_command.proofs.ReadingBack.{where-proof, where-shown}

-- a number that is formed for a price of what has prices doesn't fit, though all do
pub prices_come : (show : Shown) (rows : List Row) (multipliers : List (RowName × Rational)) (place : Place) → HasPrices show → first_wide (price_steps rows multipliers) ≡ Some place → PricesFit show rows multipliers → ⊥
prices_come Report rows multipliers place priced wide fit = cc (sym fit ∙ wide)
prices_come Summary rows multipliers place priced wide fit = cc (sym fit ∙ wide)
prices_come show rows multipliers place priced wide fit = priced

module _ (places : ℕ) (d : Data) (rows : List Row) (vars : List Var) (book : IsBookOf places d rows vars) (sets : SetLists) (same : sets ≡ d.sets) (wanted : Wanted) (rounded : ℕ) (status : Status) (text : List ℕ) where
  same-vars : vars ≡ all_variables d
  same-vars = are places d rows vars book

  ends : (end : MethodEnd) → end ≡ method_end rows vars wanted.pivots → method_end rows (all_variables d) wanted.pivots ≡ end
  ends end is = rw same-vars at (sym is)

  -- where the exact method stops, what the second attempt gives is due
  pub due-from_second : (ComesToEnd wanted.show rows (method_end rows vars wanted.pivots) → ⊥) → ReadsBack d rows vars → IsToldSecond sets rows vars wanted rounded places status text → DueForEnd places d rows wanted rounded status text
  due-from_second stopped reads told =
      let found = told.found in
      let worth = told.worth in
      inr (inr (inr (inr (inr (inr (record {
        found = found;
        stopped = rw same-vars at stopped;
        second = rw same-vars at told.second;
        optimum = near places d rows vars book found.plan found.multipliers found.cost found.bound wanted.gap worth.plan worth.bound worth.gap_kept worth.whole worth.named;
        status_is = told.status_is;
        text_is = rw (same, same-vars) at told.text_is;
        told = where-shown wanted.show d rows vars found.plan found.multipliers found.cost found.bound found.pivots rounded places OnGrid text reads worth.plan_fractions worth.multiplier_fractions worth.whole worth.named
            (rw same at told.text_is);
      }))))))

  none : second_end rows vars wanted ≡ None → second_end rows (all_variables d) wanted ≡ None
  none is = rw same-vars at is

  pub due-from_solution : ReadsBack d rows vars → (solution : Certified) → HasFractions solution → end_seen solution ≡ method_end rows vars wanted.pivots → IsProved rows vars solution → IsComplete vars solution → IsNamed rows solution
      → TellsExactly sets rows vars wanted rounded places solution status text → DueForEnd places d rows wanted rounded status text
  due-from_solution reads (found.Optimal plan multipliers cost bound made) fractions end proved whole named (inl told) =
      inl (record {
        plan = plan;
        multipliers = multipliers;
        cost = value_of cost;
        bound = value_of bound;
        made = made;
        end = ends (HasOptimum plan multipliers made) end;
        optimum = optimum places d rows vars book plan multipliers (value_of cost) (value_of bound) wanted.gap proved.0 proved.1 proved.2 whole named;
        prices_fit = told.0;
        status_is = told.1;
        text_is = rw (same, same-vars) at told.2;
        told = where-shown wanted.show d rows vars plan multipliers (value_of cost) (value_of bound) made rounded places ByMethod text reads fractions.0 fractions.1 whole named (rw same at told.2);
      })
  due-from_solution reads (found.Optimal plan multipliers cost bound made) fractions end proved whole named (inr told) =
      elim told.2 [
        | inl second ↦ due-from_second (λ comes. prices_come wanted.show rows multipliers told.0 told.1.0 told.1.1 (subst (ComesToEnd wanted.show rows) (sym end) comes)) reads second
        | inr kept ↦ inr (inr (inr (inr (inr (inl (record {
          plan = plan;
          multipliers = multipliers;
          made = made;
          place = told.0;
          end = ends (HasOptimum plan multipliers made) end;
          reported = told.1.0;
          wide = told.1.1;
          no_second = none kept.0;
          status_is = kept.1;
          line_is = kept.2 ∙ ap (λ ss. uncertified_line ss (Width told.0)) same;
        }))))))
      ]
  due-from_solution reads (found.Infeasible multipliers made) fractions end proved whole named (inl told) =
      inr (inl (
        record {
          multipliers = multipliers;
          made = made;
          end = ends (HasNoPlan multipliers made) end;
          refuted = refuted places d rows vars book multipliers proved named;
          status_is = told.1;
          text_is = rw same at told.2;
        },
        where-proof wanted.show text (refutation_file d.sets multipliers) (TellsRefutation d multipliers) (λ proof. rw (same, proof) at told.2) (reads.refutation multipliers fractions named),
      ))
  due-from_solution reads (found.Unbounded plan direction made) fractions end proved whole named (inl told) =
      inr (inr (inl (
        record {
          plan = plan;
          direction = direction;
          made = made;
          end = ends (HasNoBound plan direction made) end;
          unbounded = unbounded places d rows vars book plan direction (plan_cost vars plan) proved.0 proved.1 whole.0 whole.1;
          status_is = told.1;
          text_is = rw same at told.2;
        },
        where-proof wanted.show text (descent_file d.sets plan direction) (TellsDescent d plan direction) (λ proof. rw (same, proof) at told.2) (reads.descent plan direction fractions.0 fractions.1 whole.0 whole.1),
      )))
  due-from_solution reads solution fractions end proved whole named (inr told) = absurd told.1

  -- a stop that is told is no end
  pub stop_comes : (stop : NoAnswer) (first : Status) (line : List ℕ) → IsStopOf (method_end rows vars wanted.pivots) stop → TellsStop sets wanted.pivots stop first line → ComesToEnd wanted.show rows (method_end rows vars wanted.pivots) → ⊥
  stop_comes stops.Budget first line stopped told comes = subst (ComesToEnd wanted.show rows) stopped comes
  stop_comes (stops.Width place) first line stopped told comes = subst (ComesToEnd wanted.show rows) stopped comes
  stop_comes stop first line stopped told comes = told

  pub due-from_stop : (stop : NoAnswer) → IsStopOf (method_end rows vars wanted.pivots) stop → second_end rows vars wanted ≡ None → TellsStop sets wanted.pivots stop status text → DueForEnd places d rows wanted rounded status text
  due-from_stop stops.Budget stopped no_second told =
      inr (inr (inr (inl (record { end = ends IsPivotDue (sym stopped); no_second = none no_second; status_is = told.0; line_is = told.1 }))))
  due-from_stop (stops.Width place) stopped no_second told =
      inr (inr (inr (inr (inl (record { place = place; end = ends (IsWide place) (sym stopped); no_second = none no_second; status_is = told.0; line_is = told.1 ∙ ap (λ ss. uncertified_line ss (Width place)) same })))))
  due-from_stop stop stopped no_second told = absurd told

  -- where the elimination stops, the second attempt gives nothing
  no_second : (place : Place) → first_wide (elimination_steps rows (definers rows)) ≡ Some place → second_end rows vars wanted ≡ None
  no_second place wide = go (wanted.gap == 0)
    where
      go : (b : Bool) → (if b then None else (if is_none (first_wide (elimination_steps rows (definers rows))) then priced rows (grid_end rows vars wanted.gap wanted.pivots) else None)) ≡ None
      go true = refl
      go false = rw wide

  pub due-from_elimination : (place : Place) → first_wide (elimination_steps rows (definers rows)) ≡ Some place → status ≡ Uncertified (Width place) → text ≡ uncertified_line sets (Width place) → DueForMethod places d rows wanted rounded status text
  due-from_elimination place wide status_is line_is = by wanted.method
    where
      due : DueForEnd places d rows wanted rounded status text
      due = due-from_stop (stops.Width place) (end-of-elimination rows vars wanted.pivots place wide) (no_second place wide) (status_is, line_is)

      by : (m : SolveMethod) → DueBy m places d rows wanted rounded status text
      by Exact = due
      by Rounded = inr (inr due)

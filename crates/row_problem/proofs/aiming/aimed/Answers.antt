-- All but the cost is as it was.
use Rattle.row_problem.proofs.Common.{◌≡◌, ℤ, true, List, refl, sym, subst, arith, ints, all_fit, Var, ascends, numbers_of, variables_of, var_cmp, program_of, AreAmong}
use Rattle.row_problem.proofs.AimLaws.{aim-among, aim-ascends, aim-fits, aim-left, not-model}
use Rattle.row_problem.proofs.aiming.aimed.Goals as goal

pub returns : goal.returns
returns c = record {
  program = λ rows defs vars before is may.
      let cost = c.args.cost in
      let columns = c.args.reduced.columns.items in
      let entries : List (Var × ℤ) = c.in_ok-entries.entries.items in
      let made = sym c.in_ok-entries.ensures in
      let up : ascends var_cmp (variables_of entries) ≡ true = subst (λ (es : List (Var × ℤ)). ascends var_cmp (variables_of es) ≡ true) made (aim-ascends cost) in
      let among : AreAmong columns entries = subst (λ (es : List (Var × ℤ)). AreAmong columns es) made (aim-among columns cost may) in
      let fits : all_fit (numbers_of entries) ≡ true = subst (λ (es : List (Var × ℤ)). all_fit (numbers_of es) ≡ true) made (aim-fits cost) in
      record {
        problem = is.problem;
        part = record { reductions = is.part.reductions; without = is.part.without };
        whole = λ e. absurd (not-model columns cost may e);
        reductions = is.reductions;
        columns = is.columns;
        ready = record {
          columns = is.ready.columns;
          rows_among = is.ready.rows_among;
          cost_ascends = up;
          cost_among = among;
          cost_fits = fits;
          right_fits = omega arith;
          own_fits = omega arith;
          own_positive = omega (arith, ints);
          countable = is.ready.countable;
        };
        posed = record { columns = is.posed.columns; rows = is.posed.rows; cost_ascends = up; cost_among = among; cost_positive = omega (arith, ints) };
        left = aim-left rows defs vars columns before cost (program_of c.args.reduced) _ may is.left refl refl c.in_ok-entries.ensures refl refl;
        names = is.names;
        scales = is.scales;
      };
}

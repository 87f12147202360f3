-- The parts together: the definitions, the other rows, the cost.
use Rattle.variable_elimination.proofs.Common.{◌≡◌, ◌+◌, ◌<◌, ◌^◌, length, arith, ℤ, pos, List, [], sym, ap, ◌∙◌, subst, Option, None, ◌<ℤ◌, err_from_is_err_and, all_fit, Step, first_wide, Frac, Row, Var, Place, CostRow, Form, definitions_of, others_of, rows_of, defined, avoids, ReducedRow, unscaled, cost_variable, expanded_all, definition_steps, reduced_rows, row_steps, cost_form, cost_row, expanded_formed, AreColumns, IsCostOf, forms_in, AreThese, AreReductions}
use Rattle.variable_elimination.proofs.AmongLaws.{among-all}
use Rattle.variable_elimination.proofs.EliminationLaws.{rows-same, steps-same, cost-same, cost_formed-same, three, three-fit, three-first, three-second, three-last, IsFirst-more, cost-positive, first_of_memory}
use Rattle.variable_elimination.proofs.GrowthLaws.{IsFirst-from}
use Rattle.variable_elimination.proofs.ReadyLaws.{IsColumnBeyond, all_ready, all_rows_done, cost_done, cost_avoids, others_avoid, rows_avoid}
use Rattle.variable_elimination.proofs.eliminating.eliminate.Goals as goal

abbrev forms_of : List Row → List (Option Var) → List (Var × Form)
forms_of rows defs = expanded_all [] (definitions_of rows defs)

abbrev first_part : List Row → List (Option Var) → List (Step Place)
first_part rows defs = definition_steps [] (definitions_of rows defs)

abbrev second_part : List Row → List (Option Var) → List (Step Place)
second_part rows defs = row_steps (forms_of rows defs) (others_of rows defs)

abbrev last_part : List Row → List (Option Var) → List ℤ
last_part rows defs = expanded_formed (forms_of rows defs) (unscaled (cost_form defs))

pub returns-in_err-definitions-clause-stopped : goal.returns-in_err-definitions-clause-stopped
returns-in_err-definitions-clause-stopped c =
    let rows = c.args.rows.now in
    let defs = c.args.defs.now in
    let stop = IsFirst-more (first_wide (first_part rows defs)) (three (first_part rows defs) (second_part rows defs) CostRow (last_part rows defs)) c.in_err-definitions.field-0.0
    (λ p h. three-first (first_part rows defs) (second_part rows defs) CostRow (last_part rows defs) p h) c.in_err-definitions.ensures.stopped in
    let p = err_from_is_err_and c.from_residual.result c.from_residual.ensures.1 in
    rw (p.1, p.2) stop

pub returns-in_err-kept-clause-stopped : goal.returns-in_err-kept-clause-stopped
returns-in_err-kept-clause-stopped c =
    let rows = c.args.rows.now in
    let defs = c.args.defs.now in
    let m = c.in_ok-definitions.definitions in
    let same = steps-same m (forms_of rows defs) c.in_ok-definitions.ensures.made (others_of rows defs) in
    let stop = IsFirst-more (first_wide (second_part rows defs)) (three (first_part rows defs) (second_part rows defs) CostRow (last_part rows defs)) c.in_err-kept.field-0.0
    (λ p h. three-second (first_part rows defs) (second_part rows defs) CostRow (last_part rows defs) c.in_ok-definitions.ensures.fits p h)
    (IsFirst-more (first_wide (row_steps (forms_in m) (others_of rows defs))) (first_wide (second_part rows defs)) c.in_err-kept.field-0.0 (λ p h. ap first_wide (sym same) ∙ h) c.in_err-kept.ensures.stopped) in
    let p = err_from_is_err_and c.from_residual-in_err-kept.result c.from_residual-in_err-kept.ensures.1 in
    rw (p.1, p.2) stop

pub returns-in_err-cost-clause-stopped : goal.returns-in_err-cost-clause-stopped
returns-in_err-cost-clause-stopped c =
    let rows = c.args.rows.now in
    let defs = c.args.defs.now in
    let m = c.in_ok-definitions.definitions in
    let have = c.in_ok-definitions.ensures.made in
    let second : first_wide (second_part rows defs) ≡ None = ap first_wide (sym (steps-same m (forms_of rows defs) have (others_of rows defs))) ∙ c.in_ok-kept.ensures.fits in
    let stop = IsFirst-from (three (first_part rows defs) (second_part rows defs) CostRow (last_part rows defs)) CostRow (all_fit (expanded_formed (forms_in m) (unscaled (cost_form defs)))) c.in_err-cost.field-0.0
    (λ wide. three-last (first_part rows defs) (second_part rows defs) CostRow (last_part rows defs) c.in_ok-definitions.ensures.fits second (ap all_fit (sym (cost_formed-same m (forms_of rows defs) have defs)) ∙ wide))
    c.in_err-cost.ensures.stopped in
    let p = err_from_is_err_and c.from_residual-in_err-cost.result c.from_residual-in_err-cost.ensures.1 in
    rw (p.1, p.2) stop

pub returns-clause-rows : goal.returns-clause-rows
returns-clause-rows c =
    let rows = c.args.rows.now in
    let defs = c.args.defs.now in
    let made = c.in_ok-made.made in
    let m = c.in_ok-definitions.definitions in
    subst (λ (all : List ReducedRow). AreThese all made.rows.items made.scales.items) (rows-same m (forms_of rows defs) c.in_ok-definitions.ensures.made (others_of rows defs))
    (subst (λ (rs : List Row). AreThese (reduced_rows (forms_in m) (others_of rows defs)) rs made.scales.items) (sym c.in_ok-made.ensures.rows)
    (subst (λ (ss : List Frac). AreThese (reduced_rows (forms_in m) (others_of rows defs)) c.in_ok-kept.kept.items ss) (sym c.in_ok-made.ensures.scales) c.in_ok-kept.ensures.made))

pub returns-clause-columns : goal.returns-clause-columns
returns-clause-columns c = subst (λ (vs : List Var). AreColumns c.args.rows.now vs) (sym c.in_ok-made.ensures.columns) c.in_ok-columns.ensures

pub returns-clause-cost : goal.returns-clause-cost
returns-clause-cost c =
    let rows = c.args.rows.now in
    let defs = c.args.defs.now in
    subst (λ f. IsCostOf f c.in_ok-made.made) (c.in_ok-cost.ensures.form ∙ cost-same c.in_ok-definitions.definitions (forms_of rows defs) c.in_ok-definitions.ensures.made defs) c.in_ok-made.ensures.cost

pub returns-clause-own : goal.returns-clause-own
returns-clause-own c =
    let named = rows_of (definitions_of c.args.rows.now c.args.defs.now) in
    subst (λ z. pos 0 <ℤ z) (sym c.in_ok-made.ensures.cost.own)
    (cost-positive named c.args.defs.now c.in_ok-cost.cost (c.in_ok-cost.ensures.reduced named c.in_ok-definitions.ensures.reduced) c.requires.plain)

pub returns-clause-cost_reduced : goal.returns-clause-cost_reduced
returns-clause-cost_reduced c =
    let rows = c.args.rows.now in
    let defs = c.args.defs.now in
    let named = rows_of (definitions_of rows defs) in
    record {
      row = c.in_ok-cost.cost;
      is = c.in_ok-cost.ensures.form ∙ cost-same c.in_ok-definitions.definitions (forms_of rows defs) c.in_ok-definitions.ensures.made defs;
      cost_row = c.in_ok-cost.ensures.reduced named c.in_ok-definitions.ensures.reduced;
    }

pub returns-clause-reductions : goal.returns-clause-reductions
returns-clause-reductions c =
    let rows = c.args.rows.now in
    let defs = c.args.defs.now in
    let made = c.in_ok-made.made in
    let named = rows_of (definitions_of rows defs) in
    subst (λ (rs : List Row). AreReductions named (others_of rows defs) rs made.scales.items) (sym c.in_ok-made.ensures.rows)
    (subst (λ (ss : List Frac). AreReductions named (others_of rows defs) c.in_ok-kept.kept.items ss) (sym c.in_ok-made.ensures.scales) (c.in_ok-kept.ensures.reductions named c.in_ok-definitions.ensures.reduced))

pub returns-clause-fits : goal.returns-clause-fits
returns-clause-fits c =
    let rows = c.args.rows.now in
    let defs = c.args.defs.now in
    let m = c.in_ok-definitions.definitions in
    let have = c.in_ok-definitions.ensures.made in
    three-fit (first_part rows defs) (second_part rows defs) CostRow (last_part rows defs) c.in_ok-definitions.ensures.fits
    (ap first_wide (sym (steps-same m (forms_of rows defs) have (others_of rows defs))) ∙ c.in_ok-kept.ensures.fits)
    (ap all_fit (sym (cost_formed-same m (forms_of rows defs) have defs)) ∙ c.in_ok-cost.ensures.fits)

pub returns-in_err-made-clause-stopped : goal.returns-in_err-made-clause-stopped
returns-in_err-made-clause-stopped c =
    let rows = c.args.rows.now in
    let defs = c.args.defs.now in
    let stop = first_of_memory (three (first_part rows defs) (second_part rows defs) CostRow (last_part rows defs)) c.in_err-made.field-0.0 c.in_err-made.ensures.memory in
    let p = err_from_is_err_and c.from_residual-in_err-made.result c.from_residual-in_err-made.ensures.1 in
    rw (p.1, p.2) stop

-- ---- what is left

pub returns-clause-without : goal.returns-clause-without
returns-clause-without c =
    let rows = c.args.rows.now in
    let defs = c.args.defs.now in
    let made = c.in_ok-made.made in
    let columns = c.in_ok-columns.columns.items in
    let m = c.in_ok-definitions.definitions in
    let cost = c.in_ok-cost.cost in
    let named = rows_of (definitions_of rows defs) in
    let forms = forms_of rows defs in
    let have = c.in_ok-definitions.ensures.made in
    let is = c.in_ok-cost.ensures.reduced named c.in_ok-definitions.ensures.reduced in
    let these = returns-clause-rows c in
    let done = cost_done rows defs columns c.requires.same c.requires.triangular c.requires.known c.in_ok-columns.ensures is.first cost is.form (c.in_ok-cost.ensures.form ∙ cost-same m forms have defs) in
    record {
      rows = rows_avoid (defined (definitions_of rows defs)) (IsColumnBeyond (defined (definitions_of rows defs)) columns) made.rows.items (all_rows_done rows defs columns c.requires.same c.requires.triangular c.requires.known c.in_ok-columns.ensures made.rows.items these.rows_are);
      cost = ap (avoids (defined (definitions_of rows defs))) c.in_ok-made.ensures.cost.cost ∙ others_avoid (defined (definitions_of rows defs)) cost_variable cost.entries.items (cost_avoids rows defs columns c.requires.same c.requires.triangular c.requires.known c.in_ok-columns.ensures cost done);
    }

pub returns-clause-ready : goal.returns-clause-ready
returns-clause-ready c =
    let rows = c.args.rows.now in
    let defs = c.args.defs.now in
    let made = c.in_ok-made.made in
    let columns = c.in_ok-columns.columns.items in
    let m = c.in_ok-definitions.definitions in
    let cost = c.in_ok-cost.cost in
    let named = rows_of (definitions_of rows defs) in
    let forms = forms_of rows defs in
    let have = c.in_ok-definitions.ensures.made in
    let is = c.in_ok-cost.ensures.reduced named c.in_ok-definitions.ensures.reduced in
    let these = returns-clause-rows c in
    let done = cost_done rows defs columns c.requires.same c.requires.triangular c.requires.known c.in_ok-columns.ensures is.first cost is.form (c.in_ok-cost.ensures.form ∙ cost-same m forms have defs) in
    let width : length made.columns.items ≡ length c.deref.result.now = ap length c.in_ok-made.ensures.columns ∙ ap length (sym c.deref.ensures.value) in
    let height : length made.rows.items ≡ length c.deref-2.result.now = ap length c.in_ok-made.ensures.rows ∙ ap length (sym c.deref-2.ensures.value) in
    let counted : length c.deref.result.now + length c.deref.result.now + length c.deref-2.result.now + 1 < 2 ^ 64 = c.can_be_counted.ensures in
    let few : length made.columns.items + length made.columns.items + length made.rows.items + 1 < 2 ^ 64 = omega arith in
    all_ready rows defs columns c.requires.same c.requires.triangular c.requires.known c.in_ok-columns.ensures made cost c.in_ok-made.ensures.columns
    (all_rows_done rows defs columns c.requires.same c.requires.triangular c.requires.known c.in_ok-columns.ensures made.rows.items these.rows_are)
    c.in_ok-made.ensures.cost done (returns-clause-own c) few

pub returns-clause-whole : goal.returns-clause-whole
returns-clause-whole c =
    let rows = c.args.rows.now in
    let defs = c.args.defs.now in
    let made = c.in_ok-made.made in
    let without = returns-clause-without c in
    record {
      part = record {
        reductions = among-all (rows_of (definitions_of rows defs)) (others_of rows defs) made.rows.items made.scales.items (returns-clause-reductions c);
        without = without.rows;
      };
      plain = c.requires.plain;
      form = cost_row (forms_of rows defs) defs;
      reduced_cost = returns-clause-cost_reduced c;
      cost = returns-clause-cost c;
      without = without.cost;
      own = returns-clause-own c;
    }

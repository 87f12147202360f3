-- What the call says of the rows' definitions, in the words of a problem.
use Rattle.row_problem.proofs.Common.{◌≡◌, List, map, ap₂, subst, IfErr, IfOk, None, OnOk, Rational, Step, first_wide, value_of, RowName, Place, definitions_of, others_of, rows_of, multiplier_steps, named_multipliers, IsFirst, carried_multipliers, carrying_steps, Multipliers}
use Rattle.row_problem.proofs.CarriedWords.{as_many, proof_answer, refutation_answer}
use Rattle.row_problem.proofs.carrying.carry_multipliers.Goals as goal

pub lift_multipliers-requires-clause-scaled : goal.lift_multipliers-requires-clause-scaled
lift_multipliers-requires-clause-scaled c =
    let p = c.args.problem.now in
    as_many (rows_of (definitions_of p.rows.now p.defs.now)) (others_of p.rows.now p.defs.now) p.reduced.now.rows.items p.reduced.now.scales.items c.requires.problem.reductions

pub returns-clause-proves : goal.returns-clause-proves
returns-clause-proves c is =
    let p = c.args.problem.now in
    proof_answer p.rows.now p.defs.now p.vars.now p.cost p.reduced.now c.requires.problem c.args.with_cost c.args.lambda.now c.lift_multipliers.result is c.lift_multipliers.ensures.bounds c.lift_multipliers.ensures.refutes

pub returns-clause-refutes : goal.returns-clause-refutes
returns-clause-refutes c without =
    let p = c.args.problem.now in
    refutation_answer p.rows.now p.defs.now p.vars.now c.requires.problem.problem p.reduced.now c.requires.problem.columns c.args.lambda.now c.lift_multipliers.result (c.lift_multipliers.ensures.refutes without c.requires.problem.part)

pub returns-clause-multipliers : goal.returns-clause-multipliers
unfolding carried_multipliers
returns-clause-multipliers c =
    let p = c.args.problem.now in
    subst (λ (made : Multipliers). IfOk c.lift_multipliers.result (λ m. m ≡ made))
    (ap₂ (λ names scales. named_multipliers c.args.with_cost p.rows.now (definitions_of p.rows.now p.defs.now) names scales (map value_of c.args.lambda.now)) c.requires.problem.names c.requires.problem.scales) c.lift_multipliers.ensures.multipliers

pub returns-clause-fits : goal.returns-clause-fits
unfolding carrying_steps
returns-clause-fits c =
    let p = c.args.problem.now in
    subst (λ (ss : List (Step Place)). OnOk c.lift_multipliers.result (first_wide ss ≡ None))
    (ap₂ (λ names scales. multiplier_steps c.args.with_cost p.rows.now (definitions_of p.rows.now p.defs.now) names scales (map value_of c.args.lambda.now)) c.requires.problem.names c.requires.problem.scales) c.lift_multipliers.ensures.fits

pub returns-clause-stopped : goal.returns-clause-stopped
unfolding carrying_steps
returns-clause-stopped c =
    let p = c.args.problem.now in
    subst (λ (ss : List (Step Place)). IfErr c.lift_multipliers.result (IsFirst (first_wide ss)))
    (ap₂ (λ names scales. multiplier_steps c.args.with_cost p.rows.now (definitions_of p.rows.now p.defs.now) names scales (map value_of c.args.lambda.now)) c.requires.problem.names c.requires.problem.scales) c.lift_multipliers.ensures.stopped

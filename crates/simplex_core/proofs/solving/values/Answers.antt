-- The columns that were read are those of the last tableau.
use Rattle.simplex_core.proofs.Common.{◌≡◌, None, List, subst, IfErr, IfOk, OnOk, Rational, Step, first_wide, Var, Place, LinearProgram, program_of, place_of, IsFirst}
use Rattle.simplex_core.specs.declared.plans.Lift.TheVariants as lifts
use Rattle.simplex_core.proofs.ValueLaws.{lifted-steps, lifted-values}
use Rattle.simplex_core.proofs.solving.values.Goals as goal

pub returns-clause-value : goal.returns-clause-value
returns-clause-value c =
    let p : LinearProgram = program_of c.args.reduced.now in
    subst (λ (es : List (Var × Rational)). IfOk c.by_variable.result (λ plan. plan ≡ es))
    (lifted-values c.args.tableau.now.tableau None c.in_ok-columns.columns.items c.deref-2.result.now c.deref.result.now p.columns c.deref-2.ensures.value c.deref.ensures.value c.in_ok-columns.ensures)
    c.by_variable.ensures.value

pub returns-clause-fits : goal.returns-clause-fits
returns-clause-fits c =
    let p : LinearProgram = program_of c.args.reduced.now in
    subst (λ (ss : List (Step Place)). OnOk c.by_variable.result (first_wide ss ≡ None))
    (lifted-steps (place_of lifts.Plan) c.args.tableau.now.tableau None c.in_ok-columns.columns.items c.deref-2.result.now c.deref.result.now p.columns c.deref-2.ensures.value c.deref.ensures.value c.in_ok-columns.ensures)
    c.by_variable.ensures.fits

pub returns-clause-stopped : goal.returns-clause-stopped
returns-clause-stopped c =
    let p : LinearProgram = program_of c.args.reduced.now in
    subst (λ (ss : List (Step Place)). IfErr c.by_variable.result (IsFirst (first_wide ss)))
    (lifted-steps (place_of lifts.Plan) c.args.tableau.now.tableau None c.in_ok-columns.columns.items c.deref-2.result.now c.deref.result.now p.columns c.deref-2.ensures.value c.deref.ensures.value c.in_ok-columns.ensures)
    c.by_variable.ensures.stopped

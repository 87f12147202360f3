-- One row after another.
use Rattle.variable_elimination.proofs.Common.{◌≡◌, ◌+◌, [], ◌∷◌, drop, sym, subst, None, err_from_is_err_and, all_fit, first_wide, Expand, form_of, definitions_of, unscaled, definition_steps, expanded_formed, forms_in, IsSoFar, IsPushed}
use Rattle.variable_elimination.proofs.DefinitionSteps.{some-left, none-left, no_definition_left}
use Rattle.variable_elimination.proofs.GrowthLaws.{IsSoFar-next, IsSoFar-stop, IsSoFar-none, IsFirst-from}
use Rattle.variable_elimination.proofs.SoFarLaws.{end_made, end_reduced, end_fits}
use Rattle.variable_elimination.proofs.definitions.expand_definitions.Goals as goal
use Rattle.variable_elimination.proofs.definitions.expand_definitions.Goals.{in-Some+in_ok-push_definition, in_default}

pub loop-i-init : goal.loop-i-init
loop-i-init c = IsSoFar-none (definitions_of c.args.rows.now c.args.defs.now) c.new-definitions.result c.new-definitions.ensures.empty c.requires.triangular

pub returns-in_err-push_definition-clause-stopped : goal.returns-in_err-push_definition-clause-stopped
returns-in_err-push_definition-clause-stopped c =
    let rows = c.args.rows.now in
    let defs = c.args.defs.now in
    let i = c.loop-i.i in
    let r = c.index-rows-i.result in
    let v = c.in-Some.variable in
    let all = definitions_of rows defs in
    let stop = IsFirst-from (first_wide (definition_steps [] all)) (Expand r.name) (all_fit (expanded_formed (forms_in c.loop-i.definitions) (unscaled (form_of r)))) c.in_err-push_definition.field-0.0
    (IsSoFar-stop all r v (definitions_of (drop (i + 1) rows) (drop (i + 1) defs)) (definitions_of (drop i rows) (drop i defs)) c.loop-i.definitions
    (some-left rows defs i r None c.loop-i-test.true c.requires.same c.index-rows-i.is v c.in-Some.is) c.loop-i.invariant)
    c.in_err-push_definition.ensures.stopped in
    let p = err_from_is_err_and c.from_residual.result c.from_residual.ensures.1 in
    rw (p.1, p.2) stop

pub loop-i-preserved : goal.loop-i-preserved
loop-i-preserved c =
    let rows = c.args.rows.now in
    let defs = c.args.defs.now in
    let i = c.loop-i.i in
    let r = c.index-rows-i.result in
    let m = c.loop-i.definitions in
    let all = definitions_of rows defs in
    let rest = definitions_of (drop (i + 1) rows) (drop (i + 1) defs) in
    let left = definitions_of (drop i rows) (drop i defs) in
    elim c.match-defs-i.branch [
      | in-Some+in_ok-push_definition w ↦
          let v = w.in-Some.variable in
          let pushed : IsPushed r v m c.match-defs-i.definitions = subst (IsPushed r v m) (sym w.definitions-is) w.in_ok-push_definition.ensures.pushed in
          let step : left ≡ record { row = r; variable = v } ∷ rest = some-left rows defs i r None c.loop-i-test.true c.requires.same c.index-rows-i.is v w.in-Some.is in
          IsSoFar-next all r v rest left m c.match-defs-i.definitions step pushed w.in_ok-push_definition.ensures.fits c.loop-i.invariant
      | in_default w ↦
          let step : left ≡ rest = none-left rows defs i r None c.loop-i-test.true c.requires.same c.index-rows-i.is w.in_default.is in
          subst (λ ds. IsSoFar all ds c.match-defs-i.definitions) step (subst (IsSoFar all left) (sym w.definitions-is) c.loop-i.invariant)
    ]

pub returns-clause-made : goal.returns-clause-made
returns-clause-made c =
    end_made (definitions_of c.args.rows.now c.args.defs.now) (definitions_of (drop c.loop-i.i c.args.rows.now) (drop c.loop-i.i c.args.defs.now)) c.loop-i.definitions
    (no_definition_left c.args.rows.now c.args.defs.now c.loop-i.i c.loop-i-test.false) c.loop-i.invariant

pub returns-clause-reduced : goal.returns-clause-reduced
returns-clause-reduced c =
    end_reduced (definitions_of c.args.rows.now c.args.defs.now) (definitions_of (drop c.loop-i.i c.args.rows.now) (drop c.loop-i.i c.args.defs.now)) c.loop-i.definitions
    (no_definition_left c.args.rows.now c.args.defs.now c.loop-i.i c.loop-i-test.false) c.loop-i.invariant

pub returns-clause-fits : goal.returns-clause-fits
returns-clause-fits c =
    end_fits (definitions_of c.args.rows.now c.args.defs.now) (definitions_of (drop c.loop-i.i c.args.rows.now) (drop c.loop-i.i c.args.defs.now)) c.loop-i.definitions
    (no_definition_left c.args.rows.now c.args.defs.now c.loop-i.i c.loop-i-test.false) c.loop-i.invariant

-- What the lifted values say.
use Rattle.variable_elimination.proofs.Common.{◌≡◌, sym, subst, IfOk-weaker, definitions_of, defined, lifted, no_right_side, KeepsOthers, CarriesDirection, MakesRight}
use Rattle.variable_elimination.proofs.LiftedLaws.{lifted-others, carries_direction, direction_right}
use Rattle.variable_elimination.proofs.lifting.lift_direction.Goals as goal

pub returns-clause-others : goal.returns-clause-others
returns-clause-others c =
    let ds = definitions_of c.args.rows.now c.args.defs.now in
    let values = c.args.values.now in
    IfOk-weaker c.lift_values.result (λ plan. plan ≡ lifted no_right_side ds values) (KeepsOthers (defined ds) values)
    (λ plan is. subst (KeepsOthers (defined ds) values) (sym is) (lifted-others no_right_side ds values)) c.lift_values.ensures.made

pub returns-clause-holds : goal.returns-clause-holds
returns-clause-holds c reduced scales r apart =
    let rows = c.args.rows.now in
    let defs = c.args.defs.now in
    let values = c.args.values.now in
    IfOk-weaker c.lift_values.result (λ plan. plan ≡ lifted no_right_side (definitions_of rows defs) values) (CarriesDirection rows reduced values)
    (λ plan is. subst (CarriesDirection rows reduced values) (sym is) (carries_direction rows defs values c.requires.same c.requires.triangular reduced scales r apart)) c.lift_values.ensures.made

pub returns-clause-signs : goal.returns-clause-signs
returns-clause-signs c keep =
    let ds = definitions_of c.args.rows.now c.args.defs.now in
    let values = c.args.values.now in
    IfOk-weaker c.lift_values.result (λ plan. plan ≡ lifted no_right_side ds values) (MakesRight (defined ds))
    (λ plan is. subst (MakesRight (defined ds)) (sym is) (direction_right ds values c.requires.triangular keep)) c.lift_values.ensures.made

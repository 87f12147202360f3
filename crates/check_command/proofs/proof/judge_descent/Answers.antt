use Rattle.check_command.proofs.Common.{List, subst, value_of, Row, var_cmp, value_in, No, Width, FailsFor, IsWideAt, cost_value, model_cost, AreOverSome, direction_conditions, plan_conditions, reason_of, IsBookOf, IsListedBook, book-of, listed-as, rows-named, vars-named, IsCheckedPlan, IsEndless, descent_conditions, IsJudged}
use Rattle.check_command.proofs.OutcomeLaws.{checked-plan}
use Rattle.check_command.proofs.ProofLaws.{descent-fails, descent-judged, descent-wide}
use Rattle.check_command.proofs.ProofNames.{direction-sayable, plan-sayable, verdict-within}
use Rattle.check_command.proofs.proof.judge_descent.Goals as goal

pub returns-in-Yes-clause-judged : goal.returns-in-Yes-clause-judged
returns-in-Yes-clause-judged c = λ places d book.
    let rows = c.rows-rows.result.now in
    let vars = c.vars-vars.result.now in
    let plan = c.args.plan.now in
    let direction = c.args.direction.now in
    let cost = value_of c.in-Yes.field-0 in
    let seen : IsBookOf places d rows vars = book-of places d _ _ rows vars c.rows-rows.ensures.rows c.vars-vars.ensures.variables book in
    let some : AreOverSome var_cmp plan = subst (λ values. AreOverSome var_cmp values) c.entries-values.ensures.values (c.denominator_laws.ensures.plans c.entries-values.result.now) in
    let checked : IsCheckedPlan places d rows plan cost = checked-plan places d rows vars seen plan cost some c.in-Yes.ensures.answer.0 c.in-Yes.ensures.answer.1 c.in-Yes.ensures.yes in
    let meets = (c.in-Yes.ensures.yes some.over some.number (some.positive, some.each)).0 in
    subst (λ (rs : List Row). IsJudged (descent_conditions d rs plan direction) (IsEndless places d plan) c.check_direction.result) c.rows-rows.ensures.rows
    (descent-judged places d rows vars seen plan direction c.in-Yes.ensures.answer.0 checked.feasible (cost_value model_cost vars (value_in var_cmp direction)) c.check_direction.result c.check_direction.ensures.answer
    (λ n. c.check_direction.ensures.endless some.over some.number n meets))

pub returns-in-Yes-clause-within : goal.returns-in-Yes-clause-within
returns-in-Yes-clause-within c = λ sets listed.
    let rows = c.rows-rows.result.now in
    let vars = c.vars-vars.result.now in
    let direction = c.args.direction.now in
    let seen : IsListedBook sets rows vars = listed-as sets _ _ rows vars c.rows-rows.ensures.rows c.vars-vars.ensures.variables listed in
    verdict-within sets (direction_conditions model_cost rows vars direction) (cost_value model_cost vars (value_in var_cmp direction)) c.check_direction.result
    (direction-sayable sets rows vars (rows-named sets rows vars seen) (vars-named sets rows vars seen) direction) c.check_direction.ensures.answer

pub returns-in-No-clause-judged : goal.returns-in-No-clause-judged
returns-in-No-clause-judged c = λ places d book.
    let rows = c.rows-rows.result.now in
    let vars = c.vars-vars.result.now in
    let plan = c.args.plan.now in
    let direction = c.args.direction.now in
    let seen : IsBookOf places d rows vars = book-of places d _ _ rows vars c.rows-rows.ensures.rows c.vars-vars.ensures.variables book in
    subst (λ (rs : List Row). FailsFor (descent_conditions d rs plan direction) (reason_of c.in-No.rejection)) c.rows-rows.ensures.rows
    (descent-fails places d rows vars seen plan direction c.in-No.rejection c.in-No.ensures.answer)

pub returns-in-No-clause-within : goal.returns-in-No-clause-within
returns-in-No-clause-within c = λ sets listed.
    let rows = c.rows-rows.result.now in
    let vars = c.vars-vars.result.now in
    let plan = c.args.plan.now in
    let seen : IsListedBook sets rows vars = listed-as sets _ _ rows vars c.rows-rows.ensures.rows c.vars-vars.ensures.variables listed in
    verdict-within sets (plan_conditions model_cost rows vars plan) (cost_value model_cost vars (value_in var_cmp plan)) (No c.in-No.rejection)
    (plan-sayable sets rows vars (rows-named sets rows vars seen) (vars-named sets rows vars seen) plan) c.in-No.ensures.answer

pub returns-in-Width-clause-judged : goal.returns-in-Width-clause-judged
returns-in-Width-clause-judged c = λ places d book.
    let rows = c.rows-rows.result.now in
    let vars = c.vars-vars.result.now in
    let plan = c.args.plan.now in
    let direction = c.args.direction.now in
    let seen : IsBookOf places d rows vars = book-of places d _ _ rows vars c.rows-rows.ensures.rows c.vars-vars.ensures.variables book in
    subst (λ (rs : List Row). IsWideAt (descent_conditions d rs plan direction) c.in-Width.place) c.rows-rows.ensures.rows
    (descent-wide places d rows vars seen plan direction c.in-Width.place c.in-Width.ensures.answer)

pub returns-in-Width-clause-within : goal.returns-in-Width-clause-within
returns-in-Width-clause-within c = λ sets listed.
    let rows = c.rows-rows.result.now in
    let vars = c.vars-vars.result.now in
    let plan = c.args.plan.now in
    let seen : IsListedBook sets rows vars = listed-as sets _ _ rows vars c.rows-rows.ensures.rows c.vars-vars.ensures.variables listed in
    verdict-within sets (plan_conditions model_cost rows vars plan) (cost_value model_cost vars (value_in var_cmp plan)) (Width c.in-Width.place)
    (plan-sayable sets rows vars (rows-named sets rows vars seen) (vars-named sets rows vars seen) plan) c.in-Width.ensures.answer

use Rattle.check_command.proofs.Common.{Option, sym, subst, option_map, IfOk, value_of, var_cmp, all_variables, FailsFor, IsWideAt, model_cost, AreOverSome, plan_conditions, reason_of, Accepted, Rejected, Wide, IsBookOf, IsListedBook, IsCheckedPlan, IsOutcome, listed-as, rows-named, vars-named, book-of, vars-are}
use Rattle.check_command.proofs.CheckNames.{fails-named, plan-within, wide-named}
use Rattle.check_command.proofs.OutcomeLaws.{checked-plan, not-feasible, plan-fails, plan-passes, plan-wide}
use Rattle.check_command.proofs.outcome.checked.Goals as goal

pub returns-in-None-clause-outcome : goal.returns-in-None-clause-outcome
returns-in-None-clause-outcome c = λ places d book.
    let rows = c.rows.result.now in
    let vars = c.vars.result.now in
    let plan = c.args.plan.now in
    let seen : IsBookOf places d rows vars = book-of places d _ _ rows vars c.rows.ensures.rows c.vars.ensures.variables book in
    let some : AreOverSome var_cmp plan = subst (λ values. AreOverSome var_cmp values) c.entries-values.ensures.values (c.denominator_laws.ensures.plans c.entries-values.result.now) in
    let checked : IsCheckedPlan places d rows plan (value_of c.in-Yes.cost) =
    checked-plan places d rows vars seen plan (value_of c.in-Yes.cost) some c.in-Yes.ensures.answer.0 c.in-Yes.ensures.answer.1 c.in-Yes.ensures.yes in
    subst (λ rs. IsOutcome places d rs plan (option_map (λ m. m.now) c.args.multipliers) c.args.gap (Accepted c.in-Yes.cost Option.None)) c.rows.ensures.rows
    (subst (λ o. IsOutcome places d rows plan (option_map (λ m. m.now) o) c.args.gap (Accepted c.in-Yes.cost Option.None)) (sym c.in-None.is)
    (plan-passes places d rows plan c.args.gap c.in-Yes.cost checked))

pub returns-in-Some-clause-outcome : goal.returns-in-Some-clause-outcome
returns-in-Some-clause-outcome c = λ places d book.
    let rows = c.rows.result.now in
    let vars = c.vars.result.now in
    let plan = c.args.plan.now in
    let seen : IsBookOf places d rows vars = book-of places d _ _ rows vars c.rows.ensures.rows c.vars.ensures.variables book in
    let some : AreOverSome var_cmp plan = subst (λ values. AreOverSome var_cmp values) c.entries-values.ensures.values (c.denominator_laws.ensures.plans c.entries-values.result.now) in
    let checked : IsCheckedPlan places d rows plan (value_of c.in-Yes.cost) =
    checked-plan places d rows vars seen plan (value_of c.in-Yes.cost) some c.in-Yes.ensures.answer.0 c.in-Yes.ensures.answer.1 c.in-Yes.ensures.yes in
    subst (λ o. IfOk c.bound_outcome.result (IsOutcome places d c.args.book.now.rows plan (option_map (λ m. m.now) o) c.args.gap)) (sym c.in-Some.is)
    (c.bound_outcome.ensures.outcome places d plan book (subst (λ rs. IsCheckedPlan places d rs plan (value_of c.in-Yes.cost)) c.rows.ensures.rows checked))

pub returns-in-No-clause-outcome : goal.returns-in-No-clause-outcome
returns-in-No-clause-outcome c = λ places d book.
    let rows = c.rows.result.now in
    let vars = c.vars.result.now in
    let plan = c.args.plan.now in
    let seen : IsBookOf places d rows vars = book-of places d _ _ rows vars c.rows.ensures.rows c.vars.ensures.variables book in
    let fails : FailsFor (plan_conditions model_cost rows (all_variables d) plan) (reason_of c.in-No.rejection) =
    subst (λ vs. FailsFor (plan_conditions model_cost rows vs plan) (reason_of c.in-No.rejection)) (vars-are places d rows vars seen) c.in-No.ensures.answer in
    subst (λ rs. IsOutcome places d rs plan (option_map (λ m. m.now) c.args.multipliers) c.args.gap (Rejected c.in-No.rejection)) c.rows.ensures.rows
    (plan-fails d rows plan (option_map (λ m. m.now) c.args.multipliers) c.args.gap (reason_of c.in-No.rejection) fails, λ again. not-feasible places d rows vars seen plan c.in-No.ensures.no)

pub returns-in-Width-clause-outcome : goal.returns-in-Width-clause-outcome
returns-in-Width-clause-outcome c = λ places d book.
    let rows = c.rows.result.now in
    let vars = c.vars.result.now in
    let plan = c.args.plan.now in
    let seen : IsBookOf places d rows vars = book-of places d _ _ rows vars c.rows.ensures.rows c.vars.ensures.variables book in
    let wide : IsWideAt (plan_conditions model_cost rows (all_variables d) plan) c.in-Width.place =
    subst (λ vs. IsWideAt (plan_conditions model_cost rows vs plan) c.in-Width.place) (vars-are places d rows vars seen) c.in-Width.ensures.answer in
    subst (λ rs. IsOutcome places d rs plan (option_map (λ m. m.now) c.args.multipliers) c.args.gap (Wide c.in-Width.place)) c.rows.ensures.rows
    (plan-wide d rows plan (option_map (λ m. m.now) c.args.multipliers) c.args.gap c.in-Width.place wide)

pub returns-in-None-clause-within : goal.returns-in-None-clause-within
returns-in-None-clause-within c = λ sets listed. tt

pub returns-in-Some-clause-within : goal.returns-in-Some-clause-within
returns-in-Some-clause-within c = λ sets listed. c.bound_outcome.ensures.within sets listed

pub returns-in-No-clause-within : goal.returns-in-No-clause-within
returns-in-No-clause-within c = λ sets listed.
    let rows = c.rows.result.now in
    let vars = c.vars.result.now in
    let seen : IsListedBook sets rows vars = listed-as sets _ _ rows vars c.rows.ensures.rows c.vars.ensures.variables listed in
    fails-named sets (plan_conditions model_cost rows vars c.args.plan.now) c.in-No.rejection
    (plan-within sets rows vars (rows-named sets rows vars seen) (vars-named sets rows vars seen) c.args.plan.now) c.in-No.ensures.answer

pub returns-in-Width-clause-within : goal.returns-in-Width-clause-within
returns-in-Width-clause-within c = λ sets listed.
    let rows = c.rows.result.now in
    let vars = c.vars.result.now in
    let seen : IsListedBook sets rows vars = listed-as sets _ _ rows vars c.rows.ensures.rows c.vars.ensures.variables listed in
    wide-named sets (plan_conditions model_cost rows vars c.args.plan.now) c.in-Width.place
    (plan-within sets rows vars (rows-named sets rows vars seen) (vars-named sets rows vars seen) c.args.plan.now) c.in-Width.ensures.answer

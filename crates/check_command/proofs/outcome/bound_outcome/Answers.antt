use Rattle.check_command.proofs.Common.{Some, sym, subst, value_of, all_variables, row_name_cmp, value_in, Yes, BoundsAll, FailsFor, IsWideAt, model_cost, bound_conditions, bound_value, reason_of, HasVariablesOf, IfYes, IsVerdict, Rejected, Wide, IsBookOf, IsListedBook, IsCheckedBound, IsCheckedPlan, IsOutcome, listed-as, rows-named, vars-named, book-of, vars-are}
use Rattle.check_command.proofs.CheckNames.{bound-within, fails-named, wide-named}
use Rattle.check_command.proofs.OutcomeLaws.{bound-fails, bound-wide, checked-bound}
use Rattle.check_command.proofs.outcome.bound_outcome.Goals as goal

pub returns-in-Yes-clause-outcome : goal.returns-in-Yes-clause-outcome
returns-in-Yes-clause-outcome c = λ places d plan book checked.
    let rows = c.rows.result.now in
    let vars = c.vars.result.now in
    let m = c.args.multipliers.now in
    let seen : IsBookOf places d rows vars = book-of places d _ _ rows vars c.rows.ensures.rows c.vars.ensures.variables book in
    let answer : IsVerdict (bound_conditions model_cost rows vars m) (bound_value rows (value_in row_name_cmp m)) (Yes c.in-Yes.bound) =
    subst (IsVerdict (bound_conditions model_cost rows vars m) (bound_value rows (value_in row_name_cmp m))) c.in-Yes.is c.in_ok-bound.ensures.answer in
    let has : HasVariablesOf rows vars =
    subst (λ rs. HasVariablesOf rs vars) (sym c.rows.ensures.rows) (subst (λ vs. HasVariablesOf c.args.book.now.rows vs) (sym c.vars.ensures.variables) (λ v h. (c.rows.ensures.book.variables.each v).1 h)) in
    let bounds : BoundsAll model_cost rows vars (value_of c.in-Yes.bound) =
    subst (λ verdict. IfYes verdict (λ bound. BoundsAll model_cost rows vars (value_of bound))) c.in-Yes.is (c.in_ok-bound.ensures.bounds has) in
    let bounded : IsCheckedBound places d rows m (value_of c.in-Yes.bound) = checked-bound places d rows vars seen m (value_of c.in-Yes.bound) answer.0 answer.1 bounds in
    subst (λ rs. IsOutcome places d rs plan (Some m) c.args.gap c.gap_outcome.result) c.rows.ensures.rows
    (c.gap_outcome.ensures.outcome places d rows plan m (subst (λ rs. IsCheckedPlan places d rs plan (value_of c.args.cost)) (sym c.rows.ensures.rows) checked) bounded)

pub returns-in-No-clause-outcome : goal.returns-in-No-clause-outcome
returns-in-No-clause-outcome c = λ places d plan book checked.
    let rows = c.rows.result.now in
    let vars = c.vars.result.now in
    let m = c.args.multipliers.now in
    let seen : IsBookOf places d rows vars = book-of places d _ _ rows vars c.rows.ensures.rows c.vars.ensures.variables book in
    let answer : FailsFor (bound_conditions model_cost rows vars m) (reason_of c.in-No.rejection) =
    subst (IsVerdict (bound_conditions model_cost rows vars m) (bound_value rows (value_in row_name_cmp m))) c.in-No.is c.in_ok-bound.ensures.answer in
    let fails : FailsFor (bound_conditions model_cost rows (all_variables d) m) (reason_of c.in-No.rejection) =
    subst (λ vs. FailsFor (bound_conditions model_cost rows vs m) (reason_of c.in-No.rejection)) (vars-are places d rows vars seen) answer in
    subst (λ rs. IsOutcome places d rs plan (Some m) c.args.gap (Rejected c.in-No.rejection)) c.rows.ensures.rows
    (bound-fails places d rows plan (value_of c.args.cost) (subst (λ rs. IsCheckedPlan places d rs plan (value_of c.args.cost)) (sym c.rows.ensures.rows) checked) m c.args.gap c.in-No.rejection fails)

pub returns-in-Width-clause-outcome : goal.returns-in-Width-clause-outcome
returns-in-Width-clause-outcome c = λ places d plan book checked.
    let rows = c.rows.result.now in
    let vars = c.vars.result.now in
    let m = c.args.multipliers.now in
    let seen : IsBookOf places d rows vars = book-of places d _ _ rows vars c.rows.ensures.rows c.vars.ensures.variables book in
    let answer : IsWideAt (bound_conditions model_cost rows vars m) c.in-Width.place =
    subst (IsVerdict (bound_conditions model_cost rows vars m) (bound_value rows (value_in row_name_cmp m))) c.in-Width.is c.in_ok-bound.ensures.answer in
    let wide : IsWideAt (bound_conditions model_cost rows (all_variables d) m) c.in-Width.place =
    subst (λ vs. IsWideAt (bound_conditions model_cost rows vs m) c.in-Width.place) (vars-are places d rows vars seen) answer in
    subst (λ rs. IsOutcome places d rs plan (Some m) c.args.gap (Wide c.in-Width.place)) c.rows.ensures.rows
    (bound-wide places d rows plan (value_of c.args.cost) (subst (λ rs. IsCheckedPlan places d rs plan (value_of c.args.cost)) (sym c.rows.ensures.rows) checked) m c.args.gap c.in-Width.place wide)

pub returns-in-Yes-clause-within : goal.returns-in-Yes-clause-within
returns-in-Yes-clause-within c = λ sets listed. c.gap_outcome.ensures.within sets

pub returns-in-No-clause-within : goal.returns-in-No-clause-within
returns-in-No-clause-within c = λ sets listed.
    let rows = c.rows.result.now in
    let vars = c.vars.result.now in
    let m = c.args.multipliers.now in
    let seen : IsListedBook sets rows vars = listed-as sets _ _ rows vars c.rows.ensures.rows c.vars.ensures.variables listed in
    let answer : FailsFor (bound_conditions model_cost rows vars m) (reason_of c.in-No.rejection) =
    subst (IsVerdict (bound_conditions model_cost rows vars m) (bound_value rows (value_in row_name_cmp m))) c.in-No.is c.in_ok-bound.ensures.answer in
    fails-named sets (bound_conditions model_cost rows vars m) c.in-No.rejection (bound-within sets rows vars (rows-named sets rows vars seen) (vars-named sets rows vars seen) m) answer

pub returns-in-Width-clause-within : goal.returns-in-Width-clause-within
returns-in-Width-clause-within c = λ sets listed.
    let rows = c.rows.result.now in
    let vars = c.vars.result.now in
    let m = c.args.multipliers.now in
    let seen : IsListedBook sets rows vars = listed-as sets _ _ rows vars c.rows.ensures.rows c.vars.ensures.variables listed in
    let answer : IsWideAt (bound_conditions model_cost rows vars m) c.in-Width.place =
    subst (IsVerdict (bound_conditions model_cost rows vars m) (bound_value rows (value_in row_name_cmp m))) c.in-Width.is c.in_ok-bound.ensures.answer in
    wide-named sets (bound_conditions model_cost rows vars m) c.in-Width.place (bound-within sets rows vars (rows-named sets rows vars seen) (vars-named sets rows vars seen) m) answer

use Rattle.check_command.proofs.Common.{◌≡◌, inl, inr, sym, ◌∙◌, ap, subst, IfOk-weaker, AllByRecursion, all_variables, IsFailOf, IsPlan, IsPlanFault, records_of, IsListedVariable, plan_fault_line, all-of}
use Rattle.check_command.proofs.CheckFiles.{fault-within}
use Rattle.check_command.proofs.files.answer_plan_file.Goals as goal

pub refuse_plan-requires : goal.refuse_plan-requires
refuse_plan-requires c =
    let listed : AllByRecursion (IsListedVariable c.args.sets.now) c.vars.result.now = subst (AllByRecursion (IsListedVariable c.args.sets.now)) (sym c.vars.ensures.variables) c.requires.vars_listed in
    fault-within c.args.sets.now c.vars.result.now (records_of c.args.claim.plan.now) c.in-Err-Fault.fault listed
    (subst (IsFailOf (IsPlanFault c.args.sets.now c.vars.result.now (records_of c.args.claim.plan.now))) c.in-Err-Fault.field-0-is c.in-Err-Fault.ensures.fault)

pub returns-in-Ok : goal.returns-in-Ok
returns-in-Ok c = λ places d same book.
    let vars : c.vars.result.now ≡ all_variables d = c.vars.ensures.variables ∙ all-of d c.args.book.now.vars book.ascending book.exist book.whole in
    let told : IsPlan d.sets (all_variables d) (records_of c.args.claim.plan.now) c.in-Ok.plan =
    subst (λ sets. IsPlan sets (all_variables d) (records_of c.args.claim.plan.now) c.in-Ok.plan) same
    (subst (λ vs. IsPlan c.args.sets.now vs (records_of c.args.claim.plan.now) c.in-Ok.plan) vars c.in-Ok.ensures.plan) in
    IfOk-weaker c.answer_multiplier_file.result _ _ (λ answer due. inr (c.in-Ok.plan, told, due)) (c.answer_multiplier_file.ensures places d same book)

pub returns-in-Err-Fault : goal.returns-in-Err-Fault
returns-in-Err-Fault c = λ places d same book.
    let fault = c.in-Err-Fault.fault in
    let vars : c.vars.result.now ≡ all_variables d = c.vars.ensures.variables ∙ all-of d c.args.book.now.vars book.ascending book.exist book.whole in
    let first : IsPlanFault d.sets (all_variables d) (records_of c.args.claim.plan.now) fault =
    subst (λ sets. IsPlanFault sets (all_variables d) (records_of c.args.claim.plan.now) fault) same
    (subst (λ vs. IsPlanFault c.args.sets.now vs (records_of c.args.claim.plan.now) fault) vars (subst (IsFailOf (IsPlanFault c.args.sets.now c.vars.result.now (records_of c.args.claim.plan.now))) c.in-Err-Fault.field-0-is c.in-Err-Fault.ensures.fault)) in
    IfOk-weaker c.refuse_plan.result _ _
    (λ answer told. inl (record { fault = fault; first = first; status_is = told.0; line_is = told.1 ∙ ap (λ sets. plan_fault_line sets fault) same })) c.refuse_plan.ensures

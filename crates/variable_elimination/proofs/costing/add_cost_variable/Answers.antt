-- The variable is put at its place.
use Rattle.variable_elimination.proofs.Common.{◌≡◌, true, sym, ap, ◌∙◌, subst, arith, IfOk-weaker, TOTAL_DISCOUNTED_COST, ascends, var_cmp, placed, AllAreCosts}
use Rattle.variable_elimination.proofs.PlacedLaws.{placed-ascends, placed-costs}
use Rattle.variable_elimination.proofs.costing.add_cost_variable.Goals as goal

pub returns-clause-ascending : goal.returns-clause-ascending
returns-clause-ascending c =
    let old = c.args.variables.now.items in
    let v = c.in-Some.variable in
    IfOk-weaker c.place.result (λ _. c.place.new.variables.items ≡ placed v old) (λ _. ascends var_cmp c.place.new.variables.items ≡ true)
    (λ _ m. ap (ascends var_cmp) m ∙ placed-ascends v old c.requires.ascending) c.place.ensures.made

pub returns-clause-costs : goal.returns-clause-costs
returns-clause-costs c =
    let old = c.args.variables.now.items in
    let v = c.in-Some.variable in
    let kind : v.kind ≡ TOTAL_DISCOUNTED_COST = omega (arith, c.if-variable-ne-TOTAL_DISCOUNTED_COST.false) in
    IfOk-weaker c.place.result (λ _. c.place.new.variables.items ≡ placed v old) (λ _. AllAreCosts c.place.new.variables.items)
    (λ _ m. subst AllAreCosts (sym m) (placed-costs v old kind c.requires.costs)) c.place.ensures.made

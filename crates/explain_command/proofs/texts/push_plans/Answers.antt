-- Plan by plan.
use Rattle.explain_command.proofs.Common.{◌<◌, ℕ, List, ◌++◌, ◌+◌, length, drop, map, ap, ap₂, ◌∙◌, append-nil, AllByRecursion, drop_all, Rational, Frac, RowName, Var, valued, IsRowOfSets, IsVariableOfSets, each-at, all_plan_lines, plan_lines}
use Rattle.explain_command.proofs.TextLaws.{no-plans, plans-next}
use Rattle.explain_command.proofs.texts.push_plans.Goals as goal

pub push_without-requires-clause-name : goal.push_without-requires-clause-name
push_without-requires-clause-name c =
    let inside : c.loop-i.i < length c.args.members.now = rw c.requires.even c.loop-i-test.true in
    rw (← c.index-members-i.is) at (each-at (λ (e : RowName × Frac). IsRowOfSets c.args.sets.now e.0) c.args.members.now c.loop-i.i c.index-members-i.result c.requires.members inside)

pub push_without-requires-clause-plan : goal.push_without-requires-clause-plan
push_without-requires-clause-plan c =
    rw (← c.index-plans-i.is) at
    (each-at (AllByRecursion (λ (e : Var × Rational). IsVariableOfSets c.args.sets.now e.0)) c.args.plans.now c.loop-i.i c.index-plans-i.result c.requires.plans c.loop-i-test.true)

pub loop-i-preserved : goal.loop-i-preserved
loop-i-preserved c =
    let sets = c.args.sets.now in
    let members = c.args.members.now in
    let plans = c.args.plans.now in
    let i : ℕ = c.loop-i.i in
    let out : List ℕ = c.loop-i.out.items in
    let rest : List ℕ = all_plan_lines sets (map valued (drop (i + 1) members)) (drop (i + 1) plans) in
    let inside : i < length members = rw c.requires.even c.loop-i-test.true in
    let next = plans-next sets members plans i c.index-members-i.result c.index-plans-i.result out (c.args.out.now.items ++ all_plan_lines sets (map valued members) plans) inside c.loop-i-test.true c.loop-i.invariant in
    ap (λ (text : List ℕ). text ++ rest)
    (c.in_ok-push_without.ensures ∙ ap₂ (λ (e : RowName × Frac) (p : List (Var × Rational)). out ++ plan_lines sets e.0 p) c.index-members-i.is c.index-plans-i.is)
    ∙ next

pub returns : goal.returns
returns c =
    let i : ℕ = c.loop-i.i in
    let out : List ℕ = c.loop-i.out.items in
    let none = no-plans c.args.sets.now (map valued (drop i c.args.members.now)) in
    rw (drop_all i c.args.plans.now c.loop-i-test.false, none, append-nil out) at c.loop-i.invariant

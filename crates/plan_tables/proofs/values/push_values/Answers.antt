-- Value by value.
use Rattle.plan_tables.proofs.Common.{ℕ, ◌+◌, List, ◌++◌, ◌∷◌, [], drop, sym, ap, ◌∙◌, subst, Rational, Frac, Var, VariableIsWithin, valued}
use Rattle.plan_tables.proofs.TextLaws.{valued_at, values_next, values_text}
use Rattle.plan_tables.proofs.values.push_values.Goals as goal

pub push_value-requires-clause-within : goal.push_value-requires-clause-within
push_value-requires-clause-within c =
    let here = valued_at (λ (e : Var × Rational). VariableIsWithin c.args.sets.now e.0) c.args.entries.now c.loop-var.var-index c.loop-var-item.result c.requires.within c.loop-var-test.true in
    subst (λ (e : Var × Frac). VariableIsWithin c.args.sets.now (valued e).0) (sym c.loop-var-item.is) here

pub loop-var-preserved : goal.loop-var-preserved
loop-var-preserved c =
    let of : List (Var × Frac) → List ℕ = values_text c.args.sets.now c.args.shown.form c.args.shown.kind in
    let left : List ℕ = of (drop (c.loop-var.var-index + 1) c.args.entries.now) in
    let written = ap (λ (e : Var × Frac). c.loop-var.lines ++ of (e ∷ [])) c.loop-var-item.is in
    ap (λ t. t ++ left) (c.in_ok-push_value.ensures ∙ written)
    ∙ values_next c.args.sets.now c.args.shown.form c.args.shown.kind c.args.entries.now c.loop-var.var-index c.loop-var-item.result c.loop-var.lines _ c.loop-var-test.true c.loop-var.invariant

-- Entry by entry.
use Rattle.plan_compare.proofs.Common.{◌≡◌, ◌+◌, Bool, true, false, List, ◌++◌, ◌∷◌, [], drop, filter, map, refl, ap, sym, ◌∙◌, append-nil, at_drop_all, Rational, value_of, Frac, Var, listed, told_where, Change}
use Rattle.plan_compare.proofs.TextLaws.{made_next, of_entries, of_entries-joined}
use Rattle.plan_compare.proofs.change.push_told.Goals as goal

-- what is told of one entry
one_told : (passes : Var × Rational → Bool) (of : Var × Rational → Change) (e : Var × Rational) → listed (told_where passes of e) ≡ map of (filter passes (e ∷ []))
one_told passes of e = by_test (passes e) refl
  where
    by_test : (b : Bool) → passes e ≡ b → listed (told_where passes of e) ≡ map of (filter passes (e ∷ []))
    by_test true is = rw is refl
    by_test false is = rw is refl

pub loop-var-init : goal.loop-var-init
loop-var-init g c passes of tells = refl

pub loop-var-preserved : goal.loop-var-preserved
loop-var-preserved g c passes of tells =
    let made : List (Var × Frac) → List Change = of_entries passes of in
    let e : Var × Frac = c.loop-var-item.result in
    let left : List Change = made (drop (c.loop-var.var-index + 1) c.args.entries.now) in
    let here : listed c.told.result ≡ made (e ∷ []) = ap listed (tells e.0 e.1 c.told.result c.told.ensures) ∙ one_told passes of (e.0, value_of e.1) in
    let written = ap (λ (x : Var × Frac). c.loop-var.all.items ++ made (x ∷ [])) c.loop-var-item.is in
    ap (λ t. t ++ left) (c.in_ok-push_some.ensures ∙ ap (λ t. c.loop-var.all.items ++ t) here ∙ written)
    ∙ made_next made (of_entries-joined passes of) c.args.entries.now c.loop-var.var-index e c.loop-var.all.items _ c.loop-var-test.true (c.loop-var.invariant passes of tells)

pub returns : goal.returns
returns g c passes of tells =
    sym (append-nil c.loop-var.all.items)
    ∙ sym (at_drop_all (λ rest. c.loop-var.all.items ++ of_entries passes of rest) c.args.entries.now c.loop-var.var-index c.loop-var-test.false)
    ∙ c.loop-var.invariant passes of tells

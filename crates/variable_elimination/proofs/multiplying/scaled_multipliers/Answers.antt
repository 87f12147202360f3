-- One reduced row after another.
use Rattle.variable_elimination.proofs.Common.{◌≡◌, ◌+◌, ◌<◌, ◌≤◌, List, map, length, get_or, drop, sym, subst, at_drop_all, err_from_is_err_and, product_formed, all_fit, first_wide, value_of, Row, LiftMultiplier, scaled_steps, names_of}
use Rattle.variable_elimination.proofs.GrowthLaws.{IsFirst-from}
use Rattle.variable_elimination.proofs.MultiplyingSteps.{next_item, scaling-next, scaling-stop, scaling-end}
use Rattle.variable_elimination.proofs.multiplying.scaled_multipliers.Goals as goal

pub loop-i-preserved : goal.loop-i-preserved
loop-i-preserved c =
    let rows = c.args.reduced.now.rows.items in
    let scales = c.args.reduced.now.scales.items in
    let lambda = c.args.lambda.now in
    let i = c.loop-i.i in
    let row = c.row-item.result in
    let scale = c.index.result.now in
    let multiplier = c.index-lambda-i.result in
    let same : c.deref-row-items.result.now ≡ rows = c.deref-row-items.ensures.value in
    let h : i < length rows = subst (λ (rs : List Row). i < length rs) same c.loop-i-test.true in
    let is : row ≡ get_or rows i row = subst (λ (rs : List Row). row ≡ get_or rs i row) same c.row-item.is in
    scaling-next rows scales lambda (drop i rows) (drop (i + 1) rows) (drop i scales) (drop (i + 1) scales) (drop i lambda) (drop (i + 1) lambda) row scale multiplier c.loop-i.made (next_item rows i row h is)
    (next_item scales i scale (subst (λ n. i < n) (sym c.requires.scaled) h) c.index.ensures) (next_item lambda i multiplier (subst (λ n. i < n) (sym c.requires.counted) h) c.index-lambda-i.is) c.loop-i.invariant
    c.push_scaled.new.made c.in_ok-push_scaled.ensures.pushed c.in_ok-push_scaled.ensures.fits

pub returns-in_err-push_scaled-clause-stopped : goal.returns-in_err-push_scaled-clause-stopped
returns-in_err-push_scaled-clause-stopped c =
    let rows = c.args.reduced.now.rows.items in
    let scales = c.args.reduced.now.scales.items in
    let lambda = c.args.lambda.now in
    let i = c.loop-i.i in
    let row = c.row-item.result in
    let scale = c.index.result.now in
    let multiplier = c.index-lambda-i.result in
    let same : c.deref-row-items.result.now ≡ rows = c.deref-row-items.ensures.value in
    let h : i < length rows = subst (λ (rs : List Row). i < length rs) same c.loop-i-test.true in
    let is : row ≡ get_or rows i row = subst (λ (rs : List Row). row ≡ get_or rs i row) same c.row-item.is in
    let stop = IsFirst-from (first_wide (scaled_steps (names_of rows) (map value_of scales) (map value_of lambda))) (LiftMultiplier row.name) (all_fit (product_formed (value_of multiplier) (value_of scale))) c.in_err-push_scaled.field-0.0
    (scaling-stop rows scales lambda (drop i rows) (drop (i + 1) rows) (drop i scales) (drop (i + 1) scales) (drop i lambda) (drop (i + 1) lambda) row scale multiplier c.loop-i.made (next_item rows i row h is)
    (next_item scales i scale (subst (λ n. i < n) (sym c.requires.scaled) h) c.index.ensures) (next_item lambda i multiplier (subst (λ n. i < n) (sym c.requires.counted) h) c.index-lambda-i.is) c.loop-i.invariant)
    c.in_err-push_scaled.ensures.stopped in
    let p = err_from_is_err_and c.from_residual.result c.from_residual.ensures.1 in
    rw (p.1, p.2) stop

pub returns-clause-fits : goal.returns-clause-fits
returns-clause-fits c =
    let rows = c.args.reduced.now.rows.items in
    let scales = c.args.reduced.now.scales.items in
    let lambda = c.args.lambda.now in
    let i = c.loop-i.i in
    let same : c.deref-row-items.result.now ≡ rows = c.deref-row-items.ensures.value in
    let h : length rows ≤ i = subst (λ (rs : List Row). length rs ≤ i) same c.loop-i-test.false in
    (scaling-end rows scales lambda (drop i rows) (drop i scales) (drop i lambda) c.loop-i.made (at_drop_all (λ rs. rs) rows i h) c.loop-i.invariant).1

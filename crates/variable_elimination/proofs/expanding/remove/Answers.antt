-- The row is combined, and then the scale multiplied.
use Rattle.variable_elimination.proofs.Common.{◌≡◌, ℤ, Bool, true, false, List, ◌++◌, ◌&&◌, sym, ap, ◌∙◌, subst, both_true, err_from_is_err_and, all_fit, value_of, all_fit-append, IsStop-more, combined_formed, combined_scale, form_of, and_false, scaled_by_formed, scale_value, IsReducedOver}
use Rattle.variable_elimination.proofs.ExpandLaws.{value-IsLowest}
use Rattle.variable_elimination.proofs.ReductionLaws.{IsReducedOver-combined}
use Rattle.variable_elimination.proofs.expanding.remove.Goals as goal

-- what is formed is what the combination forms, and what the product does
parts : (xs ys : List ℤ) → all_fit (xs ++ ys) ≡ (all_fit xs && all_fit ys)
parts xs ys = all_fit-append xs ys

pub returns-in_err-next-clause-stopped : goal.returns-in_err-next-clause-stopped
returns-in_err-next-clause-stopped c =
    let form = form_of c.args.row.now in
    let def = form_of c.args.definition.now in
    let cf : List ℤ = combined_formed form def c.args.variable in
    let pf : List ℤ = scaled_by_formed (scale_value c.args.scale) (combined_scale form def c.args.variable) in
    let wider : all_fit cf ≡ false → all_fit (cf ++ pf) ≡ false = λ wide. parts cf pf ∙ ap (λ t. t && all_fit pf) wide in
    let stop = IsStop-more c.args.place (all_fit cf) (all_fit (cf ++ pf)) c.in_err-next.field-0.0 wider c.in_err-next.ensures.stopped in
    let p = err_from_is_err_and c.from_residual.result c.from_residual.ensures.1 in
    rw (p.1, p.2) stop

pub returns-in_err-scale-clause-stopped : goal.returns-in_err-scale-clause-stopped
returns-in_err-scale-clause-stopped c =
    let form = form_of c.args.row.now in
    let def = form_of c.args.definition.now in
    let cf : List ℤ = combined_formed form def c.args.variable in
    let pf : List ℤ = scaled_by_formed (scale_value c.args.scale) (combined_scale form def c.args.variable) in
    let some : Bool = all_fit (scaled_by_formed (scale_value c.args.scale) (value_of c.in_ok-next.part)) in
    let same : some ≡ all_fit pf = ap (λ s. all_fit (scaled_by_formed (scale_value c.args.scale) s)) c.in_ok-next.ensures.combined.scale in
    let wider : some ≡ false → all_fit (cf ++ pf) ≡ false = λ wide. parts cf pf ∙ ap (λ t. all_fit cf && t) (sym same ∙ wide) ∙ and_false (all_fit cf) in
    let stop = IsStop-more c.args.place some (all_fit (cf ++ pf)) c.in_err-scale.field-0.0 wider c.in_err-scale.ensures.stopped in
    let p = err_from_is_err_and c.from_residual-in_err-scale.result c.from_residual-in_err-scale.ensures.1 in
    rw (p.1, p.2) stop

pub returns-clause-fits : goal.returns-clause-fits
returns-clause-fits c =
    let form = form_of c.args.row.now in
    let def = form_of c.args.definition.now in
    let cf : List ℤ = combined_formed form def c.args.variable in
    let pf : List ℤ = scaled_by_formed (scale_value c.args.scale) (combined_scale form def c.args.variable) in
    let fit : all_fit pf ≡ true = ap (λ s. all_fit (scaled_by_formed (scale_value c.args.scale) s)) (sym c.in_ok-next.ensures.combined.scale) ∙ c.in_ok-scale.ensures.fits in
    parts cf pf ∙ both_true c.in_ok-next.ensures.fits fit

pub returns-clause-reduced : goal.returns-clause-reduced
returns-clause-reduced c named first i r within e =
    let def = c.args.definition.now in
    subst (λ s. IsReducedOver named first s c.in_ok-next.next) (sym c.in_ok-scale.ensures.made)
    (IsReducedOver-combined named first (scale_value c.args.scale) c.args.row.now i def def (value_of c.in_ok-next.part) c.in_ok-next.next
    (value-IsLowest c.in_ok-next.part) within r e c.in_ok-next.ensures.scaled)

-- The sum, the difference and the quotient.
use Rattle.variable_elimination.proofs.Common.{◌≡◌, true, false, sym, ap, ap₂, ◌∙◌, subst, IfOk, difference_formed, quotient_formed, all_fit, whole, minus, divided, value_of, back_in_range, is_ok-false, value_in, other_sum, other_sum_formed, values_in}
use Rattle.variable_elimination.proofs.ValueSteps.{first-wide, second-wide, third-fits}
use Rattle.variable_elimination.proofs.values.solved_for.Goals as goal

pub returns-in_err-sum-clause-refused : goal.returns-in_err-sum-clause-refused
returns-in_err-sum-clause-refused g c =
    let cmp = g.K.Ord.cmp in
    let value = value_in cmp (values_in c.args.values.now) in
    let all = other_sum cmp value c.args.key c.args.numbers.now in
    is_ok-false c.from_residual.result c.from_residual.ensures.0
    ∙ sym (first-wide (other_sum_formed cmp value c.args.key c.args.numbers.now) (difference_formed (whole c.args.right) all) (quotient_formed (minus (whole c.args.right) all) (whole c.args.own)) (sym c.in_err-sum.ensures.refused))

pub returns-in_err-rest-clause-refused : goal.returns-in_err-rest-clause-refused
returns-in_err-rest-clause-refused g c =
    let cmp = g.K.Ord.cmp in
    let value = value_in cmp (values_in c.args.values.now) in
    let all = other_sum cmp value c.args.key c.args.numbers.now in
    let side : value_of c.fraction.result ≡ whole c.args.right = c.fraction.ensures ∙ ap whole (back_in_range c.args.right c.requires.right_fits) in
    let wide : all_fit (difference_formed (whole c.args.right) all) ≡ false = ap₂ (λ a b. all_fit (difference_formed a b)) (sym side) (sym c.in_ok-sum.ensures.value) ∙ sym c.in_err-rest.ensures.refused in
    is_ok-false c.from_residual-in_err-rest.result c.from_residual-in_err-rest.ensures.0
    ∙ sym (second-wide (other_sum_formed cmp value c.args.key c.args.numbers.now) (difference_formed (whole c.args.right) all) (quotient_formed (minus (whole c.args.right) all) (whole c.args.own)) (sym c.in_ok-sum.ensures.refused) wide)

pub returns-clause-refused : goal.returns-clause-refused
returns-clause-refused g c =
    let cmp = g.K.Ord.cmp in
    let value = value_in cmp (values_in c.args.values.now) in
    let all = other_sum cmp value c.args.key c.args.numbers.now in
    let side : value_of c.fraction.result ≡ whole c.args.right = c.fraction.ensures ∙ ap whole (back_in_range c.args.right c.requires.right_fits) in
    let fit : all_fit (difference_formed (whole c.args.right) all) ≡ true = ap₂ (λ a b. all_fit (difference_formed a b)) (sym side) (sym c.in_ok-sum.ensures.value) ∙ sym c.in_ok-rest.ensures.refused in
    let rest : value_of c.in_ok-rest.rest ≡ minus (whole c.args.right) all = c.in_ok-rest.ensures.value ∙ ap₂ minus side c.in_ok-sum.ensures.value in
    let number : value_of c.fraction-2.result ≡ whole c.args.own = c.fraction-2.ensures ∙ ap whole (back_in_range c.args.own c.requires.own_fits) in
    c.div.ensures.refused ∙ ap₂ (λ a b. all_fit (quotient_formed a b)) rest number
    ∙ sym (third-fits (other_sum_formed cmp value c.args.key c.args.numbers.now) (difference_formed (whole c.args.right) all) (quotient_formed (minus (whole c.args.right) all) (whole c.args.own)) (sym c.in_ok-sum.ensures.refused) fit)

pub returns-clause-value : goal.returns-clause-value
returns-clause-value g c =
    let cmp = g.K.Ord.cmp in
    let all = other_sum cmp (value_in cmp (values_in c.args.values.now)) c.args.key c.args.numbers.now in
    let side : value_of c.fraction.result ≡ whole c.args.right = c.fraction.ensures ∙ ap whole (back_in_range c.args.right c.requires.right_fits) in
    let rest : value_of c.in_ok-rest.rest ≡ minus (whole c.args.right) all = c.in_ok-rest.ensures.value ∙ ap₂ minus side c.in_ok-sum.ensures.value in
    let number : value_of c.fraction-2.result ≡ whole c.args.own = c.fraction-2.ensures ∙ ap whole (back_in_range c.args.own c.requires.own_fits) in
    subst (λ r. IfOk c.div.result (λ part. value_of part ≡ r)) (ap₂ divided rest number) c.div.ensures.value

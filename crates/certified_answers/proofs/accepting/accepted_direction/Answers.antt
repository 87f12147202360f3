-- The checker's answer.
use Rattle.certified_answers.proofs.Common.{◌≡◌, ℤ, sym, ap, ◌∙◌, subst, Var, number_of, weight_at, weight_of, IsFoundDescentFor, IsDescentFor}
use Rattle.certified_answers.proofs.accepting.accepted_direction.Goals as goal

pub returns-in-Yes-clause-descent : goal.returns-in-Yes-clause-descent
returns-in-Yes-clause-descent c =
    let same : number_of c.numbers_of.result ≡ weight_of c.args.cost = c.numbers_of.ensures.numbers ∙ ap weight_at c.one_number-one.ensures.value in
    subst (λ (w : Var → ℤ). IsDescentFor w c.args.rows.now c.args.vars.now c.args.direction.now) same
    (record {
      pass = c.in-Yes.ensures.answer.0;
      some = c.plan_laws.ensures.some;
      descends = λ q d are. (c.in-Yes.ensures.yes q d are).0;
      endless = c.in-Yes.ensures.endless;
    })

pub returns-in-No-clause-found : goal.returns-in-No-clause-found
returns-in-No-clause-found c = λ found.
    let same : number_of c.numbers_of.result ≡ weight_of c.args.cost = c.numbers_of.ensures.numbers ∙ ap weight_at c.one_number-one.ensures.value in
    let f = subst (λ (w : Var → ℤ). IsFoundDescentFor w c.args.rows.now c.args.vars.now c.args.direction.now) (sym same) found in
    absurd (c.in-No.ensures.no f.over f.number f.are f.descends)

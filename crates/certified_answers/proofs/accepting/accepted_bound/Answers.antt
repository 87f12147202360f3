-- The checker's answer.
use Rattle.certified_answers.proofs.Common.{◌≡◌, ℕ, ℤ, sym, ap, ◌∙◌, subst, value_of, RowName, Var, IsOver, AreMultipliersOver, BoundsAll, Proves, bound_of, number_of, bound_conditions, IfYes, IsVerdict, OnNo, weight_at, weight_of, IsFoundBoundFor, IsBoundFor, multiplier_bound}
use Rattle.std.specs.Prelude.{pos}
use Rattle.certificate_checker.specs.declared.verdicts.Verdict.TheVariants.{Yes}
use Rattle.certified_answers.proofs.accepting.accepted_bound.Goals as goal

pub returns-in-Yes-clause-bound : goal.returns-in-Yes-clause-bound
returns-in-Yes-clause-bound c =
    let rows = c.args.rows.now in
    let vars = c.args.vars.now in
    let m = c.args.multipliers.now in
    let weight = number_of c.numbers_of.result in
    let same : weight ≡ weight_of c.args.cost = c.numbers_of.ensures.numbers ∙ ap weight_at c.one_number-one.ensures.value in
    let bound = c.in-Yes.bound in
    let answer : IsVerdict (bound_conditions weight rows vars m) (multiplier_bound rows m) (Yes bound) =
    subst (λ v. IsVerdict (bound_conditions weight rows vars m) (multiplier_bound rows m) v) c.in-Yes.is c.in_ok-verdict.ensures.answer in
    let yes : (s : ℕ) (y : RowName → ℤ) → AreMultipliersOver s y m → Proves weight rows vars s y × IsOver (pos s) (value_of bound) (bound_of y rows)
    = λ s y are. subst (λ v. IfYes v (λ b. Proves weight rows vars s y × IsOver (pos s) (value_of b) (bound_of y rows))) c.in-Yes.is (c.in_ok-verdict.ensures.yes s y are) in
    subst (λ (w : Var → ℤ). IsBoundFor w rows vars m (value_of bound)) same
    (record {
      pass = answer.0;
      some = c.multiplier_laws.ensures.some;
      proves = λ s y are. (yes s y are).0;
      sums = λ s y are. (yes s y are).1;
      bounds = subst (λ v. IfYes v (λ b. BoundsAll weight rows vars (value_of b))) c.in-Yes.is (c.in_ok-verdict.ensures.bounds c.requires.listed);
      bound_is = answer.1;
    })

pub returns-in-No-clause-found : goal.returns-in-No-clause-found
returns-in-No-clause-found c = λ found.
    let rows = c.args.rows.now in
    let vars = c.args.vars.now in
    let weight = number_of c.numbers_of.result in
    let same : weight ≡ weight_of c.args.cost = c.numbers_of.ensures.numbers ∙ ap weight_at c.one_number-one.ensures.value in
    let f = subst (λ (w : Var → ℤ). IsFoundBoundFor w rows vars c.args.multipliers.now) (sym same) found in
    let no : ¬ (Proves weight rows vars f.over f.number) = subst (λ v. OnNo v (¬ (Proves weight rows vars f.over f.number))) c.in-No.is (c.in_ok-verdict.ensures.no f.over f.number f.are) in
    absurd (no f.proves)

-- The last of the numbers is that of TAC3.
use Rattle.limit_rows.proofs.Common.{◌≡◌, refl, sym, subst, rules, TAC3, stands_at, total_technology_model_period_activity_lower_limit, of_number}
use Rattle.limit_rows.proofs.limits.is_set.Goals as goal

pub at-requires-in_default-clause-index : goal.at-requires-in_default-clause-index
at-requires-in_default-clause-index c =
    let is : c.args.eq ≡ TAC3 = search rules in
    let at = of_number c.args.model.now.facts c.args.eq TAC3 c.args.at is c.requires.index in
    (at.region refl, (at.technology refl, tt))

pub returns-in_default : goal.returns-in_default
returns-in_default c =
    let d = c.args.model.now.facts in
    let is : c.args.eq ≡ TAC3 = search rules in
    subst (λ n. c.is_positive-in_default.result ≡ stands_at d n c.args.at) (sym is)
    (c.is_positive-in_default.ensures (total_technology_model_period_activity_lower_limit d c.args.at.region c.args.at.tech) c.at-in_default.ensures.amount)

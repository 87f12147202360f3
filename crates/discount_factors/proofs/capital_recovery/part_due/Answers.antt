use Rattle.discount_factors.proofs.Common.{◌≡◌, ◌<◌, ◌≤◌, ◌-◌, ◌*◌, ◌/◌, ◌^◌, ap, ap₂, sym, subst, ◌∙◌, arith, lt-ltb, unit_of, recovery_factor}
use Rattle.discount_factors.proofs.KeptLaws.{small_factor}
use Rattle.discount_factors.proofs.LifeLaws.{recovery-above_0, recovery-level, recovery_factor-le, first_year-le}
use Rattle.discount_factors.proofs.ValueLaws.{discounted-below_whole, discounted-le}
use Rattle.discount_factors.proofs.capital_recovery.part_due.Goals as goal

pub overflow_sub-discounted_value : goal.overflow_sub-discounted_value
overflow_sub-discounted_value c = omega (arith, c.discounted_value.ensures, discounted-le c.args.rate 1)

pub overflow_sub-discounted_value-else-rate-eq0 : goal.overflow_sub-discounted_value-else-rate-eq0
overflow_sub-discounted_value-else-rate-eq0 c = omega (arith, c.discounted_value-else-rate-eq0.ensures, discounted-le c.args.rate c.args.life)

pub part_of-requires-clause-some : goal.part_of-requires-clause-some
part_of-requires-clause-some c =
    let some : 0 < c.args.rate = omega (arith, c.if-rate-eq0.false) in
    omega (arith, c.discounted_value-else-rate-eq0.ensures, discounted-below_whole c.args.rate c.args.life some c.requires.begun)

pub part_of-requires-clause-within : goal.part_of-requires-clause-within
part_of-requires-clause-within c =
    omega (arith, c.discounted_value.ensures, c.discounted_value-else-rate-eq0.ensures, first_year-le c.args.rate c.args.life c.requires.begun)

pub returns-then-rate-eq0-clause-exact : goal.returns-then-rate-eq0-clause-exact
returns-then-rate-eq0-clause-exact c =
    ap₂ (λ unit life. unit / life) c.unit_of-unit.ensures c.from.ensures
    ∙ sym (recovery-level c.args.places c.args.life)
    ∙ ap (λ rate. recovery_factor c.args.places rate c.args.life) (sym c.if-rate-eq0.true)

pub returns-else-rate-eq0 : goal.returns-else-rate-eq0
returns-else-rate-eq0 c =
    let places = c.args.places in
    let rate = c.args.rate in
    let life = c.args.life in
    let some : 0 < rate = omega (arith, c.if-rate-eq0.false) in
    let quotient : c.part_of.result ≡ unit_of places * (10 ^ 18 - c.discounted_value.result) / (10 ^ 18 - c.discounted_value-else-rate-eq0.result) =
    c.part_of.ensures ∙ ap (λ unit. unit * (10 ^ 18 - c.discounted_value.result) / (10 ^ 18 - c.discounted_value-else-rate-eq0.result)) c.unit_of-unit.ensures in
    let exact : c.part_of.result ≡ recovery_factor places rate life =
    quotient
    ∙ ap₂ (λ first all. unit_of places * (10 ^ 18 - first) / (10 ^ 18 - all)) c.discounted_value.ensures c.discounted_value-else-rate-eq0.ensures
    ∙ sym (recovery-above_0 places rate life (lt-ltb 0 rate some)) in
    let most : c.part_of.result ≤ unit_of places = subst (λ k. k ≤ unit_of places) (sym exact) (recovery_factor-le places rate life c.requires.begun) in
    record { exact = exact; most = most; small = small_factor _ places c.requires.places most }

-- A digit is kept while none was left out and the digits write less than 10^36.
use Rattle.scaled_decimals.proofs.Common.{not, eqb, refl, sym, ap, ◌∙◌, arith, ◌||◌}
use Rattle.scaled_decimals.proofs.HeadLemmas.{IsHead-dropped}
use Rattle.scaled_decimals.proofs.reading.head.with_digit.Goals as goal

pub returns-then-head-clause-head : goal.returns-then-head-clause-head
returns-then-head-clause-head c =
    λ m is. IsHead-dropped c.args.head _ m c.args.digit c.requires.digit (λ none. omega (arith, c.else-head-eq0.either)) refl refl (c.if-head.true ∙ ap (λ r. r || not (eqb c.args.digit 0)) (sym c.if-head.true)) is

pub returns-else-head-clause-head : goal.returns-else-head-clause-head
returns-else-head-clause-head c =
    λ m is. IsHead-dropped c.args.head _ m c.args.digit c.requires.digit (λ none. omega (arith, c.else-head-eq0.either)) refl refl (ap (λ r. r || not (eqb c.args.digit 0)) (sym c.if-head.false)) is

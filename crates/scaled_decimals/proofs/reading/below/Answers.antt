use Rattle.scaled_decimals.proofs.Common.{◌^◌, ap, sym, ◌∙◌, min, below_of, form_of}
use Rattle.scaled_decimals.proofs.DigitLemmas.{continued-zero}
use Rattle.scaled_decimals.proofs.reading.below.Goals as goal

pub returns-in-Quotient : goal.returns-in-Quotient
returns-in-Quotient c =
    c.capped_number.ensures ∙ ap (λ n. min n (2 ^ 127)) (continued-zero c.in-Quotient.below.now) ∙ ap (λ s. min (below_of (form_of s)) (2 ^ 127)) (sym c.in-Quotient.is)

pub returns-in-Decimal : goal.returns-in-Decimal
returns-in-Decimal c = c.capped_power.ensures ∙ ap (λ s. min (below_of (form_of s)) (2 ^ 127)) (sym c.in-Decimal.is)

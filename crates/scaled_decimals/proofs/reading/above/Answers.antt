-- A decimal's digits are read in two runs.
use Rattle.scaled_decimals.proofs.Common.{◌^◌, ap, sym, ◌∙◌, ◌++◌, min, continued, above_of, form_of}
use Rattle.scaled_decimals.proofs.DigitLemmas.{continued-zero, continued-append, capped-continued}
use Rattle.scaled_decimals.proofs.reading.above.Goals as goal

pub returns-in-Whole : goal.returns-in-Whole
returns-in-Whole c =
    c.capped_number.ensures ∙ ap (λ n. min n (2 ^ 127)) (continued-zero c.in-Whole.digits.now) ∙ ap (λ s. min (above_of (form_of s)) (2 ^ 127)) (sym c.in-Whole.is)

pub returns-in-Quotient : goal.returns-in-Quotient
returns-in-Quotient c =
    c.capped_number-in-Quotient.ensures ∙ ap (λ n. min n (2 ^ 127)) (continued-zero c.in-Quotient.above.now) ∙ ap (λ s. min (above_of (form_of s)) (2 ^ 127)) (sym c.in-Quotient.is)

pub returns-in-Decimal : goal.returns-in-Decimal
returns-in-Decimal c =
    let whole = c.in-Decimal.whole.now in
    let places = c.in-Decimal.places.now in
    c.capped_number-in-Decimal-2.ensures
    ∙ ap (λ n. min (continued n places) (2 ^ 127)) c.capped_number-in-Decimal.ensures
    ∙ capped-continued (continued 0 whole) (2 ^ 127) places
    ∙ ap (λ n. min n (2 ^ 127)) (sym (continued-append 0 whole places) ∙ continued-zero (whole ++ places))
    ∙ ap (λ s. min (above_of (form_of s)) (2 ^ 127)) (sym c.in-Decimal.is)

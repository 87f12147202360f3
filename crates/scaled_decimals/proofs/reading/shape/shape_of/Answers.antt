-- A run of digits, and what follows it.
use Rattle.std.proofs.Common.{◌≡◌, ◌++◌, length, arith, sym, ap, ◌∙◌}
use Rattle.scaled_decimals.proofs.ValueTextLemmas.{made_of, front-found, append-empty, is-zero, not-zero, front-numeral, front_of, front-is, no_form}
use Rattle.scaled_decimals.proofs.reading.shape.shape_of.Goals as goal

pub returns-then-is_empty : goal.returns-then-is_empty
returns-then-is_empty c =
    λ f is e.
    let numeral = front-numeral f is in
    let none : length c.split_digits.result.0.now ≡ 0 = is-zero (length c.split_digits.result.0.now) (sym c.is_empty.ensures ∙ c.if-is_empty.true) in
    let front : length (front_of f) ≡ length c.split_digits.result.0.now = ap length (sym (front-is f c.args.text.now is e) ∙ sym c.split_digits.ensures.digits) in
    omega (arith, numeral.0)

pub returns-then-is_empty-2 : goal.returns-then-is_empty-2
returns-then-is_empty-2 c =
    let front = c.split_digits.result.0.now in
    let rest = c.split_digits.result.1.now in (
      front-found c.args.text.now front c.split_digits.ensures.digits (sym c.is_empty.ensures ∙ c.if-is_empty.false),
      made_of c.args.text.now front rest c.split_digits.ensures.digits c.split_digits.ensures.rest
          ∙ append-empty front rest (is-zero (length rest) (sym c.is_empty-2.ensures ∙ c.if-is_empty-2.true)),
    )

pub returns-in-Some : goal.returns-in-Some
returns-in-Some c =
    let front = c.split_digits.result.0.now in (
      (front-found c.args.text.now front c.split_digits.ensures.digits (sym c.is_empty.ensures ∙ c.if-is_empty.false), c.in-Some.ensures.0),
      made_of c.args.text.now front c.split_digits.result.1.now c.split_digits.ensures.digits c.split_digits.ensures.rest
          ∙ ap (λ t. front ++ t) c.in-Some.ensures.1,
    )

pub returns-in-Some-numeral_after : goal.returns-in-Some-numeral_after
returns-in-Some-numeral_after c =
    let front = c.split_digits.result.0.now in (
      (front-found c.args.text.now front c.split_digits.ensures.digits (sym c.is_empty.ensures ∙ c.if-is_empty.false), c.in-Some-numeral_after.ensures.0),
      made_of c.args.text.now front c.split_digits.result.1.now c.split_digits.ensures.digits c.split_digits.ensures.rest
          ∙ ap (λ t. front ++ t) c.in-Some-numeral_after.ensures.1,
    )

pub returns-in_default-numeral_after : goal.returns-in_default-numeral_after
returns-in_default-numeral_after c =
    λ f is e.
    let rest = c.split_digits.result.1.now in
    let some = not-zero (length rest) (sym c.is_empty-2.ensures ∙ c.if-is_empty-2.false) in
    no_form f c.args.text.now
    (λ none. some (ap length c.split_digits.ensures.rest ∙ none))
    (λ ds numeral over. c.in_default.ensures ds numeral (c.split_digits.ensures.rest ∙ over))
    (λ ds numeral point. c.in_default-numeral_after.ensures ds numeral (c.split_digits.ensures.rest ∙ point))
    is e

use Rattle.scaled_decimals.proofs.Common.{◌≡◌, ◌++◌, ap, sym, ◌∙◌, codes, signed_decimal, back_in_range}
use Rattle.scaled_decimals.proofs.PrintedTexts.{OnOk-appended, OnOk-same, one-from_test, not_one-from_test, fraction_text-whole, fraction_text-quotient}
use Rattle.scaled_decimals.proofs.printing.push_frac.Goals as goal

pub returns-then-v-eq1-clause-text : goal.returns-then-v-eq1-clause-text
returns-then-v-eq1-clause-text c =
    OnOk-appended c.extend_from_slice.result _ _ _ _ c.extend_from_slice.ensures.items
    (c.as_bytes.ensures.value ∙ c.format.ensures.text
    ∙ ap signed_decimal (back_in_range c.args.v.num c.args.v.num_fits)
    ∙ sym (fraction_text-whole c.args.v.num c.args.v.den (one-from_test c.args.v.den c.args.v.den_fits c.if-v-eq1.true)))

pub returns-else-v-eq1-clause-text : goal.returns-else-v-eq1-clause-text
returns-else-v-eq1-clause-text c =
    let num : c.as_bytes-else-v-eq1.result.now ≡ signed_decimal c.args.v.num =
    c.as_bytes-else-v-eq1.ensures.value ∙ c.format-else-v-eq1.ensures.text ∙ ap signed_decimal (back_in_range c.args.v.num c.args.v.num_fits) in
    let den : c.as_bytes-else-v-eq1-2.result.now ≡ signed_decimal c.args.v.den =
    c.as_bytes-else-v-eq1-2.ensures.value ∙ c.format-else-v-eq1-2.ensures.text ∙ ap signed_decimal (back_in_range c.args.v.den c.args.v.den_fits) in
    OnOk-same c.push_pieces.result _ _ _ _ c.push_pieces.ensures.text
    (ap (λ t. t ++ codes "/" ++ c.as_bytes-else-v-eq1-2.result.now) num
    ∙ ap (λ t. signed_decimal c.args.v.num ++ codes "/" ++ t) den
    ∙ sym (fraction_text-quotient c.args.v.num c.args.v.den c.args.v.positive (not_one-from_test c.args.v.den c.if-v-eq1.false)))

use Rattle.std.proofs.Common.{◌≡◌, ℤ, pos, negsuc, ◌+ℤ◌, ◌-ℤ◌, false, ap, ap₂, ◌∙◌, subst, sym, arith}
use Rattle.std.specs.Prelude.{int_div, int_rem, int_lt}
use Rattle.std.proofs.lemmas.Result.{IfOk-weaker}
use Rattle.std.proofs.lemmas.Int.{ints}
use Rattle.exact_num.specs.Rational.{whole}
use Rattle.exact_num.specs.Value.{value_of}
use Rattle.exact_num.proofs.RangeLaws.{back_in_range}
use Rattle.presolved_program.specs.Roundings.{IsAtMost}
use Rattle.presolved_program.proofs.RoundingLaws.{whole-at_most, cut-at_most, below_cut-at_most}
use Rattle.presolved_program.proofs.decimals.floor.Goals as goal

pub returns-then-rest_of-lt0 : goal.returns-then-rest_of-lt0
returns-then-rest_of-lt0 c =
    let num : ℤ = c.args.value.num in
    let den : ℤ = c.args.value.den in
    let part : c.cut_off-part.result ≡ int_div num den =
    c.cut_off-part.ensures.value ∙ ap₂ int_div (back_in_range num c.args.value.num_fits) (back_in_range den c.args.value.den_fits) in
    let less : c.in_ok-difference.field-0 ≡ int_div num den +ℤ negsuc 0 =
    c.in_ok-difference.ensures.value ∙ ap (λ z. z -ℤ pos 1) (back_in_range c.cut_off-part.result c.cut_off-part.ensures.range ∙ part) in
    IfOk-weaker c.whole.result _ (λ whole. IsAtMost (value_of whole) (value_of c.args.value))
    (λ value e. subst (λ z. IsAtMost z (value_of c.args.value))
    (sym (e ∙ ap whole (back_in_range c.in_ok-difference.field-0 c.in_ok-difference.ensures.range ∙ less)))
    (whole-at_most (int_div num den +ℤ negsuc 0) (value_of c.args.value) (below_cut-at_most num den c.args.value.positive)))
    c.whole.ensures

pub returns : goal.returns
returns c =
    let num : ℤ = c.args.value.num in
    let den : ℤ = c.args.value.den in
    let part : c.cut_off-part.result ≡ int_div num den =
    c.cut_off-part.ensures.value ∙ ap₂ int_div (back_in_range num c.args.value.num_fits) (back_in_range den c.args.value.den_fits) in
    let rest : c.rest_of.result ≡ int_rem num den =
    c.rest_of.ensures.value ∙ ap₂ int_rem (back_in_range num c.args.value.num_fits) (back_in_range den c.args.value.den_fits) in
    let least : int_lt (int_rem num den) (pos 0) ≡ false =
    ap (λ z. int_lt z (pos 0)) (sym (back_in_range c.rest_of.result c.rest_of.ensures.range ∙ rest)) ∙ c.if-rest_of-lt0.false in
    IfOk-weaker c.whole-2.result _ (λ whole. IsAtMost (value_of whole) (value_of c.args.value))
    (λ value e. subst (λ z. IsAtMost z (value_of c.args.value))
    (sym (e ∙ ap whole (back_in_range c.cut_off-part.result c.cut_off-part.ensures.range ∙ part)))
    (whole-at_most (int_div num den) (value_of c.args.value) (cut-at_most num den (omega (arith, ints)))))
    c.whole-2.ensures

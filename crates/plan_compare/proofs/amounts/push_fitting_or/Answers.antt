-- A number that fits is printed over a million.
use Rattle.plan_compare.proofs.Common.{◌≡◌, ◌++◌, ℤ, ap, sym, subst, ◌∙◌, to_z, of_z, IsTrue, ◌↔◌, w128, to_z-of_z, on_ok_weaker, InRange, lowest, value_of, in_range-yes, millionths_text, places_text, million}
use Rattle.scaled_decimals.proofs.PrintedTexts.{OnOk-appended}
use Rattle.plan_compare.proofs.PrintedLaws.{fits-from, fits-not, fits-signed, fitting-text, printed-back, wide-text}
use Rattle.plan_compare.proofs.amounts.push_fitting_or.Goals as goal

pub returns-then-fits : goal.returns-then-fits
returns-then-fits c =
    let back : to_z w128 (of_z w128 c.args.z) ≡ c.args.z = to_z-of_z w128 c.args.z (fits-signed c.args.z c.ranges.z.sfits) in
    let test : IsTrue c.fits.result ↔ InRange c.args.z = subst (λ (z : ℤ). IsTrue c.fits.result ↔ InRange z) back c.fits.ensures in
    let range : InRange c.args.z = fits-from c.fits.result c.args.z test c.if-fits.true in
    let value : value_of c.ratio.result ≡ lowest c.args.z million = c.ratio.ensures ∙ ap (λ (n : ℤ). lowest n million) back in
    on_ok_weaker c.push_places.result
    (λ e. e ∙ ap (λ t. c.args.out.now.items ++ t) (ap places_text value ∙ ap millionths_text (printed-back c.args.z) ∙ sym (fitting-text c.args.word.now c.args.z (in_range-yes c.args.z range))))
    c.push_places.ensures.text

pub returns-else-fits : goal.returns-else-fits
returns-else-fits c =
    let back : to_z w128 (of_z w128 c.args.z) ≡ c.args.z = to_z-of_z w128 c.args.z (fits-signed c.args.z c.ranges.z.sfits) in
    let test : IsTrue c.fits.result ↔ InRange c.args.z = subst (λ (z : ℤ). IsTrue c.fits.result ↔ InRange z) back c.fits.ensures in
    OnOk-appended c.extend_from_slice.result _ _ _ _ c.extend_from_slice.ensures.items
    (sym (wide-text c.args.word.now c.args.z (fits-not c.fits.result c.args.z test c.if-fits.false)))

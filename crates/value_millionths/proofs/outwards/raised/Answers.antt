-- The order of the number and the value decides.
use Rattle.std.proofs.Common.{◌≡◌, ◌+ℤ◌, ℤ, pos, Some, ap, sym, subst, ◌∙◌, to_z, of_z}
use Rattle.std.specs.Prelude.{IsTrue, ◌↔◌}
use Rattle.std.specs.Int.{w128}
use Rattle.std.specs.Ordering.{is_lt}
use Rattle.std.proofs.lemmas.Int.{to_z-of_z}
use Rattle.exact_num.specs.Range.{InRange}
use Rattle.exact_num.specs.Rational.{Rational, lowest, order_of}
use Rattle.exact_num.specs.Value.{value_of}
use Rattle.exact_num.proofs.RangeLaws.{in_range-yes}
use Rattle.value_millionths.specs.Outwards.{fitting, parts}
use Rattle.value_millionths.proofs.OutwardLaws.{fits-from, fits-not, fits-signed, is-lt-of, raised-more, raised-none, raised-same, million}
use Rattle.value_millionths.proofs.outwards.raised.Goals as goal

pub returns-in-Less : goal.returns-in-Less
returns-in-Less c =
    let n = c.args.number in
    let x = value_of c.args.value in
    let back : to_z w128 (of_z w128 n) ≡ n = to_z-of_z w128 n (fits-signed n c.ranges.number.sfits) in
    let test : IsTrue c.fits.result ↔ InRange n = subst (λ (z : ℤ). IsTrue c.fits.result ↔ InRange z) back c.fits.ensures in
    let value : value_of c.ratio.result ≡ parts n = c.ratio.ensures ∙ ap (λ (m : ℤ). lowest m million) back in
    let order : c.cmp_frac.result ≡ order_of (parts n) x = c.cmp_frac.ensures ∙ ap (λ (r : Rational). order_of r x) value in
    c.moved.ensures ∙ ap (λ (z : ℤ). fitting (z +ℤ pos 1)) back
    ∙ raised-more x n (in_range-yes n (fits-from c.fits.result n test c.if-fits.true)) (sym c.in-Less.is ∙ order)

pub returns-in-Equal : goal.returns-in-Equal
returns-in-Equal c =
    let n = c.args.number in
    let x = value_of c.args.value in
    let back : to_z w128 (of_z w128 n) ≡ n = to_z-of_z w128 n (fits-signed n c.ranges.number.sfits) in
    let test : IsTrue c.fits.result ↔ InRange n = subst (λ (z : ℤ). IsTrue c.fits.result ↔ InRange z) back c.fits.ensures in
    let value : value_of c.ratio.result ≡ parts n = c.ratio.ensures ∙ ap (λ (m : ℤ). lowest m million) back in
    let order : c.cmp_frac.result ≡ order_of (parts n) x = c.cmp_frac.ensures ∙ ap (λ (r : Rational). order_of r x) value in
    ap Some back ∙ raised-same x n (in_range-yes n (fits-from c.fits.result n test c.if-fits.true)) (ap is_lt (sym order) ∙ is-lt-of c.cmp_frac.result c.in-Equal.is)

pub returns-else-fits : goal.returns-else-fits
returns-else-fits c =
    let n = c.args.number in
    let back : to_z w128 (of_z w128 n) ≡ n = to_z-of_z w128 n (fits-signed n c.ranges.number.sfits) in
    let test : IsTrue c.fits.result ↔ InRange n = subst (λ (z : ℤ). IsTrue c.fits.result ↔ InRange z) back c.fits.ensures in
    raised-none (value_of c.args.value) n (fits-not c.fits.result n test c.if-fits.false)

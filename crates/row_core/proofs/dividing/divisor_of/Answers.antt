-- The greatest common divisor, number by number.
use Rattle.row_core.proofs.Common.{◌≡◌, ℕ, ◌+◌, ◌<◌, ℤ, pos, ◌∷◌, drop, sym, ap, ◌∙◌, subst, arith, to_z, of_z, w128, unsigned_abs, ◌≤ℤ◌, ◌<ℤ◌, ints, gcd_of, InRange, gcd_of-zero, one-gcd_of, pos-unsigned_abs, unsigned_abs_pos, nonzero_of_pos, back_in_range, numbers_of, common_divisor}
use Rattle.row_core.proofs.WritingSteps.{item_fits, nonnegative_is, shared-item, shared-end, row_divisor-by, above_zero}
use Rattle.row_core.proofs.dividing.divisor_of.Goals as goal

pub loop-entry-init : goal.loop-entry-init
loop-entry-init g c =
    let w : ℤ = to_z w128 (of_z w128 c.args.right) in
    let d : ℤ = c.gcd-divisor.result in
    let fits : InRange d = c.gcd-divisor.ensures.range in
    let back : to_z w128 (of_z w128 d) ≡ d = back_in_range d fits in
    let size : unsigned_abs d ≡ unsigned_abs w = ap unsigned_abs c.gcd-divisor.ensures.value ∙ gcd_of-zero (unsigned_abs w) in
    record {
      range = subst InRange (sym back) fits;
      nonnegative = nonnegative_is (to_z w128 (of_z w128 d)) (gcd_of (unsigned_abs w) 0) (back ∙ c.gcd-divisor.ensures.value);
      shared = ap (λ n. gcd_of n (common_divisor (numbers_of c.args.entries.now))) (ap unsigned_abs back ∙ size);
    }

pub gcd-divisor-requires-in-loop-entry-clause-right : goal.gcd-divisor-requires-in-loop-entry-clause-right
gcd-divisor-requires-in-loop-entry-clause-right g c =
    let entry = c.entry-item.result in
    let fits : InRange entry.1 = item_fits c.args.entries.now c.loop-entry.entry-index entry c.requires.entries_fit c.loop-entry-test.true c.entry-item.is in
    subst InRange (sym (back_in_range entry.1 fits)) fits

pub loop-entry-preserved : goal.loop-entry-preserved
loop-entry-preserved g c =
    let entries = c.args.entries.now in
    let i = c.loop-entry.entry-index in
    let d : ℤ = to_z w128 c.loop-entry.divisor-bits in
    let entry = c.entry-item.result in
    let entry_fits : InRange entry.1 = item_fits entries i entry c.requires.entries_fit c.loop-entry-test.true c.entry-item.is in
    let r : ℤ = c.gcd-divisor-in-loop-entry.result in
    let fits : InRange r = c.gcd-divisor-in-loop-entry.ensures.range in
    let back : to_z w128 (of_z w128 r) ≡ r = back_in_range r fits in
    let value : r ≡ pos (gcd_of (unsigned_abs d) (unsigned_abs entry.1)) =
    c.gcd-divisor-in-loop-entry.ensures.value ∙ ap (λ z. pos (gcd_of (unsigned_abs d) (unsigned_abs z))) (back_in_range entry.1 entry_fits) in
    record {
      range = subst InRange (sym back) fits;
      nonnegative = nonnegative_is (to_z w128 (of_z w128 r)) (gcd_of (unsigned_abs d) (unsigned_abs entry.1)) (back ∙ value);
      shared =
          ap (λ z. gcd_of (unsigned_abs z) (common_divisor (numbers_of (drop (i + 1) entries)))) (back ∙ value)
          ∙ sym (shared-item (unsigned_abs d) entries i entry c.loop-entry-test.true c.entry-item.is)
          ∙ c.loop-entry.invariant.shared;
    }

pub returns-then-divisor-eq1-clause-value : goal.returns-then-divisor-eq1-clause-value
returns-then-divisor-eq1-clause-value g c =
    let rest : ℕ = common_divisor (numbers_of (drop c.loop-entry.entry-index c.args.entries.now)) in
    let numbers = numbers_of c.args.entries.now in
    let one : to_z w128 c.loop-entry.divisor-bits ≡ pos 1 = ap (λ n. to_z w128 n) c.if-divisor-eq1.true in
    let all : common_divisor (c.args.right ∷ numbers) ≡ 1 =
    ap (λ z. common_divisor (z ∷ numbers)) (sym (back_in_range c.args.right c.requires.right_fits))
    ∙ sym c.loop-entry.invariant.shared
    ∙ ap (λ z. gcd_of (unsigned_abs z) rest) one
    ∙ one-gcd_of rest in
    ap pos (sym (row_divisor-by (c.args.right ∷ numbers) 1 all))

pub returns-then-divisor-gt0-clause-value : goal.returns-then-divisor-gt0-clause-value
returns-then-divisor-gt0-clause-value g c =
    let d : ℤ = to_z w128 c.loop-entry.divisor-bits in
    let numbers = numbers_of c.args.entries.now in
    let all : common_divisor (c.args.right ∷ numbers) ≡ unsigned_abs d =
    ap (λ z. common_divisor (z ∷ numbers)) (sym (back_in_range c.args.right c.requires.right_fits))
    ∙ sym c.loop-entry.invariant.shared
    ∙ shared-end (unsigned_abs d) c.args.entries.now c.loop-entry.entry-index c.loop-entry-test.false in
    let above : pos 0 <ℤ d = omega (arith, ints, c.if-divisor-gt0.true) in
    let size : 0 < unsigned_abs d = unsigned_abs_pos d (nonzero_of_pos d above) in
    sym (ap pos (row_divisor-by (c.args.right ∷ numbers) (unsigned_abs d) all ∙ above_zero (unsigned_abs d) size) ∙ pos-unsigned_abs d c.loop-entry.invariant.nonnegative)

pub returns-else-divisor-gt0-clause-value : goal.returns-else-divisor-gt0-clause-value
returns-else-divisor-gt0-clause-value g c =
    let d : ℤ = to_z w128 c.loop-entry.divisor-bits in
    let numbers = numbers_of c.args.entries.now in
    let below : d ≤ℤ pos 0 = omega (arith, ints, c.if-divisor-gt0.false) in
    let above : pos 0 ≤ℤ d = c.loop-entry.invariant.nonnegative in
    let none : d ≡ pos 0 = omega (arith, ints) in
    let all : common_divisor (c.args.right ∷ numbers) ≡ 0 =
    ap (λ z. common_divisor (z ∷ numbers)) (sym (back_in_range c.args.right c.requires.right_fits))
    ∙ sym c.loop-entry.invariant.shared
    ∙ shared-end (unsigned_abs d) c.args.entries.now c.loop-entry.entry-index c.loop-entry-test.false
    ∙ ap unsigned_abs none in
    ap pos (sym (row_divisor-by (c.args.right ∷ numbers) 0 all))

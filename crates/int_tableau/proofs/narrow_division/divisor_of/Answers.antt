-- The greatest common divisor, number by number.
use Rattle.int_tableau.proofs.Common.{◌≡◌, ◌<◌, ◌^◌, ℕ, ◌+◌, ℤ, pos, ◌∷◌, List, drop, get_or, sym, ap, ◌∙◌, subst, arith, to_z, of_z, w64, unsigned_abs, ◌≤ℤ◌, ◌<ℤ◌, ints, get_or_default, gcd_of, one-gcd_of, pos-unsigned_abs, unsigned_abs_pos, nonzero_of_pos, numbers_of, common_divisor, shared-item, shared-end, row_divisor-by, above_zero}
use Rattle.int_tableau.proofs.DivisionLaws.{no_entry}
use Rattle.int_tableau.proofs.NarrowLaws.{AreNarrow-at, back_narrow}
use Rattle.int_tableau.proofs.narrow_division.divisor_of.Goals as goal

pub shared-divisor-requires : goal.shared-divisor-requires
shared-divisor-requires c =
    let e : ℕ × ℤ = get_or c.args.entries.now c.loop-entry.entry-index no_entry in
    let small : unsigned_abs e.1 < 2 ^ 63 = AreNarrow-at c.args.entries.now c.loop-entry.entry-index no_entry c.requires.entries c.loop-entry-test.true in
    subst (λ z. unsigned_abs z < 2 ^ 63) (sym (back_narrow e.1 small)) small

pub loop-entry-preserved : goal.loop-entry-preserved
loop-entry-preserved c =
    let entries : List (ℕ × ℤ) = c.args.entries.now in
    let i = c.loop-entry.entry-index in
    let d : ℤ = c.loop-entry.divisor.by in
    let e : ℕ × ℤ = get_or entries i no_entry in
    let small : unsigned_abs e.1 < 2 ^ 63 = AreNarrow-at entries i no_entry c.requires.entries c.loop-entry-test.true in
    let value : c.shared-divisor.result.by ≡ pos (gcd_of (unsigned_abs d) (unsigned_abs e.1)) =
    c.shared-divisor.ensures ∙ ap (λ z. pos (gcd_of (unsigned_abs d) (unsigned_abs z))) (back_narrow e.1 small) in
    ap (λ z. gcd_of (unsigned_abs z) (common_divisor (numbers_of (drop (i + 1) entries)))) value
    ∙ sym (shared-item (unsigned_abs d) entries i e c.loop-entry-test.true (get_or_default entries i no_entry e c.loop-entry-test.true))
    ∙ c.loop-entry.invariant

pub returns-then-divisor-eq1-clause-value : goal.returns-then-divisor-eq1-clause-value
returns-then-divisor-eq1-clause-value c =
    let rest : ℕ = common_divisor (numbers_of (drop c.loop-entry.entry-index c.args.entries.now)) in
    let d : ℤ = c.loop-entry.divisor.by in
    let numbers = numbers_of c.args.entries.now in
    let one : d ≡ pos 1 = sym (back_narrow d c.loop-entry.divisor.narrow) ∙ ap (λ n. to_z w64 n) c.if-divisor-eq1.true in
    let all : common_divisor (c.args.first ∷ numbers) ≡ 1 =
    ap (λ z. common_divisor (z ∷ numbers)) (sym (back_narrow c.args.first c.requires.first))
    ∙ sym c.loop-entry.invariant
    ∙ ap (λ z. gcd_of (unsigned_abs z) rest) one
    ∙ one-gcd_of rest in
    ap pos (sym (row_divisor-by (c.args.first ∷ numbers) 1 all))

pub returns-then-divisor-gt0-clause-value : goal.returns-then-divisor-gt0-clause-value
returns-then-divisor-gt0-clause-value c =
    let d : ℤ = c.loop-entry.divisor.by in
    let numbers = numbers_of c.args.entries.now in
    let back : to_z w64 (of_z w64 d) ≡ d = back_narrow d c.loop-entry.divisor.narrow in
    let all : common_divisor (c.args.first ∷ numbers) ≡ unsigned_abs d =
    ap (λ z. common_divisor (z ∷ numbers)) (sym (back_narrow c.args.first c.requires.first))
    ∙ sym c.loop-entry.invariant
    ∙ shared-end (unsigned_abs d) c.args.entries.now c.loop-entry.entry-index c.loop-entry-test.false in
    let above : pos 0 <ℤ d = subst (λ z. pos 0 <ℤ z) back (omega (arith, ints, c.if-divisor-gt0.true)) in
    let size : 0 < unsigned_abs d = unsigned_abs_pos d (nonzero_of_pos d above) in
    back ∙ sym (ap pos (row_divisor-by (c.args.first ∷ numbers) (unsigned_abs d) all ∙ above_zero (unsigned_abs d) size) ∙ pos-unsigned_abs d c.loop-entry.divisor.nonnegative)

pub returns-else-divisor-gt0-clause-value : goal.returns-else-divisor-gt0-clause-value
returns-else-divisor-gt0-clause-value c =
    let d : ℤ = c.loop-entry.divisor.by in
    let numbers = numbers_of c.args.entries.now in
    let back : to_z w64 (of_z w64 d) ≡ d = back_narrow d c.loop-entry.divisor.narrow in
    let below : d ≤ℤ pos 0 = subst (λ z. z ≤ℤ pos 0) back (omega (arith, ints, c.if-divisor-gt0.false)) in
    let above : pos 0 ≤ℤ d = c.loop-entry.divisor.nonnegative in
    let none : d ≡ pos 0 = omega (arith, ints) in
    let all : common_divisor (c.args.first ∷ numbers) ≡ 0 =
    ap (λ z. common_divisor (z ∷ numbers)) (sym (back_narrow c.args.first c.requires.first))
    ∙ sym c.loop-entry.invariant
    ∙ shared-end (unsigned_abs d) c.args.entries.now c.loop-entry.entry-index c.loop-entry-test.false
    ∙ ap unsigned_abs none in
    ap pos (sym (row_divisor-by (c.args.first ∷ numbers) 0 all))

-- One row after another.
use Rattle.row_problem.proofs.Common.{◌≡◌, ◌+◌, ℕ, ℤ, refl, Some, pos, List, [], ◌∷◌, map, length, sym, ap, ap₂, ◌∙◌, subst, arith, slice_index_or, length-append, length-map, map-append, err_from_is_err_and, Frac, InRange, value_of, back_in_range}
use Rattle.decimal_solver.proofs.Words.{GridRow, at_most_0, row_multiplier, number_seen, row_seen}
use Rattle.decimal_solver.proofs.FoldLaws.{left-at, left-end, left-next, left-stop}
use Rattle.decimal_solver.proofs.LineLaws.{read}
use Rattle.decimal_solver.proofs.ending.row_multipliers.Goals as goal

pub row_multiplier-requires : goal.row_multiplier-requires
row_multiplier-requires c = subst InRange (sym (back_in_range c.number_at.result c.number_at.ensures.range)) c.number_at.ensures.range

-- the next row is the one after those whose multipliers were made
multiplied : (numbers : List ℤ) (first i : ℕ) (made : List Frac) (number : ℤ) (row : GridRow) → length made ≡ i → InRange number → number ≡ at_most_0 (slice_index_or numbers (first + i) (pos 0))
    → row_multiplier (at_most_0 (slice_index_or numbers (first + length (map value_of made)) (pos 0))) row.scale ≡ row_multiplier (read number) (read row.scale)
multiplied numbers first i made number row counted fits is =
    ap₂ (λ a b. row_multiplier a b)
    (ap (λ n. at_most_0 (slice_index_or numbers (first + n) (pos 0))) (length-map made value_of ∙ counted) ∙ sym (back_in_range number fits ∙ is))
    (sym (back_in_range row.scale row.scale_fits))

pub returns-in_err-row_multiplier-clause-nothing : goal.returns-in_err-row_multiplier-clause-nothing
returns-in_err-row_multiplier-clause-nothing c =
    let i = c.loop-position.position in
    let row = c.index-rows-position.result in
    let here = left-at row_seen c.args.rows.now i row c.loop-position-test.true c.index-rows-position.is c.loop-position.invariant.same in
    let same = multiplied (map number_seen c.args.numbers.now) c.args.first i c.loop-position.made.items c.number_at.result row c.loop-position.invariant.counted c.number_at.ensures.range c.number_at.ensures.value in
    let q = err_from_is_err_and c.from_residual-in_err-row_multiplier.result c.from_residual-in_err-row_multiplier.ensures.1 in
    rw (q.1, q.2) (left-stop here (row_multiplier (read c.number_at.result) (read row.scale)) c.in_err-row_multiplier.field-0.0 (λ h. rw (same ∙ h) refl) c.in_err-row_multiplier.ensures.nothing)

pub loop-position-preserved : goal.loop-position-preserved
loop-position-preserved c =
    let i = c.loop-position.position in
    let row = c.index-rows-position.result in
    let made : List Frac = c.loop-position.made.items in
    let x : Frac = c.in_ok-row_multiplier.field-0 in
    let here = left-at row_seen c.args.rows.now i row c.loop-position-test.true c.index-rows-position.is c.loop-position.invariant.same in
    let same = multiplied (map number_seen c.args.numbers.now) c.args.first i made c.number_at.result row c.loop-position.invariant.counted c.number_at.ensures.range c.number_at.ensures.value in
    record {
      same = left-next here (rw (same ∙ c.in_ok-row_multiplier.ensures.value) (ap Some (sym (ap (λ (xs : List Frac). map value_of xs) c.in_ok-push.ensures.items ∙ map-append value_of made (x ∷ [])))));
      counted = omega (arith, c.loop-position.invariant.counted, ap (λ (xs : List Frac). length xs) c.in_ok-push.ensures.items, length-append {A = Frac});
    }

pub returns-clause-value : goal.returns-clause-value
returns-clause-value c = left-end row_seen c.args.rows.now c.loop-position.position (omega (arith, c.loop-position-test.false)) c.loop-position.invariant.same

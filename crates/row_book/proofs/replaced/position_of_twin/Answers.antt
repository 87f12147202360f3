-- Row by row.
use Rattle.row_book.proofs.Common.{◌≡◌, refl, sym, subst, arith, inl, inr, true≢false, cases_lt, Row, IsAt, AreTwins}
use Rattle.row_book.proofs.KeptLaws.{at-index, same_row}
use Rattle.row_book.proofs.ReplacedLaws.{slice-within}
use Rattle.row_book.proofs.replaced.position_of_twin.Goals as goal

pub loop-i-init : goal.loop-i-init
loop-i-init c = λ j before less at twins. omega (arith, less)

pub returns-then-are_twins-clause-found : goal.returns-then-are_twins-clause-found
returns-then-are_twins-clause-found c =
    let rows = c.args.rows.now in
    let i = c.loop-i.i in
    let row = c.index-rows-i.result in
    let here : IsAt rows i row = at-index rows i row c.loop-i-test.true c.index-rows-i.is in (
      c.loop-i-test.true,
      λ before at. subst (λ (r : Row). AreTwins r c.args.row.now) (same_row rows i row before here at) (c.if-are_twins.ensures.0 refl),
    )

pub loop-i-preserved : goal.loop-i-preserved
loop-i-preserved c = λ j before less at twins.
    let rows = c.args.rows.now in
    let i = c.loop-i.i in
    let row = c.index-rows-i.result in
    elim (cases_lt j i) [
      | inl earlier ↦ c.loop-i.invariant j before earlier at twins
      | inr from ↦
          let same : j ≡ i = omega (arith, less, from) in
          let here : IsAt rows i row = at-index rows i row c.loop-i-test.true c.index-rows-i.is in
          let is : row ≡ before = same_row rows i row before here (subst (λ n. IsAt rows n before) same at) in
          let told = c.if-are_twins.ensures.1 (subst (λ (r : Row). AreTwins r c.args.row.now) (sym is) twins) in
          absurd (true≢false (sym told))
    ]

pub returns-clause-none : goal.returns-clause-none
returns-clause-none c = λ j before at twins. c.loop-i.invariant j before (omega (arith, slice-within c.args.rows.now j before at, c.loop-i-test.false)) at twins

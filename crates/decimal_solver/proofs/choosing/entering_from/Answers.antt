-- One entry after another.
use Rattle.row_problem.proofs.Common.{◌≡◌, ℕ, ℤ, Bool, Option, Some, sym, ap, ap₂, ◌∙◌, arith, to_z, if◌then◌else◌, w128, int_lt, is_none, nat_lt, ◌&&◌, ◌||◌, back_in_range}
use Rattle.decimal_solver.proofs.Words.{entering_from, entry_seen}
use Rattle.decimal_solver.proofs.FoldLaws.{folded-end, folded-next}
use Rattle.decimal_solver.proofs.choosing.entering_from.Goals as goal
use Rattle.decimal_solver.proofs.choosing.entering_from.Goals.{then-enters, else-enters}

pub loop-entry-preserved : goal.loop-entry-preserved
loop-entry-preserved c =
    let e = c.entry-item.result in
    let best : ℤ = to_z w128 c.loop-entry.best-bits in
    let chosen = c.loop-entry.chosen in
    let test : c.enters.result ≡ (nat_lt e.column c.args.limit && (int_lt best e.number && (c.args.greedy || is_none chosen))) = c.enters.ensures in
    let next = folded-next entry_seen c.args.entries.now c.loop-entry.entry-index e c.loop-entry-test.true c.entry-item.is c.loop-entry.invariant in
    let by_test = λ (t : Bool). if t then (e.number, Some e.column) else (best, chosen) in
    elim c.if-enters.branch [
      | then-enters w ↦ next (ap by_test (sym test ∙ w.if-enters.true) ∙ ap₂ {C = ℤ × Option ℕ} (λ y o. (y, o)) (sym (w.best-is ∙ back_in_range e.number e.fits)) (sym w.chosen-is))
      | else-enters w ↦ next (ap by_test (sym test ∙ w.if-enters.false) ∙ ap₂ {C = ℤ × Option ℕ} (λ y o. (y, o)) (sym w.best-is) (sym w.chosen-is))
    ]

pub returns : goal.returns
unfolding entering_from
returns c = sym (ap (λ (s : ℤ × Option ℕ). s.1) (folded-end entry_seen c.args.entries.now c.loop-entry.entry-index (omega (arith, c.loop-entry-test.false)) c.loop-entry.invariant))

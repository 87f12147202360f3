-- One entry after another.
use Rattle.row_problem.proofs.Common.{List, map, sym, ap, ◌∙◌, arith, fold, back_in_range}
use Rattle.decimal_solver.proofs.Words.{Number, spread, with_number, entries_seen, entry_seen, number_seen}
use Rattle.decimal_solver.proofs.EndLaws.{map-replicate, written, written-past}
use Rattle.decimal_solver.proofs.FoldLaws.{folded-end, folded-next}
use Rattle.decimal_solver.proofs.ending.spread.Goals as goal
use Rattle.decimal_solver.proofs.ending.spread.Goals.{then-entry-len, else-entry-len}

pub loop-entry-init : goal.loop-entry-init
unfolding spread
loop-entry-init c =
    let all = c.in_ok-numbers.ensures.items_if_clones_equal (λ y h. h) in
    record { same = ap (λ ns. fold with_number ns (entries_seen c.args.entries.now)) (sym (ap (λ (ns : List Number). map number_seen ns) all ∙ map-replicate number_seen c.args.columns _)) }

pub loop-entry-preserved : goal.loop-entry-preserved
loop-entry-preserved c =
    let e = c.entry-item.result in
    let items : List Number = c.loop-entry.numbers.items in
    let next = folded-next entry_seen c.args.entries.now c.loop-entry.entry-index e c.loop-entry-test.true c.entry-item.is c.loop-entry.invariant in
    elim c.if-entry-len.branch [
      | then-entry-len w ↦ next (written number_seen items e.column _ e.number (back_in_range e.number e.fits) ∙ ap (λ v. map number_seen v.items) (sym w.numbers-is))
      | else-entry-len w ↦
          next (written-past number_seen items e.column e.number (omega (arith, c.len.ensures, w.if-entry-len.false)) ∙ ap (λ v. map number_seen v.items) (sym w.numbers-is))
    ]

pub returns : goal.returns
returns c = sym (folded-end entry_seen c.args.entries.now c.loop-entry.entry-index (omega (arith, c.loop-entry-test.false)) c.loop-entry.invariant)

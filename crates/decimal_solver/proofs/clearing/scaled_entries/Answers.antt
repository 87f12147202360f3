-- One entry after another.
use Rattle.row_problem.proofs.Common.{[], ◌≡◌, refl, ℤ, Some, sym, ap, ◌∙◌, subst, arith, to_z-of_z, w128, err_from_is_err_and, back_in_range}
use Rattle.decimal_solver.proofs.Words.{Entries, scaled_entries, with_entry, scaled_number, IsNothing, entries_seen, entry_seen}
use Rattle.decimal_solver.proofs.FoldLaws.{left-at, left-end, left-next, left-stop}
use Rattle.decimal_solver.proofs.LineLaws.{nat_lt-no, nat_lt-yes, read}
use Rattle.decimal_solver.proofs.clearing.scaled_entries.Goals as goal
use Rattle.decimal_solver.proofs.clearing.scaled_entries.Goals.{then-entry-limit+in_ok-number+in_ok-push_entry, else-entry-limit}

pub returns-in_err-number-clause-nothing : goal.returns-in_err-number-clause-nothing
returns-in_err-number-clause-nothing c =
    let e = c.entry-item.result in
    let f : ℤ = read c.args.f in
    let stop = c.in_err-number.field-0.0 in
    let here = left-at entry_seen c.args.entries.now c.loop-entry.entry-index e c.loop-entry-test.true c.entry-item.is c.loop-entry.invariant in
    let same = ap (λ n. scaled_number f n c.args.d) (back_in_range e.number e.fits) in
    let p = err_from_is_err_and c.from_residual-in_err-number.result c.from_residual-in_err-number.ensures.1 in
    rw (p.1, p.2)
    (subst (λ x. IsNothing (scaled_entries x c.args.d c.args.limit [] (entries_seen c.args.entries.now)) stop) (to_z-of_z w128 c.args.f c.ranges.f)
    (left-stop here (scaled_number f (read e.number) c.args.d) stop (λ h. rw (nat_lt-yes e.column c.args.limit c.if-entry-limit.true, sym same ∙ h) refl) c.in_err-number.ensures.nothing))

pub loop-entry-preserved : goal.loop-entry-preserved
loop-entry-preserved c =
    let e = c.entry-item.result in
    let f : ℤ = read c.args.f in
    let made : Entries = entries_seen c.loop-entry.made.items in
    let here = left-at entry_seen c.args.entries.now c.loop-entry.entry-index e c.loop-entry-test.true c.entry-item.is c.loop-entry.invariant in
    let same = ap (λ n. scaled_number f n c.args.d) (back_in_range e.number e.fits) in
    elim c.if-entry-limit.branch [
      | then-entry-limit+in_ok-number+in_ok-push_entry w ↦
          let z = w.in_ok-number.number in
          let pushed : entries_seen c.if-entry-limit.made.items ≡ with_entry made e.column z = ap (λ m. entries_seen m.items) w.made-is ∙ w.in_ok-push_entry.ensures.pushed ∙ ap (λ y. with_entry made e.column y) (back_in_range z w.in_ok-number.ensures.range) in
          left-next here (rw (nat_lt-yes e.column c.args.limit w.if-entry-limit.true, sym same ∙ w.in_ok-number.ensures.value) (ap Some (sym pushed)))
      | else-entry-limit w ↦
          left-next here (rw (nat_lt-no e.column c.args.limit (omega (arith, w.if-entry-limit.false))) (ap (λ m. Some (entries_seen m.items)) (sym w.made-is)))
    ]

pub returns-clause-value : goal.returns-clause-value
returns-clause-value c =
    ap (λ x. scaled_entries x c.args.d c.args.limit [] (entries_seen c.args.entries.now)) (sym (to_z-of_z w128 c.args.f c.ranges.f))
    ∙ left-end entry_seen c.args.entries.now c.loop-entry.entry-index (omega (arith, c.loop-entry-test.false)) c.loop-entry.invariant

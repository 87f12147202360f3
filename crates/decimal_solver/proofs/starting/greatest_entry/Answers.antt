-- One number after another.
use Rattle.row_problem.proofs.Common.{◌≡◌, ◌+◌, ◌<◌, ◌≤◌, ◌^◌, ℕ, get_or, drop, sym, ap, ◌∙◌, subst, arith, if◌then◌else◌, unsigned_abs, fold, at_drop_all, drop_more, InRange, back_in_range, entries_fit-at, no_entry}
use Rattle.decimal_solver.specs.Starts.{greater}
use Rattle.decimal_solver.proofs.LineLaws.{nat_lt-yes, nat_lt-no}
use Rattle.decimal_solver.proofs.starting.greatest_entry.Goals as goal
use Rattle.decimal_solver.proofs.starting.greatest_entry.Goals.{then-greatest-size, else-greatest-size}

pub loop-entry-preserved : goal.loop-entry-preserved
loop-entry-preserved c =
    let es = c.args.entries.now in
    let i = c.loop-entry.entry-index in
    let e = get_or es i no_entry in
    let so_far : ℕ = c.loop-entry.greatest in
    let fits : InRange e.1 = entries_fit-at es i no_entry c.requires c.loop-entry-test.true in
    let size : c.unsigned_abs-size.result ≡ unsigned_abs e.1 = c.unsigned_abs-size.ensures.value ∙ ap unsigned_abs (back_in_range e.1 fits) in
    let rest = drop (i + 1) es in
    let step = c.loop-entry.invariant.same ∙ ap (fold greater so_far) (drop_more es i no_entry c.loop-entry-test.true) in
    elim c.if-greatest-size.branch [
      | then-greatest-size w ↦
          record {
            same =
                step
                ∙ ap (λ t. fold greater (if t then unsigned_abs e.1 else so_far) rest) (nat_lt-yes so_far (unsigned_abs e.1) (subst (λ n. so_far < n) size w.if-greatest-size.true))
                ∙ ap (λ n. fold greater n rest) (sym (w.greatest-is ∙ size));
            range = subst (λ n. n < 2 ^ 127) (sym (w.greatest-is ∙ size)) fits;
          }
      | else-greatest-size w ↦
          record {
            same =
                step
                ∙ ap (λ t. fold greater (if t then unsigned_abs e.1 else so_far) rest) (nat_lt-no so_far (unsigned_abs e.1) (subst (λ n. n ≤ so_far) size (omega (arith, w.if-greatest-size.false))))
                ∙ ap (λ n. fold greater n rest) (sym w.greatest-is);
            range = subst (λ n. n < 2 ^ 127) (sym w.greatest-is) c.loop-entry.invariant.range;
          }
    ]

pub returns-clause-value : goal.returns-clause-value
returns-clause-value c = sym (c.loop-entry.invariant.same ∙ at_drop_all (fold greater c.loop-entry.greatest) c.args.entries.now c.loop-entry.entry-index (omega (arith, c.loop-entry-test.false)))

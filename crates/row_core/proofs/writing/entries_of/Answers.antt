-- One term after another.
use Rattle.row_core.proofs.Common.{◌≡◌, ◌+◌, ℤ, false, ◌++◌, ◌&&◌, drop, sym, ap, ◌∙◌, arith, to_z, of_z, append_assoc, append-nil, w128, at_drop_all, err_from_is_err_and, back_in_range, all_fit-nil, entry_over, seen}
use Rattle.row_core.proofs.WritingSteps.{entries_left, entries_fit, entries_left-step, entries_fit-step, IsStop-more}
use Rattle.row_core.proofs.writing.entries_of.Goals as goal

pub returns-in_err-push_entry-clause-stopped : goal.returns-in_err-push_entry-clause-stopped
returns-in_err-push_entry-clause-stopped c =
    let w : ℤ = to_z w128 (of_z w128 c.args.denominator) in
    let terms = c.args.terms.now in
    let i = c.loop-term.term-index in
    let x = c.term-item.result in
    let wider : entries_fit (entry_over w (seen x)) ≡ false → entries_fit (entries_left c.args.denominator terms) ≡ false =
    λ wide.
    ap (λ z. entries_fit (entries_left z terms)) (sym (back_in_range c.args.denominator c.requires.fits))
    ∙ c.loop-term.invariant.fits
    ∙ entries_fit-step w terms i x (omega arith) c.term-item.is
    ∙ ap (λ b. b && entries_fit (entries_left w (drop (i + 1) terms))) wide in
    let stop = IsStop-more c.args.place (entries_fit (entry_over w (seen x))) (entries_fit (entries_left c.args.denominator terms)) c.in_err-push_entry.field-0.0 wider c.in_err-push_entry.ensures.stopped in
    let p = err_from_is_err_and c.from_residual-in_err-push_entry.result c.from_residual-in_err-push_entry.ensures.1 in
    rw (p.1, p.2) stop

pub loop-term-preserved : goal.loop-term-preserved
loop-term-preserved c =
    let w : ℤ = to_z w128 (of_z w128 c.args.denominator) in
    let terms = c.args.terms.now in
    let i = c.loop-term.term-index in
    let x = c.term-item.result in
    let left = entries_left w (drop (i + 1) terms) in
    record {
      entries =
          c.loop-term.invariant.entries
          ∙ ap (λ es. c.loop-term.entries.items ++ es) (entries_left-step w terms i x (omega arith) c.term-item.is)
          ∙ sym (append_assoc c.loop-term.entries.items (entry_over w (seen x)) left)
          ∙ ap (λ es. es ++ left) (sym c.in_ok-push_entry.ensures.pushed);
      fits =
          c.loop-term.invariant.fits
          ∙ entries_fit-step w terms i x (omega arith) c.term-item.is
          ∙ ap (λ b. b && entries_fit left) c.in_ok-push_entry.ensures.fits;
    }

pub returns-clause-entries : goal.returns-clause-entries
returns-clause-entries c =
    let w : ℤ = to_z w128 (of_z w128 c.args.denominator) in
    let entries = c.loop-term.entries.items in
    sym
    (ap (λ z. entries_left z c.args.terms.now) (sym (back_in_range c.args.denominator c.requires.fits))
    ∙ c.loop-term.invariant.entries
    ∙ at_drop_all (λ ts. entries ++ entries_left w ts) c.args.terms.now c.loop-term.term-index c.loop-term-test.false
    ∙ append-nil entries)

pub returns-clause-fits : goal.returns-clause-fits
returns-clause-fits c =
    let w : ℤ = to_z w128 (of_z w128 c.args.denominator) in
    ap (λ z. entries_fit (entries_left z c.args.terms.now)) (sym (back_in_range c.args.denominator c.requires.fits))
    ∙ c.loop-term.invariant.fits
    ∙ at_drop_all (λ ts. entries_fit (entries_left w ts)) c.args.terms.now c.loop-term.term-index c.loop-term-test.false
    ∙ all_fit-nil

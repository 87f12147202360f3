-- A coefficient of 0 has no entry, and any other one's numerator is the one number formed.
use Rattle.row_core.proofs.Common.{◌≡◌, ◌≢◌, pos, sym, ap, ◌∙◌, refl, to_z, of_z, w128, in_range, back_in_range, all_fit-nil, seen, numerator_over}
use Rattle.row_core.proofs.WritingSteps.{entry_over-zero, entry_over-nonzero, entries_fit, entries_fit-one}
use Rattle.row_core.proofs.writing.push_entry.Goals as goal

pub returns-then-term-eq0-clause-fits : goal.returns-then-term-eq0-clause-fits
returns-then-term-eq0-clause-fits c =
    let none : c.args.term.now.coefficient.num ≡ pos 0 =
    sym (back_in_range c.args.term.now.coefficient.num c.args.term.now.coefficient.num_fits) ∙ ap (λ n. to_z w128 n) c.if-term-eq0.true in
    ap entries_fit (entry_over-zero c.args.denominator (seen c.args.term.now) none) ∙ all_fit-nil

pub returns-in_default-clause-stopped : goal.returns-in_default-clause-stopped
returns-in_default-clause-stopped c =
    let term = seen c.args.term.now in
    let some : c.args.term.now.coefficient.num ≢ pos 0 = λ e. c.if-term-eq0.false (ap (λ z. of_z w128 z) e) in (
      refl,
      ap entries_fit (entry_over-nonzero c.args.denominator term some) ∙ entries_fit-one term.0 (numerator_over c.args.denominator term.1)
          ∙ ap (λ z. in_range (numerator_over z term.1)) (sym (back_in_range c.args.denominator c.requires.fits)) ∙ sym c.in_default.ensures.refused,
    )

pub returns-clause-fits : goal.returns-clause-fits
returns-clause-fits c =
    let term = seen c.args.term.now in
    let some : c.args.term.now.coefficient.num ≢ pos 0 = λ e. c.if-term-eq0.false (ap (λ z. of_z w128 z) e) in
    ap entries_fit (entry_over-nonzero c.args.denominator term some) ∙ entries_fit-one term.0 (numerator_over c.args.denominator term.1)
    ∙ ap (λ z. in_range (numerator_over z term.1)) (sym (back_in_range c.args.denominator c.requires.fits)) ∙ sym c.in-Ok.ensures.refused

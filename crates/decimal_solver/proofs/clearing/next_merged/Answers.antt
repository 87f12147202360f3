-- Which of the two has the next entry.
use Rattle.row_problem.proofs.Common.{◌+◌, pos, Some, drop, refl, sym, ap, ◌∙◌, arith, to_z-of_z, w128, err_from_is_err_and, back_in_range}
use Rattle.decimal_solver.proofs.Words.{filled, merged, merged_to, reduced_number}
use Rattle.decimal_solver.proofs.LineLaws.{nat_lt-no, nat_lt-yes, read, reduced-read, same-no, same-yes}
use Rattle.decimal_solver.proofs.MergeLaws.{one-fewer}
use Rattle.decimal_solver.proofs.Nothing.{nothing-later}
use Rattle.decimal_solver.proofs.clearing.next_merged.Goals as goal

pub returns-in_err-reduced_number-in-Some-entry_at-clause-nothing : goal.returns-in_err-reduced_number-in-Some-entry_at-clause-nothing
unfolding filled merged merged_to
returns-in_err-reduced_number-in-Some-entry_at-clause-nothing c =
    let r = c.in-Some-entry_at.r in
    let same = reduced-read c.args.q r.number (pos 0) (pos 0) (to_z-of_z w128 c.args.q c.ranges.q) (back_in_range r.number r.fits) refl in
    let p = err_from_is_err_and c.from_residual.result c.from_residual.ensures.1 in
    rw (p.1, p.2) (λ made. nothing-later (reduced_number (read c.args.q) (read r.number) (pos 0)) _ c.in_err-reduced_number-in-Some-entry_at.field-0.0 (λ h. rw (c.in-None.ensures.none, c.in-Some-entry_at.ensures.some, sym same ∙ h) refl) c.in_err-reduced_number-in-Some-entry_at.ensures.nothing)

pub returns-in_err-reduced_number-in-Some-entry_at-2-clause-nothing : goal.returns-in_err-reduced_number-in-Some-entry_at-2-clause-nothing
unfolding filled merged merged_to
returns-in_err-reduced_number-in-Some-entry_at-2-clause-nothing c =
    let r = c.in-Some-entry_at-2.r in
    let same = reduced-read c.args.q r.number (pos 0) (pos 0) (to_z-of_z w128 c.args.q c.ranges.q) (back_in_range r.number r.fits) refl in
    let p = err_from_is_err_and c.from_residual-in_err-reduced_number-in-Some-entry_at-2.result c.from_residual-in_err-reduced_number-in-Some-entry_at-2.ensures.1 in
    rw (p.1, p.2) (λ made. nothing-later (reduced_number (read c.args.q) (read r.number) (pos 0)) _ c.in_err-reduced_number-in-Some-entry_at-2.field-0.0 (λ h. rw (c.in-Some.ensures.some, c.in-Some-entry_at-2.ensures.some, nat_lt-yes r.column c.in-Some.a.column c.if-r-a.true, sym same ∙ h) refl) c.in_err-reduced_number-in-Some-entry_at-2.ensures.nothing)

pub returns-in_err-reduced_number-in-Some-entry_at-2-2-clause-nothing : goal.returns-in_err-reduced_number-in-Some-entry_at-2-2-clause-nothing
unfolding filled merged merged_to
returns-in_err-reduced_number-in-Some-entry_at-2-2-clause-nothing c =
    let r = c.in-Some-entry_at-2.r in
    let same = reduced-read c.args.q r.number c.in-Some.a.number (read c.in-Some.a.number) (to_z-of_z w128 c.args.q c.ranges.q) (back_in_range r.number r.fits) (back_in_range c.in-Some.a.number c.in-Some.a.fits) in
    let p = err_from_is_err_and c.from_residual-in_err-reduced_number-in-Some-entry_at-2-2.result c.from_residual-in_err-reduced_number-in-Some-entry_at-2-2.ensures.1 in
    rw (p.1, p.2) (λ made. nothing-later (reduced_number (read c.args.q) (read r.number) (read c.in-Some.a.number)) _ c.in_err-reduced_number-in-Some-entry_at-2-2.field-0.0 (λ h. rw (c.in-Some.ensures.some, c.in-Some-entry_at-2.ensures.some, nat_lt-no r.column c.in-Some.a.column (omega (arith, c.if-r-a.false)), same-yes r.column c.in-Some.a.column c.if-r-a-2.true, sym same ∙ h) refl) c.in_err-reduced_number-in-Some-entry_at-2-2.ensures.nothing)

pub returns-in-None-entry_at-clause-next : goal.returns-in-None-entry_at-clause-next
unfolding filled merged merged_to
returns-in-None-entry_at-clause-next c = λ made. rw (c.in-None.ensures.none, c.in-None-entry_at.ensures.none) refl

pub returns-in_ok-reduced_number-in-Some-entry_at-clause-next : goal.returns-in_ok-reduced_number-in-Some-entry_at-clause-next
unfolding filled merged merged_to
returns-in_ok-reduced_number-in-Some-entry_at-clause-next c =
    let r = c.in-Some-entry_at.r in
    let same = reduced-read c.args.q r.number (pos 0) (pos 0) (to_z-of_z w128 c.args.q c.ranges.q) (back_in_range r.number r.fits) refl in
    let value = sym same ∙ c.in_ok-reduced_number-in-Some-entry_at.ensures.value ∙ ap Some (sym (back_in_range c.in_ok-reduced_number-in-Some-entry_at.field-0 c.in_ok-reduced_number-in-Some-entry_at.ensures.range)) in
    record { same = λ made. rw (c.in-None.ensures.none, c.in-Some-entry_at.ensures.some, value) refl; fewer = omega (arith, one-fewer c.args.pivot.now c.args.right r (drop (c.args.right + 1) c.args.pivot.now) c.in-Some-entry_at.ensures.some) }

pub returns-in-None-entry_at-2-clause-next : goal.returns-in-None-entry_at-2-clause-next
unfolding filled merged merged_to
returns-in-None-entry_at-2-clause-next c = record {
  same = λ made. rw (c.in-Some.ensures.some, c.in-None-entry_at-2.ensures.none, back_in_range c.in-Some.a.number c.in-Some.a.fits) refl;
  fewer = omega (arith, one-fewer c.args.line.now c.args.left c.in-Some.a (drop (c.args.left + 1) c.args.line.now) c.in-Some.ensures.some);
}

pub returns-in_ok-reduced_number-in-Some-entry_at-2-clause-next : goal.returns-in_ok-reduced_number-in-Some-entry_at-2-clause-next
unfolding filled merged merged_to
returns-in_ok-reduced_number-in-Some-entry_at-2-clause-next c =
    let r = c.in-Some-entry_at-2.r in
    let same = reduced-read c.args.q r.number (pos 0) (pos 0) (to_z-of_z w128 c.args.q c.ranges.q) (back_in_range r.number r.fits) refl in
    let value = sym same ∙ c.in_ok-reduced_number-in-Some-entry_at-2.ensures.value ∙ ap Some (sym (back_in_range c.in_ok-reduced_number-in-Some-entry_at-2.field-0 c.in_ok-reduced_number-in-Some-entry_at-2.ensures.range)) in
    record { same = λ made. rw (c.in-Some.ensures.some, c.in-Some-entry_at-2.ensures.some, nat_lt-yes r.column c.in-Some.a.column c.if-r-a.true, value) refl; fewer = omega (arith, one-fewer c.args.pivot.now c.args.right r (drop (c.args.right + 1) c.args.pivot.now) c.in-Some-entry_at-2.ensures.some) }

pub returns-in_ok-reduced_number-in-Some-entry_at-2-2-clause-next : goal.returns-in_ok-reduced_number-in-Some-entry_at-2-2-clause-next
unfolding filled merged merged_to
returns-in_ok-reduced_number-in-Some-entry_at-2-2-clause-next c =
    let r = c.in-Some-entry_at-2.r in
    let same = reduced-read c.args.q r.number c.in-Some.a.number (read c.in-Some.a.number) (to_z-of_z w128 c.args.q c.ranges.q) (back_in_range r.number r.fits) (back_in_range c.in-Some.a.number c.in-Some.a.fits) in
    let value = sym same ∙ c.in_ok-reduced_number-in-Some-entry_at-2-2.ensures.value ∙ ap Some (sym (back_in_range c.in_ok-reduced_number-in-Some-entry_at-2-2.field-0 c.in_ok-reduced_number-in-Some-entry_at-2-2.ensures.range)) in
    record { same = λ made. rw (c.in-Some.ensures.some, c.in-Some-entry_at-2.ensures.some, nat_lt-no r.column c.in-Some.a.column (omega (arith, c.if-r-a.false)), same-yes r.column c.in-Some.a.column c.if-r-a-2.true, value) refl; fewer = omega (arith, one-fewer c.args.pivot.now c.args.right r (drop (c.args.right + 1) c.args.pivot.now) c.in-Some-entry_at-2.ensures.some, one-fewer c.args.line.now c.args.left c.in-Some.a (drop (c.args.left + 1) c.args.line.now) c.in-Some.ensures.some) }

pub returns-else-r-a-2-clause-next : goal.returns-else-r-a-2-clause-next
unfolding filled merged merged_to
returns-else-r-a-2-clause-next c =
    let r = c.in-Some-entry_at-2.r in
    record {
      same = λ made. rw (c.in-Some.ensures.some, c.in-Some-entry_at-2.ensures.some, nat_lt-no r.column c.in-Some.a.column (omega (arith, c.if-r-a.false)), same-no r.column c.in-Some.a.column c.if-r-a-2.false, back_in_range c.in-Some.a.number c.in-Some.a.fits) refl;
      fewer = omega (arith, one-fewer c.args.line.now c.args.left c.in-Some.a (drop (c.args.left + 1) c.args.line.now) c.in-Some.ensures.some);
    }

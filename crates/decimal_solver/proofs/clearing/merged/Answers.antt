-- A number that doesn't fit is one of the whole.
use Rattle.row_problem.proofs.Common.{[], ◌≡◌, ℤ, drop, sym, ap, ◌∙◌, to_z, of_z, w128, to_z-of_z, err_from_is_err_and}
use Rattle.decimal_solver.proofs.Words.{Entries, merged, entries_seen}
use Rattle.decimal_solver.proofs.Nothing.{nothing-later}
use Rattle.decimal_solver.proofs.clearing.merged.Goals as goal

pub returns-in_err-next-clause-nothing : goal.returns-in_err-next-clause-nothing
returns-in_err-next-clause-nothing c =
    let line : Entries = entries_seen c.args.line.now in
    let pivot : Entries = entries_seen c.args.pivot.now in
    let made : Entries = entries_seen c.loop-made.made.items in
    let q : ℤ = to_z w128 (of_z w128 c.args.q) in
    let q_is : q ≡ c.args.q = to_z-of_z w128 c.args.q c.ranges.q in
    let left : Entries = entries_seen (drop c.loop-made.left c.args.line.now) in
    let right : Entries = entries_seen (drop c.loop-made.right c.args.pivot.now) in
    let p = err_from_is_err_and c.from_residual-in_err-next.result c.from_residual-in_err-next.ensures.1 in
    rw (p.1, p.2)
    (nothing-later (merged q made left right) (merged c.args.q [] line pivot) c.in_err-next.field-0.0 (λ h. ap (λ x. merged x [] line pivot) (sym q_is) ∙ c.loop-made.invariant ∙ h) (c.in_err-next.ensures.nothing made))

-- One number after another.
use Rattle.row_problem.proofs.Common.{[], ◌++◌, ℤ, Some, get_or, refl, subst, sym, ap, ◌∙◌, arith, w128, to_z-of_z, err_from_is_err_and, back_in_range, value_at, var_cmp, entries_fit-at, no_entry, is_split}
use Rattle.int_tableau.specs.Starts.{in_columns_of}
use Rattle.decimal_solver.proofs.Words.{scaled_number, first_entries, IsNothing, entries_seen}
use Rattle.decimal_solver.proofs.FoldLaws.{left-next, left-stop, plain-at, plain-end}
use Rattle.decimal_solver.proofs.LineLaws.{read}
use Rattle.decimal_solver.proofs.starting.first_entries.Goals as goal

pub returns-in_err-number-clause-nothing : goal.returns-in_err-number-clause-nothing
returns-in_err-number-clause-nothing c =
    let es = c.args.numbers.now in
    let i = c.loop-entry.entry-index in
    let e = get_or es i no_entry in
    let f : ℤ = read c.args.f in
    let stop = c.in_err-number.field-0.0 in
    let here = plain-at es i no_entry c.loop-entry-test.true c.loop-entry.invariant in
    let same = ap (λ n. scaled_number f n c.args.m) (back_in_range e.1 (entries_fit-at es i no_entry c.requires c.loop-entry-test.true)) in
    let p = err_from_is_err_and c.from_residual-in_err-number.result c.from_residual-in_err-number.ensures.1 in
    rw (p.1, p.2)
    (subst (λ x. IsNothing (first_entries x c.args.m c.args.layout.now.places.items [] es) stop) (to_z-of_z w128 c.args.f c.ranges.f)
    (left-stop here (scaled_number f (read e.1) c.args.m) stop (λ h. rw (sym same ∙ h) refl) c.in_err-number.ensures.nothing))

pub loop-entry-preserved : goal.loop-entry-preserved
loop-entry-preserved c =
    let es = c.args.numbers.now in
    let i = c.loop-entry.entry-index in
    let e = get_or es i no_entry in
    let f : ℤ = read c.args.f in
    let z : ℤ = c.in_ok-number.number in
    let here = plain-at es i no_entry c.loop-entry-test.true c.loop-entry.invariant in
    let same = ap (λ n. scaled_number f n c.args.m) (back_in_range e.1 (entries_fit-at es i no_entry c.requires c.loop-entry-test.true)) in
    left-next here
    (rw (sym same ∙ c.in_ok-number.ensures.value)
    (ap Some (sym (c.in_ok-push_variable.ensures.pushed
    ∙ ap (λ y. entries_seen c.loop-entry.made.items ++ in_columns_of (is_split e.0) y (value_at var_cmp c.args.layout.now.places.items e.0)) (back_in_range z c.in_ok-number.ensures.range)))))

pub returns-clause-value : goal.returns-clause-value
returns-clause-value c =
    ap (λ x. first_entries x c.args.m c.args.layout.now.places.items [] c.args.numbers.now) (sym (to_z-of_z w128 c.args.f c.ranges.f))
    ∙ plain-end c.args.numbers.now c.loop-entry.entry-index (omega (arith, c.loop-entry-test.false)) c.loop-entry.invariant

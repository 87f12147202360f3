-- Why the last state gives nothing.
use Rattle.row_problem.proofs.Common.{◌≡◌, pos, List, [], Option, Some, map, replicate, sym, ap, ap₂, ◌∙◌, Frac, Rational, whole, value_of, Var, program_of}
use Rattle.decimal_solver.proofs.Words.{Entry, GridRow, Number, column_values, row_multipliers, spread, variable_values, State, entries_seen, number_seen, rows_seen, state_seen}
use Rattle.decimal_solver.proofs.attempts.ended.Goals as goal

pub returns-clause-nothing : goal.returns-clause-nothing
returns-clause-nothing c =
    let s : State = state_seen c.args.last.now in
    let p = program_of c.args.problem.now.reduced.now in
    let columns : map value_of c.deref-2.result.now ≡ column_values (replicate s.columns (whole (pos 0))) s.rows =
    ap (λ (xs : List Frac). map value_of xs) c.deref-2.ensures.value ∙ c.in_ok-columns.ensures ∙ ap (λ (xs : List GridRow). column_values (replicate s.columns (whole (pos 0))) (rows_seen xs)) c.deref.ensures.value in
    let numbers : map number_seen c.deref-5.result.now ≡ spread (replicate s.columns (pos 0)) s.cost.entries =
    ap (λ (xs : List Number). map number_seen xs) c.deref-5.ensures.value ∙ c.in_ok-numbers.ensures ∙ ap (λ (xs : List Entry). spread (replicate s.columns (pos 0)) (entries_seen xs)) c.deref-4.ensures.value in
    let values_are : variable_values (column_values (replicate s.columns (whole (pos 0))) s.rows) 0 [] p.columns ≡ Some c.in_ok-values.values =
    ap₂ (λ xs (vs : List Var). variable_values xs 0 [] vs) (sym columns) (sym c.deref-3.ensures.value) ∙ c.in_ok-values.ensures.value in
    let lambda_is : row_multipliers (spread (replicate s.columns (pos 0)) s.cost.entries) s.slack [] s.rows ≡ Some (map value_of c.deref-7.result.now) =
    ap₂ (λ ns (xs : List GridRow). row_multipliers ns s.slack [] (rows_seen xs)) (sym numbers) (sym c.deref-6.ensures.value) ∙ c.in_ok-lambda.ensures.value ∙ ap {B = Option (List Rational)} (λ (xs : List Frac). Some (map value_of xs)) (sym c.deref-7.ensures.value) in
    rw (values_are, lambda_is) c.carried.ensures.nothing

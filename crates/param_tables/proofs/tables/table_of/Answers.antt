use Rattle.param_tables.proofs.Common.{sym, subst, err_from_is_err_and, get, nat_cmp, first_of, param_told, IsStopDue}
use Rattle.param_tables.proofs.TableOfLaws.{table_of_given, used_refusals}
use Rattle.param_tables.proofs.tables.table_of.Goals as goal

pub returns-in_err-values-clause-refused : goal.returns-in_err-values-clause-refused
returns-in_err-values-clause-refused c =
    let s = param_told c.args.block.now in
    let sets = c.args.sets.now in
    let stop = c.in_err-values.field-0.0 in
    let p = err_from_is_err_and c.from_residual.result c.from_residual.ensures.1 in
    rw (p.1, p.2) (subst (λ refusals. IsStopDue (first_of refusals) sets stop) (sym (used_refusals sets s c.requires.used.1)) c.in_err-values.ensures.refused)

pub returns-clause-table : goal.returns-clause-table
returns-clause-table c =
    let s = param_told c.args.block.now in
    let sets = c.args.sets.now in
    table_of_given sets s c.in_ok-new.field-0 (get nat_cmp c.in_ok-values.values) c.in_ok-new.ensures.default (c.in_ok-new.ensures.ascending, c.in_ok-new.ensures.long) c.in_ok-new.ensures.values c.in_ok-values.ensures.values

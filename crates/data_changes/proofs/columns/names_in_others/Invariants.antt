use Rattle.data_changes.proofs.Common.{◌≡◌, drop, map}
use Rattle.data_changes.specs.Columns.{names_in_others}
use Rattle.data_changes.proofs.columns.names_in_others.Given as goal

-- it is asked of those that are left
abbrev pub invariant-loop-column : goal.invariant-loop-column
invariant-loop-column l =
    names_in_others (map (λ name. name.now) l.header) (map (λ field. field.now) l.fields) (map (λ column. column.now) l.own) (map (λ column. column.now) l.columns)
    ≡ names_in_others (map (λ name. name.now) l.header) (map (λ field. field.now) l.fields) (map (λ column. column.now) l.own) (map (λ column. column.now) (drop l.column-index l.columns))

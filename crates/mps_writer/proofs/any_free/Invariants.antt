use Rattle.mps_writer.proofs.Common.{◌≡◌, ◌+◌, drop, list_any, enumerate_from, is_free_column, numbered}
use Rattle.mps_writer.proofs.any_free.Given as goal

-- no column so far is free: whether one is, is said of those that are left
abbrev pub invariant-loop-var : goal.invariant-loop-var
invariant-loop-var l =
    list_any is_free_column (enumerate_from (l.var-index + 1) (drop l.var-index l.vars)) ≡ list_any is_free_column (numbered l.vars)

-- The lines so far.
use Rattle.data_warnings.proofs.Common.{◌≡◌, ◌++◌, take, flat_map, storage_line}
use Rattle.data_warnings.proofs.lines.push_storage_lines.Given as goal

abbrev pub invariant-loop-user : goal.invariant-loop-user
invariant-loop-user l = l.out.items ≡ l.fn.out.items ++ flat_map (storage_line l.sets) (take l.user-index l.users)

use Rattle.data_changes.proofs.Common.{map}
use Rattle.data_changes.proofs.FileLaws.{IsSoFar}
use Rattle.data_changes.proofs.files.change_data.Given as goal

-- what the records that are left make of the data is what the file makes of them
abbrev pub invariant-loop-number : goal.invariant-loop-number
invariant-loop-number l = IsSoFar l.fn.opened l.fn.text (map (λ name. name.now) l.header.items) l.number l.opened l.reader

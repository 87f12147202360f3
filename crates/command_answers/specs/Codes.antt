-- The exit status of each end of a call.
use Rattle.std.specs.Prelude.{ℕ}
use Rattle.command_answers.specs.declared.status.Status.{Status}
use Rattle.command_answers.specs.declared.status.Status.TheVariants.{Done, Infeasible, Unbounded, Uncertified, Unguessed, Refused, Words, ReadFault, WriteFault, Memory, Rejected}

-- the exit status
abbrev pub code_of : Status → ℕ
code_of Done = 0
code_of Infeasible = 1
code_of Unbounded = 2
code_of (Uncertified stop) = 3
code_of (Unguessed pivots) = 3
code_of (Refused refusal) = 4
code_of (Words fault) = 5
code_of (ReadFault stop) = 6
code_of WriteFault = 7
code_of Memory = 8
code_of (Rejected rejection) = 9

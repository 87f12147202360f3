-- What is due of a file of values to start from, by what it tells and what was read of it.
use Rattle.solve_command.proofs.Common.{ℕ, List, subst, Data, Row, Status, NoStart, Start, Told, Breaks, Lacks, Gives, IsAnswer, is_passed, Wanted, DueForRows}
use Rattle.std.specs.List.{count_by}
use Rattle.result_tables.specs.declared.attempts.Begun.TheVariants.{FromValues, WithoutStart}
use Rattle.solver_answers.specs.declared.start.StartValues.{StartValues}
use Rattle.solve_command.specs.Starts.{DueFrom, begun_from}

module _ (places : ℕ) (d : Data) (rows : List Row) (wanted : Wanted) (rounded : ℕ) (status : Status) (text : List ℕ) where
  pub lacks-due : (count : ℕ) (said : Told) → IsAnswer count said NoStart → DueForRows places d rows (begun_from WithoutStart wanted) rounded status text
      → DueFrom said places d rows wanted rounded status text
  lacks-due count (Breaks line) never due = absurd never
  lacks-due count Lacks lacks due = due
  lacks-due count (Gives founds) never due = absurd never

  pub gives-due : (count : ℕ) (said : Told) (start : StartValues) → IsAnswer count said (Start start)
      → DueForRows places d rows (begun_from (FromValues start.taken start.passed) wanted) rounded status text → DueFrom said places d rows wanted rounded status text
  gives-due count (Breaks line) start never due = absurd never
  gives-due count Lacks start never due = absurd never
  gives-due count (Gives founds) start are due =
      subst (λ taken. DueForRows places d rows (begun_from (FromValues taken (count_by is_passed founds)) wanted) rounded status text) are.taken
      (subst (λ passed. DueForRows places d rows (begun_from (FromValues start.taken passed) wanted) rounded status text) are.passed due)

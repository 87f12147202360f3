-- What is due of rows: that their linear program is too large, or what is due of the method.
use Rattle.solve_command.proofs.Common.{ℕ, List, ◌⊎◌, inl, inr, Data, all_variables, Row, PassesLimits, Status, SolveMethod, Exact, Rounded, Wanted, DueBy, DueForMethod, DueForRows, Finds}

module _ (places : ℕ) (d : Data) (rows : List Row) (wanted : Wanted) (rounded : ℕ) (status : Status) (text : List ℕ) where
  -- what guesses find is due by the rounded method
  found-due : (method : SolveMethod) → Finds method places d rows wanted rounded status text → DueBy method places d rows wanted rounded status text
  found-due Exact found = absurd found
  found-due Rounded (inl plan) = inl plan
  found-due Rounded (inr none) = inr (inl none)

  pub rows-due : DueForRows places d rows wanted rounded status text → PassesLimits wanted.method wanted.pivots rows (all_variables d) status text ⊎ DueForMethod places d rows wanted rounded status text
  rows-due (inl found) = inr (found-due wanted.method found)
  rows-due (inr (inl large)) = inl large
  rows-due (inr (inr due)) = inr due.1

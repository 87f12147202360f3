-- What is due by the size of a linear program, on one without rows and columns, and near misses.
use Rattle.command_answers.proofs.Common.{◌≡◌, ℕ, List, [], refl, inl, inr, arith, ⊤, IsWithinLimits, DueBySize, Status}
use Rattle.command_words.specs.declared.command.SolveMethod.{SolveMethod}
use Rattle.command_words.specs.declared.command.SolveMethod.TheVariants.{Exact, Rounded}
use Rattle.command_answers.specs.Limits.{TellsSize}
use Rattle.command_answers.specs.Lines.{too_large_line, unguessed_line}
use Rattle.command_answers.specs.declared.status.Refusal.TheVariants.{TooLarge}
use Rattle.command_answers.specs.declared.status.Status.TheVariants.{Refused, Unguessed}

abbrev always : Status → List ℕ → Type 0
always status text = ⊤

abbrev never : Status → List ℕ → Type 0
never status text = ⊥

none_within : IsWithinLimits [] []
none_within = (omega arith, omega arith)

-- what is due within the limits is due, whatever is found
due_within : (method : SolveMethod) (pivots : ℕ) (status : Status) (text : List ℕ) → DueBySize method pivots never always [] [] status text
due_within method pivots status text = inr (inr (none_within, tt))

-- and so is what is found, whatever is due within the limits
due_found : (method : SolveMethod) (pivots : ℕ) (status : Status) (text : List ℕ) → DueBySize method pivots always never [] [] status text
due_found method pivots status text = inl tt

-- with neither of them nothing is due: it isn't too large
none_due : (method : SolveMethod) (pivots : ℕ) (status : Status) (text : List ℕ) → DueBySize method pivots never never [] [] status text → ⊥
none_due method pivots status text (inl found) = found
none_due method pivots status text (inr (inl large)) = elim large.passed [ inl many ↦ omega (arith, many) | inr many ↦ omega (arith, many) ]
none_due method pivots status text (inr (inr due)) = due.1

-- with the exact method the counts are told, with the rounded one the most pivots of a guess, and not the other way round
counts_told : TellsSize Exact 7 20001 40 (Refused (TooLarge 20001 40)) (too_large_line 20001 40)
counts_told = (refl, refl)

pivots_told : TellsSize Rounded 7 20001 40 (Unguessed 7) (unguessed_line 7)
pivots_told = (refl, refl)

no_counts : TellsSize Rounded 7 20001 40 (Refused (TooLarge 20001 40)) (too_large_line 20001 40) → ⊥
no_counts told = let same : Refused (TooLarge 20001 40) ≡ Unguessed 7 = told.0 in cc same

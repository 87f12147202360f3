-- The plan of a proof is one of the sets: its variables can be named.
use Rattle.std.specs.Prelude.{⊤}
use Rattle.std.specs.List.{AllByRecursion}
use Rattle.model_sets.specs.Members.{SetLists}
use Rattle.row_core.specs.NameTexts.{VariableIsWithin}
use Rattle.proof_files.specs.declared.proof.Proof.{Proof}
use Rattle.proof_files.specs.declared.proof.Proof.TheVariants.{Optimum, Refutation, Descent}

-- each subscript of a variable of the optimum's plan is the position of a member
abbrev pub HasPlanWithin : SetLists → Proof → Type 0
HasPlanWithin sets (Optimum plan multipliers) = AllByRecursion (λ e. VariableIsWithin sets e.0) plan
HasPlanWithin sets (Refutation multipliers) = ⊤
HasPlanWithin sets (Descent plan direction) = ⊤

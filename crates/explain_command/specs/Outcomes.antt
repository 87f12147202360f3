-- What an answer of the trials comes to, as a status and a text.
use Rattle.std.specs.Prelude.{◌≡◌, List, map, ℕ, Option, Some, None, IfNone, IfSome, Result, Ok, Err, ⊤}
use Rattle.model_sets.specs.Members.{SetLists}
use Rattle.row_core.specs.Plans.{valued}
use Rattle.row_core.specs.declared.Row.{Row}
use Rattle.row_core.specs.declared.Var.{Var}
use Rattle.command_words.specs.declared.command.SolveMethod.{SolveMethod}
use Rattle.command_answers.specs.declared.status.Status.{Status}
use Rattle.command_answers.specs.declared.status.Status.TheVariants.{Done, Infeasible}
use Rattle.conflict_sets.specs.Conflicts.{AdmitsSome, IsConflict}
use Rattle.conflict_sets.specs.Walks.{IsStopped, explanation_seen}
use Rattle.conflict_sets.specs.declared.conflict.Conflict.{Conflict}
use Rattle.conflict_sets.specs.declared.conflict.ExplainFail.{ExplainFail}
use Rattle.conflict_sets.specs.declared.conflict.ExplainFail.TheVariants as fails
use Rattle.explain_command.specs.Explain.{IsCauseOf}
use Rattle.explain_command.specs.Texts.{conflict_text, feasible_text}

abbrev pub TellsFound : SetLists → Option Conflict → Status → List ℕ → Type 0
TellsFound sets None status text = (status ≡ Done) × (text ≡ feasible_text)
TellsFound sets (Some conflict) status text = (status ≡ Infeasible) × (text ≡ conflict_text sets (map valued conflict.members.items) conflict.plans.items)

-- ---- over rows

-- what is found says it of the rows, and has its cause
pub record FindingTells (method : SolveMethod) (rows : List Row) (vars : List Var) (pivots : ℕ) (found : Option Conflict) : Type 0 where
  pub cause : IsCauseOf method rows vars pivots (explanation_seen found)
  pub conflict : IfSome found (IsConflict rows vars)
  pub feasible : IfNone found (AdmitsSome rows vars)

-- a stop has its cause; out of memory has none
abbrev pub FailTells : SolveMethod → List Row → List Var → ℕ → ExplainFail → Type 0
FailTells method rows vars pivots (fails.Stopped stop) = IsCauseOf method rows vars pivots (IsStopped stop)
FailTells method rows vars pivots fails.Memory = ⊤

abbrev pub RunTells : SolveMethod → List Row → List Var → ℕ → Result (Option Conflict) ExplainFail → Type 0
RunTells method rows vars pivots (Ok found) = FindingTells method rows vars pivots found
RunTells method rows vars pivots (Err fail) = FailTells method rows vars pivots fail

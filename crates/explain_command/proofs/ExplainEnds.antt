-- What is due for what the trials found over a book of rows, and for the first stop, over the named equations.
use Rattle.explain_command.proofs.Common.{◌≡◌, ◌⊎◌, ℕ, List, map, Option, Some, None, Result, Ok, Err, inl, inr, refl, sym, subst, ap, ◌∙◌, IfErr, IfNone, IfOk, IfSome, first_wide, Data, SetLists, Row, Var, Place, valued, IsBook, elimination_steps, Stop, Width, IsBookOf, definers, vars-are, SolveMethod, Exact, Rounded, AdmitsSome, IsConflict, StopsSome, Explanation, IsStopped, Stops, explained, explanation_seen, Conflict, DueForMethod, Finds, HasConflict, HasFeasible, IsCauseOf}
use Rattle.command_answers.specs.Lines.{uncertified_line}
use Rattle.command_answers.specs.declared.status.Status.{Status}
use Rattle.command_answers.specs.declared.status.Status.TheVariants.{Uncertified}
use Rattle.conflict_sets.specs.declared.conflict.ExplainFail.{ExplainFail}
use Rattle.conflict_sets.specs.declared.conflict.ExplainFail.TheVariants as fails
use Rattle.explain_command.specs.declared.explain.Wanted.{Wanted}
use Rattle.explain_command.specs.Outcomes.{FindingTells, RunTells, TellsFound}
use Rattle.explain_command.proofs.ConflictNames.{named-conflict, some-feasible}
use Rattle.explain_command.proofs.ShownLaws.{shown-conflict}

-- ---- causes

-- what the elimination says of how it ends
abbrev end_after : List Row → List Var → ℕ → Option Place → Explanation
end_after rows vars pivots wide = elim wide as (λ _. Explanation) [ None ↦ explained rows (definers rows) vars pivots | Some place ↦ IsStopped (Width place) ]

-- where the elimination stops nowhere, the trials say how it ends
pub exact-cause : (rows : List Row) (vars : List Var) (pivots : ℕ) → first_wide (elimination_steps rows (definers rows)) ≡ None → (end : Explanation) → explained rows (definers rows) vars pivots ≡ end
    → IsCauseOf Exact rows vars pivots end
exact-cause rows vars pivots fits end is = ap (end_after rows vars pivots) fits ∙ is

-- where it stops, it is the cause
pub elimination-cause : (rows : List Row) (vars : List Var) (pivots : ℕ) (place : Place) → first_wide (elimination_steps rows (definers rows)) ≡ Some place → (method : SolveMethod)
    → IsCauseOf method rows vars pivots (IsStopped (Width place))
elimination-cause rows vars pivots place wide Exact = ap (end_after rows vars pivots) wide
elimination-cause rows vars pivots place wide Rounded = inl (place, wide, refl)

-- ---- what the trials say

-- of the causes by the exact method, and of the rows
abbrev pub ExactTells : ℕ → Result (Option Conflict) ExplainFail → List Row → List (Option Var) → List Var → Type 0
ExactTells pivots r rows defs vars = IfOk r (λ found. explanation_seen found ≡ explained rows defs vars pivots) × IfErr r (Stops (explained rows defs vars pivots))

abbrev pub WorthTells : Result (Option Conflict) ExplainFail → List Row → List (Option Var) → List Var → Type 0
WorthTells r rows defs vars = IfOk r (λ found. IfSome found (IsConflict rows vars)) × IfOk r (λ found. IfNone found (AdmitsSome rows vars))

module _ (rows : List Row) (vars : List Var) (pivots : ℕ) (fits : first_wide (elimination_steps rows (definers rows)) ≡ None) where
  pub exact-tells : (r : Result (Option Conflict) ExplainFail) → ExactTells pivots r rows (definers rows) vars → WorthTells r rows (definers rows) vars → RunTells Exact rows vars pivots r
  exact-tells (Ok found) told worth = record { cause = exact-cause rows vars pivots fits _ (sym told.0); conflict = worth.0; feasible = worth.1 }
  exact-tells (Err (fails.Stopped stop)) told worth = exact-cause rows vars pivots fits (IsStopped stop) told.1
  exact-tells (Err fails.Memory) told worth = tt

  pub rounded-tells : (r : Result (Option Conflict) ExplainFail) → IfErr r (StopsSome rows (definers rows) vars pivots) → WorthTells r rows (definers rows) vars → RunTells Rounded rows vars pivots r
  rounded-tells (Ok None) told worth = record { cause = tt; conflict = worth.0; feasible = worth.1 }
  rounded-tells (Ok found) told worth = record { cause = tt; conflict = worth.0; feasible = worth.1 }
  rounded-tells (Err (fails.Stopped stop)) told worth = inr (fits, told)
  rounded-tells (Err fails.Memory) told worth = tt

-- by guesses alone
pub guessed-tells : {E : Type 0} (rows : List Row) (vars : List Var) (pivots : ℕ) (r : Result (Option (Option Conflict)) E) → IfOk r (λ given. IfSome given (λ found. IfSome found (IsConflict rows vars)))
    → IfOk r (λ given. IfSome given (λ found. IfNone found (AdmitsSome rows vars))) → IfOk r (λ given. IfSome given (FindingTells Rounded rows vars pivots))
guessed-tells rows vars pivots (Ok None) conflict feasible = tt
guessed-tells rows vars pivots (Ok (Some None)) conflict feasible = record { cause = tt; conflict = conflict; feasible = feasible }
guessed-tells rows vars pivots (Ok (Some (Some found))) conflict feasible = record { cause = tt; conflict = conflict; feasible = feasible }
guessed-tells rows vars pivots (Err fail) conflict feasible = tt

-- ---- what is due

module _ (places : ℕ) (d : Data) (rows : List Row) (vars : List Var) (kept : IsBook rows vars) (book : IsBookOf places d rows vars) (sets : SetLists) (same : sets ≡ d.sets) (wanted : Wanted) (status : Status) (text : List ℕ) where
  found-ends : (found : Option Conflict) → FindingTells wanted.method rows vars wanted.pivots found → TellsFound sets found status text
      → HasFeasible places d rows wanted status text ⊎ HasConflict places d rows wanted status text
  found-ends None finding told =
      inl (record { cause = rw (vars-are places d rows vars book) at finding.cause; some = some-feasible places d rows vars kept book finding.feasible; status_is = told.0; text_is = told.1 })
  found-ends (Some conflict) finding told =
      inr (record {
        members = map valued conflict.members.items;
        plans = conflict.plans.items;
        cause = rw (vars-are places d rows vars book) at finding.cause;
        conflict = named-conflict places d rows vars kept book conflict finding.conflict;
        shown = rw (vars-are places d rows vars book) at (shown-conflict rows vars conflict finding.conflict);
        status_is = told.0;
        text_is = rw same at told.1;
      })

  pub due-from_found : (found : Option Conflict) → FindingTells wanted.method rows vars wanted.pivots found → TellsFound sets found status text → DueForMethod places d rows wanted status text
  due-from_found found finding told = elim (found-ends found finding told) [ inl feasible ↦ inl feasible | inr conflict ↦ inr (inl conflict) ]

  -- by guesses alone the same is found, of any size
  pub finds-from_guess : wanted.method ≡ Rounded → (found : Option Conflict) → FindingTells Rounded rows vars wanted.pivots found → TellsFound sets found status text
      → Finds wanted.method places d rows wanted status text
  finds-from_guess asked found finding told =
      subst (λ (method : SolveMethod). Finds method places d rows wanted status text) (sym asked)
      (found-ends found (subst (λ (method : SolveMethod). FindingTells method rows vars wanted.pivots found) (sym asked) finding) told)

  pub due-from_stop : (stop : Stop) → IsCauseOf wanted.method rows vars wanted.pivots (IsStopped stop) → status ≡ Uncertified stop → text ≡ uncertified_line sets stop → DueForMethod places d rows wanted status text
  due-from_stop stop is status_is line_is = inr (inr (record { stop = stop; cause = rw (vars-are places d rows vars book) at is; status_is = status_is; line_is = line_is ∙ ap (λ ss. uncertified_line ss stop) same }))

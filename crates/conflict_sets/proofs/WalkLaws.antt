-- The walk, one inequality after another.
use Rattle.conflict_sets.proofs.Common.{◌≡◌, ℕ, ◌+◌, true, false, List, [], ◌∷◌, refl, sym, Option, Row, RowName, Var, NoAnswer, Multipliers, end_found, list_after, needed_after, Finding, Plan, Refutation, StopsTrial, TrialEnd, trial_end, Explanation, IsFirstFail, IsTrialFail, Needed, Stops, every, explained, found, is_listed, is_other, walk}
use Rattle.certified_answers.specs.declared.answers.NoAnswer.TheVariants as stops
use Rattle.conflict_sets.specs.declared.conflict.ExplainFail.{ExplainFail}

module _ (rows : List Row) (defs : List (Option Var)) (vars : List Var) (n k : ℕ) (name : RowName) (left : List RowName) (multipliers : Multipliers) (needed : List Needed) where
  abbrev end_now : TrialEnd
  end_now = trial_end (is_other multipliers name) rows defs vars n

  abbrev here : Explanation
  here = walk rows defs vars n k (name ∷ left) multipliers needed

  pub walk-skips : is_listed multipliers name ≡ false → here ≡ walk rows defs vars n k left multipliers needed
  unfolding walk
  walk-skips h = rw h refl

  pub walk-goes : (finding : Finding) → is_listed multipliers name ≡ true → end_found finding ≡ end_now → here ≡ walk rows defs vars n (k + 1) left (list_after finding multipliers) (needed_after name finding needed)
  unfolding walk
  walk-goes (Plan plan) h e = rw (h, sym e) refl
  walk-goes (Refutation made) h e = rw (h, sym e) refl

  pub walk-stops : (stop : NoAnswer) (fail : ExplainFail) → is_listed multipliers name ≡ true → StopsTrial end_now stop → IsTrialFail k n stop fail → Stops here fail
  unfolding walk
  walk-stops stops.Nothing fail h s is = absurd s
  walk-stops stops.Budget fail h s is = rw (is, h, s) refl
  walk-stops (stops.Width place) fail h s is = rw (is, h, s) refl
  walk-stops stops.Memory fail h s is = rw is tt

module _ (rows : List Row) (defs : List (Option Var)) (vars : List Var) (n : ℕ) where
  abbrev first_end : TrialEnd
  first_end = trial_end every rows defs vars n

  pub explained-stops : (stop : NoAnswer) (fail : ExplainFail) → StopsTrial first_end stop → IsFirstFail n stop fail → Stops (explained rows defs vars n) fail
  unfolding explained
  explained-stops stops.Nothing fail s is = absurd s
  explained-stops stops.Budget fail s is = rw (is, s, explained) refl
  explained-stops (stops.Width place) fail s is = rw (is, s, explained) refl
  explained-stops stops.Memory fail s is = rw is tt

pub walk-ends : (rows : List Row) (defs : List (Option Var)) (vars : List Var) (n k : ℕ) (multipliers : Multipliers) (needed : List Needed) → walk rows defs vars n k [] multipliers needed ≡ found multipliers needed
unfolding walk
walk-ends rows defs vars n k multipliers needed = refl

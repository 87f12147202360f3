-- Conditions that are looked at in turn, up to the first that fails.
use Rattle.std.specs.Prelude.{◌≡◌, ℤ, Bool, List, [], ◌∷◌, ◌++◌, Option, Some, None, if◌then◌else◌}
use Rattle.exact_num.specs.Rational.{Rational}
use Rattle.exact_num.specs.Steps.{Step, first_wide}
use Rattle.row_core.specs.declared.place.Place.{Place}
use Rattle.certificate_checker.specs.Reasons.{Reason}

-- a condition: what is computed to see whether it holds, whether it does, what is said where it doesn't, and what is computed for the amount that is said
pub record Condition : Type 0 where
  pub seen : List (Step Place)
  pub holds : Bool
  pub reason : Reason
  pub amount : List (Step Place)

-- numbers that are formed at one place
abbrev pub formed_at : Place → List ℤ → List (Step Place)
formed_at place formed = record { place = place; formed = formed } ∷ []

-- all that is computed: nothing after the first condition that fails, but its amount
abbrev pub steps : List Condition → List (Step Place)
steps [] = []
steps (c ∷ cs) = c.seen ++ (if c.holds then steps cs else c.amount)

-- what is said of the first condition that fails, if one does
abbrev pub first_failing : List Condition → Option Reason
first_failing [] = None
first_failing (c ∷ cs) = if c.holds then first_failing cs else Some c.reason

-- every condition holds, and every number that is formed fits
pub record AllPass (cs : List Condition) : Type 0 where
  pub fit : first_wide (steps cs) ≡ None
  pub hold : first_failing cs ≡ None

-- the first condition that fails is one of which this is said, and every number that is formed up to there fits, for its amount too
pub record FailsFor (cs : List Condition) (reason : Reason) : Type 0 where
  pub fit : first_wide (steps cs) ≡ None
  pub fails : first_failing cs ≡ Some reason

-- the first number that doesn't fit is formed at this place
abbrev pub IsWideAt : List Condition → Place → Type 0
IsWideAt cs place = first_wide (steps cs) ≡ Some place

-- A step for each of some things, one after another.
use Rattle.std.specs.Prelude.{◌≡◌, List, Option, Some}
use Rattle.std.specs.List.{fold}
use Rattle.decimal_solver.specs.Numbers.{and_then}

abbrev pub each : {S T : Type 0} → (S → T → Option S) → Option S → T → Option S
each step s x = and_then s (λ s. step s x)

-- nothing where one of the steps gives nothing
abbrev pub folded : {S T : Type 0} → (S → T → Option S) → S → List T → Option S
folded step s xs = fold (each step) (Some s) xs

-- ---- what is left of it, after some steps

pub record IsFolded {S T : Type 0} (whole : S) (step : S → T → S) (s : S) (rest : List T) : Type 0 where
  pub same : whole ≡ fold step s rest

pub record IsLeft {S T : Type 0} (whole : Option S) (step : S → T → Option S) (s : S) (rest : List T) : Type 0 where
  pub same : whole ≡ folded step s rest

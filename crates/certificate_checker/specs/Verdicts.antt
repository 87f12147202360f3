-- What a check answers of conditions that are looked at in turn.
use Rattle.std.specs.Prelude.{◌≡◌, List, ⊤}
use Rattle.exact_num.specs.Rational.{Rational}
use Rattle.exact_num.specs.Value.{value_of}
use Rattle.exact_num.specs.declared.fraction.Frac.{Frac}
use Rattle.certificate_checker.specs.declared.verdicts.Verdict.{Verdict}
use Rattle.certificate_checker.specs.declared.verdicts.Verdict.TheVariants.{Yes, No, Width}
use Rattle.certificate_checker.specs.Conditions.{Condition, AllPass, FailsFor, IsWideAt}
use Rattle.certificate_checker.specs.Reasons.{reason_of}

-- yes with this value where all hold, no with the first that fails, and the place of the first number that doesn't fit where one doesn't
abbrev pub IsVerdict : List Condition → Rational → Verdict → Type 0
IsVerdict cs value (Yes found) = AllPass cs × (value_of found ≡ value)
IsVerdict cs value (No rejection) = FailsFor cs (reason_of rejection)
IsVerdict cs value (Width place) = IsWideAt cs place

-- where the answer is yes, this is so of the value
abbrev pub IfYes : Verdict → (Frac → Type 0) → Type 0
IfYes (Yes value) P = P value
IfYes (No rejection) P = ⊤
IfYes (Width place) P = ⊤

-- where the answer is yes, this is so
abbrev pub OnYes : Verdict → Type 0 → Type 0
OnYes (Yes value) P = P
OnYes (No rejection) P = ⊤
OnYes (Width place) P = ⊤

-- where the answer is no, this is so
abbrev pub OnNo : Verdict → Type 0 → Type 0
OnNo (Yes value) P = ⊤
OnNo (No rejection) P = P
OnNo (Width place) P = ⊤

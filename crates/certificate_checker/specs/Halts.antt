-- Why a check stops before its end.
use Rattle.std.specs.Prelude.{List, Result, Ok, Err}
use Rattle.exact_num.specs.declared.fraction.Frac.{Frac}
use Rattle.row_core.specs.declared.place.Place.{Place}
use Rattle.certificate_checker.specs.declared.verdicts.Halt.{Halt}
use Rattle.certificate_checker.specs.declared.verdicts.Halt.TheVariants.{No, Width}
use Rattle.certificate_checker.specs.declared.verdicts.Verdict.{Verdict}
use Rattle.certificate_checker.specs.declared.verdicts.Verdict.TheVariants.{Yes}
use Rattle.certificate_checker.specs.declared.verdicts.Verdict
use Rattle.certificate_checker.specs.Conditions.{Condition, FailsFor, IsWideAt}
use Rattle.certificate_checker.specs.Reasons.{reason_of}

-- at the first condition that fails, or at the first number that doesn't fit
abbrev pub IsHalt : List Condition → Halt → Type 0
IsHalt cs (No rejection) = FailsFor cs (reason_of rejection)
IsHalt cs (Width place) = IsWideAt cs place

-- the answer of a check that stopped, and of what was found
abbrev pub halted : Halt → Verdict
halted (No rejection) = Verdict.No rejection
halted (Width place) = Verdict.Width place

abbrev pub verdict_of : Result Frac Halt → Verdict
verdict_of (Ok value) = Yes value
verdict_of (Err halt) = halted halt

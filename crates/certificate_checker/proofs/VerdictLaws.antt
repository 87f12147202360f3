-- The answer of what was found is the answer of the conditions.
use Rattle.certificate_checker.proofs.Common.{◌≡◌, List, subst, sym, Result, Ok, Err, OnOk, IfOk, IfErr, Rational, value_of, Frac, Halt, Verdict, Condition, AllPass, IsHalt, halted, verdict_of, IsVerdict}
use Rattle.certificate_checker.specs.declared.verdicts.Halt.TheVariants.{No, Width}

halted_is : (cs : List Condition) (value : Rational) (h : Halt) → IsHalt cs h → IsVerdict cs value (halted h)
halted_is cs value (No rejection) h = h
halted_is cs value (Width place) h = h

found_is : (cs : List Condition) (value : Rational) (found : Result Frac Halt) → OnOk found (AllPass cs) → IfOk found (λ f. value_of f ≡ value) → IfErr found (IsHalt cs) → IsVerdict cs value (verdict_of found)
found_is cs value (Ok f) passed is halts = (passed, is)
found_is cs value (Err h) passed is halts = halted_is cs value h halts

pub verdict-is : (cs : List Condition) (value : Rational) (found : Result Frac Halt) (v : Verdict) → v ≡ verdict_of found
    → OnOk found (AllPass cs) → IfOk found (λ f. value_of f ≡ value) → IfErr found (IsHalt cs) → IsVerdict cs value v
verdict-is cs value found v same passed is halts = subst (IsVerdict cs value) (sym same) (found_is cs value found passed is halts)

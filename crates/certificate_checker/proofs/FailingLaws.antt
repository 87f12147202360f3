-- That no condition fails is that each holds.
use Rattle.certificate_checker.proofs.Common.{◌≡◌, Bool, true, false, List, [], ◌∷◌, ◌++◌, Some, None, refl, ap, ◌∙◌, if◌then◌else◌, Condition, first_failing}

pub first_holds : (c : Condition) (cs : List Condition) → first_failing (c ∷ cs) ≡ None → c.holds ≡ true
first_holds c cs h = cases c.holds h
  where
    cases : (b : Bool) → (if b then first_failing cs else Some c.reason) ≡ None → b ≡ true
    cases true h = refl
    cases false h = absurd (cc h)

pub rest_hold : (c : Condition) (cs : List Condition) → first_failing (c ∷ cs) ≡ None → first_failing cs ≡ None
rest_hold c cs h = cases c.holds h
  where
    cases : (b : Bool) → (if b then first_failing cs else Some c.reason) ≡ None → first_failing cs ≡ None
    cases true h = h
    cases false h = absurd (cc h)

pub hold_both : (c : Condition) (cs : List Condition) → c.holds ≡ true → first_failing cs ≡ None → first_failing (c ∷ cs) ≡ None
hold_both c cs is h = ap (λ b. if b then first_failing cs else Some c.reason) is ∙ h

-- part by part
pub hold_parts : (cs ds : List Condition) → first_failing (cs ++ ds) ≡ None → (first_failing cs ≡ None) × (first_failing ds ≡ None)
hold_parts [] ds h = (refl, h)
hold_parts (c ∷ cs) ds h =
    let rest = hold_parts cs ds (rest_hold c (cs ++ ds) h) in
    (hold_both c cs (first_holds c (cs ++ ds) h) rest.0, rest.1)

pub hold_joined : (cs ds : List Condition) → first_failing cs ≡ None → first_failing ds ≡ None → first_failing (cs ++ ds) ≡ None
hold_joined [] ds h k = k
hold_joined (c ∷ cs) ds h k = hold_both c (cs ++ ds) (first_holds c cs h) (hold_joined cs ds (rest_hold c cs h) k)

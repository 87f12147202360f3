-- What lines tell, where some of them are known, and the values so far.
use Rattle.solver_answers.proofs.Common.{◌≡◌, ℕ, suc, ◌+◌, Bool, true, false, List, [], ◌∷◌, ◌++◌, length, Option, None, Some, refl, ap, ◌∙◌, arith, Float, AllByRecursion, count_by, if◌then◌else◌, sum_by-append, Found, Value, Passed, Blank, Nothing, End, Wrong, Told, Breaks, Lacks, Gives, after, last_value, later_or, told, value_in}

-- ---- lines

-- the reading goes on after a line that tells this
abbrev pub GoesOn : Found → Type 0
GoesOn (Value place x) = Unit {0}
GoesOn Passed = Unit {0}
GoesOn Blank = Unit {0}
GoesOn Nothing = ⊥
GoesOn End = ⊥
GoesOn Wrong = ⊥

-- what is told, where the lines before tell these
abbrev pub after_all : List Found → Told → Told
after_all [] said = said
after_all (found ∷ founds) said = after found (after_all founds said)

pub after_all-Gives : (founds more : List Found) → after_all founds (Gives more) ≡ Gives (founds ++ more)
after_all-Gives [] more = refl
after_all-Gives (found ∷ founds) more = ap (after found) (after_all-Gives founds more)

pub after_all-Breaks : (founds : List Found) (number : ℕ) → after_all founds (Breaks number) ≡ Breaks number
after_all-Breaks [] number = refl
after_all-Breaks (found ∷ founds) number = ap (after found) (after_all-Breaks founds number)

pub after_all-Lacks : (founds : List Found) → after_all founds Lacks ≡ Lacks
after_all-Lacks [] = refl
after_all-Lacks (found ∷ founds) = ap (after found) (after_all-Lacks founds)

told-goes : (marked : Bool) (number : ℕ) (found : Found) (later : List Found) → GoesOn found → told marked number (found ∷ later) ≡ after found (told marked (number + 1) later)
told-goes marked number (Value place x) later goes = refl
told-goes marked number Passed later goes = refl
told-goes marked number Blank later goes = refl
told-goes marked number Nothing later goes = absurd goes
told-goes marked number End later goes = absurd goes
told-goes marked number Wrong later goes = absurd goes

and_none : (n : ℕ) → n ≡ n + 0
and_none n = omega arith

pub told-append : (marked : Bool) (number : ℕ) (founds later : List Found) → AllByRecursion GoesOn founds
    → told marked number (founds ++ later) ≡ after_all founds (told marked (number + length founds) later)
told-append marked number [] later all = ap (λ (n : ℕ). told marked n later) (and_none number)
told-append marked number (found ∷ founds) later all =
    told-goes marked number found (founds ++ later) all.0
    ∙ ap (after found)
    (told-append marked (number + 1) founds later all.1
    ∙ ap (λ (n : ℕ). after_all founds (told marked n later)) (next number (length founds)))
  where
    next : (n m : ℕ) → n + 1 + m ≡ n + suc m
    next n m = omega arith

-- one more of which the reading goes on
pub goes_push : (founds : List Found) (found : Found) → AllByRecursion GoesOn founds → GoesOn found → AllByRecursion GoesOn (founds ++ found ∷ [])
goes_push [] found all more = (more, tt)
goes_push (first ∷ founds) found all more = (all.0, goes_push founds found all.1 more)

-- ---- values

later_or-assoc : (a b c : Option Float) → later_or (later_or a b) c ≡ later_or a (later_or b c)
later_or-assoc (Some x) b c = refl
later_or-assoc None b c = refl

later_or-none : (a : Option Float) → a ≡ later_or a None
later_or-none (Some x) = refl
later_or-none None = refl

pub last_value-push : (place : ℕ) (founds : List Found) (found : Found) → last_value place (founds ++ found ∷ []) ≡ later_or (value_in place found) (last_value place founds)
last_value-push place [] found = later_or-none (value_in place found)
last_value-push place (first ∷ founds) found =
    ap (λ (v : Option Float). later_or v (value_in place first)) (last_value-push place founds found)
    ∙ later_or-assoc (value_in place found) (last_value place founds) (value_in place first)

-- a count with one more at the end
pub count_push_yes : {X : Type 0} (p : X → Bool) (xs : List X) (x : X) → p x ≡ true → count_by p (xs ++ x ∷ []) ≡ count_by p xs + 1
count_push_yes p xs x e = sum_by-append (λ x'. if p x' then 1 else 0) xs (x ∷ []) ∙ rw e refl

pub count_push_no : {X : Type 0} (p : X → Bool) (xs : List X) (x : X) → p x ≡ false → count_by p (xs ++ x ∷ []) ≡ count_by p xs
count_push_no p xs x e = sum_by-append (λ x'. if p x' then 1 else 0) xs (x ∷ []) ∙ rw e (omega arith)

pub goes_on : (found : Found) → (found ≡ Nothing → ⊥) → (found ≡ End → ⊥) → (found ≡ Wrong → ⊥) → GoesOn found
goes_on (Value place x) not_nothing not_end not_wrong = tt
goes_on Passed not_nothing not_end not_wrong = tt
goes_on Blank not_nothing not_end not_wrong = tt
goes_on Nothing not_nothing not_end not_wrong = not_nothing refl
goes_on End not_nothing not_end not_wrong = not_end refl
goes_on Wrong not_nothing not_end not_wrong = not_wrong refl

-- Two rows are read side by side, entry by entry.
use Rattle.row_core.proofs.Common.{◌≡◌, suc, ◌<◌, ℤ, true, false, List, [], ◌∷◌, ◌++◌, ◌&&◌, length, refl, sym, ap, ◌∙◌, arith, Ordering, Less, Equal, Greater, all_fit, all_fit-append, Var, var_cmp, Beside, left_only, right_only, first_beside, beside, less, less_formed, all_less_formed, entry_unless_zero, lessened}

both : Var × ℤ → Var × ℤ → Beside
both e o = record { variable = e.0; number = e.1; other = o.1 }

abbrev chosen : Ordering → Var × ℤ → Var × ℤ → List Beside → List Beside → List Beside → List Beside
chosen order e o first either other =
    elim order [
      | Less ↦ left_only e ∷ first
      | Equal ↦ record { variable = e.0; number = e.1; other = o.1 } ∷ either
      | Greater ↦ right_only o ∷ other
    ]

-- the head of each list comes first where its variable does
pub beside-Less : (e o : Var × ℤ) (es os : List (Var × ℤ)) → var_cmp e.0 o.0 ≡ Less → beside (e ∷ es) (o ∷ os) ≡ left_only e ∷ beside es (o ∷ os)
beside-Less e o es os h = ap (λ t. chosen t e o (beside es (o ∷ os)) (beside es os) (first_beside e (beside es) os)) h

pub beside-Equal : (e o : Var × ℤ) (es os : List (Var × ℤ)) → var_cmp e.0 o.0 ≡ Equal → beside (e ∷ es) (o ∷ os) ≡ record { variable = e.0; number = e.1; other = o.1 } ∷ beside es os
beside-Equal e o es os h = ap (λ t. chosen t e o (beside es (o ∷ os)) (beside es os) (first_beside e (beside es) os)) h

pub beside-Greater : (e o : Var × ℤ) (es os : List (Var × ℤ)) → var_cmp e.0 o.0 ≡ Greater → beside (e ∷ es) (o ∷ os) ≡ right_only o ∷ beside (e ∷ es) os
beside-Greater e o es os h = ap (λ t. chosen t e o (beside es (o ∷ os)) (beside es os) (first_beside e (beside es) os)) h

-- the rest of the lists are side by side after what came first
pub lessened-step : (a b : ℤ) (all made : List (Var × ℤ)) (first : Beside) (es fs : List Beside) → es ≡ first ∷ fs → made ++ lessened a b es ≡ all → (made ++ entry_unless_zero first.variable (less a b first.number first.other)) ++ lessened a b fs ≡ all
lessened-step a b all made first es fs e h =
    append_assoc made (entry_unless_zero first.variable (less a b first.number first.other)) (lessened a b fs)
    ∙ ap (λ ys. made ++ lessened a b ys) (sym e) ∙ h
  where
    append_assoc : (xs ys zs : List (Var × ℤ)) → (xs ++ ys) ++ zs ≡ xs ++ (ys ++ zs)
    append_assoc [] ys zs = refl
    append_assoc (x ∷ xs) ys zs = ap {B = List (Var × ℤ)} (λ ws. x ∷ ws) (append_assoc xs ys zs)

pub formed-step : (a b : ℤ) (first : Beside) (es fs : List Beside) → es ≡ first ∷ fs → all_fit (less_formed a b first.number first.other) ≡ true → all_fit (all_less_formed a b es) ≡ all_fit (all_less_formed a b fs)
formed-step a b first es fs e h =
    ap (λ ys. all_fit (all_less_formed a b ys)) e
    ∙ all_fit-append (less_formed a b first.number first.other) (all_less_formed a b fs)
    ∙ ap (λ t. t && all_fit (all_less_formed a b fs)) h

pub formed-stop : (a b : ℤ) (first : Beside) (es fs : List Beside) → es ≡ first ∷ fs → all_fit (less_formed a b first.number first.other) ≡ false → all_fit (all_less_formed a b es) ≡ false
formed-stop a b first es fs e h =
    ap (λ ys. all_fit (all_less_formed a b ys)) e
    ∙ all_fit-append (less_formed a b first.number first.other) (all_less_formed a b fs)
    ∙ ap (λ t. t && all_fit (all_less_formed a b fs)) h

pub longer : (first : Beside) (es fs : List Beside) → es ≡ first ∷ fs → length fs < length es
longer first es fs e = let l : length es ≡ suc (length fs) = ap length e in omega arith

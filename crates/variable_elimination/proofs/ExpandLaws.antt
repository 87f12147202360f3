-- Variables are removed one after another.
use Rattle.std.proofs.Common.{◌≡◌, ℕ, ◌+◌, ◌<◌, ◌≤◌, ℤ, Bool, true, false, ◌&&◌, List, ◌++◌, length, get_or, drop, Option, sym, ap, ◌∙◌, subst}
use Rattle.variable_elimination.proofs.Common.{drop_more, at_drop_all, all_fit, value_of, Frac, all_fit-append, all_fit-nil, Var, variables_of, Form, Scaled, definition_among, without, without_formed, without_all, without_all_formed}
use Rattle.exact_num.specs.Rational.{IsLowest}

-- a fraction's value is in lowest terms
pub value-IsLowest : (f : Frac) → IsLowest (value_of f)
value-IsLowest f = record { positive = f.positive; coprime = f.lowest }

-- ---- one variable further

pub made-step : (defs : List (Var × Form)) (es : List (Var × ℤ)) (i : ℕ) (d : Var × ℤ) (o : Option Form) (s : Scaled) → i < length es → definition_among defs (get_or es i d).0 ≡ o
    → without_all defs (variables_of (drop i es)) s ≡ without_all defs (variables_of (drop (i + 1) es)) (without o (get_or es i d).0 s)
made-step defs es i d o s h e =
    ap (λ (fs : List (Var × ℤ)). without_all defs (variables_of fs) s) (drop_more es i d h)
    ∙ ap (λ p. without_all defs (variables_of (drop (i + 1) es)) (without p (get_or es i d).0 s)) e

pub formed-step : (defs : List (Var × Form)) (es : List (Var × ℤ)) (i : ℕ) (d : Var × ℤ) (o : Option Form) (s : Scaled) → i < length es → definition_among defs (get_or es i d).0 ≡ o
    → all_fit (without_all_formed defs (variables_of (drop i es)) s) ≡ (all_fit (without_formed o (get_or es i d).0 s) && all_fit (without_all_formed defs (variables_of (drop (i + 1) es)) (without o (get_or es i d).0 s)))
formed-step defs es i d o s h e =
    let v : Var = (get_or es i d).0 in
    let vs : List Var = variables_of (drop (i + 1) es) in
    ap (λ (fs : List (Var × ℤ)). all_fit (without_all_formed defs (variables_of fs) s)) (drop_more es i d h)
    ∙ ap (λ p. all_fit (without_formed p v s ++ without_all_formed defs vs (without p v s))) e
    ∙ all_fit-append (without_formed o v s) (without_all_formed defs vs (without o v s))

pub formed-fit : (defs : List (Var × Form)) (es : List (Var × ℤ)) (i : ℕ) (d : Var × ℤ) (o : Option Form) (s : Scaled) → i < length es → definition_among defs (get_or es i d).0 ≡ o → all_fit (without_formed o (get_or es i d).0 s) ≡ true
    → all_fit (without_all_formed defs (variables_of (drop i es)) s) ≡ all_fit (without_all_formed defs (variables_of (drop (i + 1) es)) (without o (get_or es i d).0 s))
formed-fit defs es i d o s h e fit =
    formed-step defs es i d o s h e ∙ ap (λ t. t && all_fit (without_all_formed defs (variables_of (drop (i + 1) es)) (without o (get_or es i d).0 s))) fit

pub formed-wide : (defs : List (Var × Form)) (es : List (Var × ℤ)) (i : ℕ) (d : Var × ℤ) (o : Option Form) (s : Scaled) → i < length es → definition_among defs (get_or es i d).0 ≡ o → all_fit (without_formed o (get_or es i d).0 s) ≡ false
    → all_fit (without_all_formed defs (variables_of (drop i es)) s) ≡ false
formed-wide defs es i d o s h e wide =
    formed-step defs es i d o s h e ∙ ap (λ t. t && all_fit (without_all_formed defs (variables_of (drop (i + 1) es)) (without o (get_or es i d).0 s))) wide

pub formed-end : (defs : List (Var × Form)) (es : List (Var × ℤ)) (i : ℕ) (s : Scaled) → length es ≤ i → all_fit (without_all_formed defs (variables_of (drop i es)) s) ≡ true
formed-end defs es i s h = at_drop_all (λ (fs : List (Var × ℤ)). all_fit (without_all_formed defs (variables_of fs) s)) es i h ∙ all_fit-nil

-- ---- the loop's step, over the list that the code reads

pub made-next : (defs : List (Var × Form)) (xs es : List (Var × ℤ)) (i : ℕ) (d : Var × ℤ) (o : Option Form) (s next all : Scaled) → xs ≡ es → i < length xs → definition_among defs (get_or xs i d).0 ≡ o → next ≡ without o (get_or xs i d).0 s
    → without_all defs (variables_of (drop i es)) s ≡ all → without_all defs (variables_of (drop (i + 1) es)) next ≡ all
made-next defs xs es i d o s next all e h found is =
    subst (λ (ys : List (Var × ℤ)). without_all defs (variables_of (drop i ys)) s ≡ all → without_all defs (variables_of (drop (i + 1) ys)) next ≡ all) e
    (λ so_far. ap (without_all defs (variables_of (drop (i + 1) xs))) is ∙ sym (made-step defs xs i d o s h found) ∙ so_far)

pub formed-next : (defs : List (Var × Form)) (xs es : List (Var × ℤ)) (i : ℕ) (d : Var × ℤ) (o : Option Form) (s next : Scaled) (all : Bool) → xs ≡ es → i < length xs → definition_among defs (get_or xs i d).0 ≡ o → next ≡ without o (get_or xs i d).0 s
    → all_fit (without_formed o (get_or xs i d).0 s) ≡ true
    → all ≡ all_fit (without_all_formed defs (variables_of (drop i es)) s) → all ≡ all_fit (without_all_formed defs (variables_of (drop (i + 1) es)) next)
formed-next defs xs es i d o s next all e h found is fit =
    subst (λ (ys : List (Var × ℤ)). all ≡ all_fit (without_all_formed defs (variables_of (drop i ys)) s) → all ≡ all_fit (without_all_formed defs (variables_of (drop (i + 1) ys)) next)) e
    (λ so_far. so_far ∙ formed-fit defs xs i d o s h found fit ∙ ap (λ t. all_fit (without_all_formed defs (variables_of (drop (i + 1) xs)) t)) (sym is))

pub formed-stop : (defs : List (Var × Form)) (xs es : List (Var × ℤ)) (i : ℕ) (d : Var × ℤ) (o : Option Form) (s : Scaled) (all : Bool) → xs ≡ es → i < length xs → definition_among defs (get_or xs i d).0 ≡ o
    → all ≡ all_fit (without_all_formed defs (variables_of (drop i es)) s) → all_fit (without_formed o (get_or xs i d).0 s) ≡ false → all ≡ false
formed-stop defs xs es i d o s all e h found so_far wide =
    so_far ∙ ap (λ (ys : List (Var × ℤ)). all_fit (without_all_formed defs (variables_of (drop i ys)) s)) (sym e) ∙ formed-wide defs xs i d o s h found wide

pub formed-done : (defs : List (Var × Form)) (xs es : List (Var × ℤ)) (i : ℕ) (s : Scaled) (all : Bool) → xs ≡ es → length xs ≤ i → all ≡ all_fit (without_all_formed defs (variables_of (drop i es)) s) → all ≡ true
formed-done defs xs es i s all e h so_far =
    so_far ∙ ap (λ (ys : List (Var × ℤ)). all_fit (without_all_formed defs (variables_of (drop i ys)) s)) (sym e) ∙ formed-end defs xs i s h

-- What values cost, variable by variable.
use Rattle.certificate_checker.proofs.Common.{◌≡◌, ◌≢◌, ℕ, ◌+◌, ◌<◌, ◌≤◌, ℤ, pos, Bool, true, false, ◌&&◌, List, [], ◌∷◌, ◌++◌, length, drop, get_or, refl, sym, ap, ◌∙◌, if◌then◌else◌, drop_more, at_drop_all, InRange, all_fit, Rational, all_fit-nil, Var, sum_from, term_formed, sum_from_formed, is_zero, numbers_of, all_in_range, number_at, all_fit-from_range, nonzero-test, number_at-fits, cost_entries}
use Rattle.certificate_checker.proofs.SumSteps.{sum_from-append, sum_fits-append, sum_fits-one}

-- a number of a list that fits does
pub given_fits : (es : List (Var × ℤ)) (v : Var) → all_in_range (numbers_of es) ≡ true → InRange (number_at es v)
given_fits es v h = number_at-fits es v (all_fit-from_range (numbers_of es) h)

-- ---- one variable

pub entries-none : (cost : Var → ℤ) (v : Var) → cost v ≡ pos 0 → cost_entries cost (v ∷ []) ≡ []
entries-none cost v h = ap (λ z. if is_zero z then [] else ((v, cost v) ∷ [])) h

pub entries-one : (cost : Var → ℤ) (v : Var) → cost v ≢ pos 0 → cost_entries cost (v ∷ []) ≡ (v, cost v) ∷ []
entries-one cost v h = ap (λ b. if b then [] else ((v, cost v) ∷ [])) (nonzero-test (cost v) h)

pub entries-first : (cost : Var → ℤ) (v : Var) (vs : List Var) → cost_entries cost (v ∷ vs) ≡ cost_entries cost (v ∷ []) ++ cost_entries cost vs
entries-first cost v vs = cases (is_zero (cost v))
  where
    cases : (b : Bool) → (if b then cost_entries cost vs else ((v, cost v) ∷ cost_entries cost vs)) ≡ (if b then [] else ((v, cost v) ∷ [])) ++ cost_entries cost vs
    cases true = refl
    cases false = refl

pub none_fits : (value : Var → Rational) (s : Rational) (cost : Var → ℤ) (v : Var) → cost v ≡ pos 0 → all_fit (sum_from_formed value s (cost_entries cost (v ∷ []))) ≡ true
none_fits value s cost v h = ap (λ es. all_fit (sum_from_formed value s es)) (entries-none cost v h) ∙ all_fit-nil

pub one_fits : (value : Var → Rational) (s : Rational) (cost : Var → ℤ) (v : Var) → cost v ≢ pos 0 → all_fit (sum_from_formed value s (cost_entries cost (v ∷ []))) ≡ all_fit (term_formed s (cost v) (value v))
one_fits value s cost v h = ap (λ es. all_fit (sum_from_formed value s es)) (entries-one cost v h) ∙ sum_fits-one value s (v, cost v)

left : (cost : Var → ℤ) (vs : List Var) (i : ℕ) (d : Var) → i < length vs → cost_entries cost (drop i vs) ≡ cost_entries cost (get_or vs i d ∷ []) ++ cost_entries cost (drop (i + 1) vs)
left cost vs i d h = ap (cost_entries cost) (drop_more vs i d h) ∙ entries-first cost (get_or vs i d) (drop (i + 1) vs)

pub cost_sum-next : (value : Var → Rational) (cost : Var → ℤ) (vs : List Var) (i : ℕ) (d : Var) (s next all : Rational) → i < length vs → next ≡ sum_from value s (cost_entries cost (get_or vs i d ∷ []))
    → sum_from value s (cost_entries cost (drop i vs)) ≡ all → sum_from value next (cost_entries cost (drop (i + 1) vs)) ≡ all
cost_sum-next value cost vs i d s next all h is so_far =
    ap (λ t. sum_from value t (cost_entries cost (drop (i + 1) vs))) is
    ∙ sym (sum_from-append value s (cost_entries cost (get_or vs i d ∷ [])) (cost_entries cost (drop (i + 1) vs)))
    ∙ sym (ap (sum_from value s) (left cost vs i d h)) ∙ so_far

parts : (value : Var → Rational) (cost : Var → ℤ) (vs : List Var) (i : ℕ) (d : Var) (s : Rational) → i < length vs
    → all_fit (sum_from_formed value s (cost_entries cost (drop i vs)))
    ≡ (all_fit (sum_from_formed value s (cost_entries cost (get_or vs i d ∷ []))) && all_fit (sum_from_formed value (sum_from value s (cost_entries cost (get_or vs i d ∷ []))) (cost_entries cost (drop (i + 1) vs))))
parts value cost vs i d s h =
    ap (λ es. all_fit (sum_from_formed value s es)) (left cost vs i d h)
    ∙ sum_fits-append value s (cost_entries cost (get_or vs i d ∷ [])) (cost_entries cost (drop (i + 1) vs))

pub cost_fits-next : (value : Var → Rational) (cost : Var → ℤ) (vs : List Var) (i : ℕ) (d : Var) (s next : Rational) (all : Bool) → i < length vs → next ≡ sum_from value s (cost_entries cost (get_or vs i d ∷ []))
    → all_fit (sum_from_formed value s (cost_entries cost (get_or vs i d ∷ []))) ≡ true
    → all ≡ all_fit (sum_from_formed value s (cost_entries cost (drop i vs))) → all ≡ all_fit (sum_from_formed value next (cost_entries cost (drop (i + 1) vs)))
cost_fits-next value cost vs i d s next all h is fit so_far =
    so_far ∙ parts value cost vs i d s h
    ∙ ap (λ b. b && all_fit (sum_from_formed value (sum_from value s (cost_entries cost (get_or vs i d ∷ []))) (cost_entries cost (drop (i + 1) vs)))) fit
    ∙ ap (λ t. all_fit (sum_from_formed value t (cost_entries cost (drop (i + 1) vs)))) (sym is)

pub cost_fits-stop : (value : Var → Rational) (cost : Var → ℤ) (vs : List Var) (i : ℕ) (d : Var) (s : Rational) (all : Bool) → i < length vs
    → all_fit (sum_from_formed value s (cost_entries cost (get_or vs i d ∷ []))) ≡ false
    → all ≡ all_fit (sum_from_formed value s (cost_entries cost (drop i vs))) → all ≡ false
cost_fits-stop value cost vs i d s all h wide so_far =
    so_far ∙ parts value cost vs i d s h
    ∙ ap (λ b. b && all_fit (sum_from_formed value (sum_from value s (cost_entries cost (get_or vs i d ∷ []))) (cost_entries cost (drop (i + 1) vs)))) wide

pub cost_fits-done : (value : Var → Rational) (cost : Var → ℤ) (vs : List Var) (i : ℕ) (s : Rational) (all : Bool) → length vs ≤ i → all ≡ all_fit (sum_from_formed value s (cost_entries cost (drop i vs))) → all ≡ true
cost_fits-done value cost vs i s all h so_far =
    so_far ∙ at_drop_all (λ us. all_fit (sum_from_formed value s (cost_entries cost us))) vs i h ∙ all_fit-nil

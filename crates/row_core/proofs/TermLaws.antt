-- What one more term does to a list of terms: the list goes on ascending, and where the term goes.
use Rattle.row_core.proofs.Common.{◌≡◌, ◌≢◌, ℕ, zero, suc, ◌<◌, ◌≤◌, ℤ, true, List, [], ◌∷◌, ◌++◌, length, map, get_or, set, refl, sym, ap, ◌∙◌, subst, arith, inl, inr, insert, both_true, ordering_reverse, Ordering, Less, Equal, Greater, eq-or-lt_of_le, sum_formed, Rational, plus, value_of, Term, Var, variables_of, before_first, ascends, var_cmp, AreBefore, IsThere, BelongsAt, seen}
use Rattle.row_core.specs.Terms.{with_term, term_formed}
use Rattle.row_core.proofs.AscendingLaws.{both_passed, test-from_Less, ascends-AllPairs}
use Rattle.row_core.proofs.Orders.{var_cmp_total}

-- ---- one more term by the order of the variables

abbrev placed : Ordering → Var × Rational → Var × Rational → List (Var × Rational) → List (Var × Rational)
placed o new term terms = elim o [ Less ↦ new ∷ term ∷ terms | Equal ↦ (term.0, plus term.1 new.1) ∷ terms | Greater ↦ term ∷ with_term new terms ]

abbrev placed_formed : Ordering → Var × Rational → Var × Rational → List (Var × Rational) → List ℤ
placed_formed o new term terms = elim o [ Less ↦ [] | Equal ↦ sum_formed term.1 new.1 | Greater ↦ term_formed new terms ]

with_term-by : (o : Ordering) (new term : Var × Rational) (terms : List (Var × Rational)) → var_cmp new.0 term.0 ≡ o → with_term new (term ∷ terms) ≡ placed o new term terms
with_term-by o new term terms h = ap (λ p. placed p new term terms) h

term_formed-by : (o : Ordering) (new term : Var × Rational) (terms : List (Var × Rational)) → var_cmp new.0 term.0 ≡ o → term_formed new (term ∷ terms) ≡ placed_formed o new term terms
term_formed-by o new term terms h = ap (λ p. placed_formed p new term terms) h

turned : (v w : Var) (o : Ordering) → var_cmp v w ≡ o → var_cmp w v ≡ ordering_reverse o
turned v w o h = var_cmp_total.antisymm w v ∙ ap ordering_reverse h

its_own_reverse : (o : Ordering) → o ≡ ordering_reverse o → o ≡ Equal
its_own_reverse Less h = absurd (cc h)
its_own_reverse Equal h = refl
its_own_reverse Greater h = absurd (cc h)

pub same_alike : (v w : Var) → v ≡ w → var_cmp v w ≡ Equal
same_alike v w h = ap (λ u. var_cmp v u) (sym h) ∙ its_own_reverse (var_cmp v v) (var_cmp_total.antisymm v v)

-- ---- a term whose variable is there

pub with_term-there : (new : Var × Rational) (terms : List Term) (at : ℕ) (d : Term) → IsThere terms new.0 at
    → with_term new (map seen terms) ≡ set (map seen terms) at ((get_or terms at d).variable, plus (value_of (get_or terms at d).coefficient) new.1)
with_term-there new [] at d h = absurd (omega (arith, h.within))
with_term-there new (term ∷ terms) zero d h = with_term-by Equal new (seen term) (map seen terms) (same_alike new.0 term.variable (sym (h.same d)))
with_term-there new (term ∷ terms) (suc at) d h =
    let rest : IsThere terms new.0 at = record { within = omega (arith, h.within); same = h.same; before = λ k e less. h.before (suc k) e (omega arith) } in
    with_term-by Greater new (seen term) (map seen terms) (turned term.variable new.0 Less (h.before zero d (omega arith)))
    ∙ ap {B = List (Var × Rational)} (λ ts. seen term ∷ ts) (with_term-there new terms at d rest)

pub term_formed-there : (new : Var × Rational) (terms : List Term) (at : ℕ) (d : Term) → IsThere terms new.0 at
    → term_formed new (map seen terms) ≡ sum_formed (value_of (get_or terms at d).coefficient) new.1
term_formed-there new [] at d h = absurd (omega (arith, h.within))
term_formed-there new (term ∷ terms) zero d h = term_formed-by Equal new (seen term) (map seen terms) (same_alike new.0 term.variable (sym (h.same d)))
term_formed-there new (term ∷ terms) (suc at) d h =
    let rest : IsThere terms new.0 at = record { within = omega (arith, h.within); same = h.same; before = λ k e less. h.before (suc k) e (omega arith) } in
    term_formed-by Greater new (seen term) (map seen terms) (turned term.variable new.0 Less (h.before zero d (omega arith)))
    ∙ term_formed-there new terms at d rest

-- ---- a term whose variable isn't there

pub with_term-belongs : (new : Term) (terms : List Term) (at : ℕ) → BelongsAt terms new.variable at → map seen (insert terms at new) ≡ with_term (seen new) (map seen terms)
with_term-belongs new [] zero h = refl
with_term-belongs new [] (suc at) h = absurd (omega (arith, h.within))
with_term-belongs new (term ∷ terms) zero h =
    sym (with_term-by Less (seen new) (seen term) (map seen terms) (turned term.variable new.variable Greater (h.following new (omega arith))))
with_term-belongs new (term ∷ terms) (suc at) h =
    let rest : BelongsAt terms new.variable at = record { within = omega (arith, h.within); before = λ k e less. h.before (suc k) e (omega arith); following = λ e less. h.following e (omega arith) } in
    ap {B = List (Var × Rational)} (λ ts. seen term ∷ ts) (with_term-belongs new terms at rest)
    ∙ sym (with_term-by Greater (seen new) (seen term) (map seen terms) (turned term.variable new.variable Less (h.before zero new (omega arith))))

pub term_formed-belongs : (new : Var × Rational) (terms : List Term) (at : ℕ) (d : Term) → BelongsAt terms new.0 at → term_formed new (map seen terms) ≡ []
term_formed-belongs new [] at d h = refl
term_formed-belongs new (term ∷ terms) zero d h =
    term_formed-by Less new (seen term) (map seen terms) (turned term.variable new.0 Greater (h.following d (omega arith)))
term_formed-belongs new (term ∷ terms) (suc at) d h =
    let rest : BelongsAt terms new.0 at = record { within = omega (arith, h.within); before = λ k e less. h.before (suc k) e (omega arith); following = λ e less. h.following e (omega arith) } in
    term_formed-by Greater new (seen term) (map seen terms) (turned term.variable new.0 Less (h.before zero d (omega arith)))
    ∙ term_formed-belongs new terms at d rest

-- ---- the terms go on ascending

before_first-with_term : (v : Var) (new : Var × Rational) (terms : List (Var × Rational)) → var_cmp v new.0 ≡ Less → before_first var_cmp v (variables_of terms) ≡ true → before_first var_cmp v (variables_of (with_term new terms)) ≡ true
before_first-with_term v new [] less h = test-from_Less (var_cmp v new.0) less
before_first-with_term v new (term ∷ terms) less h =
    let cases : (o : Ordering) → before_first var_cmp v (variables_of (placed o new term terms)) ≡ true
    = λ o. elim o as (λ p. before_first var_cmp v (variables_of (placed p new term terms)) ≡ true) [ Less ↦ test-from_Less (var_cmp v new.0) less | Equal ↦ h | Greater ↦ h ] in
    cases (var_cmp new.0 term.0)

pub ascends-with_term : (new : Var × Rational) (terms : List (Var × Rational)) → ascends var_cmp (variables_of terms) ≡ true → ascends var_cmp (variables_of (with_term new terms)) ≡ true
ascends-with_term new [] h = refl
ascends-with_term new (term ∷ terms) h =
    let Up : Ordering → Type 0 = λ o. ascends var_cmp (variables_of (placed o new term terms)) ≡ true in
    let parts = both_passed (before_first var_cmp term.0 (variables_of terms)) (ascends var_cmp (variables_of terms)) h in
    let first : var_cmp new.0 term.0 ≡ Less → Up Less = λ e. both_true (test-from_Less (var_cmp new.0 term.0) e) h in
    let later : var_cmp new.0 term.0 ≡ Greater → Up Greater =
    λ e. both_true (before_first-with_term term.0 new terms (turned new.0 term.0 Greater e) parts.0) (ascends-with_term new terms parts.1) in
    let cases : (o : Ordering) → var_cmp new.0 term.0 ≡ o → Up o = λ o. elim o as (λ p. var_cmp new.0 term.0 ≡ p → Up p) [ Less ↦ first | Equal ↦ λ e. h | Greater ↦ later ] in
    cases (var_cmp new.0 term.0) refl

-- ---- terms taken one after another

variables_at : (terms : List Term) (k : ℕ) (d : Term) → get_or (variables_of (map seen terms)) k d.variable ≡ (get_or terms k d).variable
variables_at [] k d = refl
variables_at (term ∷ terms) zero d = refl
variables_at (term ∷ terms) (suc k) d = variables_at terms k d

variables_many : (terms : List Term) → length (variables_of (map seen terms)) ≡ length terms
variables_many [] = refl
variables_many (term ∷ terms) = ap suc (variables_many terms)

-- of ascending terms each is before each later one
pub terms_ascend : (terms : List Term) (k at : ℕ) (d : Term) → ascends var_cmp (variables_of (map seen terms)) ≡ true → k < at → at < length terms → var_cmp (get_or terms k d).variable (get_or terms at d).variable ≡ Less
terms_ascend terms k at d up below within =
    let names : List Var = variables_of (map seen terms) in
    subst (λ w. var_cmp w (get_or terms at d).variable ≡ Less) (variables_at terms k d)
    (subst (λ w. var_cmp (get_or names k d.variable) w ≡ Less) (variables_at terms at d)
    (ascends-AllPairs var_cmp var_cmp_total names up k at d.variable below (subst (λ n. at < n) (sym (variables_many terms)) within)))

-- so all that stand before one of the variable are before the variable
pub AreBefore-same : (terms : List Term) (v : Var) (at : ℕ) → ascends var_cmp (variables_of (map seen terms)) ≡ true → at < length terms → ((d : Term) → (get_or terms at d).variable ≡ v) → AreBefore terms v at
AreBefore-same terms v at up within same k d below =
    subst (λ w. var_cmp (get_or terms k d).variable w ≡ Less) (same d) (terms_ascend terms k at d up below within)

-- and so are all up to one that is before it
pub AreBefore-last : (terms : List Term) (v : Var) (last : ℕ) → ascends var_cmp (variables_of (map seen terms)) ≡ true → last < length terms → ((d : Term) → var_cmp (get_or terms last d).variable v ≡ Less) → AreBefore terms v (suc last)
AreBefore-last terms v last up within less k d h =
    let x : Var = (get_or terms k d).variable in
    let y : Var = (get_or terms last d).variable in
    let earlier : k < last → var_cmp x v ≡ Less = λ below. var_cmp_total.trans x y v (terms_ascend terms k last d up below within) (less d) in
    let itself : k ≡ last → var_cmp x v ≡ Less = λ e. subst (λ n. var_cmp (get_or terms n d).variable v ≡ Less) (sym e) (less d) in
    let within_last : k ≤ last = omega arith in
    elim (eq-or-lt_of_le within_last) [ inl e ↦ itself e | inr below ↦ earlier below ]

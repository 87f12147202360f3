-- The steps of writing a row over the list of terms that the code keeps.
use Rattle.row_core.proofs.Common.{◌≡◌, ◌≢◌, ℕ, zero, suc, ◌+◌, ◌<◌, ◌≤◌, ℤ, pos, Bool, true, false, List, [], ◌∷◌, ◌++◌, ◌&&◌, length, map, get_or, set, take, drop, add-one, arith, refl, sym, ap, ◌∙◌, subst, if◌then◌else◌, int_div, unsigned_abs, ◌≤ℤ◌, ◌==◌, ints, nat_tests, ◌∣◌, dvd_antisymm, dvd_trans, drop_more, at_drop_all, InRange, in_range, all_fit, Rational, gcd_of, gcd_of-zero, gcd_of-dvd_left, gcd_of-dvd_right, dvd-gcd_of, InRange-from_test, all_fit-append, all_fit-cons, all_fit-nil, Term, Var, is_zero, numbers_of, Stopped, IsStop, widened_by_term, entry_over, seen, kept, denominators, widened, widened_by_each, widened_by_all, numerator_over, entries_over, entries_divided, common_divisor, row_divisor}
use Rattle.row_core.specs.declared.place.Place.{Place}
use Rattle.row_core.specs.declared.place.Stopped.TheVariants.{Width, Memory}
use Rattle.row_core.proofs.AscendingLaws.{both_passed}
use Rattle.row_core.proofs.DivisionLaws.{widened_by_all-term, widened_by_each-term, nonzero-test}
use Rattle.row_core.proofs.RowLaws.{numbers_of-append}

-- what is left from a position begins with the element there
pub drop_at : {X : Type 0} (xs : List X) (i : ℕ) (x : X) → i < length xs → x ≡ get_or xs i x → drop i xs ≡ x ∷ drop (i + 1) xs
drop_at xs i x h e = drop_more xs i x h ∙ ap (λ y. y ∷ drop (i + 1) xs) (sym e)

pub and_true : (b : Bool) → (b && true) ≡ b
and_true true = refl
and_true false = refl

-- ---- the common denominator

-- whether the denominators from here on fit
abbrev pub denominators_fit : ℤ → List Term → Rational → Bool
denominators_fit d terms right = all_fit (widened_by_each d (denominators (kept (map seen terms)) right))

-- the common denominator of what is left
abbrev pub denominator_left : ℤ → List Term → Rational → ℤ
denominator_left d terms right = widened_by_all d (denominators (kept (map seen terms)) right)

pub denominators_fit-step : (d : ℤ) (terms : List Term) (right : Rational) (i : ℕ) (x : Term) → i < length terms → x ≡ get_or terms i x → in_range d ≡ true
    → denominators_fit d (drop i terms) right ≡ (in_range (widened_by_term d (seen x)) && denominators_fit (widened_by_term d (seen x)) (drop (i + 1) terms) right)
denominators_fit-step d terms right i x h e fits =
    ap (λ ts. denominators_fit d ts right) (drop_at terms i x h e) ∙ widened_by_each-term d (seen x) (map seen (drop (i + 1) terms)) right fits

pub denominator_left-step : (d : ℤ) (terms : List Term) (right : Rational) (i : ℕ) (x : Term) → i < length terms → x ≡ get_or terms i x
    → denominator_left d (drop i terms) right ≡ denominator_left (widened_by_term d (seen x)) (drop (i + 1) terms) right
denominator_left-step d terms right i x h e =
    ap (λ ts. denominator_left d ts right) (drop_at terms i x h e) ∙ widened_by_all-term d (seen x) (map seen (drop (i + 1) terms)) right

pub denominators_fit-end : (d : ℤ) (terms : List Term) (right : Rational) (i : ℕ) → length terms ≤ i → denominators_fit d (drop i terms) right ≡ in_range (widened d right.bottom)
denominators_fit-end d terms right i h =
    at_drop_all (λ ts. denominators_fit d ts right) terms i h
    ∙ all_fit-cons (widened d right.bottom) []
    ∙ ap (λ b. in_range (widened d right.bottom) && b) all_fit-nil
    ∙ and_true (in_range (widened d right.bottom))

-- ---- the entries

pub entry_over-zero : (d : ℤ) (term : Var × Rational) → term.1.top ≡ pos 0 → entry_over d term ≡ []
entry_over-zero d term h = ap (λ b. if b then [] else ((term.0, numerator_over d term.1) ∷ [])) (ap is_zero h)

pub entry_over-nonzero : (d : ℤ) (term : Var × Rational) → term.1.top ≢ pos 0 → entry_over d term ≡ (term.0, numerator_over d term.1) ∷ []
entry_over-nonzero d term h = ap (λ b. if b then [] else ((term.0, numerator_over d term.1) ∷ [])) (nonzero-test term.1.top h)

-- whether the numbers of the entries fit
abbrev pub entries_fit : {K : Type 0} → List (K × ℤ) → Bool
entries_fit entries = all_fit (numbers_of entries)

pub entries_fit-one : (v : Var) (z : ℤ) → entries_fit ((v, z) ∷ []) ≡ in_range z
entries_fit-one v z = all_fit-cons z [] ∙ ap (λ b. in_range z && b) all_fit-nil ∙ and_true (in_range z)

pub entries_fit-append : {K : Type 0} (es fs : List (K × ℤ)) → entries_fit (es ++ fs) ≡ (entries_fit es && entries_fit fs)
entries_fit-append es fs = ap all_fit (numbers_of-append es fs) ∙ all_fit-append (numbers_of es) (numbers_of fs)

entries_over-term : (d : ℤ) (term : Var × Rational) (terms : List (Var × Rational)) → entries_over d (kept (term ∷ terms)) ≡ entry_over d term ++ entries_over d (kept terms)
entries_over-term d term terms =
    let Split : Bool → Type 0 = λ b. entries_over d (if b then kept terms else (term ∷ kept terms)) ≡ (if b then [] else ((term.0, numerator_over d term.1) ∷ [])) ++ entries_over d (kept terms) in
    let cases : (b : Bool) → Split b = λ b. elim b as (λ p. Split p) [ true ↦ refl | false ↦ refl ] in
    cases (is_zero term.1.top)

-- the entries of the terms that are left
abbrev pub entries_left : ℤ → List Term → List (Var × ℤ)
entries_left d terms = entries_over d (kept (map seen terms))

pub entries_left-step : (d : ℤ) (terms : List Term) (i : ℕ) (x : Term) → i < length terms → x ≡ get_or terms i x → entries_left d (drop i terms) ≡ entry_over d (seen x) ++ entries_left d (drop (i + 1) terms)
entries_left-step d terms i x h e = ap (entries_left d) (drop_at terms i x h e) ∙ entries_over-term d (seen x) (map seen (drop (i + 1) terms))

pub entries_fit-step : (d : ℤ) (terms : List Term) (i : ℕ) (x : Term) → i < length terms → x ≡ get_or terms i x → entries_fit (entries_left d (drop i terms)) ≡ (entries_fit (entry_over d (seen x)) && entries_fit (entries_left d (drop (i + 1) terms)))
entries_fit-step d terms i x h e = ap entries_fit (entries_left-step d terms i x h e) ∙ entries_fit-append (entry_over d (seen x)) (entries_left d (drop (i + 1) terms))

-- ---- stops

-- a stop where some numbers don't all fit is a stop where more numbers don't
pub IsStop-more : (place : Place) (some all : Bool) (stopped : Stopped) → (some ≡ false → all ≡ false) → IsStop place some stopped → IsStop place all stopped
IsStop-more place some all (Width at) h stop = (stop.0, h stop.1)
IsStop-more place some all Memory h stop = tt

-- ---- division by the common divisor

-- each entry of a list that fits does
pub entries_fit-at : {K : Type 0} (es : List (K × ℤ)) (i : ℕ) (d : K × ℤ) → entries_fit es ≡ true → i < length es → InRange (get_or es i d).1
entries_fit-at [] i d fits h = absurd (omega arith)
entries_fit-at (e ∷ es) zero d fits h = InRange-from_test e.1 (both_passed (in_range e.1) (entries_fit es) (sym (all_fit-cons e.1 (numbers_of es)) ∙ fits)).0
entries_fit-at (e ∷ es) (suc i) d fits h = entries_fit-at es i d (both_passed (in_range e.1) (entries_fit es) (sym (all_fit-cons e.1 (numbers_of es)) ∙ fits)).1 (omega arith)

-- the same of the entry that is read there
pub item_fits : {K : Type 0} (es : List (K × ℤ)) (i : ℕ) (e : K × ℤ) → entries_fit es ≡ true → i < length es → e ≡ get_or es i e → InRange e.1
item_fits es i e fits h is = subst (λ y. InRange y.1) (sym is) (entries_fit-at es i e fits h)

-- where the entries before a position are divided, the one there is as it was
pub undivided_at : {K : Type 0} (g : ℕ) (es : List (K × ℤ)) (i : ℕ) (d : K × ℤ) → i < length es → get_or (entries_divided g (take i es) ++ drop i es) i d ≡ get_or es i d
undivided_at g [] i d h = absurd (omega arith)
undivided_at g (e ∷ es) zero d h = refl
undivided_at g (e ∷ es) (suc i) d h = undivided_at g es i d (omega arith)

-- and once it is divided too, one more is
divided_next : {K : Type 0} (g : ℕ) (es : List (K × ℤ)) (i : ℕ) (d : K × ℤ) → i < length es → set (entries_divided g (take i es) ++ drop i es) i ((get_or es i d).0, int_div (get_or es i d).1 (pos g)) ≡ entries_divided g (take (suc i) es) ++ drop (suc i) es
divided_next g [] i d h = absurd (omega arith)
divided_next g (e ∷ es) zero d h = refl
divided_next {K} g (e ∷ es) (suc i) d h = ap {B = List (K × ℤ)} (λ (ys : List (K × ℤ)). (e.0, int_div e.1 (pos g)) ∷ ys) (divided_next g es i d (omega arith))

pub divided_step : {K : Type 0} (g : ℕ) (es : List (K × ℤ)) (i : ℕ) (d : K × ℤ) → i < length es → set (entries_divided g (take i es) ++ drop i es) i ((get_or es i d).0, int_div (get_or es i d).1 (pos g)) ≡ entries_divided g (take (i + 1) es) ++ drop (i + 1) es
divided_step g es i d h = divided_next g es i d h ∙ ap (λ n. entries_divided g (take n es) ++ drop n es) (sym (add-one i))

-- ---- the greatest common divisor of a list, from left to right

pub gcd_of_assoc : (a b c : ℕ) → gcd_of (gcd_of a b) c ≡ gcd_of a (gcd_of b c)
gcd_of_assoc a b c =
    let l : ℕ = gcd_of (gcd_of a b) c in
    let r : ℕ = gcd_of a (gcd_of b c) in
    let la : l ∣ a = dvd_trans l (gcd_of-dvd_left (gcd_of a b) c) (gcd_of-dvd_left a b) in
    let lb : l ∣ b = dvd_trans l (gcd_of-dvd_left (gcd_of a b) c) (gcd_of-dvd_right a b) in
    let lc : l ∣ c = gcd_of-dvd_right (gcd_of a b) c in
    let ra : r ∣ a = gcd_of-dvd_left a (gcd_of b c) in
    let rb : r ∣ b = dvd_trans r (gcd_of-dvd_right a (gcd_of b c)) (gcd_of-dvd_left b c) in
    let rc : r ∣ c = dvd_trans r (gcd_of-dvd_right a (gcd_of b c)) (gcd_of-dvd_right b c) in
    dvd_antisymm (dvd-gcd_of l a (gcd_of b c) la (dvd-gcd_of l b c lb lc)) (dvd-gcd_of r (gcd_of a b) c (dvd-gcd_of r a b ra rb) rc)

-- the entry that stands for none
abbrev pub no_entry : Var × ℤ
no_entry = (record { kind = 0; index = record { region = 0; other = 0; slice = 0; tech = 0; fuel = 0; emission = 0; mode = 0; year = 0 } }, pos 0)

pub nonnegative_is : (z : ℤ) (n : ℕ) → z ≡ pos n → pos 0 ≤ℤ z
nonnegative_is z n h = omega (arith, ints)

-- the divisor of what is left, with one number more
pub shared-step : {K : Type 0} (g : ℕ) (es : List (K × ℤ)) (i : ℕ) (d : K × ℤ) → i < length es → gcd_of g (common_divisor (numbers_of (drop i es))) ≡ gcd_of (gcd_of g (unsigned_abs (get_or es i d).1)) (common_divisor (numbers_of (drop (i + 1) es)))
shared-step g es i d h =
    ap (λ ys. gcd_of g (common_divisor (numbers_of ys))) (drop_more es i d h)
    ∙ sym (gcd_of_assoc g (unsigned_abs (get_or es i d).1) (common_divisor (numbers_of (drop (i + 1) es))))

-- the same with the entry that is read there
pub shared-item : {K : Type 0} (g : ℕ) (es : List (K × ℤ)) (i : ℕ) (e : K × ℤ) → i < length es → e ≡ get_or es i e → gcd_of g (common_divisor (numbers_of (drop i es))) ≡ gcd_of (gcd_of g (unsigned_abs e.1)) (common_divisor (numbers_of (drop (i + 1) es)))
shared-item g es i e h is = shared-step g es i e h ∙ ap (λ y. gcd_of (gcd_of g (unsigned_abs y.1)) (common_divisor (numbers_of (drop (i + 1) es)))) (sym is)

pub shared-end : {K : Type 0} (g : ℕ) (es : List (K × ℤ)) (i : ℕ) → length es ≤ i → gcd_of g (common_divisor (numbers_of (drop i es))) ≡ g
shared-end g es i h = at_drop_all (λ ys. gcd_of g (common_divisor (numbers_of ys))) es i h ∙ gcd_of-zero g

-- what a row is divided by, from the divisor of its numbers
pub row_divisor-by : (zs : List ℤ) (g : ℕ) → common_divisor zs ≡ g → row_divisor zs ≡ (if g == 0 then 1 else g)
row_divisor-by zs g h = ap (λ n. if n == 0 then 1 else n) h

pub above_zero : (n : ℕ) → 0 < n → (if n == 0 then 1 else n) ≡ n
above_zero n h = grind (arith, nat_tests)

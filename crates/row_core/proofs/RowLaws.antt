-- How the model that a row keeps come about: numbers without a common divisor, and lists that grow at their end.
use Rattle.row_core.proofs.Common.{◌≡◌, ℕ, ◌*◌, ◌<◌, ◌≤◌, ℤ, pos, ◌*ℤ◌, Bool, true, false, List, [], ◌∷◌, ◌++◌, ◌&&◌, ◌||◌, nat_eq, refl, sym, ap, ◌∙◌, subst, arith, unsigned_abs, ◌∣◌, le_of_dvd, unsigned_abs-mul, mul-dvd-mul_right, mul-le-mul_right, numbers_of, DividesAll, IsLowest}

-- one of the numbers is 1 or -1
abbrev pub has_unit : List ℤ → Bool
has_unit [] = false
has_unit (z ∷ zs) = nat_eq (unsigned_abs z) 1 || has_unit zs

divides_unit_by : (d : ℕ) (z : ℤ) (zs : List ℤ) (test : Bool) → nat_eq (unsigned_abs z) 1 ≡ test → ((has_unit zs ≡ true) → DividesAll d zs → d ∣ 1) → (test || has_unit zs) ≡ true → DividesAll d (z ∷ zs) → d ∣ 1
divides_unit_by d z zs true is rest h divides =
    let one : unsigned_abs z ≡ 1 = grind (arith) in
    subst (λ n. d ∣ n) one divides.0
divides_unit_by d z zs false is rest h divides = rest h divides.1

-- what divides all of them divides 1
divides_unit : (d : ℕ) (zs : List ℤ) → has_unit zs ≡ true → DividesAll d zs → d ∣ 1
divides_unit d [] h divides = absurd (cc h)
divides_unit d (z ∷ zs) h divides = divides_unit_by d z zs (nat_eq (unsigned_abs z) 1) refl (divides_unit d zs) h divides

-- numbers of which one is 1 or -1 have no common divisor
pub IsLowest-unit : (zs : List ℤ) → has_unit zs ≡ true → IsLowest zs
IsLowest-unit zs unit d above divides =
    let small : d ≤ 1 = le_of_dvd (omega arith) (divides_unit d zs unit divides) in
    absurd (omega arith)

-- ---- lists joined

pub numbers_of-append : {K : Type 0} (es fs : List (K × ℤ)) → numbers_of (es ++ fs) ≡ numbers_of es ++ numbers_of fs
numbers_of-append [] fs = refl
numbers_of-append (e ∷ es) fs = ap {B = List ℤ} (λ zs. e.1 ∷ zs) (numbers_of-append es fs)

and_assoc : (a b c : Bool) → (a && (b && c)) ≡ ((a && b) && c)
and_assoc true b c = refl
and_assoc false b c = refl

-- each number times g
abbrev pub times_all : ℕ → List ℤ → List ℤ
times_all g [] = []
times_all g (z ∷ zs) = (z *ℤ pos g) ∷ times_all g zs

DividesAll-times : (d g : ℕ) (zs : List ℤ) → DividesAll d zs → DividesAll (d * g) (times_all g zs)
DividesAll-times d g [] h = tt
DividesAll-times d g (z ∷ zs) h =
    let product : unsigned_abs (z *ℤ pos g) ≡ unsigned_abs z * g = unsigned_abs-mul z (pos g) in
    (subst (λ n. d * g ∣ n) (sym product) (mul-dvd-mul_right d h.0 g), DividesAll-times d g zs h.1)

-- where a positive number is the greatest that divides them all, the quotients have no common divisor
pub IsLowest-divided : (g : ℕ) (zs : List ℤ) → 0 < g → ((d : ℕ) → DividesAll d (times_all g zs) → d ∣ g) → IsLowest zs
IsLowest-divided g zs positive greatest d above divides =
    let small : d * g ≤ g = le_of_dvd positive (greatest (d * g) (DividesAll-times d g zs divides)) in
    let large : 2 * g ≤ d * g = mul-le-mul_right g above in
    absurd (omega arith)

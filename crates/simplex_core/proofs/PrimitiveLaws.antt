-- Lines without a common divisor: two that are proportional by positive factors are the same.
use Rattle.simplex_core.proofs.Common.{◌≡◌, ℕ, zero, suc, ◌+◌, ◌*◌, ◌<◌, ℤ, pos, ◌*ℤ◌, neg_ℤ, Bool, true, false, List, [], ◌∷◌, length, get_or, map, arith, refl, sym, ap, ap₂, ◌∙◌, subst, ◌⊎◌, inl, inr, if◌then◌else◌, int_div, unsigned_abs, ◌<ℤ◌, ◌==◌, ints, unsigned_abs-mul, eqb-true, eqb-false, eq-zero_of_zero-dvd, gcd_of, *ℤ_cancel, unsigned_abs-neg_ℤ, unsigned_abs-zero, pos-unsigned_abs, unsigned_abs_pos, nonzero_of_pos, zero-*ℤ, DividesAll, is_zero, common_divisor-DividesAll, Line, entry_of, numbers_of, factor_of, line_less, lowest_line, cleared, negated_line, IsPrimitive}
use Rattle.exact_num.proofs.GcdLaws.{gcd_of-mul}
use Rattle.row_core.specs.Written.{common_divisor, row_divisor}
use Rattle.row_core.proofs.RowLaws.{times_all}
use Rattle.row_core.proofs.WrittenLaws.{row_divisor-is, numbers_divided, times_all-divided}

-- ---- lists

common_divisor-times : (k : ℕ) (zs : List ℤ) → common_divisor (times_all k zs) ≡ k * common_divisor zs
common_divisor-times k [] = omega arith
common_divisor-times k (z ∷ zs) =
    ap₂ gcd_of (size z) (common_divisor-times k zs) ∙ gcd_of-mul (unsigned_abs z) (common_divisor zs) k
  where
    size : (z : ℤ) → unsigned_abs (z *ℤ pos k) ≡ k * unsigned_abs z
    size z = omega (arith, unsigned_abs-mul z (pos k))

if_zero : (g : ℕ) → ((g ≡ 0) × ((if g == 0 then 1 else g) ≡ 1)) ⊎ ((0 < g) × ((if g == 0 then 1 else g) ≡ g))
if_zero g = cases (g == 0) refl
  where
    cases : (b : Bool) → (g == 0) ≡ b → ((g ≡ 0) × ((if g == 0 then 1 else g) ≡ 1)) ⊎ ((0 < g) × ((if g == 0 then 1 else g) ≡ g))
    cases true e = inl (eqb-true g 0 e, ap (λ t. if t then 1 else g) e)
    cases false e = inr (omega (arith, eqb-false g 0 e), ap (λ t. if t then 1 else g) e)

zero_or_one : (zs : List ℤ) → row_divisor zs ≡ 1 → (common_divisor zs ≡ 0) ⊎ (common_divisor zs ≡ 1)
zero_or_one zs h = elim (if_zero (common_divisor zs)) [ inl w ↦ inl w.0 | inr w ↦ inr (sym w.1 ∙ h) ]

one_of : (zs : List ℤ) → (common_divisor zs ≡ 0) ⊎ (common_divisor zs ≡ 1) → row_divisor zs ≡ 1
one_of zs h = elim (if_zero (common_divisor zs)) [ inl w ↦ w.1 | inr w ↦ w.1 ∙ elim h [ inl z ↦ absurd (omega (arith, w.0)) | inr o ↦ o ] ]

zeros_times : (k : ℕ) (zs : List ℤ) → DividesAll 0 zs → times_all k zs ≡ zs
zeros_times k [] h = refl
zeros_times k (z ∷ zs) h =
    let none : z ≡ pos 0 = unsigned_abs-zero z (eq-zero_of_zero-dvd h.0) in
    ap₂ {C = List ℤ} (λ y ys. y ∷ ys) (ap (λ y. y *ℤ pos k) none ∙ zero-*ℤ (pos k) ∙ sym none) (zeros_times k zs h.1)

head_of : ℤ → List ℤ → ℤ
head_of d [] = d
head_of d (z ∷ zs) = z

tail_of : List ℤ → List ℤ
tail_of [] = []
tail_of (z ∷ zs) = zs

times_cancel : (k : ℕ) (xs ys : List ℤ) → 0 < k → times_all k xs ≡ times_all k ys → xs ≡ ys
unfolding head_of tail_of
times_cancel k [] [] p h = refl
times_cancel k [] (y ∷ ys) p h = absurd (cc h)
times_cancel k (x ∷ xs) [] p h = absurd (cc h)
times_cancel k (x ∷ xs) (y ∷ ys) p h =
    ap₂ {C = List ℤ} (λ z zs. z ∷ zs) (*ℤ_cancel x y (pos k) (λ e. absurd (omega (arith, ints, e))) (ap (head_of (pos 0)) h)) (times_cancel k xs ys p (ap tail_of h))

pub same_primitive : (a b : ℕ) (xs ys : List ℤ) → 0 < a → 0 < b → row_divisor xs ≡ 1 → row_divisor ys ≡ 1 → times_all a xs ≡ times_all b ys → xs ≡ ys
same_primitive a b xs ys pa pb hx hy same =
    let sizes : a * common_divisor xs ≡ b * common_divisor ys = sym (common_divisor-times a xs) ∙ ap common_divisor same ∙ common_divisor-times b ys in
    elim (zero_or_one xs hx) [
      | inl zx ↦ elim (zero_or_one ys hy) [
        | inl zy ↦ both_zero zx zy
        | inr oy ↦ absurd (omega (arith, sizes, ap (λ n. a * n) zx, ap (λ n. b * n) oy))
      ]
      | inr ox ↦ elim (zero_or_one ys hy) [
        | inl zy ↦ absurd (omega (arith, sizes, ap (λ n. a * n) ox, ap (λ n. b * n) zy))
        | inr oy ↦ both_one (omega (arith, sizes, ap (λ n. a * n) ox, ap (λ n. b * n) oy))
      ]
    ]
  where
    both_zero : common_divisor xs ≡ 0 → common_divisor ys ≡ 0 → xs ≡ ys
    both_zero zx zy =
        sym (zeros_times a xs (subst (λ n. DividesAll n xs) zx (common_divisor-DividesAll xs)))
        ∙ same
        ∙ zeros_times b ys (subst (λ n. DividesAll n ys) zy (common_divisor-DividesAll ys))

    both_one : a ≡ b → xs ≡ ys
    both_one e = times_cancel b xs ys pb (ap (λ n. times_all n xs) (sym e) ∙ same)

divided_primitive : (zs : List ℤ) → row_divisor (numbers_divided (row_divisor zs) zs) ≡ 1
divided_primitive zs =
    let g : ℕ = row_divisor zs in
    let ds : List ℤ = numbers_divided g zs in
    let whole : times_all g ds ≡ zs = times_all-divided g zs (row_divisor-is zs).1 in
    let sizes : g * common_divisor ds ≡ common_divisor zs = sym (common_divisor-times g ds) ∙ ap common_divisor whole in
    one_of ds (elim (if_zero (common_divisor zs)) [
      | inl w ↦ inl (omega (arith, sizes, w.0, ap (λ n. n * common_divisor ds) w.1))
      | inr w ↦ inr (only_one g (common_divisor ds) (omega (arith, w.0, w.1)) (sizes ∙ sym w.1))
    ])
  where
    only_one : (g d : ℕ) → 0 < g → g * d ≡ g → d ≡ 1
    only_one g zero p h = absurd (omega arith)
    only_one g (suc zero) p h = refl
    only_one g (suc (suc d)) p h = absurd (omega (arith, times_more g d))
      where
        times_more : (g d : ℕ) → g * suc (suc d) ≡ g + g + g * d
        times_more g d = omega arith

map_divided : (g : ℕ) (zs : List ℤ) → map (λ z. int_div z (pos g)) zs ≡ numbers_divided g zs
map_divided g [] = refl
map_divided g (z ∷ zs) = ap {B = List ℤ} (λ ys. int_div z (pos g) ∷ ys) (map_divided g zs)

-- ---- lines

pub lowest_line-IsPrimitive : (line : Line) → IsPrimitive (lowest_line line)
lowest_line-IsPrimitive line =
    ap {B = ℕ} (λ zs. row_divisor (int_div line.right (pos (row_divisor (numbers_of line))) ∷ int_div line.own (pos (row_divisor (numbers_of line))) ∷ zs)) (map_divided (row_divisor (numbers_of line)) line.entries)
    ∙ divided_primitive (numbers_of line)

pub cleared-IsPrimitive : (c : ℕ) (pivot line : Line) → IsPrimitive line → IsPrimitive (cleared c pivot line)
cleared-IsPrimitive c pivot line h = cases (is_zero (entry_of line c))
  where
    cases : (t : Bool) → IsPrimitive (if t then line else lowest_line (line_less (factor_of (entry_of pivot c) (entry_of line c)) (factor_of (entry_of line c) (entry_of pivot c)) line pivot))
    cases true = h
    cases false = lowest_line-IsPrimitive (line_less (factor_of (entry_of pivot c) (entry_of line c)) (factor_of (entry_of line c) (entry_of pivot c)) line pivot)

common_divisor-neg : (zs : List ℤ) → common_divisor (map neg_ℤ zs) ≡ common_divisor zs
common_divisor-neg [] = refl
common_divisor-neg (z ∷ zs) = ap₂ gcd_of (unsigned_abs-neg_ℤ z) (common_divisor-neg zs)

pub negated_line-IsPrimitive : (line : Line) → IsPrimitive line → IsPrimitive (negated_line line)
negated_line-IsPrimitive line h = ap (λ n. if n == 0 then 1 else n) (common_divisor-neg (numbers_of line)) ∙ h

-- two lines, the first times a the second times b, number by number
pub record AreProportional (x y : Line) : Type 0 where
  pub first : ℤ
  pub second : ℤ
  pub first_pos : pos 0 <ℤ first
  pub second_pos : pos 0 <ℤ second
  pub entries : (c : ℕ) → entry_of x c *ℤ first ≡ entry_of y c *ℤ second
  pub right : x.right *ℤ first ≡ y.right *ℤ second
  pub own : x.own *ℤ first ≡ y.own *ℤ second

times_same : (a b : ℕ) (xs ys : List ℤ) → length xs ≡ length ys → ((c : ℕ) → get_or xs c (pos 0) *ℤ pos a ≡ get_or ys c (pos 0) *ℤ pos b) → times_all a xs ≡ times_all b ys
times_same a b [] [] h f = refl
times_same a b [] (y ∷ ys) h f = absurd (omega arith)
times_same a b (x ∷ xs) [] h f = absurd (omega arith)
times_same a b (x ∷ xs) (y ∷ ys) h f = ap₂ {C = List ℤ} (λ z zs. z ∷ zs) (f 0) (times_same a b xs ys (omega arith) (λ c. f (suc c)))

same_numbers : (x y : Line) → numbers_of x ≡ numbers_of y → x ≡ y
unfolding head_of tail_of
same_numbers x y h =
    let right : x.right ≡ y.right = ap (head_of (pos 0)) h in
    let own : x.own ≡ y.own = ap (λ zs. head_of (pos 0) (tail_of zs)) h in
    let entries : x.entries ≡ y.entries = ap (λ zs. tail_of (tail_of zs)) h in
    built x.entries y.entries x.right y.right x.own y.own entries right own
  where
    built : (es fs : List ℤ) (r s o p : ℤ) → es ≡ fs → r ≡ s → o ≡ p → ◌≡◌ {A = Line} (record { entries = es; right = r; own = o }) (record { entries = fs; right = s; own = p })
    built es fs r s o p e f g = ap₂ {C = Line} (λ a b. record { entries = a; right = b; own = o }) e f ∙ ap {B = Line} (λ c. record { entries = fs; right = s; own = c }) g

pub same_lines : (x y : Line) → length x.entries ≡ length y.entries → IsPrimitive x → IsPrimitive y → AreProportional x y → x ≡ y
same_lines x y len hx hy p =
    let a : ℕ = unsigned_abs p.first in
    let b : ℕ = unsigned_abs p.second in
    let pa : pos a ≡ p.first = pos-unsigned_abs p.first (omega (arith, ints, p.first_pos)) in
    let pb : pos b ≡ p.second = pos-unsigned_abs p.second (omega (arith, ints, p.second_pos)) in
    let scaled : (s t : ℤ) → s *ℤ p.first ≡ t *ℤ p.second → s *ℤ pos a ≡ t *ℤ pos b = λ s t e. ap (λ k. s *ℤ k) pa ∙ e ∙ ap (λ k. t *ℤ k) (sym pb) in
    same_numbers x y (same_primitive a b (numbers_of x) (numbers_of y) (unsigned_abs_pos p.first (nonzero_of_pos p.first p.first_pos)) (unsigned_abs_pos p.second (nonzero_of_pos p.second p.second_pos)) hx hy
    (ap₂ {C = List ℤ} (λ r o. r ∷ o ∷ times_all a x.entries) (scaled x.right y.right p.right) (scaled x.own y.own p.own)
    ∙ ap {B = List ℤ} (λ es. (y.right *ℤ pos b) ∷ (y.own *ℤ pos b) ∷ es) (times_same a b x.entries y.entries len (λ c. scaled (entry_of x c) (entry_of y c) (p.entries c)))))

-- Values and multipliers as whole numbers over common denominators.
use Rattle.row_problem.proofs.Common.{◌≡◌, ℕ, zero, suc, ◌*◌, ◌<◌, ℤ, pos, ◌*ℤ◌, true, List, [], ◌∷◌, map, refl, sym, ap, ◌∙◌, subst, inl, inr, arith, if◌then◌else◌, ◌<ℤ◌, unsigned_abs, Some, is_eq, ints, Rational, value_of, Frac, *ℤ_pos, pos-unsigned_abs, *ℤ_comm, RowName, Var, AreOver, value_at, ascends, keys_of, row_name_cmp, var_cmp, or_zero, value_in, IsOver, ascends-tail, IsOver-multiplied, IsOver-own, Has, AreOverFrom, ValuesAreOver, AreMultipliersOver, itself, var_cmp_total, Values, Multipliers}
use Rattle.row_problem.proofs.SameLists.{first-before}

-- ---- a list of fractions

-- whole numbers over a positive one
pub record IsOverSome (numbers : List Rational) : Type 0 where
  pub over : ℕ
  pub number : ℕ → ℤ
  pub positive : 0 < over
  pub each : AreOverFrom (pos over) number 0 numbers

over-shifted : (d : ℤ) (y : ℕ → ℤ) (i : ℕ) (rs : List Rational) → AreOverFrom d (λ k. y (suc k)) i rs → AreOverFrom d y (suc i) rs
over-shifted d y i [] h = tt
over-shifted d y i (r ∷ rs) h = (h.0, over-shifted d y (suc i) rs h.1)

pub over-multiplied : (k d : ℤ) (y : ℕ → ℤ) (i : ℕ) (rs : List Rational) → AreOverFrom d y i rs → AreOverFrom (k *ℤ d) (λ j. k *ℤ y j) i rs
over-multiplied k d y i [] h = tt
over-multiplied k d y i (r ∷ rs) h = (IsOver-multiplied k d r (y i) h.0, over-multiplied k d y (suc i) rs h.1)

-- one number more in front
abbrev number_after : ℤ → (ℕ → ℤ) → ℕ → ℤ
number_after z y zero = z
number_after z y (suc k) = y k

pub product-positive : (a : ℤ) (n : ℕ) → pos 0 <ℤ a → 0 < n → 0 < unsigned_abs (a *ℤ pos n)
product-positive a n h k = let both = *ℤ_pos a (pos n) h (omega (arith, ints)) in omega (arith, ints)

pub product-same : (a : ℤ) (n : ℕ) → pos 0 <ℤ a → 0 < n → pos (unsigned_abs (a *ℤ pos n)) ≡ a *ℤ pos n
product-same a n h k = let both = *ℤ_pos a (pos n) h (omega (arith, ints)) in pos-unsigned_abs (a *ℤ pos n) (omega (arith, ints))

pub some-over : (fs : List Frac) → IsOverSome (map value_of fs)
some-over [] = record { over = 1; number = λ k. pos 0; positive = omega arith; each = tt }
some-over (f ∷ fs) = with_first (some-over fs)
  where
    with_first : IsOverSome (map value_of fs) → IsOverSome (map value_of (f ∷ fs))
    with_first rest =
        let s : ℤ = f.den *ℤ pos rest.over in
        let y : ℕ → ℤ = number_after (pos rest.over *ℤ f.num) (λ j. f.den *ℤ rest.number j) in
        let here : IsOver s (value_of f) (y 0) = subst (λ t. IsOver t (value_of f) (pos rest.over *ℤ f.num)) (*ℤ_comm (pos rest.over) f.den) (IsOver-multiplied (pos rest.over) f.den (value_of f) f.num (IsOver-own (value_of f) f.positive)) in
        let later : AreOverFrom s y 1 (map value_of fs) = over-shifted s y 0 (map value_of fs) (over-multiplied f.den (pos rest.over) rest.number 0 (map value_of fs) rest.each) in
        record {
          over = unsigned_abs s;
          number = y;
          positive = product-positive f.den rest.over f.positive rest.positive;
          each = subst (λ t. AreOverFrom t y 0 (map value_of (f ∷ fs))) (sym (product-same f.den rest.over f.positive rest.positive)) (here, later);
        }

-- ---- multipliers of rows, over some number of times theirs

pub multipliers-more : (k : ℕ) (s : ℕ) (y : RowName → ℤ) (multipliers : Multipliers) → 0 < k → AreMultipliersOver s y multipliers → AreMultipliersOver (k * s) (λ name. pos k *ℤ y name) multipliers
multipliers-more k s y multipliers h over = (
  more k s h over.0,
  λ name. IsOver-multiplied (pos k) (pos s) (value_in row_name_cmp multipliers name) (y name) (over.1 name),
)
  where
    more : (a b : ℕ) → 0 < a → 0 < b → 0 < a * b
    more a b h k = let both = *ℤ_pos (pos a) (pos b) (omega (arith, ints)) (omega (arith, ints)) in omega (arith, ints, both)

-- ---- values by variable

-- each value of an ascending list is the one at its variable
pub values-listed : (values : Values) (q : ℤ) (x : Var → ℤ) → ascends var_cmp (keys_of values) ≡ true → AreOver q x (value_in var_cmp values) → ValuesAreOver q x values
values-listed values q x up over = by_value values (value_in var_cmp values) up over (λ v. refl_at v)
  where
    refl_at : (v : Var) → Has (keys_of values) v → value_in var_cmp values v ≡ value_in var_cmp values v
    refl_at v h = refl

    first-is : (e : Var × Rational) (es : Values) → value_in var_cmp (e ∷ es) e.0 ≡ e.1
    first-is e es = ap (λ o. or_zero (if is_eq o then Some e.1 else value_at var_cmp es e.0)) (itself e.0)

    later-is : (e : Var × Rational) (es : Values) (v : Var) → ascends var_cmp (keys_of (e ∷ es)) ≡ true → Has (keys_of es) v → value_in var_cmp (e ∷ es) v ≡ value_in var_cmp es v
    later-is e es v up h = ap (λ o. or_zero (if is_eq o then Some e.1 else value_at var_cmp es v)) (first-before var_cmp var_cmp_total e.0 (keys_of es) v up h)

    by_value : (es : Values) (value : Var → Rational) → ascends var_cmp (keys_of es) ≡ true → AreOver q x value → ((v : Var) → Has (keys_of es) v → value v ≡ value_in var_cmp es v) → ValuesAreOver q x es
    by_value [] value up over same = tt
    by_value (e ∷ es) value up over same = (
      subst (λ r. IsOver q r (x e.0)) (same e.0 (inl refl) ∙ first-is e es) (over e.0),
      by_value es value (ascends-tail var_cmp e.0 (keys_of es) up) over (λ v h. same v (inr h) ∙ later-is e es v up h),
    )

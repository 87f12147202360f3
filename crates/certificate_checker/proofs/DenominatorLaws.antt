-- Values of a list are whole numbers over one denominator.
use Rattle.certificate_checker.proofs.Common.{◌≡◌, ℕ, ◌*◌, ◌<◌, ℤ, pos, ◌*ℤ◌, Bool, true, false, List, [], ◌∷◌, map, refl, sym, subst, arith, if◌then◌else◌, AllByRecursion, is_eq, Ordering, ints, Rational, whole, value_of, Frac, *ℤ_pos, pos-unsigned_abs, products, valued, or_zero, value_in, IsOver, AreOverSome, HasPositiveBottom, IsOver-multiplied, IsOver-own, IsOver-zero}
use Rattle.std.specs.Prelude.{◌<ℤ◌, unsigned_abs, Some}
use Rattle.row_core.specs.LookUps.{value_at}

-- one value more: its own denominator times the others
abbrev number_with : {K : Type 0} → (K → K → Ordering) → K × Rational → ℤ → (K → ℤ) → K → ℤ
number_with cmp e s number k = if is_eq (cmp e.0 k) then s *ℤ e.1.top else e.1.bottom *ℤ number k

swapped : (a b : ℤ) → a *ℤ b ≡ b *ℤ a
swapped a b = simp products

positive_product : (den : ℤ) (s : ℕ) → pos 0 <ℤ den → 0 < s → 0 < unsigned_abs (den *ℤ pos s)
positive_product den s h k = let both = *ℤ_pos den (pos s) h (omega (arith, ints)) in omega (arith, ints)

same_product : (den : ℤ) (s : ℕ) → pos 0 <ℤ den → 0 < s → pos (unsigned_abs (den *ℤ pos s)) ≡ den *ℤ pos s
same_product den s h k = let both = *ℤ_pos den (pos s) h (omega (arith, ints)) in pos-unsigned_abs (den *ℤ pos s) (omega (arith, ints))

pub some_denominator_of : {K : Type 0} (cmp : K → K → Ordering) (es : List (K × Rational)) → AllByRecursion HasPositiveBottom es → AreOverSome cmp es
some_denominator_of cmp [] positive = record { over = 1; number = λ k. pos 0; positive = omega arith; each = λ k. IsOver-zero (pos 1) }
some_denominator_of {K} cmp (e ∷ es) positive = with_first (some_denominator_of cmp es positive.1)
  where
    with_first : AreOverSome cmp es → AreOverSome cmp (e ∷ es)
    with_first rest =
        let s : ℤ = e.1.bottom *ℤ pos rest.over in
        let here : (k : K) (b : Bool) → IsOver s (or_zero (if b then Some e.1 else value_at cmp es k)) (if b then pos rest.over *ℤ e.1.top else e.1.bottom *ℤ rest.number k)
        = λ k b. elim b as (λ b. IsOver s (or_zero (if b then Some e.1 else value_at cmp es k)) (if b then pos rest.over *ℤ e.1.top else e.1.bottom *ℤ rest.number k)) [
          | true ↦ subst (λ t. IsOver t e.1 (pos rest.over *ℤ e.1.top)) (swapped (pos rest.over) e.1.bottom) (IsOver-multiplied (pos rest.over) e.1.bottom e.1 e.1.top (IsOver-own e.1 positive.0))
          | false ↦ IsOver-multiplied e.1.bottom (pos rest.over) (value_in cmp es k) (rest.number k) (rest.each k)
        ] in
        record {
          over = unsigned_abs s;
          number = number_with cmp e (pos rest.over) rest.number;
          positive = positive_product e.1.bottom rest.over positive.0 rest.positive;
          each = λ k. subst (λ t. IsOver t (value_in cmp (e ∷ es) k) (number_with cmp e (pos rest.over) rest.number k)) (sym (same_product e.1.bottom rest.over positive.0 rest.positive)) (here k (is_eq (cmp e.0 k)));
        }

all_positive : {K : Type 0} (es : List (K × Frac)) → AllByRecursion HasPositiveBottom (map valued es)
all_positive [] = tt
all_positive (e ∷ es) = (e.1.positive, all_positive es)

-- fractions have positive denominators
pub some_denominator : {K : Type 0} (cmp : K → K → Ordering) (es : List (K × Frac)) → AreOverSome cmp (map valued es)
some_denominator cmp es = some_denominator_of cmp (map valued es) (all_positive es)

-- Variables, alike and apart.
use Rattle.variable_elimination.proofs.Common.{◌≡◌, ℤ, pos, ◌+ℤ◌, Bool, true, false, List, [], ◌∷◌, refl, ap, ap₂, ◌∙◌, if◌then◌else◌, is_eq, ordering_reverse, Ordering, *ℤ-zero, Var, var_cmp, row_sum, alone, var_cmp_exact, var_cmp_total, is_among, avoids}
use Rattle.std.specs.declared.cmp.Ordering.TheVariants.{Less, Equal as Alike, Greater}
use Rattle.variable_elimination.proofs.LiftLaws.{alike, row_sum-avoids}

-- a variable compares alike with itself
pub itself : (v : Var) → var_cmp v v ≡ Alike
itself v = turned (var_cmp v v) (var_cmp_total.antisymm v v)
  where
    turned : (o : Ordering) → o ≡ ordering_reverse o → o ≡ Alike
    turned Less h = absurd (cc h)
    turned Alike h = refl
    turned Greater h = absurd (cc h)

-- two variables compare alike either way
pub turned : (v w : Var) → is_eq (var_cmp v w) ≡ is_eq (var_cmp w v)
turned v w = ap is_eq (var_cmp_total.antisymm v w) ∙ back (var_cmp w v)
  where
    back : (o : Ordering) → is_eq (ordering_reverse o) ≡ is_eq o
    back Less = refl
    back Alike = refl
    back Greater = refl

-- 1 at v is 0 at every variable that isn't among those among which v is
alone-apart : (vars : List Var) (v w : Var) → is_among vars v ≡ true → is_among vars w ≡ false → alone v w ≡ pos 0
alone-apart vars v w h k = cases (is_eq (var_cmp w v)) refl
  where
    cases : (t : Bool) → is_eq (var_cmp w v) ≡ t → (if t then pos 1 else pos 0) ≡ pos 0
    cases true is = let same : w ≡ v = var_cmp_exact w v (alike (var_cmp w v) is) in let there : is_among vars w ≡ true = ap (is_among vars) same ∙ h in absurd (cc (there, k))
    cases false is = refl

row_sum-zero : (es : List (Var × ℤ)) → row_sum (λ v. pos 0) es ≡ pos 0
row_sum-zero [] = refl
row_sum-zero (e ∷ es) = ap₂ (λ y z. y +ℤ z) (*ℤ-zero e.1) (row_sum-zero es)

pub none_there : (vars : List Var) (v : Var) (es : List (Var × ℤ)) → avoids vars es ≡ true → is_among vars v ≡ true → row_sum (alone v) es ≡ pos 0
none_there vars v es h k = row_sum-avoids (alone v) (λ w. pos 0) vars es h (λ w l. alone-apart vars v w k l) ∙ row_sum-zero es

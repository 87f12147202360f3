-- Sums that are linear in the numbers of variables: where one is 0 at each variable of a list, it doesn't depend on these.
use Rattle.variable_elimination.proofs.Common.{◌≡◌, ℤ, pos, ◌+ℤ◌, ◌*ℤ◌, Bool, true, false, ◌||◌, List, [], ◌∷◌, ◌++◌, map, refl, sym, ap, ap₂, ◌∙◌, if◌then◌else◌, is_eq, ring, zero-*ℤ, *ℤ-zero, zero-+ℤ, Var, var_cmp, row_sum, alone, is_among, other_entries}
use Rattle.row_core.proofs.PlanLaws.{row_sum-same, row_sum-append}
use Rattle.variable_elimination.proofs.LiftLaws.{row_sum-times}
use Rattle.variable_elimination.proofs.LiftedLaws.{split}
use Rattle.variable_elimination.proofs.VariableLaws.{itself}

-- the sum of some entries
pub record IsLinear (f : (Var → ℤ) → ℤ) : Type 0 where
  pub entries : List (Var × ℤ)
  pub is : (x : Var → ℤ) → f x ≡ row_sum x entries

-- ---- how they are made

pub linear-row : (es : List (Var × ℤ)) → IsLinear (λ x. row_sum x es)
linear-row es = record { entries = es; is = λ x. refl }

pub linear-zero : IsLinear (λ x. pos 0)
linear-zero = record { entries = []; is = λ x. refl }

pub linear-plus : (f g : (Var → ℤ) → ℤ) → IsLinear f → IsLinear g → IsLinear (λ x. f x +ℤ g x)
linear-plus f g a b = record {
  entries = a.entries ++ b.entries;
  is = λ x. ap₂ (λ y z. y +ℤ z) (a.is x) (b.is x) ∙ sym (row_sum-append x a.entries b.entries);
}

abbrev times_entry : ℤ → Var × ℤ → Var × ℤ
times_entry k e = (e.0, k *ℤ e.1)

row_sum-times_each : (k : ℤ) (x : Var → ℤ) (es : List (Var × ℤ)) → row_sum x (map (times_entry k) es) ≡ k *ℤ row_sum x es
row_sum-times_each k x [] = sym (*ℤ-zero k)
row_sum-times_each k x (e ∷ es) = ap (λ z. ((k *ℤ e.1) *ℤ x e.0) +ℤ z) (row_sum-times_each k x es) ∙ out k e.1 (x e.0) (row_sum x es)
  where
    out : (k n y s : ℤ) → ((k *ℤ n) *ℤ y) +ℤ (k *ℤ s) ≡ k *ℤ ((n *ℤ y) +ℤ s)
    out k n y s = simp ring

pub linear-times : (k : ℤ) (f : (Var → ℤ) → ℤ) → IsLinear f → IsLinear (λ x. k *ℤ f x)
linear-times k f a = record {
  entries = map (times_entry k) a.entries;
  is = λ x. ap (λ z. k *ℤ z) (a.is x) ∙ sym (row_sum-times_each k x a.entries);
}

-- ---- what they are

pub linear-homogeneous : (f : (Var → ℤ) → ℤ) → IsLinear f → (t : ℤ) (x : Var → ℤ) → f (λ v. t *ℤ x v) ≡ t *ℤ f x
linear-homogeneous f a t x = a.is (λ v. t *ℤ x v) ∙ row_sum-times t x a.entries ∙ ap (λ z. t *ℤ z) (sym (a.is x))

row_sum-zero : (es : List (Var × ℤ)) → row_sum (λ v. pos 0) es ≡ pos 0
row_sum-zero [] = refl
row_sum-zero (e ∷ es) = ap₂ (λ y z. y +ℤ z) (*ℤ-zero e.1) (row_sum-zero es)

pub linear-nothing : (f : (Var → ℤ) → ℤ) → IsLinear f → f (λ v. pos 0) ≡ pos 0
linear-nothing f a = a.is (λ v. pos 0) ∙ row_sum-zero a.entries

-- the other entries of a variable don't depend on it
apart-same : (v : Var) (es : List (Var × ℤ)) (x y : Var → ℤ) → ((w : Var) → is_eq (var_cmp w v) ≡ false → x w ≡ y w) → row_sum x (other_entries var_cmp v es) ≡ row_sum y (other_entries var_cmp v es)
apart-same v [] x y h = refl
apart-same v (e ∷ es) x y h = cases (is_eq (var_cmp e.0 v)) refl (apart-same v es x y h)
  where
    cases : (t : Bool) → is_eq (var_cmp e.0 v) ≡ t → row_sum x (other_entries var_cmp v es) ≡ row_sum y (other_entries var_cmp v es)
        → row_sum x (if t then other_entries var_cmp v es else (e ∷ other_entries var_cmp v es)) ≡ row_sum y (if t then other_entries var_cmp v es else (e ∷ other_entries var_cmp v es))
    cases true is rest = rest
    cases false is rest = ap₂ (λ a b. (e.1 *ℤ a) +ℤ b) (h e.0 is) rest

or_true : (a : Bool) → (a || true) ≡ true
or_true true = refl
or_true false = refl

depends : (vars : List Var) (es : List (Var × ℤ)) (x y : Var → ℤ) → ((w : Var) → is_among vars w ≡ true → row_sum (alone w) es ≡ pos 0) → ((w : Var) → is_among vars w ≡ false → x w ≡ y w) → row_sum x es ≡ row_sum y es
depends [] es x y none agree = row_sum-same x y es (λ w. agree w refl)
depends (v ∷ vars) es x y none agree =
    dropped x
    ∙ depends vars (other_entries var_cmp v es) x between (λ w h. sym (dropped (alone w)) ∙ none w (ap (λ t. is_eq (var_cmp w v) || t) h ∙ or_true (is_eq (var_cmp w v)))) (λ w h. near w h (is_eq (var_cmp w v)) refl)
    ∙ apart-same v es between y (λ w h. ap (λ t. if t then x w else y w) h)
    ∙ sym (dropped y)
  where
    between : Var → ℤ
    between w = if is_eq (var_cmp w v) then x w else y w

    near : (w : Var) → is_among vars w ≡ false → (t : Bool) → is_eq (var_cmp w v) ≡ t → x w ≡ (if t then x w else y w)
    near w h true is = refl
    near w h false is = agree w (ap₂ (λ a b. a || b) is h)

    dropped : (z : Var → ℤ) → row_sum z es ≡ row_sum z (other_entries var_cmp v es)
    dropped z =
        split z v es
        ∙ ap (λ n. (n *ℤ z v) +ℤ row_sum z (other_entries var_cmp v es)) (none v (ap (λ o. is_eq o || is_among vars v) (itself v)))
        ∙ ap (λ n. n +ℤ row_sum z (other_entries var_cmp v es)) (zero-*ℤ (z v))
        ∙ zero-+ℤ (row_sum z (other_entries var_cmp v es))

pub linear-depends : (vars : List Var) (f : (Var → ℤ) → ℤ) → IsLinear f → ((w : Var) → is_among vars w ≡ true → f (alone w) ≡ pos 0) → (x y : Var → ℤ) → ((w : Var) → is_among vars w ≡ false → x w ≡ y w) → f x ≡ f y
linear-depends vars f a none x y agree = a.is x ∙ depends vars a.entries x y (λ w h. sym (a.is (alone w)) ∙ none w h) agree ∙ sym (a.is y)

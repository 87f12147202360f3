-- Variables in ascending order, and sums over them, column by column.
use Rattle.written_method.proofs.Common.{◌≡◌, ℕ, suc, ◌+◌, ℤ, pos, neg_ℤ, ◌+ℤ◌, ◌-ℤ◌, ◌*ℤ◌, Bool, true, false, List, [], ◌∷◌, ◌++◌, arith, refl, sym, ap, ap₂, ◌∙◌, subst, inl, inr, if◌then◌else◌, ⊤, is_eq, is_lt, Ordering, ints, minus-is_plus, ring, zero-*ℤ, *ℤ-zero, Var, ascends, keys_of, var_cmp, number_at, row_sum, IsOver, IsOver-agree, IsOver-plus, IsOver-negated, ValuesAreOver, by_column, width_of, sum_from, is_split, IsAmong, AreAmong, by_variable}
use Rattle.std.specs.Cmp.Derive.{both_true}
use Rattle.std.specs.declared.cmp.Ordering.TheVariants.{Less, Equal, Greater}
use Rattle.exact_num.specs.Rational.{Rational, minus, negated, plus}
use Rattle.row_core.proofs.AscendingLaws.{ascends-tail, ascends-skip, both_passed, Less-from_test}
use Rattle.row_core.proofs.Orders.{var_cmp_total, var_cmp_exact}
use Rattle.row_core.proofs.TermLaws.{same_alike}
use Rattle.written_method.proofs.PivotLaws.{minus-is}

-- ---- the order

not_less : (v w : Var) → v ≡ w → var_cmp v w ≡ Less → ⊥
not_less v w e h = cc (sym h ∙ same_alike v w e)

is_eq-fact : (o : Ordering) → is_eq o ≡ true → o ≡ Equal
is_eq-fact Less h = absurd (cc h)
is_eq-fact Equal h = refl
is_eq-fact Greater h = absurd (cc h)

pub same_var : (v w : Var) → is_eq (var_cmp v w) ≡ true → v ≡ w
same_var v w h = var_cmp_exact v w (is_eq-fact (var_cmp v w) h)

pub apart_back : (v w : Var) → var_cmp v w ≡ Less → is_eq (var_cmp w v) ≡ false
apart_back v w h = pick (is_eq (var_cmp w v)) refl
  where
    pick : (t : Bool) → is_eq (var_cmp w v) ≡ t → t ≡ false
    pick true e = absurd (not_less v w (sym (same_var w v e)) h)
    pick false e = refl

-- v is before each of the list
abbrev pub AreAfter : Var → List Var → Type 0
AreAfter v [] = ⊤
AreAfter v (w ∷ ws) = (var_cmp v w ≡ Less) × AreAfter v ws

pub ascends-AreAfter : (v : Var) (ws : List Var) → ascends var_cmp (v ∷ ws) ≡ true → AreAfter v ws
ascends-AreAfter v [] h = tt
ascends-AreAfter v (w ∷ ws) h =
    let parts = both_passed (is_lt (var_cmp v w)) (ascends var_cmp (w ∷ ws)) h in
    (Less-from_test (var_cmp v w) parts.0, ascends-AreAfter v ws (ascends-skip var_cmp var_cmp_total v w ws h))

pub number_at-after : (v : Var) (es : List (Var × ℤ)) → AreAfter v (keys_of es) → number_at es v ≡ pos 0
number_at-after v [] h = refl
number_at-after v (e ∷ es) h = ap (λ t. if t then e.1 else number_at es v) (apart_back v e.0 h.0) ∙ number_at-after v es h.1

pub AreAmong-after : (v : Var) (vs : List Var) (es : List (Var × ℤ)) → AreAmong (v ∷ vs) es → AreAfter v (keys_of es) → AreAmong vs es
AreAmong-after v vs [] a h = tt
AreAmong-after v vs (e ∷ es) a h = (elim a.0 [ inl q ↦ absurd (not_less v e.0 (sym q) h.0) | inr r ↦ r ], AreAmong-after v vs es a.1 h.1)

among-after : (v : Var) (ws : List Var) (x : Var) → AreAfter v ws → IsAmong x ws → var_cmp v x ≡ Less
among-after v [] x h q = absurd q
among-after v (w ∷ ws) x h q = elim q [ inl s ↦ ap (λ y. var_cmp v y) s ∙ h.0 | inr r ↦ among-after v ws x h.1 r ]

-- ---- sums

-- the sum over variables of a number times a value
pub variable_sum : (Var → ℤ) → List Var → (Var → ℤ) → ℤ
variable_sum f [] x = pos 0
variable_sum f (v ∷ vs) x = (f v *ℤ x v) +ℤ variable_sum f vs x

variable_sum-after : (v : Var) (f g : Var → ℤ) (vs : List Var) (x : Var → ℤ) → AreAfter v vs → ((w : Var) → var_cmp v w ≡ Less → f w ≡ g w) → variable_sum f vs x ≡ variable_sum g vs x
unfolding variable_sum
variable_sum-after v f g [] x h same = refl
variable_sum-after v f g (w ∷ ws) x h same = ap₂ (λ z s. (z *ℤ x w) +ℤ s) (same w h.0) (variable_sum-after v f g ws x h.1 same)

variable_sum-zero : (vs : List Var) (x : Var → ℤ) → variable_sum (λ v. pos 0) vs x ≡ pos 0
unfolding variable_sum
variable_sum-zero [] x = refl
variable_sum-zero (v ∷ vs) x = ap₂ ◌+ℤ◌ (zero-*ℤ (x v)) (variable_sum-zero vs x)

pub variable_sum-negated : (f : Var → ℤ) (vs : List Var) (x : Var → ℤ) → variable_sum (λ v. neg_ℤ (f v)) vs x ≡ neg_ℤ (variable_sum f vs x)
unfolding variable_sum
variable_sum-negated f [] x = refl
variable_sum-negated f (v ∷ vs) x = ap (λ s. (neg_ℤ (f v) *ℤ x v) +ℤ s) (variable_sum-negated f vs x) ∙ out (f v) (x v) (variable_sum f vs x)
  where
    out : (z u s : ℤ) → (neg_ℤ z *ℤ u) +ℤ neg_ℤ s ≡ neg_ℤ ((z *ℤ u) +ℤ s)
    out z u s = simp ring

-- over all variables the numbers of entries have the sum of the entries
pub variable_sum-entries : (vs : List Var) (es : List (Var × ℤ)) (x : Var → ℤ) → ascends var_cmp vs ≡ true → ascends var_cmp (keys_of es) ≡ true → AreAmong vs es → variable_sum (number_at es) vs x ≡ row_sum x es
unfolding variable_sum
variable_sum-entries [] [] x a b m = refl
variable_sum-entries [] (e ∷ es) x a b m = absurd m.0
variable_sum-entries (v ∷ vs) [] x a b m = ap₂ ◌+ℤ◌ (zero-*ℤ (x v)) (variable_sum-zero vs x)
variable_sum-entries (v ∷ vs) (e ∷ es) x a b m =
    cases (is_eq (var_cmp v e.0)) refl (λ inside. variable_sum-entries vs es x (ascends-tail var_cmp v vs a) (ascends-tail var_cmp e.0 (keys_of es) b) inside) (λ inside. variable_sum-entries vs (e ∷ es) x (ascends-tail var_cmp v vs a) b inside)
  where
    here : v ≡ e.0 → variable_sum (number_at es) vs x ≡ row_sum x es → (number_at (e ∷ es) v *ℤ x v) +ℤ variable_sum (number_at (e ∷ es)) vs x ≡ (e.1 *ℤ x e.0) +ℤ row_sum x es
    here same later =
        let number : number_at (e ∷ es) v ≡ e.1 = ap (λ u. if u then e.1 else number_at es v) (ap is_eq (same_alike e.0 v (sym same))) in
        let tail : variable_sum (number_at (e ∷ es)) vs x ≡ variable_sum (number_at es) vs x =
        variable_sum-after v (number_at (e ∷ es)) (number_at es) vs x (ascends-AreAfter v vs a) (λ u less. ap (λ q. if q then e.1 else number_at es u) (ap is_eq (ap (λ w. var_cmp w u) (sym same) ∙ less))) in
        ap₂ (λ z s. (z *ℤ x v) +ℤ s) number (tail ∙ later) ∙ ap (λ u. (e.1 *ℤ x u) +ℤ row_sum x es) same

    gone : AreAfter v (keys_of (e ∷ es)) → variable_sum (number_at (e ∷ es)) vs x ≡ row_sum x (e ∷ es) → (number_at (e ∷ es) v *ℤ x v) +ℤ variable_sum (number_at (e ∷ es)) vs x ≡ row_sum x (e ∷ es)
    gone after later = ap₂ (λ z s. (z *ℤ x v) +ℤ s) (number_at-after v (e ∷ es) after) later ∙ nothing (x v) (row_sum x (e ∷ es))
      where
        nothing : (u s : ℤ) → (pos 0 *ℤ u) +ℤ s ≡ s
        nothing u s = ap (λ z. z +ℤ s) (zero-*ℤ u) ∙ omega (arith, ints)

    after_first : is_eq (var_cmp v e.0) ≡ false → AreAfter v (keys_of (e ∷ es))
    after_first t =
        let first : var_cmp v e.0 ≡ Less = elim m.0 [ inl q ↦ absurd (cc (t, ap is_eq (same_alike v e.0 (sym q)))) | inr r ↦ among-after v vs e.0 (ascends-AreAfter v vs a) r ] in
        ascends-AreAfter v (keys_of (e ∷ es)) (both_true (ap is_lt first) b)

    cases : (t : Bool) → is_eq (var_cmp v e.0) ≡ t → (AreAmong vs es → variable_sum (number_at es) vs x ≡ row_sum x es) → (AreAmong vs (e ∷ es) → variable_sum (number_at (e ∷ es)) vs x ≡ row_sum x (e ∷ es))
        → (number_at (e ∷ es) v *ℤ x v) +ℤ variable_sum (number_at (e ∷ es)) vs x ≡ row_sum x (e ∷ es)
    cases true t ih_rest ih_all =
        let same : v ≡ e.0 = same_var v e.0 t in
        let after : AreAfter v (keys_of es) = subst (λ u. AreAfter u (keys_of es)) (sym same) (ascends-AreAfter e.0 (keys_of es) b) in
        here same (ih_rest (AreAmong-after v vs es m.1 after))
    cases false t ih_rest ih_all = gone (after_first t) (ih_all (AreAmong-after v vs (e ∷ es) m (after_first t)))

-- ---- columns

-- values of variables over q, from those of columns over k
pub IsOver-minus : (s : ℤ) (c e : Rational) (z w : ℤ) → IsOver s c z → IsOver s e w → IsOver s (minus c e) (z -ℤ w)
IsOver-minus s c e z w h k = subst (λ r. IsOver s r (z -ℤ w)) (sym (minus-is_plus c e)) (subst (λ y. IsOver s (plus c (negated e)) y) (sym (minus-is z w)) (IsOver-plus s c (negated e) z (neg_ℤ w) h (IsOver-negated s e w k)))

-- a line's sum over the columns of variables
pub sum_from-columns : (F : Var → ℤ) (f : ℕ → Rational) (c : ℕ) (vs : List Var) (x : Var → ℤ) (column : ℕ → ℤ) (q k : ℤ) (more : List ℤ) → ValuesAreOver q x (by_variable f c vs) → ((d : ℕ) → IsOver k (f d) (column d))
    → (rest : ℤ) → sum_from (c + width_of vs) more column ≡ rest → sum_from c (by_column F vs ++ more) column *ℤ q ≡ (k *ℤ variable_sum F vs x) +ℤ (rest *ℤ q)
unfolding variable_sum
sum_from-columns F f c [] x column q k more w over rest h =
    ap (λ s. s *ℤ q) (ap (λ d. sum_from d more column) (omega arith) ∙ h) ∙ nothing k (rest *ℤ q)
  where
    nothing : (a b : ℤ) → b ≡ (a *ℤ pos 0) +ℤ b
    nothing a b = sym (ap (λ z. z +ℤ b) (*ℤ-zero a) ∙ omega (arith, ints))
sum_from-columns F f c (v ∷ vs) x column q k more w over rest h =
    cases (is_split v) w h (λ u e. sum_from-columns F f (suc (suc c)) vs x column q k more u over rest e) (λ u e. sum_from-columns F f (suc c) vs x column q k more u over rest e)
  where
    Sum : Bool → Type 0
    Sum b = sum_from c ((if b then F v ∷ neg_ℤ (F v) ∷ by_column F vs else F v ∷ by_column F vs) ++ more) column *ℤ q ≡ (k *ℤ ((F v *ℤ x v) +ℤ variable_sum F vs x)) +ℤ (rest *ℤ q)

    one : (u s : ℤ) → x v *ℤ k ≡ u *ℤ q → s *ℤ q ≡ (k *ℤ variable_sum F vs x) +ℤ (rest *ℤ q) → ((F v *ℤ u) +ℤ s) *ℤ q ≡ (k *ℤ ((F v *ℤ x v) +ℤ variable_sum F vs x)) +ℤ (rest *ℤ q)
    one u s e g = split (F v) u s q ∙ ap₂ (λ y z. (F v *ℤ y) +ℤ z) (sym e) g ∙ join (F v) (x v) k (variable_sum F vs x) (rest *ℤ q)
      where
        split : (f u s q : ℤ) → ((f *ℤ u) +ℤ s) *ℤ q ≡ (f *ℤ (u *ℤ q)) +ℤ (s *ℤ q)
        split f u s q = simp ring

        join : (f a k r t : ℤ) → (f *ℤ (a *ℤ k)) +ℤ ((k *ℤ r) +ℤ t) ≡ (k *ℤ ((f *ℤ a) +ℤ r)) +ℤ t
        join f a k r t = simp ring

    cases : (b : Bool) → ValuesAreOver q x (if b then (v, minus (f c) (f (suc c))) ∷ by_variable f (suc (suc c)) vs else (v, f c) ∷ by_variable f (suc c) vs)
        → sum_from (c + (if b then suc (suc (width_of vs)) else suc (width_of vs))) more column ≡ rest
        → (ValuesAreOver q x (by_variable f (suc (suc c)) vs) → sum_from (suc (suc c) + width_of vs) more column ≡ rest → sum_from (suc (suc c)) (by_column F vs ++ more) column *ℤ q ≡ (k *ℤ variable_sum F vs x) +ℤ (rest *ℤ q))
        → (ValuesAreOver q x (by_variable f (suc c) vs) → sum_from (suc c + width_of vs) more column ≡ rest → sum_from (suc c) (by_column F vs ++ more) column *ℤ q ≡ (k *ℤ variable_sum F vs x) +ℤ (rest *ℤ q))
        → Sum b
    cases true u e two single =
        let value : x v *ℤ k ≡ (column c -ℤ column (suc c)) *ℤ q = IsOver-agree q k (minus (f c) (f (suc c))) (x v) (column c -ℤ column (suc c)) u.0 (IsOver-minus k (f c) (f (suc c)) (column c) (column (suc c)) (over c) (over (suc c))) in
        ap (λ z. z *ℤ q) (gather (F v) (column c) (column (suc c)) (sum_from (suc (suc c)) (by_column F vs ++ more) column))
        ∙ one (column c -ℤ column (suc c)) (sum_from (suc (suc c)) (by_column F vs ++ more) column) value (two u.1 (ap (λ d. sum_from d more column) (omega arith) ∙ e))
      where
        gather : (f u w s : ℤ) → (f *ℤ u) +ℤ ((neg_ℤ f *ℤ w) +ℤ s) ≡ (f *ℤ (u -ℤ w)) +ℤ s
        gather f u w s = simp (minus-is, ring)
    cases false u e two single =
        let value : x v *ℤ k ≡ column c *ℤ q = IsOver-agree q k (f c) (x v) (column c) u.0 (over c) in
        one (column c) (sum_from (suc c) (by_column F vs ++ more) column) value (single u.1 (ap (λ d. sum_from d more column) (omega arith) ∙ e))

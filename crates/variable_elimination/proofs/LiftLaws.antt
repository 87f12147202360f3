-- Plans that meet triangular definitions: that there are some, and their signs.
use Rattle.variable_elimination.proofs.Common.{◌≡◌, ℕ, ℤ, pos, neg_ℤ, ◌+ℤ◌, ◌-ℤ◌, ◌*ℤ◌, Bool, true, false, not, ◌&&◌, ◌||◌, List, [], ◌∷◌, refl, sym, ap, ap₂, ◌∙◌, subst, arith, if◌then◌else◌, ◌<ℤ◌, ◌≤ℤ◌, int_le, is_eq, Ordering, ints, nat_tests, *ℤ_pos, *ℤ_nonnegative, *ℤ-≤ℤ, ≤ℤ_cancel, ring, products, zero-*ℤ, *ℤ-zero, one-*ℤ, *ℤ_comm, Var, kind_is_free, var_cmp, row_sum, alone, both_passed, row_sum-alone, var_cmp_exact, is_among, Definition, defined, own_of, avoids, IsDefinition, AreTriangular, excess, AreMet, only_raises, KeepsSign, KeepSigns}
use Rattle.std.specs.declared.cmp.Ordering.TheVariants.{Less, Equal, Greater}

pub minus-is : (a b : ℤ) → a -ℤ b ≡ a +ℤ neg_ℤ b
minus-is a b = omega (arith, ints)

pub alike : (o : Ordering) → is_eq o ≡ true → o ≡ Equal
alike Less h = absurd (cc h)
alike Equal h = refl
alike Greater h = absurd (cc h)

pub from_not : (t : Bool) → not t ≡ true → t ≡ false
from_not true h = absurd (cc h)
from_not false h = refl

pub neither : (a b : Bool) → (a || b) ≡ false → (a ≡ false) × (b ≡ false)
neither true b h = absurd (cc h)
neither false b h = (refl, h)

-- ---- sums

linear_step : (n a f b g s t : ℤ) → (n *ℤ ((a *ℤ f) +ℤ (b *ℤ g))) +ℤ ((a *ℤ s) +ℤ (b *ℤ t)) ≡ (a *ℤ ((n *ℤ f) +ℤ s)) +ℤ (b *ℤ ((n *ℤ g) +ℤ t))
linear_step n a f b g s t = simp ring

pub row_sum-linear : (a b : ℤ) (f g : Var → ℤ) (es : List (Var × ℤ)) → row_sum (λ v. (a *ℤ f v) +ℤ (b *ℤ g v)) es ≡ (a *ℤ row_sum f es) +ℤ (b *ℤ row_sum g es)
row_sum-linear a b f g [] = sym (ap₂ (λ y z. y +ℤ z) (*ℤ-zero a) (*ℤ-zero b))
row_sum-linear a b f g (e ∷ es) =
    ap (λ z. (e.1 *ℤ ((a *ℤ f e.0) +ℤ (b *ℤ g e.0))) +ℤ z) (row_sum-linear a b f g es)
    ∙ linear_step e.1 a (f e.0) b (g e.0) (row_sum f es) (row_sum g es)

-- a sum over entries that avoid some variables doesn't depend on these
pub row_sum-avoids : (x z : Var → ℤ) (vars : List Var) (es : List (Var × ℤ)) → avoids vars es ≡ true → ((v : Var) → is_among vars v ≡ false → x v ≡ z v) → row_sum x es ≡ row_sum z es
row_sum-avoids x z vars [] h k = refl
row_sum-avoids x z vars (e ∷ es) h k =
    let parts = both_passed (not (is_among vars e.0)) (avoids vars es) h in
    ap₂ (λ y t. (e.1 *ℤ y) +ℤ t) (k e.0 (from_not (is_among vars e.0) parts.0)) (row_sum-avoids x z vars es parts.1 k)

-- ---- there are plans that meet the definitions

-- whole numbers that meet the definitions over `times` q, and are `times` the given ones at every other variable
pub record IsMetBy (ds : List Definition) (q : ℤ) (base : Var → ℤ) : Type 0 where
  pub times : ℤ
  pub positive : pos 0 <ℤ times
  pub plan : Var → ℤ
  pub agrees : (v : Var) → is_among (defined ds) v ≡ false → plan v ≡ times *ℤ base v
  pub met : AreMet ds (times *ℤ q) plan

-- the given numbers, with 0 at v
abbrev without : Var → (Var → ℤ) → Var → ℤ
without v base w = if is_eq (var_cmp w v) then pos 0 else base w

-- own times the given numbers, and at the variable the right side less the other entries
abbrev filled : Definition → ℤ → (Var → ℤ) → Var → ℤ
filled d q base w = (own_of d *ℤ without d.variable base w) +ℤ (((d.row.rhs *ℤ q) -ℤ row_sum (without d.variable base) d.row.entries.items) *ℤ alone d.variable w)

fills : (own b r q : ℤ) → ((own *ℤ b) +ℤ (((r *ℤ q) -ℤ b) *ℤ own)) -ℤ (r *ℤ (own *ℤ q)) ≡ pos 0
fills own b r q =
    let e : (own *ℤ b) +ℤ (((r *ℤ q) -ℤ b) *ℤ own) ≡ (r *ℤ (own *ℤ q)) +ℤ ((own *ℤ b) +ℤ neg_ℤ (own *ℤ b)) = simp (minus-is, ring) in
    omega (arith, ints)

filled-meets : (d : Definition) (q : ℤ) (base : Var → ℤ) → excess d.row (own_of d *ℤ q) (filled d q base) ≡ pos 0
filled-meets d q base =
    let es = d.row.entries.items in
    let b : ℤ = row_sum (without d.variable base) es in
    ap (λ z. z -ℤ (d.row.rhs *ℤ (own_of d *ℤ q)))
    (row_sum-linear (own_of d) ((d.row.rhs *ℤ q) -ℤ b) (without d.variable base) (alone d.variable) es
    ∙ ap (λ z. (own_of d *ℤ b) +ℤ (((d.row.rhs *ℤ q) -ℤ b) *ℤ z)) (row_sum-alone d.variable es d.row.ascending))
    ∙ fills (own_of d) b d.row.rhs q

elsewhere : (d : Definition) (q : ℤ) (base : Var → ℤ) (w : Var) → is_eq (var_cmp w d.variable) ≡ false → filled d q base w ≡ own_of d *ℤ base w
elsewhere d q base w h =
    ap (λ t. (own_of d *ℤ (if t then pos 0 else base w)) +ℤ (((d.row.rhs *ℤ q) -ℤ row_sum (without d.variable base) d.row.entries.items) *ℤ (if t then pos 1 else pos 0))) h
    ∙ ap (λ z. (own_of d *ℤ base w) +ℤ z) (*ℤ-zero ((d.row.rhs *ℤ q) -ℤ row_sum (without d.variable base) d.row.entries.items))
    ∙ add_zero (own_of d *ℤ base w)
  where
    add_zero : (z : ℤ) → z +ℤ pos 0 ≡ z
    add_zero z = omega (arith, ints)

excess_times : (t s r q : ℤ) → (t *ℤ s) -ℤ (r *ℤ (t *ℤ q)) ≡ t *ℤ (s -ℤ (r *ℤ q))
excess_times t s r q = simp (minus-is, ring)

assoc : (a b c : ℤ) → (a *ℤ b) *ℤ c ≡ a *ℤ (b *ℤ c)
assoc a b c = simp products

pub row_sum-times : (t : ℤ) (x : Var → ℤ) (es : List (Var × ℤ)) → row_sum (λ v. t *ℤ x v) es ≡ t *ℤ row_sum x es
row_sum-times t x [] = sym (*ℤ-zero t)
row_sum-times t x (e ∷ es) = ap (λ z. (e.1 *ℤ (t *ℤ x e.0)) +ℤ z) (row_sum-times t x es) ∙ out e.1 t (x e.0) (row_sum x es)
  where
    out : (n t y s : ℤ) → (n *ℤ (t *ℤ y)) +ℤ (t *ℤ s) ≡ t *ℤ ((n *ℤ y) +ℤ s)
    out n t y s = simp ring

-- triangular definitions are met by some plan, whatever the other variables are
pub met_by_some : (ds : List Definition) (q : ℤ) (base : Var → ℤ) → AreTriangular ds → IsMetBy ds q base
met_by_some [] q base h = record {
  times = pos 1;
  positive = omega (arith, ints);
  plan = base;
  agrees = λ v k. sym (one-*ℤ (base v));
  met = tt;
}
met_by_some (d ∷ ds) q base h = more (met_by_some ds (own_of d *ℤ q) (filled d q base) h.3)
  where
    more : IsMetBy ds (own_of d *ℤ q) (filled d q base) → IsMetBy (d ∷ ds) q base
    more r = record {
      times = r.times *ℤ own_of d;
      positive = *ℤ_pos r.times (own_of d) r.positive h.0.positive;
      plan = r.plan;
      agrees = λ v k.
          let parts = neither (is_eq (var_cmp v d.variable)) (is_among (defined ds) v) k in
          r.agrees v parts.1 ∙ ap (λ z. r.times *ℤ z) (elsewhere d q base v parts.0) ∙ sym (assoc r.times (own_of d) (base v));
      met = (
        ap₂ (λ s z. s -ℤ (d.row.rhs *ℤ z)) (row_sum-avoids r.plan (λ v. r.times *ℤ filled d q base v) (defined ds) d.row.entries.items h.1 r.agrees ∙ row_sum-times r.times (filled d q base) d.row.entries.items) (assoc r.times (own_of d) q)
            ∙ excess_times r.times (row_sum (filled d q base) d.row.entries.items) d.row.rhs (own_of d *ℤ q)
            ∙ ap (λ z. r.times *ℤ z) (filled-meets d q base)
            ∙ *ℤ-zero r.times,
        subst (λ z. AreMet ds z r.plan) (sym (assoc r.times (own_of d) q)) r.met,
      );
    }

-- ---- signs

-- every variable that must be at least 0, and isn't one of the list, is
abbrev pub AreRightBeyond : List Var → (Var → ℤ) → Type 0
AreRightBeyond vars x = (v : Var) → kind_is_free v.kind ≡ false → is_among vars v ≡ false → pos 0 ≤ℤ x v

either_passed : (a b : Bool) → (a || b) ≡ true → a ≡ false → b ≡ true
either_passed true b h k = absurd (cc k)
either_passed false b h k = h

pub at_most : (z : ℤ) → int_le z (pos 0) ≡ true → z ≤ℤ pos 0
at_most z h = grind (arith, ints, nat_tests)

pub product_down : (n x : ℤ) → n ≤ℤ pos 0 → pos 0 ≤ℤ x → (n *ℤ x) ≤ℤ pos 0
product_down n x h k = subst (λ z. (n *ℤ x) ≤ℤ z) (zero-*ℤ x) (*ℤ-≤ℤ n (pos 0) x k h)

-- the entries together are at most the variable's own
raised : (x : Var → ℤ) (v : Var) (vars : List Var) (es : List (Var × ℤ)) → only_raises v es ≡ true → avoids vars es ≡ true → AreRightBeyond (v ∷ vars) x → row_sum x es ≤ℤ (row_sum (alone v) es *ℤ x v)
raised x v vars [] h k right = omega (arith, ints, zero-*ℤ (x v))
raised x v vars (e ∷ es) h k right =
    cases (is_eq (var_cmp e.0 v)) refl
    (raised x v vars es (both_passed (is_eq (var_cmp e.0 v) || (int_le e.1 (pos 0) && not (kind_is_free e.0.kind))) (only_raises v es) h).1 (both_passed (not (is_among vars e.0)) (avoids vars es) k).1 right)
  where
    first : (is_eq (var_cmp e.0 v) || (int_le e.1 (pos 0) && not (kind_is_free e.0.kind))) ≡ true
    first = (both_passed (is_eq (var_cmp e.0 v) || (int_le e.1 (pos 0) && not (kind_is_free e.0.kind))) (only_raises v es) h).0

    apart : is_among vars e.0 ≡ false
    apart = from_not (is_among vars e.0) (both_passed (not (is_among vars e.0)) (avoids vars es) k).0

    split : (n a r y : ℤ) → ((n *ℤ a) +ℤ r) *ℤ y ≡ (n *ℤ (a *ℤ y)) +ℤ (r *ℤ y)
    split n a r y = simp ring

    one : (n y : ℤ) → n *ℤ (pos 1 *ℤ y) ≡ n *ℤ y
    one n y = simp ring

    none : (n y : ℤ) → n *ℤ (pos 0 *ℤ y) ≡ pos 0
    none n y = simp ring

    cases : (t : Bool) → is_eq (var_cmp e.0 v) ≡ t → row_sum x es ≤ℤ (row_sum (alone v) es *ℤ x v) → ((e.1 *ℤ x e.0) +ℤ row_sum x es) ≤ℤ (((e.1 *ℤ (if t then pos 1 else pos 0)) +ℤ row_sum (alone v) es) *ℤ x v)
    cases true is rest =
        let same : e.1 *ℤ x e.0 ≡ e.1 *ℤ x v = ap (λ w. e.1 *ℤ x w) (var_cmp_exact e.0 v (alike (var_cmp e.0 v) is)) in
        let l = split e.1 (pos 1) (row_sum (alone v) es) (x v) in
        let m = one e.1 (x v) in
        omega (arith, ints)
    cases false is rest =
        let entry = both_passed (int_le e.1 (pos 0)) (not (kind_is_free e.0.kind)) (either_passed (is_eq (var_cmp e.0 v)) (int_le e.1 (pos 0) && not (kind_is_free e.0.kind)) first is) in
        let size : pos 0 ≤ℤ x e.0 = right e.0 (from_not (kind_is_free e.0.kind) entry.1) (ap₂ (λ a b. a || b) is apart) in
        let down : (e.1 *ℤ x e.0) ≤ℤ pos 0 = product_down e.1 (x e.0) (at_most e.1 entry.0) size in
        let l = split e.1 (pos 0) (row_sum (alone v) es) (x v) in
        let m = none e.1 (x v) in
        omega (arith, ints)

-- so a defined variable is at least 0
pub defined_right : (d : Definition) (vars : List Var) (q : ℕ) (x : Var → ℤ) → IsDefinition d → KeepsSign d → avoids vars d.row.entries.items ≡ true → excess d.row (pos q) x ≡ pos 0 → AreRightBeyond (d.variable ∷ vars) x → kind_is_free d.variable.kind ≡ false → pos 0 ≤ℤ x d.variable
defined_right d vars q x is keeps apart met right bounded =
    let own : ℤ = own_of d in
    let es = d.row.entries.items in
    let k = keeps bounded in
    let least : row_sum x es ≤ℤ (own *ℤ x d.variable) = subst (λ z. row_sum x es ≤ℤ (z *ℤ x d.variable)) (row_sum-alone d.variable es d.row.ascending) (raised x d.variable vars es k.0 apart right) in
    let side : pos 0 ≤ℤ (d.row.rhs *ℤ pos q) = *ℤ_nonnegative d.row.rhs (pos q) k.1 (omega (arith, ints)) in
    let turned : own *ℤ x d.variable ≡ x d.variable *ℤ own = *ℤ_comm own (x d.variable) in
    let above : pos 0 ≤ℤ (x d.variable *ℤ own) = omega (arith, ints) in
    ≤ℤ_cancel (pos 0) (x d.variable) own is.positive (subst (λ z. z ≤ℤ (x d.variable *ℤ own)) (sym (zero-*ℤ own)) above)

-- where the definitions are met and keep signs, right signs of the other variables are right signs of all
pub lifted_signs : (ds : List Definition) (q : ℕ) (x : Var → ℤ) → AreTriangular ds → KeepSigns ds → AreMet ds (pos q) x → AreRightBeyond (defined ds) x → (v : Var) → kind_is_free v.kind ≡ false → pos 0 ≤ℤ x v
lifted_signs [] q x h k met right v bounded = right v bounded refl
lifted_signs (d ∷ ds) q x h k met right v bounded = lifted_signs ds q x h.3 k.1 met.1 beyond v bounded
  where
    beyond : AreRightBeyond (defined ds) x
    beyond w free apart = cases (is_eq (var_cmp w d.variable)) refl
      where
        cases : (t : Bool) → is_eq (var_cmp w d.variable) ≡ t → pos 0 ≤ℤ x w
        cases true is =
            let same : w ≡ d.variable = var_cmp_exact w d.variable (alike (var_cmp w d.variable) is) in
            subst (λ u. pos 0 ≤ℤ x u) (sym same) (defined_right d (defined ds) q x h.0 k.0 h.1 met.0 right (subst (λ u. kind_is_free u.kind ≡ false) same free))
        cases false is = right w free (ap₂ (λ a b. a || b) is apart)

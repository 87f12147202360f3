-- Whether a row holds of a plan doesn't depend on the common denominator over which the plan is written.
use Rattle.row_core.proofs.Common.{◌≡◌, ℕ, ◌*◌, ◌<◌, ℤ, pos, ◌+ℤ◌, ◌*ℤ◌, List, [], ◌∷◌, ◌++◌, refl, sym, ap, ◌∙◌, subst, mul_comm, ◌↔◌, Sense, Var, row_sum, statement_of, SameValues, Stands, Holds}
use Rattle.row_core.specs.declared.Sense.TheVariants.{Least, Equal, Most}
use Rattle.row_core.proofs.Integers.{*ℤ_comm, *ℤ_left_comm, *ℤ-+ℤ, *ℤ-zero, +ℤ_assoc, zero-+ℤ, scaled_le, unscaled_le, unscaled_eq}

-- plans with the same numbers give the same sum
pub row_sum-same : (x y : Var → ℤ) (es : List (Var × ℤ)) → ((v : Var) → x v ≡ y v) → row_sum x es ≡ row_sum y es
row_sum-same x y [] h = refl
row_sum-same x y (e ∷ es) h = ap (λ z. (e.1 *ℤ z) +ℤ row_sum x es) (h e.0) ∙ ap (λ z. (e.1 *ℤ y e.0) +ℤ z) (row_sum-same x y es h)

-- the sum of a plan whose numbers are all multiplied is the sum, multiplied
pub row_sum-scaled : (k : ℤ) (x : Var → ℤ) (es : List (Var × ℤ)) → row_sum (λ v. k *ℤ x v) es ≡ k *ℤ row_sum x es
row_sum-scaled k x [] = sym (*ℤ-zero k)
row_sum-scaled k x (e ∷ es) =
    ap (λ z. z +ℤ row_sum (λ v. k *ℤ x v) es) (*ℤ_left_comm e.1 k (x e.0))
    ∙ ap (λ z. (k *ℤ (e.1 *ℤ x e.0)) +ℤ z) (row_sum-scaled k x es)
    ∙ sym (*ℤ-+ℤ k (e.1 *ℤ x e.0) (row_sum x es))

-- the sum over two lists joined is the sum of their sums
pub row_sum-append : (x : Var → ℤ) (es fs : List (Var × ℤ)) → row_sum x (es ++ fs) ≡ row_sum x es +ℤ row_sum x fs
row_sum-append x [] fs = sym (zero-+ℤ (row_sum x fs))
row_sum-append x (e ∷ es) fs =
    ap (λ z. (e.1 *ℤ x e.0) +ℤ z) (row_sum-append x es fs) ∙ sym (+ℤ_assoc (e.1 *ℤ x e.0) (row_sum x es) (row_sum x fs))

-- two sides multiplied by a positive number stand as before
pub Stands-scaled : (sense : Sense) (k : ℕ) (a b : ℤ) → 0 < k → Stands sense a b ↔ Stands sense (pos k *ℤ a) (pos k *ℤ b)
Stands-scaled Least k a b h = (scaled_le k b a, unscaled_le k b a h)
Stands-scaled Equal k a b h = (ap (λ z. pos k *ℤ z), unscaled_eq k a b h)
Stands-scaled Most k a b h = (scaled_le k a b, unscaled_le k a b h)

-- a row holds of a plan exactly where it holds of the plan with q and all numbers multiplied by k
pub holds-scaled : (sense : Sense) (es : List (Var × ℤ)) (rhs : ℤ) (k q : ℕ) (x : Var → ℤ) → 0 < k → Holds (statement_of sense es rhs q x) ↔ Holds (statement_of sense es rhs (k * q) (λ v. pos k *ℤ x v))
holds-scaled sense es rhs k q x h =
    let sides = Stands-scaled sense k (row_sum x es) (rhs *ℤ pos q) h in
    let left : pos k *ℤ row_sum x es ≡ row_sum (λ v. pos k *ℤ x v) es = sym (row_sum-scaled (pos k) x es) in
    let right : pos k *ℤ (rhs *ℤ pos q) ≡ rhs *ℤ pos (k * q) = *ℤ_left_comm (pos k) rhs (pos q) in
    let there = λ (s : Stands sense (row_sum x es) (rhs *ℤ pos q)). subst (λ z. Stands sense z (rhs *ℤ pos (k * q))) left (subst (λ z. Stands sense (pos k *ℤ row_sum x es) z) right (sides.0 s)) in
    let back = λ (s : Stands sense (row_sum (λ v. pos k *ℤ x v) es) (rhs *ℤ pos (k * q))). sides.1 (subst (λ z. Stands sense (pos k *ℤ row_sum x es) z) (sym right) (subst (λ z. Stands sense z (rhs *ℤ pos (k * q))) (sym left) s)) in
    (there, back)

-- a row holds of a plan exactly where it holds of another one with the same values over another denominator
pub holds-same_values : (sense : Sense) (es : List (Var × ℤ)) (rhs : ℤ) (q p : ℕ) (x y : Var → ℤ) → 0 < q → 0 < p → SameValues q x p y → Holds (statement_of sense es rhs q x) ↔ Holds (statement_of sense es rhs p y)
holds-same_values sense es rhs q p x y hq hp same =
    let first = holds-scaled sense es rhs p q x hp in
    let second = holds-scaled sense es rhs q p y hq in
    let sums : row_sum (λ v. pos p *ℤ x v) es ≡ row_sum (λ v. pos q *ℤ y v) es = row_sum-same (λ v. pos p *ℤ x v) (λ v. pos q *ℤ y v) es (λ v. *ℤ_comm (pos p) (x v) ∙ same v ∙ *ℤ_comm (y v) (pos q)) in
    let product : p * q ≡ q * p = mul_comm p q in
    let There : ℤ → ℕ → Type 0 = λ z n. Stands sense z (rhs *ℤ pos n) in
    let across = λ (s : There (row_sum (λ v. pos p *ℤ x v) es) (p * q)). subst (λ n. There (row_sum (λ v. pos q *ℤ y v) es) n) product (subst (λ z. There z (p * q)) sums s) in
    let back = λ (s : There (row_sum (λ v. pos q *ℤ y v) es) (q * p)). subst (λ n. There (row_sum (λ v. pos p *ℤ x v) es) n) (sym product) (subst (λ z. There z (q * p)) (sym sums) s) in
    (λ s. second.1 (across (first.0 s)), λ s. first.1 (back (second.0 s)))

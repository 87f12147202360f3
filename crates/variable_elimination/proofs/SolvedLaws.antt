-- Values of which one is what an equation gives it meet the equation, over whatever number they are written.
use Rattle.variable_elimination.proofs.Common.{◌≡◌, ℤ, pos, neg_ℤ, ◌+ℤ◌, ◌-ℤ◌, ◌*ℤ◌, Bool, true, false, List, [], ◌∷◌, ◌++◌, refl, sym, ap, ap₂, ◌∙◌, subst, arith, if◌then◌else◌, ⊤, ◌<ℤ◌, is_eq, Ordering, ints, Rational, whole, plus, minus, times, negated, divided, *ℤ_pos, *ℤ_cancel, nonzero_of_pos, minus-is_plus, ring, products, zero-+ℤ, Var, sum_from, row_sum, IsOver, IsOver-agree, IsOver-lowest, IsOver-plus, IsOver-times, IsOver-negated, IsOver-own, IsOver-whole, IsOver-zero, other_entries, other_sum, solved_for}

-- the sum of each number times its key's whole number
abbrev pub sum_of : {K : Type 0} → (K → ℤ) → List (K × ℤ) → ℤ
sum_of z [] = pos 0
sum_of z (e ∷ es) = (e.1 *ℤ z e.0) +ℤ sum_of z es

pub row_sum-is : (z : Var → ℤ) (es : List (Var × ℤ)) → row_sum z es ≡ sum_of z es
row_sum-is z [] = refl
row_sum-is z (e ∷ es) = ap (λ s. (e.1 *ℤ z e.0) +ℤ s) (row_sum-is z es)

pub sum_of-append : {K : Type 0} (z : K → ℤ) (es fs : List (K × ℤ)) → sum_of z (es ++ fs) ≡ sum_of z es +ℤ sum_of z fs
sum_of-append z [] fs = sym (zero-+ℤ (sum_of z fs))
sum_of-append z (e ∷ es) fs = ap (λ s. (e.1 *ℤ z e.0) +ℤ s) (sum_of-append z es fs) ∙ assoc (e.1 *ℤ z e.0) (sum_of z es) (sum_of z fs)
  where
    assoc : (a b c : ℤ) → a +ℤ (b +ℤ c) ≡ (a +ℤ b) +ℤ c
    assoc a b c = omega (arith, ints)

-- 1 at a key, and 0 at all others
abbrev pub alone_by : {K : Type 0} → (K → K → Ordering) → K → K → ℤ
alone_by cmp key k = if is_eq (cmp k key) then pos 1 else pos 0

-- the values at the other keys are z over q
abbrev pub AreOverAt : {K : Type 0} → (K → K → Ordering) → ℤ → (K → Rational) → (K → ℤ) → K → List (K × ℤ) → Type 0
AreOverAt cmp q value z key [] = ⊤
AreOverAt cmp q value z key (e ∷ es) = (is_eq (cmp e.0 key) ≡ false → IsOver q (value e.0) (z e.0)) × AreOverAt cmp q value z key es

plus-less : (a b : ℤ) → a +ℤ neg_ℤ b ≡ a -ℤ b
plus-less a b = omega (arith, ints)

term-IsOver : (q n : ℤ) (z : ℤ) (r : Rational) → IsOver q r z → IsOver q (times (whole n) r) (n *ℤ z)
term-IsOver q n z r h = subst (λ s. IsOver s (times (whole n) r) (n *ℤ z)) (one q) (IsOver-times (pos 1) q (whole n) r n z (IsOver-own (whole n) (omega (arith, ints))) h)
  where
    one : (q : ℤ) → pos 1 *ℤ q ≡ q
    one q = simp ring

-- a quotient by a positive whole number, over q times that one
divided-IsOver : (q own : ℤ) (a : Rational) (y : ℤ) → pos 0 <ℤ own → IsOver q a y → IsOver (q *ℤ own) (divided a (whole own)) y
unfolding divided
divided-IsOver q own a y h k =
    IsOver-lowest (q *ℤ own) (a.top *ℤ pos 1) (a.bottom *ℤ own) y (*ℤ_pos a.bottom own k.positive h) (first y a.bottom own ∙ ap (λ z. z *ℤ own) k.cross ∙ second a.top q own)
  where
    first : (y b own : ℤ) → y *ℤ (b *ℤ own) ≡ (y *ℤ b) *ℤ own
    first y b own = simp products

    second : (t q own : ℤ) → (t *ℤ q) *ℤ own ≡ (t *ℤ pos 1) *ℤ (q *ℤ own)
    second t q own = simp ring

module _ {K : Type 0} (cmp : K → K → Ordering) (exact : (a b : K) → is_eq (cmp a b) ≡ true → a ≡ b) where
  -- the sum is the key's part and the others
  pub split_at : (z : K → ℤ) (key : K) (es : List (K × ℤ)) → sum_of z es ≡ (sum_of (alone_by cmp key) es *ℤ z key) +ℤ sum_of z (other_entries cmp key es)
  split_at z key [] = omega (arith, ints)
  split_at z key (e ∷ es) = cases (split_at z key es) (is_eq (cmp e.0 key)) refl
    where
      here : (n a y r : ℤ) → (n *ℤ y) +ℤ ((a *ℤ y) +ℤ r) ≡ (((n *ℤ pos 1) +ℤ a) *ℤ y) +ℤ r
      here n a y r = simp ring

      there : (n x a y r : ℤ) → (n *ℤ x) +ℤ ((a *ℤ y) +ℤ r) ≡ (((n *ℤ pos 0) +ℤ a) *ℤ y) +ℤ ((n *ℤ x) +ℤ r)
      there n x a y r = simp ring

      cases : sum_of z es ≡ (sum_of (alone_by cmp key) es *ℤ z key) +ℤ sum_of z (other_entries cmp key es) → (t : Bool) → is_eq (cmp e.0 key) ≡ t
          → (e.1 *ℤ z e.0) +ℤ sum_of z es ≡ (((e.1 *ℤ (if t then pos 1 else pos 0)) +ℤ sum_of (alone_by cmp key) es) *ℤ z key) +ℤ sum_of z (if t then other_entries cmp key es else (e ∷ other_entries cmp key es))
      cases rest true is = ap₂ (λ w s. (e.1 *ℤ z w) +ℤ s) (exact e.0 key is) rest ∙ here e.1 (sum_of (alone_by cmp key) es) (z key) (sum_of z (other_entries cmp key es))
      cases rest false is = ap (λ s. (e.1 *ℤ z e.0) +ℤ s) rest ∙ there e.1 (z e.0) (sum_of (alone_by cmp key) es) (z key) (sum_of z (other_entries cmp key es))

  -- the sum of the others, over q
  others-IsOver : (q : ℤ) (z : K → ℤ) (value : K → Rational) (key : K) (s : Rational) (t : ℤ) (es : List (K × ℤ)) → AreOverAt cmp q value z key es → IsOver q s t
      → IsOver q (sum_from value s (other_entries cmp key es)) (t +ℤ sum_of z (other_entries cmp key es))
  others-IsOver q z value key s t [] over k = subst (λ y. IsOver q s y) (plus_zero t) k
    where
      plus_zero : (y : ℤ) → y ≡ y +ℤ pos 0
      plus_zero y = omega (arith, ints)
  others-IsOver q z value key s t (e ∷ es) over k =
      cases
      (others-IsOver q z value key s t es over.1 k)
      (λ first. others-IsOver q z value key (plus s (times (whole e.1) (value e.0))) (t +ℤ (e.1 *ℤ z e.0)) es over.1 (IsOver-plus q s (times (whole e.1) (value e.0)) t (e.1 *ℤ z e.0) k (term-IsOver q e.1 (z e.0) (value e.0) first)))
      (is_eq (cmp e.0 key)) refl
    where
      assoc : (a b c : ℤ) → (a +ℤ b) +ℤ c ≡ a +ℤ (b +ℤ c)
      assoc a b c = omega (arith, ints)

      cases : IsOver q (sum_from value s (other_entries cmp key es)) (t +ℤ sum_of z (other_entries cmp key es))
          → (IsOver q (value e.0) (z e.0) → IsOver q (sum_from value (plus s (times (whole e.1) (value e.0))) (other_entries cmp key es)) ((t +ℤ (e.1 *ℤ z e.0)) +ℤ sum_of z (other_entries cmp key es)))
          → (b : Bool) → is_eq (cmp e.0 key) ≡ b → IsOver q (sum_from value s (if b then other_entries cmp key es else (e ∷ other_entries cmp key es))) (t +ℤ sum_of z (if b then other_entries cmp key es else (e ∷ other_entries cmp key es)))
      cases skipped more true is = skipped
      cases skipped more false is =
          subst (λ y. IsOver q (sum_from value (plus s (times (whole e.1) (value e.0))) (other_entries cmp key es)) y) (assoc t (e.1 *ℤ z e.0) (sum_of z (other_entries cmp key es)))
          (more (over.0 is))

  -- the equation is met where its unknown has the value that it gives
  pub solved-meets : (right q : ℤ) (z : K → ℤ) (value : K → Rational) (key : K) (es : List (K × ℤ)) (own : ℤ) → pos 0 <ℤ q → pos 0 <ℤ own → own ≡ sum_of (alone_by cmp key) es
      → AreOverAt cmp q value z key es → IsOver q (solved_for cmp value key es right own) (z key) → sum_of z es ≡ right *ℤ q
  solved-meets right q z value key es own hq hown is over here =
      let rest : ℤ = sum_of z (other_entries cmp key es) in
      let s : Rational = other_sum cmp value key es in
      let sum : IsOver q s rest = subst (λ y. IsOver q s y) (zero-+ℤ rest) (others-IsOver q z value key (whole (pos 0)) (pos 0) es over (IsOver-zero q)) in
      let left : IsOver q (minus (whole right) s) ((right *ℤ q) -ℤ rest) =
      subst (λ r. IsOver q r ((right *ℤ q) -ℤ rest)) (sym (minus-is_plus (whole right) s))
      (subst (λ y. IsOver q (plus (whole right) (negated s)) y) (plus-less (right *ℤ q) rest) (IsOver-plus q (whole right) (negated s) (right *ℤ q) (neg_ℤ rest) (IsOver-whole q right) (IsOver-negated q s rest sum))) in
      let made : IsOver (q *ℤ own) (solved_for cmp value key es right own) ((right *ℤ q) -ℤ rest) = divided-IsOver q own (minus (whole right) s) ((right *ℤ q) -ℤ rest) hown left in
      let agree : ((right *ℤ q) -ℤ rest) *ℤ q ≡ z key *ℤ (q *ℤ own) = IsOver-agree (q *ℤ own) q (solved_for cmp value key es right own) ((right *ℤ q) -ℤ rest) (z key) made here in
      let same : (right *ℤ q) -ℤ rest ≡ own *ℤ z key = *ℤ_cancel ((right *ℤ q) -ℤ rest) (own *ℤ z key) q (nonzero_of_pos q hq) (agree ∙ turned_round (z key) q own) in
      let parts : sum_of z es ≡ (own *ℤ z key) +ℤ rest = split_at z key es ∙ ap (λ y. (y *ℤ z key) +ℤ rest) (sym is) in
      omega (arith, ints)
    where
      turned_round : (y q own : ℤ) → y *ℤ (q *ℤ own) ≡ (own *ℤ y) *ℤ q
      turned_round y q own = simp products

-- How the terms of an equation mean its statement: once for each shape that equations share.
use Rattle.std.proofs.Common.{◌≡◌, ℕ, zero, suc, ◌+◌, ◌<◌, ◌≤◌, ◌^◌, ℤ, pos, negsuc, neg_ℤ, ◌+ℤ◌, ◌*ℤ◌, List, [], ◌∷◌, Some, None, inl, inr, refl, sym, ap, ap₂, ◌∙◌, subst, arith}
use Rattle.named_equations.proofs.Common.{◌<ℤ◌, ◌≤ℤ◌, ◌↔◌, if◌then◌else◌, int_cmp, is_eq, Greater, ints, *ℤ-+ℤ, *ℤ-zero, *ℤ-one, +ℤ-zero, one-*ℤ, zero-*ℤ, neg_ℤ-*ℤ, neg_ℤ-+ℤ, *ℤ_comm, Data, RowName, Sense, Least, Equal, Most, Var, Amount, Whole, Billionths, Total, Negative, value_of_amount, total_from, total_over, Statement, Stands, Holds, IsOver, IsSumOver, alone, IsOver-plus, IsOver-negated, IsOver-ratio, IsSumOver-gathered, variable_of, ◌equals◌, sum_over, scale_of, says}
use Rattle.std.proofs.Math.Nat.{eq-or-lt_of_le}
use Rattle.exact_num.specs.Rational.{lowest, whole}
use Rattle.exact_num.proofs.Integers.{≤ℤ_or_<ℤ}
use Rattle.exact_num.proofs.OrderLaws.{int_cmp-less, int_cmp-equal, int_cmp-greater}
use Rattle.row_core.specs.declared.Row.{Row}
use Rattle.row_core.specs.EquationTerms.{EquationTerms, once, less, each, nothing, coefficients_of, right_of, IsRowOf, SaysWhat}
use Rattle.row_core.specs.Rows.{RowHolds, number_at}
use Rattle.row_core.proofs.TermLaws.{same_alike}
use Rattle.named_equations.specs.RowMeaning.{IsNamedRow}

-- ---- sums

pub sum_over-same : (is : List ℕ) (f g : ℕ → ℤ) → ((i : ℕ) → f i ≡ g i) → sum_over is f ≡ sum_over is g
sum_over-same [] f g h = refl
sum_over-same (i ∷ is) f g h = ap₂ (λ y z. y +ℤ z) (h i) (sum_over-same is f g h)

pub sum_over-times : (is : List ℕ) (k : ℤ) (f : ℕ → ℤ) → k *ℤ sum_over is f ≡ sum_over is (λ i. k *ℤ f i)
sum_over-times [] k f = *ℤ-zero k
sum_over-times (i ∷ is) k f = *ℤ-+ℤ k (f i) (sum_over is f) ∙ ap (λ z. (k *ℤ f i) +ℤ z) (sum_over-times is k f)

-- ---- coefficients over a scale

pub over-one : (s : ℤ) → IsOver s (whole (pos 1)) s
over-one s = record { positive = omega (arith, ints); cross = *ℤ-one s ∙ sym (one-*ℤ s) }

minus_one-*ℤ : (s : ℤ) → negsuc 0 *ℤ s ≡ neg_ℤ s
minus_one-*ℤ s = neg_ℤ-*ℤ (pos 1) s ∙ ap neg_ℤ (one-*ℤ s)

pub over-minus_one : (s : ℤ) → IsOver s (whole (negsuc 0)) (neg_ℤ s)
over-minus_one s = record { positive = omega (arith, ints); cross = *ℤ-one (neg_ℤ s) ∙ sym (minus_one-*ℤ s) }

pub over-zero : (s : ℤ) → IsOver s (whole (pos 0)) (pos 0)
over-zero s = record { positive = omega (arith, ints); cross = sym (zero-*ℤ s) }

pub over-data : (z : ℤ) → IsOver (scale_of 1) (lowest z (pos (10 ^ 9))) z
over-data z = IsOver-ratio z (pos (10 ^ 9)) (omega (arith, ints))

pub over-negative_data : (z : ℤ) → IsOver (scale_of 1) (value_of_amount (Negative (Billionths z))) (neg_ℤ z)
over-negative_data z = IsOver-negated (scale_of 1) (value_of_amount (Billionths z)) z (over-data z)

-- sums of amounts over one scale
total_from-IsOver : (s : ℤ) (sum : Amount) (z : ℤ) (is : List ℕ) (f : ℕ → Amount) (g : ℕ → ℤ) → IsOver s (value_of_amount sum) z → ((i : ℕ) → IsOver s (value_of_amount (f i)) (g i))
    → IsOver s (value_of_amount (total_from sum is f)) (z +ℤ sum_over is g)
total_from-IsOver s sum z [] f g h k = subst (IsOver s (value_of_amount sum)) (omega (arith, ints)) h
total_from-IsOver s sum z (i ∷ is) f g h k =
    subst (IsOver s (value_of_amount (total_from (Total sum (f i)) is f))) (omega (arith, ints))
    (total_from-IsOver s (Total sum (f i)) (z +ℤ g i) is f g (IsOver-plus s (value_of_amount sum) (value_of_amount (f i)) z (g i) h (k i)) k)

pub total_over-IsOver : (s : ℤ) (is : List ℕ) (f : ℕ → Amount) (g : ℕ → ℤ) → ((i : ℕ) → IsOver s (value_of_amount (f i)) (g i)) → IsOver s (value_of_amount (total_over is f)) (sum_over is g)
total_over-IsOver s is f g k =
    subst (IsOver s (value_of_amount (total_over is f))) (omega (arith, ints)) (total_from-IsOver s (Whole (pos 0)) (pos 0) is f g (over-zero s) k)

-- ---- sums of terms over a scale

pub sum-none : (s : ℤ) (x : Var → ℤ) → IsSumOver s x (coefficients_of []) (pos 0)
sum-none s x = refl

pub sum-term : (s : ℤ) (x : Var → ℤ) (v : Var) (a : Amount) (terms : List (Var × Amount)) (z n : ℤ) → IsOver s (value_of_amount a) z → IsSumOver s x (coefficients_of terms) n
    → IsSumOver s x (coefficients_of ((v, a) ∷ terms)) ((z *ℤ x v) +ℤ n)
sum-term s x v a terms z n over sum = (z, n, over, sum, refl)

pub sum-each : (s : ℤ) (x : Var → ℤ) (is : List ℕ) (term : ℕ → Var × Amount) (z : ℕ → ℤ) → ((i : ℕ) → IsOver s (value_of_amount (term i).1) (z i))
    → IsSumOver s x (coefficients_of (each is term)) (sum_over is (λ i. z i *ℤ x (term i).0))
sum-each s x [] term z h = refl
sum-each s x (i ∷ is) term z h = (z i, sum_over is (λ i. z i *ℤ x (term i).0), h i, sum-each s x is term z h, refl)

-- ---- equations

-- the terms mean the statement: over one scale, the sum of the terms less the right side is the left side of the statement less its right side
pub record MeansStatement (e : EquationTerms) (statement : ℕ → (Var → ℤ) → Statement) : Type 0 where
  pub scale : ℤ
  pub positive : pos 0 <ℤ scale
  pub sum : (Var → ℤ) → ℤ
  pub right : ℤ
  pub is_sum : (x : Var → ℤ) → IsSumOver scale x (coefficients_of e.terms) (sum x)
  pub is_right : IsOver scale (right_of e) right
  pub same_sense : (q : ℕ) (x : Var → ℤ) → (statement q x).sign ≡ e.sense
  pub balance : (q : ℕ) (x : Var → ℤ) → sum x +ℤ (statement q x).right ≡ (statement q x).left +ℤ (right *ℤ pos q)

balanced : (sense : Sense) (a b c d : ℤ) → a +ℤ d ≡ c +ℤ b → Stands sense a b ↔ Stands sense c d
balanced Least a b c d h = (λ k. omega (arith, ints, h, k), λ k. omega (arith, ints, h, k))
balanced Equal a b c d h = (λ k. omega (arith, ints, h, k), λ k. omega (arith, ints, h, k))
balanced Most a b c d h = (λ k. omega (arith, ints, h, k), λ k. omega (arith, ints, h, k))

-- then its row says what the statement says
pub means-says : (e : EquationTerms) (statement : ℕ → (Var → ℤ) → Statement) (row : Row) → MeansStatement e statement → SaysWhat e row → row.sense ≡ e.sense
    → (q : ℕ) (x : Var → ℤ) → RowHolds row q x ↔ Holds (statement q x)
means-says e statement row m w sense q x =
    let first = w.says q x m.scale (m.sum x) m.right m.positive (IsSumOver-gathered m.scale x (coefficients_of e.terms) (m.sum x) (m.is_sum x)) m.is_right in
    let second = balanced e.sense (m.sum x) (m.right *ℤ pos q) (statement q x).left (statement q x).right (m.balance q x) in
    let There : Sense → Type 0 = λ s. Stands s (m.sum x) (m.right *ℤ pos q) in
    let Said : Sense → Type 0 = λ s. Stands s (statement q x).left (statement q x).right in (
      λ h. subst Said (sym (m.same_sense q x)) (second.0 (subst There sense (first.0 h))),
      λ h. first.1 (subst There (sym sense) (second.1 (subst Said (m.same_sense q x) h))),
    )

not_greater : (n : ℤ) → int_cmp n (pos 0) ≡ Greater → n ≤ℤ pos 0 → ⊥
not_greater n h k =
    elim (≤ℤ_or_<ℤ (pos 0) n) [
      | inl from ↦
          let zero : n ≡ pos 0 = omega (arith, ints, from, k) in cc (h, int_cmp-equal n (pos 0) zero)
      | inr below ↦ cc (h, int_cmp-less n (pos 0) below)
    ]

positive_from : (n m : ℤ) → int_cmp n (pos 0) ≡ int_cmp m (pos 0) → pos 0 <ℤ m → pos 0 <ℤ n
positive_from n m h k =
    elim (≤ℤ_or_<ℤ n (pos 0)) [
      | inl to ↦ absurd (not_greater n (h ∙ int_cmp-greater m (pos 0) k) to)
      | inr above ↦ above
    ]

-- ---- shapes

cancelled : (s a b n : ℤ) → s ≡ pos 1 → ((s *ℤ a) +ℤ (neg_ℤ s *ℤ n)) +ℤ n ≡ a +ℤ (pos 0 *ℤ b)
cancelled s a b n one =
    let first : (s *ℤ a) ≡ a = ap (λ z. z *ℤ a) one ∙ one-*ℤ a in
    let second : (neg_ℤ s *ℤ n) ≡ neg_ℤ n = neg_ℤ-*ℤ s n ∙ ap neg_ℤ (ap (λ z. z *ℤ n) one ∙ one-*ℤ n) in
    ap₂ (λ y z. (y +ℤ z) +ℤ n) first second ∙ omega (arith, ints) ∙ ap (λ z. a +ℤ z) (sym (zero-*ℤ b))

-- a variable is the sum of others: CAa1, CAa3, EBa2, EBa3, EBa5, EBa6, EBb1 to EBb3 and their like
pub sum_of_others : (v : Var) (is : List ℕ) (w : ℕ → Var) → MeansStatement (record { terms = once v ∷ each is (λ i. less (w i)); sense = Equal; right = nothing }) (λ q x. x v equals sum_over is (λ i. x (w i)))
sum_of_others v is w = record {
  scale = pos 1;
  positive = omega (arith, ints);
  sum = λ x. (pos 1 *ℤ x v) +ℤ sum_over is (λ i. negsuc 0 *ℤ x (w i));
  right = pos 0;
  is_sum = λ x.
      sum-term (pos 1) x v (Whole (pos 1)) (each is (λ i. less (w i))) (pos 1) (sum_over is (λ i. negsuc 0 *ℤ x (w i))) (over-one (pos 1))
      (sum-each (pos 1) x is (λ i. less (w i)) (λ i. negsuc 0) (λ i. over-minus_one (pos 1)));
  is_right = over-zero (pos 1);
  same_sense = λ q x. refl;
  balance = λ q x.
      ap (λ n. ((pos 1 *ℤ x v) +ℤ n) +ℤ sum_over is (λ i. x (w i))) (sym (sum_over-times is (negsuc 0) (λ i. x (w i))))
      ∙ cancelled (pos 1) (x v) (pos q) (sum_over is (λ i. x (w i))) refl;
}

-- and has a positive entry where the sum of the terms is positive at the plan of 1 at this variable alone
pub means-positive : (e : EquationTerms) (statement : ℕ → (Var → ℤ) → Statement) (row : Row) (m : MeansStatement e statement) → SaysWhat e row → (v : Var) → pos 0 <ℤ m.sum (alone v)
    → pos 0 <ℤ number_at row.entries.items v
means-positive e statement row m w v h =
    positive_from (number_at row.entries.items v) (m.sum (alone v))
    (w.signs v m.scale (m.sum (alone v)) m.positive (IsSumOver-gathered m.scale (alone v) (coefficients_of e.terms) (m.sum (alone v)) (m.is_sum (alone v)))) h

-- the terms of a named equation mean it, and its variable stands there with a positive coefficient
pub record IsNamedEquation (places : ℕ) (d : Data) (name : RowName) (e : EquationTerms) : Type 0 where
  pub means : MeansStatement e (λ q x. says places d q x name)
  pub defines : (v : Var) → variable_of name ≡ Some v → pos 0 <ℤ means.sum (alone v)

-- one that defines v
pub definition_is : (places : ℕ) (d : Data) (name : RowName) (e : EquationTerms) (v : Var) (m : MeansStatement e (λ q x. says places d q x name)) → variable_of name ≡ Some v → pos 0 <ℤ m.sum (alone v) → IsNamedEquation places d name e
definition_is places d name e v m is h = record { means = m; defines = λ w k. subst (λ u. pos 0 <ℤ m.sum (alone u)) (one_variable v w (sym is ∙ k)) h }
  where
    one_variable : (v w : Var) → Some v ≡ Some w → v ≡ w
    one_variable v w h = cc

-- one that defines nothing
pub inequality_is : (places : ℕ) (d : Data) (name : RowName) (e : EquationTerms) → MeansStatement e (λ q x. says places d q x name) → variable_of name ≡ None → IsNamedEquation places d name e
inequality_is places d name e m none = record { means = m; defines = λ w k. absurd (cc (none, k)) }

pub named_row : (places : ℕ) (d : Data) (name : RowName) (e : EquationTerms) (row : Row) → IsNamedEquation places d name e → IsRowOf name e row → SaysWhat e row → IsNamedRow places d name e row
named_row places d name e row n written w = record {
  written = written;
  says = means-says e (λ q x. says places d q x name) row n.means w written.sense;
  defines = λ v h. means-positive e (λ q x. says places d q x name) row n.means w v (n.defines v h);
}

-- a variable is another times a data value: EBa1, EBa4, EBa7 to EBa9, Acc1, Acc2 and their like
one_other : (s b p t q : ℤ) → ((s *ℤ b) +ℤ ((neg_ℤ p *ℤ t) +ℤ pos 0)) +ℤ (t *ℤ p) ≡ (s *ℤ b) +ℤ (pos 0 *ℤ q)
one_other s b p t q =
    ap₂ (λ y z. ((s *ℤ b) +ℤ (y +ℤ pos 0)) +ℤ z) (neg_ℤ-*ℤ p t) (*ℤ_comm t p) ∙ omega (arith, ints) ∙ ap (λ z. (s *ℤ b) +ℤ z) (sym (zero-*ℤ q))

pub scaled_other : (v w : Var) (z : ℤ) → MeansStatement (record { terms = once v ∷ (w, Negative (Billionths z)) ∷ []; sense = Equal; right = nothing }) (λ q x. scale_of 1 *ℤ x v equals x w *ℤ z)
scaled_other v w z = record {
  scale = scale_of 1;
  positive = omega (arith, ints);
  sum = λ x. (scale_of 1 *ℤ x v) +ℤ ((neg_ℤ z *ℤ x w) +ℤ pos 0);
  right = pos 0;
  is_sum = λ x.
      sum-term (scale_of 1) x v (Whole (pos 1)) ((w, Negative (Billionths z)) ∷ []) (scale_of 1) ((neg_ℤ z *ℤ x w) +ℤ pos 0) (over-one (scale_of 1))
      (sum-term (scale_of 1) x w (Negative (Billionths z)) [] (neg_ℤ z) (pos 0) (over-negative_data z) (sum-none (scale_of 1) x));
  is_right = over-zero (scale_of 1);
  same_sense = λ q x. refl;
  balance = λ q x. one_other (scale_of 1) (x v) z (x w) (pos q);
}

-- a variable is the sum of others times data values: Acc3, AAC1, OC1, RM2 and their like
negated_product : (z y : ℤ) → neg_ℤ z *ℤ y ≡ neg_ℤ (y *ℤ z)
negated_product z y = neg_ℤ-*ℤ z y ∙ ap neg_ℤ (*ℤ_comm z y)

pub sum_over-negated : (is : List ℕ) (z y : ℕ → ℤ) → sum_over is (λ i. neg_ℤ (z i) *ℤ y i) ≡ neg_ℤ (sum_over is (λ i. y i *ℤ z i))
sum_over-negated [] z y = refl
sum_over-negated (i ∷ is) z y =
    ap₂ (λ a b. a +ℤ b) (negated_product (z i) (y i)) (sum_over-negated is z y) ∙ sym (neg_ℤ-+ℤ (y i *ℤ z i) (sum_over is (λ j. y j *ℤ z j)))

some_others : (a n q : ℤ) → (a +ℤ neg_ℤ n) +ℤ n ≡ a +ℤ (pos 0 *ℤ q)
some_others a n q = omega (arith, ints) ∙ ap (λ z. a +ℤ z) (sym (zero-*ℤ q))

pub weighted_sum : (v : Var) (is : List ℕ) (w : ℕ → Var) (z : ℕ → ℤ)
    → MeansStatement (record { terms = once v ∷ each is (λ i. (w i, Negative (Billionths (z i)))); sense = Equal; right = nothing }) (λ q x. scale_of 1 *ℤ x v equals sum_over is (λ i. x (w i) *ℤ z i))
weighted_sum v is w z = record {
  scale = scale_of 1;
  positive = omega (arith, ints);
  sum = λ x. (scale_of 1 *ℤ x v) +ℤ sum_over is (λ i. neg_ℤ (z i) *ℤ x (w i));
  right = pos 0;
  is_sum = λ x.
      sum-term (scale_of 1) x v (Whole (pos 1)) (each is (λ i. (w i, Negative (Billionths (z i))))) (scale_of 1) (sum_over is (λ i. neg_ℤ (z i) *ℤ x (w i))) (over-one (scale_of 1))
      (sum-each (scale_of 1) x is (λ i. (w i, Negative (Billionths (z i)))) (λ i. neg_ℤ (z i)) (λ i. over-negative_data (z i)));
  is_right = over-zero (scale_of 1);
  same_sense = λ q x. refl;
  balance = λ q x.
      ap (λ n. ((scale_of 1 *ℤ x v) +ℤ n) +ℤ sum_over is (λ i. x (w i) *ℤ z i)) (sum_over-negated is z (λ i. x (w i)))
      ∙ some_others (scale_of 1 *ℤ x v) (sum_over is (λ i. x (w i) *ℤ z i)) (pos q);
}

-- a variable stands to a data value: TCC1, TCC2, NCC1, NCC2 and their like
limited : (a r : ℤ) → (a +ℤ pos 0) +ℤ r ≡ a +ℤ r
limited a r = omega (arith, ints)

pub limit : (sense : Sense) (v : Var) (z : ℤ)
    → MeansStatement (record { terms = once v ∷ []; sense = sense; right = Billionths z }) (λ q x. record { left = scale_of 1 *ℤ x v; sign = sense; right = z *ℤ pos q })
limit sense v z = record {
  scale = scale_of 1;
  positive = omega (arith, ints);
  sum = λ x. (scale_of 1 *ℤ x v) +ℤ pos 0;
  right = z;
  is_sum = λ x. sum-term (scale_of 1) x v (Whole (pos 1)) [] (scale_of 1) (pos 0) (over-one (scale_of 1)) (sum-none (scale_of 1) x);
  is_right = over-data z;
  same_sense = λ q x. refl;
  balance = λ q x. limited (scale_of 1 *ℤ x v) (z *ℤ pos q);
}

-- ---- equations by number

-- P of each number from a on, k of them
abbrev pub EachFrom : (ℕ → Type 0) → ℕ → ℕ → Type 0
EachFrom P a zero = Unit {0}
EachFrom P a (suc k) = P a × EachFrom P (a + 1) k

-- so P of a number among them
pub at_number : (P : ℕ → Type 0) (a k n : ℕ) → EachFrom P a k → a ≤ n → n < a + k → P n
at_number P a zero n h from to = absurd (omega (arith, from, to))
at_number P a (suc k) n h from to =
    elim (eq-or-lt_of_le from) [
      | inl same ↦ subst P same h.0
      | inr above ↦ at_number P (a + 1) k n h.1 (omega (arith, above)) (omega (arith, to))
    ]

-- ---- the plan of 1 at a variable alone

pub alone-self : (v : Var) → alone v v ≡ pos 1
alone-self v = ap (λ o. if is_eq o then pos 1 else pos 0) (same_alike v v refl)

pub sum_over-zero : (is : List ℕ) (f : ℕ → ℤ) → ((i : ℕ) → f i ≡ pos 0) → sum_over is f ≡ pos 0
sum_over-zero [] f h = refl
sum_over-zero (i ∷ is) f h = ap₂ (λ y z. y +ℤ z) (h i) (sum_over-zero is f h)

-- a positive coefficient at this variable, and nothing at the others
pub first_positive : (s y n : ℤ) → pos 0 <ℤ s → y ≡ pos 1 → n ≡ pos 0 → pos 0 <ℤ ((s *ℤ y) +ℤ n)
first_positive s y n h one none = subst (λ z. pos 0 <ℤ z) (sym (ap₂ (λ a b. a +ℤ b) (ap (λ z. s *ℤ z) one ∙ *ℤ-one s) none ∙ +ℤ-zero s)) h

pub sum_of_others-defines : (v : Var) (is : List ℕ) (w : ℕ → Var) → ((i : ℕ) → alone v (w i) ≡ pos 0) → pos 0 <ℤ (sum_of_others v is w).sum (alone v)
unfolding sum_of_others
sum_of_others-defines v is w h =
    first_positive (pos 1) (alone v v) (sum_over is (λ i. negsuc 0 *ℤ alone v (w i))) (omega (arith, ints)) (alone-self v)
    (sum_over-zero is (λ i. negsuc 0 *ℤ alone v (w i)) (λ i. ap (λ z. negsuc 0 *ℤ z) (h i) ∙ *ℤ-zero (negsuc 0)))

-- the variable of a definition is the one that is meant
pub defined : (S : Var → Type 0) (v w : Var) → Some v ≡ Some w → S v → S w
defined S v w h s = let same : v ≡ w = cc h in subst S same s

pub scaled_other-defines : (v w : Var) (z : ℤ) → alone v w ≡ pos 0 → pos 0 <ℤ (scaled_other v w z).sum (alone v)
unfolding scaled_other
scaled_other-defines v w z h =
    first_positive (scale_of 1) (alone v v) ((neg_ℤ z *ℤ alone v w) +ℤ pos 0) (omega (arith, ints)) (alone-self v)
    (ap (λ y. (neg_ℤ z *ℤ y) +ℤ pos 0) h ∙ ap (λ y. y +ℤ pos 0) (*ℤ-zero (neg_ℤ z)))

pub weighted_sum-defines : (v : Var) (is : List ℕ) (w : ℕ → Var) (z : ℕ → ℤ) → ((i : ℕ) → alone v (w i) ≡ pos 0) → pos 0 <ℤ (weighted_sum v is w z).sum (alone v)
unfolding weighted_sum
weighted_sum-defines v is w z h =
    first_positive (scale_of 1) (alone v v) (sum_over is (λ i. neg_ℤ (z i) *ℤ alone v (w i))) (omega (arith, ints)) (alone-self v)
    (sum_over-zero is (λ i. neg_ℤ (z i) *ℤ alone v (w i)) (λ i. ap (λ y. neg_ℤ (z i) *ℤ y) (h i) ∙ *ℤ-zero (neg_ℤ (z i))))

-- The terms of each equation of capacity adequacy mean it.
use Rattle.std.proofs.Common.{◌≡◌, true, ℕ, ℤ, pos, neg_ℤ, ◌+ℤ◌, ◌*ℤ◌, ◌∷◌, [], Some, None, refl, sym, ap, ap₂, ◌∙◌, arith}
use Rattle.std.specs.Prelude.{◌<ℤ◌}
use Rattle.std.proofs.lemmas.Int.{ints}
use Rattle.exact_num.proofs.Ring.{products, *ℤ_comm, zero-*ℤ, neg_ℤ-*ℤ}
use Rattle.model_sets.specs.Data.{Data}
use Rattle.row_core.specs.declared.equation_numbers.TheConstants.{CAA1, CAA2, CAA3, CAA4, CAB1}
use Rattle.row_core.specs.declared.Index.{Index}
use Rattle.row_core.specs.declared.RowName.{RowName}
use Rattle.row_core.specs.declared.Var.{Var}
use Rattle.row_core.specs.Amounts.{Amount, Whole, Billionths, Product, Negative, value_of_amount}
use Rattle.row_core.specs.EquationTerms.{less, each}
use Rattle.row_core.specs.Values.{IsOver, alone}
use Rattle.row_core.proofs.SumLaws.{IsOver-times, IsOver-negated, IsOver-multiplied}
use Rattle.named_equations.specs.Instances.{name_at, stands_at, variable_of}
use Rattle.named_equations.specs.Notation.{sum_over, scale_of}
use Rattle.named_equations.specs.Parameters.{year_split, capacity_to_activity_unit, capacity_factor, availability_factor, residual_capacity}
use Rattle.named_equations.specs.Positions.{modes, timeslices}
use Rattle.named_equations.specs.Plans.{says}
use Rattle.named_equations.specs.Variables.{accumulated_new_capacity, total_capacity_annual, rate_of_total_activity}
use Rattle.named_equations.proofs.TermMeaning.{MeansStatement, IsNamedEquation, sum_of_others, sum_of_others-defines, EachFrom, at_number, alone-self, definition_is, inequality_is, first_positive, sum_over-same, sum_over-times, over-one, over-minus_one, over-zero, over-data, total_over-IsOver, sum-none, sum-term, sum-each}
use Rattle.capacity_rows.specs.Rows.{IsCapacityEquation, terms_at}
use Rattle.capacity_rows.specs.Capacity.{caa2, caa4, cab1, slices_capacity, year_capacity}

caa2-sides : (s t a r : ℤ) → ((s *ℤ t) +ℤ ((neg_ℤ s *ℤ a) +ℤ pos 0)) +ℤ ((s *ℤ a) +ℤ r) ≡ (s *ℤ t) +ℤ r
caa2-sides s t a r = ap (λ z. ((s *ℤ t) +ℤ (z +ℤ pos 0)) +ℤ ((s *ℤ a) +ℤ r)) (neg_ℤ-*ℤ s a) ∙ omega (arith, ints)

pub caa2-means : (places : ℕ) (d : Data) (i : Index) → MeansStatement (caa2 d i.region i.tech i.year) (λ q x. says places d q x (name_at CAA2 i))
caa2-means places d i =
    let total = total_capacity_annual i.region i.tech i.year in
    let built = accumulated_new_capacity i.region i.tech i.year in
    let s : ℤ = scale_of 1 in
    let z : ℤ = residual_capacity d i.region i.tech i.year in
    record {
      scale = s;
      positive = omega (arith, ints);
      sum = λ x. (s *ℤ x total) +ℤ ((neg_ℤ s *ℤ x built) +ℤ pos 0);
      right = z;
      is_sum = λ x. sum-term s x total (Whole (pos 1)) (less built ∷ []) s ((neg_ℤ s *ℤ x built) +ℤ pos 0) (over-one s) (sum-term s x built (less built).1 [] (neg_ℤ s) (pos 0) (over-minus_one s) (sum-none s x));
      is_right = over-data z;
      same_sense = λ q x. refl;
      balance = λ q x. caa2-sides s (x total) (x built) (z *ℤ pos q);
    }

caa4-sides : (s b p t q : ℤ) → ((s *ℤ b) +ℤ ((neg_ℤ p *ℤ t) +ℤ pos 0)) +ℤ (t *ℤ p) ≡ (s *ℤ b) +ℤ (pos 0 *ℤ q)
caa4-sides s b p t q =
    ap₂ (λ y z. ((s *ℤ b) +ℤ (y +ℤ pos 0)) +ℤ z) (neg_ℤ-*ℤ p t) (*ℤ_comm t p) ∙ omega (arith, ints) ∙ ap (λ z. (s *ℤ b) +ℤ z) (sym (zero-*ℤ q))

pub caa4-means : (places : ℕ) (d : Data) (i : Index) → MeansStatement (caa4 d i.region i.slice i.tech i.year) (λ q x. says places d q x (name_at CAA4 i))
caa4-means places d i =
    let rate = rate_of_total_activity i.region i.slice i.tech i.year in
    let total = total_capacity_annual i.region i.tech i.year in
    let factor : ℤ = capacity_factor d i.region i.tech i.slice i.year in
    let unit : ℤ = capacity_to_activity_unit d i.region i.tech in
    let s : ℤ = scale_of 2 in
    let all = Product (Billionths factor) (Billionths unit) in
    let over : IsOver s (value_of_amount all) (factor *ℤ unit) =
    IsOver-times (scale_of 1) (scale_of 1) (value_of_amount (Billionths factor)) (value_of_amount (Billionths unit)) factor unit (over-data factor) (over-data unit) in
    record {
      scale = s;
      positive = omega (arith, ints);
      sum = λ x. (s *ℤ x rate) +ℤ ((neg_ℤ (factor *ℤ unit) *ℤ x total) +ℤ pos 0);
      right = pos 0;
      is_sum = λ x.
          sum-term s x rate (Whole (pos 1)) ((total, Negative all) ∷ []) s ((neg_ℤ (factor *ℤ unit) *ℤ x total) +ℤ pos 0) (over-one s)
          (sum-term s x total (Negative all) [] (neg_ℤ (factor *ℤ unit)) (pos 0) (IsOver-negated s (value_of_amount all) (factor *ℤ unit) over) (sum-none s x));
      is_right = over-zero s;
      same_sense = λ q x. refl;
      balance = λ q x. caa4-sides s (x rate) (factor *ℤ unit) (x total) (pos q);
    }

turned : (k a b : ℤ) → (k *ℤ a) *ℤ b ≡ k *ℤ (b *ℤ a)
turned k a b = simp products

cab1-sides : (c t n q : ℤ) → ((neg_ℤ c *ℤ t) +ℤ n) +ℤ (t *ℤ c) ≡ n +ℤ (pos 0 *ℤ q)
cab1-sides c t n q = ap₂ (λ y z. (y +ℤ n) +ℤ z) (neg_ℤ-*ℤ c t) (*ℤ_comm t c) ∙ omega (arith, ints) ∙ ap (λ z. n +ℤ z) (sym (zero-*ℤ q))

pub cab1-means : (places : ℕ) (d : Data) (i : Index) → MeansStatement (cab1 d i.region i.tech i.year) (λ q x. says places d q x (name_at CAB1 i))
cab1-means places d i =
    let r = i.region in
    let t = i.tech in
    let y = i.year in
    let total = total_capacity_annual r t y in
    let rate : ℕ → Var = λ l. rate_of_total_activity r l t y in
    let split : ℕ → ℤ = λ l. year_split d l y in
    let factor : ℕ → ℤ = λ l. capacity_factor d r t l y in
    let available : ℤ = availability_factor d r t y in
    let unit : ℤ = capacity_to_activity_unit d r t in
    let part : ℤ = sum_over (timeslices d) (λ l. factor l *ℤ split l) in
    let capacity : ℤ = (part *ℤ available) *ℤ unit in
    let s : ℤ = scale_of 4 in
    let k : ℤ = scale_of 3 in
    let term : ℕ → Var × Amount = λ l. (rate l, Billionths (split l)) in
    let slices : IsOver (scale_of 2) (value_of_amount (slices_capacity d r t y)) part =
    total_over-IsOver (scale_of 2) (timeslices d) (λ l. Product (Billionths (factor l)) (Billionths (split l))) (λ l. factor l *ℤ split l)
    (λ l. IsOver-times (scale_of 1) (scale_of 1) (value_of_amount (Billionths (factor l))) (value_of_amount (Billionths (split l))) (factor l) (split l) (over-data (factor l)) (over-data (split l))) in
    let year : IsOver s (value_of_amount (year_capacity d r t y)) capacity =
    IsOver-times (scale_of 3) (scale_of 1) (value_of_amount (Product (slices_capacity d r t y) (Billionths available))) (value_of_amount (Billionths unit)) (part *ℤ available) unit
    (IsOver-times (scale_of 2) (scale_of 1) (value_of_amount (slices_capacity d r t y)) (value_of_amount (Billionths available)) part available slices (over-data available))
    (over-data unit) in
    record {
      scale = s;
      positive = omega (arith, ints);
      sum = λ x. (neg_ℤ capacity *ℤ x total) +ℤ sum_over (timeslices d) (λ l. (k *ℤ split l) *ℤ x (rate l));
      right = pos 0;
      is_sum = λ x.
          sum-term s x total (Negative (year_capacity d r t y)) (each (timeslices d) term) (neg_ℤ capacity) (sum_over (timeslices d) (λ l. (k *ℤ split l) *ℤ x (rate l)))
          (IsOver-negated s (value_of_amount (year_capacity d r t y)) capacity year)
          (sum-each s x (timeslices d) term (λ l. k *ℤ split l) (λ l. IsOver-multiplied k (scale_of 1) (value_of_amount (Billionths (split l))) (split l) (over-data (split l))));
      is_right = over-zero s;
      same_sense = λ q x. refl;
      balance = λ q x.
          ap (λ n. ((neg_ℤ capacity *ℤ x total) +ℤ n) +ℤ (x total *ℤ capacity))
          (sum_over-same (timeslices d) (λ l. (k *ℤ split l) *ℤ x (rate l)) (λ l. k *ℤ (x (rate l) *ℤ split l)) (λ l. turned k (split l) (x (rate l)))
          ∙ sym (sum_over-times (timeslices d) k (λ l. x (rate l) *ℤ split l)))
          ∙ cab1-sides capacity (x total) (k *ℤ sum_over (timeslices d) (λ l. x (rate l) *ℤ split l)) (pos q);
    }

-- ---- the variable of each definition stands in its row with a positive entry

caa2-defines : (places : ℕ) (d : Data) (i : Index) → pos 0 <ℤ (caa2-means places d i).sum (alone (total_capacity_annual i.region i.tech i.year))
unfolding caa2-means
caa2-defines places d i =
    let total = total_capacity_annual i.region i.tech i.year in
    first_positive (scale_of 1) (alone total total) ((neg_ℤ (scale_of 1) *ℤ pos 0) +ℤ pos 0) (omega (arith, ints)) (alone-self total) (omega (arith, ints))

-- ---- by number

-- the equation of number n
abbrev pub IsNamed : ℕ → Data → Index → ℕ → Type 0
IsNamed places d i n = IsNamedEquation places d (name_at n i) (terms_at d (name_at n i))

-- that its terms mean it
abbrev pub Means : ℕ → Data → Index → ℕ → Type 0
Means places d i n = MeansStatement (terms_at d (name_at n i)) (λ q x. says places d q x (name_at n i))

definition : (places : ℕ) (d : Data) (i : Index) (n : ℕ) (v : Var) (m : Means places d i n) → variable_of (name_at n i) ≡ Some v → pos 0 <ℤ m.sum (alone v) → IsNamed places d i n
definition places d i n v m is h = definition_is places d (name_at n i) (terms_at d (name_at n i)) v m is h

inequality : (places : ℕ) (d : Data) (i : Index) (n : ℕ) → Means places d i n → variable_of (name_at n i) ≡ None → IsNamed places d i n
inequality places d i n m none = inequality_is places d (name_at n i) (terms_at d (name_at n i)) m none

caa1-named : (places : ℕ) (d : Data) (i : Index) → IsNamed places d i CAA1
caa1-named places d i = definition places d i CAA1 _ (sum_of_others _ _ _) refl (sum_of_others-defines _ _ _ (λ yy. refl))

caa3-named : (places : ℕ) (d : Data) (i : Index) → IsNamed places d i CAA3
caa3-named places d i = definition places d i CAA3 _ (sum_of_others _ (modes d) _) refl (sum_of_others-defines _ (modes d) _ (λ m. refl))

equations : (places : ℕ) (d : Data) (i : Index) → EachFrom (IsNamed places d i) CAA1 5
equations places d i = (
  caa1-named places d i,
  (
    definition places d i CAA2 (total_capacity_annual i.region i.tech i.year) (caa2-means places d i) refl (caa2-defines places d i),
    (caa3-named places d i, (inequality places d i CAA4 (caa4-means places d i) refl, (inequality places d i CAB1 (cab1-means places d i) refl, tt))),
  ),
)

pub named : (places : ℕ) (d : Data) (n : ℕ) (i : Index) → IsCapacityEquation n → IsNamed places d i n
named places d n i h = at_number (IsNamed places d i) CAA1 5 n (equations places d i) h.0 (omega (arith, h.1))

pub always : (d : Data) (n : ℕ) (i : Index) → IsCapacityEquation n → true ≡ stands_at d n i
always d n i h = at_number (λ n. true ≡ stands_at d n i) CAA1 5 n (refl, (refl, (refl, (refl, (refl, tt))))) h.0 (omega (arith, h.1))

pub terms-at : (d : Data) (name : RowName) (n : ℕ) → name.eq ≡ n → terms_at d name ≡ terms_at d (name_at n name.index)
terms-at d name n h = ap (λ m. terms_at d (name_at m name.index)) h

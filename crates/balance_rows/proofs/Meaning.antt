-- The terms of each equation of demand, energy balance and accounting mean it.
use Rattle.std.proofs.Common.{◌≡◌, ◌≢◌, true, false, Bool, ℕ, inl, inr, ℤ, pos, neg_ℤ, ◌+ℤ◌, ◌*ℤ◌, List, [], ◌∷◌, Some, None, refl, sym, ap, ap₂, ◌∙◌, subst, arith}
use Rattle.std.specs.Prelude.{◌<ℤ◌, ◌≤ℤ◌, nat_le, if◌then◌else◌}
use Rattle.std.specs.Ordering.{is_eq}
use Rattle.std.proofs.lemmas.Int.{ints}
use Rattle.exact_num.proofs.Integers.{*ℤ_pos}
use Rattle.exact_num.proofs.Ring.{*ℤ-+ℤ, one-*ℤ, zero-*ℤ, neg_ℤ-*ℤ}
use Rattle.model_sets.specs.Data.{Data}
use Rattle.row_core.specs.declared.equation_numbers.TheConstants.{EQ_SPECIFIED_DEMAND, EBA1, EBA2, EBA3, EBA4, EBA5, EBA6, EBA7, EBA8, EBA9, EBA10, EBA11, EBB1, EBB2, EBB3, EBB4, ACC1, ACC2, ACC3}
use Rattle.row_core.specs.declared.Index.{Index}
use Rattle.row_core.specs.declared.RowName.{RowName}
use Rattle.row_core.specs.declared.Var.{Var}
use Rattle.row_core.specs.Amounts.{Amount, Whole, Billionths, Negative, value_of_amount}
use Rattle.row_core.specs.EquationTerms.{once, less, each}
use Rattle.row_core.specs.Order.{var_cmp}
use Rattle.row_core.specs.Values.{alone}
use Rattle.row_core.proofs.SumLaws.{IsOver-times, IsOver-multiplied}
use Rattle.named_equations.specs.Instances.{name_at, stands_at, variable_of}
use Rattle.named_equations.specs.Notation.{sum_over, scale_of}
use Rattle.named_equations.specs.Parameters.{year_split, specified_annual_demand, specified_demand_profile, trade_route, accumulated_annual_demand}
use Rattle.named_equations.specs.Positions.{regions}
use Rattle.named_equations.specs.Plans.{says}
use Rattle.named_equations.specs.Variables.{trade, rate_of_demand, production, use_of_fuel, demand, production_annual, use_annual, trade_annual}
use Rattle.named_equations.proofs.TermMeaning.{MeansStatement, IsNamedEquation, sum_of_others, sum_of_others-defines, scaled_other, scaled_other-defines, weighted_sum, weighted_sum-defines, EachFrom, at_number, alone-self, definition_is, inequality_is, first_positive, defined, sum_over-negated, over-one, over-minus_one, over-zero, over-data, over-negative_data, sum-none, sum-term, sum-each}
use Rattle.balance_rows.specs.Balance.{eq_specified_demand, eba10, eba11, ebb4}
use Rattle.balance_rows.specs.Rows.{IsBalanceEquation, terms_at}

-- ---- demand

added_nothing : (a r : ℤ) → (a +ℤ pos 0) +ℤ r ≡ a +ℤ r
added_nothing a r = omega (arith, ints)

pub demand-means : (places : ℕ) (d : Data) (i : Index) → MeansStatement (eq_specified_demand d i.region i.slice i.fuel i.year) (λ q x. says places d q x (name_at EQ_SPECIFIED_DEMAND i))
demand-means places d i =
    let rate = rate_of_demand i.region i.slice i.fuel i.year in
    let split : ℤ = year_split d i.slice i.year in
    let annual : ℤ = specified_annual_demand d i.region i.fuel i.year in
    let profile : ℤ = specified_demand_profile d i.region i.fuel i.slice i.year in
    record {
      scale = scale_of 2;
      positive = omega (arith, ints);
      sum = λ x. ((scale_of 1 *ℤ split) *ℤ x rate) +ℤ pos 0;
      right = annual *ℤ profile;
      is_sum = λ x.
          sum-term (scale_of 2) x rate (Billionths split) [] (scale_of 1 *ℤ split) (pos 0)
          (IsOver-multiplied (scale_of 1) (scale_of 1) (value_of_amount (Billionths split)) split (over-data split)) (sum-none (scale_of 2) x);
      is_right =
          IsOver-times (scale_of 1) (scale_of 1) (value_of_amount (Billionths annual)) (value_of_amount (Billionths profile)) annual profile (over-data annual) (over-data profile);
      same_sense = λ q x. refl;
      balance = λ q x. added_nothing ((scale_of 1 *ℤ split) *ℤ x rate) ((annual *ℤ profile) *ℤ pos q);
    }

demand-defines : (places : ℕ) (d : Data) (i : Index) → pos 0 <ℤ year_split d i.slice i.year → pos 0 <ℤ (demand-means places d i).sum (alone (rate_of_demand i.region i.slice i.fuel i.year))
unfolding demand-means
demand-defines places d i h =
    let rate = rate_of_demand i.region i.slice i.fuel i.year in
    let split : ℤ = year_split d i.slice i.year in
    first_positive (scale_of 1 *ℤ split) (alone rate rate) (pos 0) (*ℤ_pos (scale_of 1) split (omega (arith, ints)) h) (alone-self rate) refl

-- ---- trade

exchanged : (a b q : ℤ) → ((pos 1 *ℤ a) +ℤ ((pos 1 *ℤ b) +ℤ pos 0)) +ℤ pos 0 ≡ (a +ℤ b) +ℤ (pos 0 *ℤ q)
exchanged a b q =
    ap₂ (λ y z. (y +ℤ (z +ℤ pos 0)) +ℤ pos 0) (one-*ℤ a) (one-*ℤ b) ∙ omega (arith, ints) ∙ ap (λ z. (a +ℤ b) +ℤ z) (sym (zero-*ℤ q))

pub exchange-means : (places : ℕ) (d : Data) (i : Index) → MeansStatement (eba10 d i.region i.other i.slice i.fuel i.year) (λ q x. says places d q x (name_at EBA10 i))
exchange-means places d i =
    let there = trade i.region i.other i.slice i.fuel i.year in
    let back = trade i.other i.region i.slice i.fuel i.year in
    record {
      scale = pos 1;
      positive = omega (arith, ints);
      sum = λ x. (pos 1 *ℤ x there) +ℤ ((pos 1 *ℤ x back) +ℤ pos 0);
      right = pos 0;
      is_sum = λ x.
          sum-term (pos 1) x there (Whole (pos 1)) (once back ∷ []) (pos 1) ((pos 1 *ℤ x back) +ℤ pos 0) (over-one (pos 1))
          (sum-term (pos 1) x back (Whole (pos 1)) [] (pos 1) (pos 0) (over-one (pos 1)) (sum-none (pos 1) x));
      is_right = over-zero (pos 1);
      same_sense = λ q x. refl;
      balance = λ q x. exchanged (x there) (x back) (pos q);
    }

alone_nonnegative : (v w : Var) → pos 0 ≤ℤ alone v w
alone_nonnegative v w =
    let At : Bool → Type 0 = λ b. pos 0 ≤ℤ (if b then pos 1 else pos 0) in
    let cases : (b : Bool) → At b = λ b. elim b as At [ true ↦ omega (arith, ints) | false ↦ omega (arith, ints) ] in
    cases (is_eq (var_cmp w v))

both_positive : (a b : ℤ) → pos 0 ≤ℤ a → b ≡ pos 1 → pos 0 <ℤ ((pos 1 *ℤ a) +ℤ ((pos 1 *ℤ b) +ℤ pos 0))
both_positive a b h one = subst (λ z. pos 0 <ℤ z) (sym (ap₂ (λ y z. y +ℤ (z +ℤ pos 0)) (one-*ℤ a) (one-*ℤ b ∙ one))) (omega (arith, ints, h))

exchange-defines : (places : ℕ) (d : Data) (i : Index) (v : Var) → variable_of (name_at EBA10 i) ≡ Some v → pos 0 <ℤ (exchange-means places d i).sum (alone v)
unfolding exchange-means
exchange-defines places d i v h =
    let there = trade i.region i.other i.slice i.fuel i.year in
    let back = trade i.other i.region i.slice i.fuel i.year in
    let Sum : Var → Type 0 = λ w. pos 0 <ℤ ((pos 1 *ℤ alone w there) +ℤ ((pos 1 *ℤ alone w back) +ℤ pos 0)) in
    let own : Sum back = both_positive (alone back there) (alone back back) (alone_nonnegative back there) (alone-self back) in
    let Chosen : Bool → Type 0 = λ b. (if b then Some back else None) ≡ Some v → Sum v in
    let cases : (b : Bool) → Chosen b = λ b. elim b as Chosen [ true ↦ λ e. defined Sum back v e own | false ↦ λ e. absurd (cc e) ] in
    cases (nat_le i.region i.other) h

-- ---- what covers demand

cover_slice : (s p b c n q : ℤ) → ((s *ℤ p) +ℤ ((neg_ℤ s *ℤ b) +ℤ ((neg_ℤ s *ℤ c) +ℤ neg_ℤ n))) +ℤ ((s *ℤ (b +ℤ c)) +ℤ n) ≡ (s *ℤ p) +ℤ (pos 0 *ℤ q)
cover_slice s p b c n q =
    ap₂ (λ y z. ((s *ℤ p) +ℤ (y +ℤ (z +ℤ neg_ℤ n))) +ℤ ((s *ℤ (b +ℤ c)) +ℤ n)) (neg_ℤ-*ℤ s b) (neg_ℤ-*ℤ s c)
    ∙ ap (λ y. ((s *ℤ p) +ℤ (neg_ℤ (s *ℤ b) +ℤ (neg_ℤ (s *ℤ c) +ℤ neg_ℤ n))) +ℤ (y +ℤ n)) (*ℤ-+ℤ s b c)
    ∙ omega (arith, ints)
    ∙ ap (λ y. (s *ℤ p) +ℤ y) (sym (zero-*ℤ q))

pub cover-means : (places : ℕ) (d : Data) (i : Index) → MeansStatement (eba11 d i.region i.slice i.fuel i.year) (λ q x. says places d q x (name_at EBA11 i))
cover-means places d i =
    let made = production i.region i.slice i.fuel i.year in
    let due = demand i.region i.slice i.fuel i.year in
    let used = use_of_fuel i.region i.slice i.fuel i.year in
    let out : ℕ → Var = λ rr. trade i.region rr i.slice i.fuel i.year in
    let route : ℕ → ℤ = λ rr. trade_route d i.region rr i.fuel i.year in
    let s : ℤ = scale_of 1 in
    let routes : List (Var × Amount) = each (regions d) (λ rr. (out rr, Negative (Billionths (route rr)))) in
    record {
      scale = s;
      positive = omega (arith, ints);
      sum = λ x. (s *ℤ x made) +ℤ ((neg_ℤ s *ℤ x due) +ℤ ((neg_ℤ s *ℤ x used) +ℤ sum_over (regions d) (λ rr. neg_ℤ (route rr) *ℤ x (out rr))));
      right = pos 0;
      is_sum = λ x.
          let n : ℤ = sum_over (regions d) (λ rr. neg_ℤ (route rr) *ℤ x (out rr)) in
          sum-term s x made (Whole (pos 1)) (less due ∷ less used ∷ routes) s ((neg_ℤ s *ℤ x due) +ℤ ((neg_ℤ s *ℤ x used) +ℤ n)) (over-one s)
          (sum-term s x due (less due).1 (less used ∷ routes) (neg_ℤ s) ((neg_ℤ s *ℤ x used) +ℤ n) (over-minus_one s)
          (sum-term s x used (less used).1 routes (neg_ℤ s) n (over-minus_one s)
          (sum-each s x (regions d) (λ rr. (out rr, Negative (Billionths (route rr)))) (λ rr. neg_ℤ (route rr)) (λ rr. over-negative_data (route rr)))));
      is_right = over-zero s;
      same_sense = λ q x. refl;
      balance = λ q x.
          ap (λ n. ((s *ℤ x made) +ℤ ((neg_ℤ s *ℤ x due) +ℤ ((neg_ℤ s *ℤ x used) +ℤ n))) +ℤ ((s *ℤ (x due +ℤ x used)) +ℤ sum_over (regions d) (λ rr. x (out rr) *ℤ route rr)))
          (sum_over-negated (regions d) route (λ rr. x (out rr)))
          ∙ cover_slice s (x made) (x due) (x used) (sum_over (regions d) (λ rr. x (out rr) *ℤ route rr)) (pos q);
    }

cover_year : (s p b n r : ℤ) → ((s *ℤ p) +ℤ ((neg_ℤ s *ℤ b) +ℤ neg_ℤ n)) +ℤ (((s *ℤ b) +ℤ n) +ℤ r) ≡ (s *ℤ p) +ℤ r
cover_year s p b n r = ap (λ y. ((s *ℤ p) +ℤ (y +ℤ neg_ℤ n)) +ℤ (((s *ℤ b) +ℤ n) +ℤ r)) (neg_ℤ-*ℤ s b) ∙ omega (arith, ints)

pub cover_year-means : (places : ℕ) (d : Data) (i : Index) → MeansStatement (ebb4 d i.region i.fuel i.year) (λ q x. says places d q x (name_at EBB4 i))
cover_year-means places d i =
    let made = production_annual i.region i.fuel i.year in
    let used = use_annual i.region i.fuel i.year in
    let out : ℕ → Var = λ rr. trade_annual i.region rr i.fuel i.year in
    let route : ℕ → ℤ = λ rr. trade_route d i.region rr i.fuel i.year in
    let due : ℤ = accumulated_annual_demand d i.region i.fuel i.year in
    let s : ℤ = scale_of 1 in
    let routes : List (Var × Amount) = each (regions d) (λ rr. (out rr, Negative (Billionths (route rr)))) in
    record {
      scale = s;
      positive = omega (arith, ints);
      sum = λ x. (s *ℤ x made) +ℤ ((neg_ℤ s *ℤ x used) +ℤ sum_over (regions d) (λ rr. neg_ℤ (route rr) *ℤ x (out rr)));
      right = due;
      is_sum = λ x.
          let n : ℤ = sum_over (regions d) (λ rr. neg_ℤ (route rr) *ℤ x (out rr)) in
          sum-term s x made (Whole (pos 1)) (less used ∷ routes) s ((neg_ℤ s *ℤ x used) +ℤ n) (over-one s)
          (sum-term s x used (less used).1 routes (neg_ℤ s) n (over-minus_one s)
          (sum-each s x (regions d) (λ rr. (out rr, Negative (Billionths (route rr)))) (λ rr. neg_ℤ (route rr)) (λ rr. over-negative_data (route rr))));
      is_right = over-data due;
      same_sense = λ q x. refl;
      balance = λ q x.
          ap (λ n. ((s *ℤ x made) +ℤ ((neg_ℤ s *ℤ x used) +ℤ n)) +ℤ (((s *ℤ x used) +ℤ sum_over (regions d) (λ rr. x (out rr) *ℤ route rr)) +ℤ (due *ℤ pos q)))
          (sum_over-negated (regions d) route (λ rr. x (out rr)))
          ∙ cover_year s (x made) (x used) (sum_over (regions d) (λ rr. x (out rr) *ℤ route rr)) (due *ℤ pos q);
    }

-- ---- by number

-- the equation of number n
abbrev pub IsNamed : ℕ → Data → Index → ℕ → Type 0
IsNamed places d i n = IsNamedEquation places d (name_at n i) (terms_at d (name_at n i))

eba1-named : (places : ℕ) (d : Data) (i : Index) → IsNamed places d i EBA1
eba1-named places d i = definition_is places d (name_at EBA1 i) _ _ (scaled_other _ _ _) refl (scaled_other-defines _ _ _ refl)

eba2-named : (places : ℕ) (d : Data) (i : Index) → IsNamed places d i EBA2
eba2-named places d i = definition_is places d (name_at EBA2 i) _ _ (sum_of_others _ _ _) refl (sum_of_others-defines _ _ _ (λ m. refl))

eba3-named : (places : ℕ) (d : Data) (i : Index) → IsNamed places d i EBA3
eba3-named places d i = definition_is places d (name_at EBA3 i) _ _ (sum_of_others _ _ _) refl (sum_of_others-defines _ _ _ (λ t. refl))

eba4-named : (places : ℕ) (d : Data) (i : Index) → IsNamed places d i EBA4
eba4-named places d i = definition_is places d (name_at EBA4 i) _ _ (scaled_other _ _ _) refl (scaled_other-defines _ _ _ refl)

eba5-named : (places : ℕ) (d : Data) (i : Index) → IsNamed places d i EBA5
eba5-named places d i = definition_is places d (name_at EBA5 i) _ _ (sum_of_others _ _ _) refl (sum_of_others-defines _ _ _ (λ m. refl))

eba6-named : (places : ℕ) (d : Data) (i : Index) → IsNamed places d i EBA6
eba6-named places d i = definition_is places d (name_at EBA6 i) _ _ (sum_of_others _ _ _) refl (sum_of_others-defines _ _ _ (λ t. refl))

eba7-named : (places : ℕ) (d : Data) (i : Index) → IsNamed places d i EBA7
eba7-named places d i = definition_is places d (name_at EBA7 i) _ _ (scaled_other _ _ _) refl (scaled_other-defines _ _ _ refl)

eba8-named : (places : ℕ) (d : Data) (i : Index) → IsNamed places d i EBA8
eba8-named places d i = definition_is places d (name_at EBA8 i) _ _ (scaled_other _ _ _) refl (scaled_other-defines _ _ _ refl)

eba9-named : (places : ℕ) (d : Data) (i : Index) → IsNamed places d i EBA9
eba9-named places d i = definition_is places d (name_at EBA9 i) _ _ (scaled_other _ _ _) refl (scaled_other-defines _ _ _ refl)

ebb1-named : (places : ℕ) (d : Data) (i : Index) → IsNamed places d i EBB1
ebb1-named places d i = definition_is places d (name_at EBB1 i) _ _ (sum_of_others _ _ _) refl (sum_of_others-defines _ _ _ (λ l. refl))

ebb2-named : (places : ℕ) (d : Data) (i : Index) → IsNamed places d i EBB2
ebb2-named places d i = definition_is places d (name_at EBB2 i) _ _ (sum_of_others _ _ _) refl (sum_of_others-defines _ _ _ (λ l. refl))

ebb3-named : (places : ℕ) (d : Data) (i : Index) → IsNamed places d i EBB3
ebb3-named places d i = definition_is places d (name_at EBB3 i) _ _ (sum_of_others _ _ _) refl (sum_of_others-defines _ _ _ (λ l. refl))

acc1-named : (places : ℕ) (d : Data) (i : Index) → IsNamed places d i ACC1
acc1-named places d i = definition_is places d (name_at ACC1 i) _ _ (scaled_other _ _ _) refl (scaled_other-defines _ _ _ refl)

acc2-named : (places : ℕ) (d : Data) (i : Index) → IsNamed places d i ACC2
acc2-named places d i = definition_is places d (name_at ACC2 i) _ _ (scaled_other _ _ _) refl (scaled_other-defines _ _ _ refl)

acc3-named : (places : ℕ) (d : Data) (i : Index) → IsNamed places d i ACC3
acc3-named places d i = definition_is places d (name_at ACC3 i) _ _ (weighted_sum _ _ _ _) refl (weighted_sum-defines _ _ _ _ (λ l. refl))

demand-named : (places : ℕ) (d : Data) (i : Index) → pos 0 <ℤ year_split d i.slice i.year → IsNamed places d i EQ_SPECIFIED_DEMAND
demand-named places d i p = definition_is places d (name_at EQ_SPECIFIED_DEMAND i) _ (rate_of_demand i.region i.slice i.fuel i.year) (demand-means places d i) refl (demand-defines places d i p)

exchange-named : (places : ℕ) (d : Data) (i : Index) → IsNamed places d i EBA10
exchange-named places d i = record { means = exchange-means places d i; defines = exchange-defines places d i }

cover-named : (places : ℕ) (d : Data) (i : Index) → IsNamed places d i EBA11
cover-named places d i = inequality_is places d (name_at EBA11 i) _ (cover-means places d i) refl

cover_year-named : (places : ℕ) (d : Data) (i : Index) → IsNamed places d i EBB4
cover_year-named places d i = inequality_is places d (name_at EBB4 i) _ (cover_year-means places d i) refl

from_seven : (places : ℕ) (d : Data) (i : Index) → EachFrom (IsNamed places d i) EBA1 18
from_seven places d i =
    (eba1-named places d i, (eba2-named places d i, (eba3-named places d i, (eba4-named places d i, (eba5-named places d i, (eba6-named places d i, (eba7-named places d i, (eba8-named places d i, (eba9-named places d i, (exchange-named places d i, (cover-named places d i, (ebb1-named places d i, (ebb2-named places d i, (ebb3-named places d i, (cover_year-named places d i, (acc1-named places d i, (acc2-named places d i, (acc3-named places d i, tt))))))))))))))))))

pub named : (places : ℕ) (d : Data) (n : ℕ) (i : Index) → IsBalanceEquation n → (n ≡ EQ_SPECIFIED_DEMAND → pos 0 <ℤ year_split d i.slice i.year) → IsNamed places d i n
named places d n i h p =
    elim h [
      | inl one ↦ subst (IsNamed places d i) (sym one) (demand-named places d i (p one))
      | inr more ↦ at_number (IsNamed places d i) EBA1 18 n (from_seven places d i) more.0 (omega (arith, more.1))
    ]

pub terms-at : (d : Data) (name : RowName) (n : ℕ) → name.eq ≡ n → terms_at d name ≡ terms_at d (name_at n name.index)
terms-at d name n h = ap (λ m. terms_at d (name_at m name.index)) h

-- where no condition is asked, the equation stands everywhere
abbrev pub Stands : Data → Index → ℕ → Type 0
Stands d i n = n ≢ EBA1 → n ≢ EBA2 → n ≢ EBA4 → n ≢ EBA5 → n ≢ ACC1 → n ≢ ACC2 → true ≡ stands_at d n i

conditions : (d : Data) (i : Index) → EachFrom (Stands d i) EBA1 18
conditions d i =
    ((λ a b c e f g. absurd (a refl)), ((λ a b c e f g. absurd (b refl)), ((λ a b c e f g. refl), ((λ a b c e f g. absurd (c refl)), ((λ a b c e f g. absurd (e refl)), ((λ a b c e f g. refl), ((λ a b c e f g. refl), ((λ a b c e f g. refl), ((λ a b c e f g. refl), ((λ a b c e f g. refl), ((λ a b c e f g. refl), ((λ a b c e f g. refl), ((λ a b c e f g. refl), ((λ a b c e f g. refl), ((λ a b c e f g. refl), ((λ a b c e f g. absurd (f refl)), ((λ a b c e f g. absurd (g refl)), ((λ a b c e f g. refl), tt))))))))))))))))))

pub everywhere_else : (d : Data) (n : ℕ) (i : Index) → IsBalanceEquation n → Stands d i n
everywhere_else d n i h =
    elim h [
      | inl one ↦ subst (Stands d i) (sym one) (λ a b c e f g. refl)
      | inr more ↦ at_number (Stands d i) EBA1 18 n (conditions d i) more.0 (omega (arith, more.1))
    ]

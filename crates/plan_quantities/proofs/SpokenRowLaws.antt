-- Each row that a table of prices shows speaks of its variable, and has an entry other than 0 there: were it 0, the row would hold of plans with less of
-- the variable where it holds of those with more, and the inequality, on a side of which the variable is alone, doesn't.
use Rattle.plan_quantities.proofs.Common.{◌≡◌, ◌≢◌, ◌<◌, ◌++◌, ℕ, ℤ, pos, negsuc, ◌+ℤ◌, ◌*ℤ◌, ◌&&◌, Bool, true, false, List, [], ◌∷◌, inl, inr, refl, sym, ap, ap₂, ◌∙◌, subst, arith, ints, ring, if◌then◌else◌, nat_eq, eq-eqb, true≢false, and_parts, list_any, is_zero, AllByRecursion, Data, Row, RowName, Rational, Var, Index, row_name_cmp, value_in, row_sum, number_at, alone, alone-self, sum_over, sum_over-same, Holds, Stands, says, name_at, is_eq, ◌-ℤ◌, scale_of, instances, is_index, stands_at, subscripts_of, AreRowsOf, Has, Has-instances, trade, trade_annual, trade_route, regions, demand, use_of_fuel}
use Rattle.std.specs.Prelude.{◌≤◌, ◌<ℤ◌, Option, None, Some}
use Rattle.std.specs.List.{range_with_len}
use Rattle.exact_num.proofs.Integers.{≤ℤ_or_<ℤ}
use Rattle.row_core.specs.declared.Sense.{Sense}
use Rattle.row_core.specs.declared.Sense.TheVariants.{Least, Equal, Most}
use Rattle.row_core.specs.Rows.{RowHolds}
use Rattle.row_core.specs.Statements.{Statement}
use Rattle.row_core.proofs.MeaningLaws.{row_sum-alone}
use Rattle.row_core.proofs.Orders.{var_cmp_exact}
use Rattle.row_core.specs.Order.{var_cmp}
use Rattle.row_core.specs.declared.equation_numbers.TheConstants.{AAC2, AAC3, E8, E9, EBA11, EBB4, NCC1, NCC2, RE4, RM3, TAC2, TAC3, TCC1, TCC2}
use Rattle.row_core.specs.declared.kind_numbers.TheConstants.{ANNUAL_EMISSIONS, MODEL_PERIOD_EMISSIONS, NEW_CAPACITY, PRODUCTION, PRODUCTION_ANNUAL, TOTAL_CAPACITY_ANNUAL, TOTAL_CAPACITY_IN_RESERVE_MARGIN, TOTAL_RE_PRODUCTION_ANNUAL, TOTAL_TECHNOLOGY_ANNUAL_ACTIVITY, TOTAL_TECHNOLOGY_MODEL_PERIOD_ACTIVITY}
use Rattle.named_equations.specs.Parameters.{accumulated_annual_demand, annual_emission_limit, annual_exogenous_emission, model_period_emission_limit, re_min_production_target, reserve_margin, total_annual_max_capacity, total_annual_max_capacity_investment, total_annual_min_capacity, total_annual_min_capacity_investment, total_technology_annual_activity_lower_limit, total_technology_annual_activity_upper_limit, total_technology_model_period_activity_lower_limit, total_technology_model_period_activity_upper_limit}
use Rattle.named_equations.specs.Variables.{demand_needing_reserve_margin, re_total_production_of_target_fuel_annual, use_annual}
use Rattle.named_equations.specs.RowMeaning.{IsNamedRow}
use Rattle.named_equations.proofs.TermMeaning.{EachFrom, at_number}
use Rattle.price_tables.specs.declared.shown.PriceTable.{PriceTable}
use Rattle.price_tables.specs.declared.shown.PriceTable.TheVariants.{Fuels, Limits}
use Rattle.price_tables.specs.PricedRows.{fuel_kind, limited_kind, priced_kind, priced_rows, priced_variable, with_variable}
use Rattle.plan_quantities.specs.SpokenRows.{AreSpokenOf, DifferAt, HaveEntries, MovesByUnit, SpeaksOf, with_more}
use Rattle.row_book.specs.EquationRows.{terms_at}
use Rattle.row_book.proofs.Numbers.{in-range}
use Rattle.row_book.proofs.SignLaws.{alike}

-- ---- equations

-- what stands at this name is an inequality, of one sense for all data and plans, and speaks of the variable
record IsInequalityOf (places : ℕ) (name : RowName) (p : Var) : Type 0 where
  sense : Sense
  unequal : sense ≢ Equal
  sign : (d : Data) (q : ℕ) (x : Var → ℤ) → (says places d q x name).sign ≡ sense
  speaks : SpeaksOf places name p

least : Least ≢ Equal
least e = absurd (cc e)

most : Most ≢ Equal
most e = absurd (cc e)

-- a side that no variable at p changes
abbrev IsApart : Var → (Data → ℕ → (Var → ℤ) → ℤ) → Type 0
IsApart p f = (d : Data) (q : ℕ) (x y : Var → ℤ) → DifferAt p x y → f d q x ≡ f d q y

alone-left : (places : ℕ) (name : RowName) (p : Var) (s : Sense) → s ≢ Equal → (f : Data → ℕ → (Var → ℤ) → ℤ) → IsApart p f
    → ((d : Data) (q : ℕ) (x : Var → ℤ) → says places d q x name ≡ record { left = scale_of 1 *ℤ x p; sign = s; right = f d q x }) → IsInequalityOf places name p
alone-left places name p s unequal f same is = record {
  sense = s;
  unequal = unequal;
  sign = λ d q x. ap (λ (said : Statement). said.sign) (is d q x);
  speaks = inl (record {
    alone = λ d q x. ap (λ (said : Statement). said.left) (is d q x);
    apart = λ d q x y h. ap (λ (said : Statement). said.right) (is d q x) ∙ same d q x y h ∙ sym (ap (λ (said : Statement). said.right) (is d q y));
  });
}

alone-right : (places : ℕ) (name : RowName) (p : Var) (s : Sense) → s ≢ Equal → (f : Data → ℕ → (Var → ℤ) → ℤ) → IsApart p f
    → ((d : Data) (q : ℕ) (x : Var → ℤ) → says places d q x name ≡ record { left = f d q x; sign = s; right = scale_of 1 *ℤ x p }) → IsInequalityOf places name p
alone-right places name p s unequal f same is = record {
  sense = s;
  unequal = unequal;
  sign = λ d q x. ap (λ (said : Statement). said.sign) (is d q x);
  speaks = inr (record {
    alone = λ d q x. ap (λ (said : Statement). said.right) (is d q x);
    apart = λ d q x y h. ap (λ (said : Statement). said.left) (is d q x) ∙ same d q x y h ∙ sym (ap (λ (said : Statement). said.left) (is d q y));
  });
}

-- a limit of the data
limit : (places : ℕ) (name : RowName) (p : Var) (s : Sense) → s ≢ Equal → (z : Data → ℤ)
    → ((d : Data) (q : ℕ) (x : Var → ℤ) → says places d q x name ≡ record { left = scale_of 1 *ℤ x p; sign = s; right = z d *ℤ pos q }) → IsInequalityOf places name p
limit places name p s unequal z is = alone-left places name p s unequal (λ d q x. z d *ℤ pos q) (λ d q x y h. refl) is

-- variables of two kinds are two
other-kind : (v p : Var) → nat_eq v.kind p.kind ≡ false → v ≢ p
other-kind v p h e = absurd (true≢false (sym (eq-eqb v.kind p.kind (ap (λ (u : Var). u.kind) e)) ∙ h))

module _ (places : ℕ) (i : Index) where
  -- limits of the data: the variable is alone on the left
  capacity_most : IsInequalityOf places (name_at TCC1 i) (priced_variable TOTAL_CAPACITY_ANNUAL i)
  capacity_most = limit places (name_at TCC1 i) (priced_variable TOTAL_CAPACITY_ANNUAL i) Most most (λ d. total_annual_max_capacity d i.region i.tech i.year) (λ d q x. refl)

  capacity_least : IsInequalityOf places (name_at TCC2 i) (priced_variable TOTAL_CAPACITY_ANNUAL i)
  capacity_least = limit places (name_at TCC2 i) (priced_variable TOTAL_CAPACITY_ANNUAL i) Least least (λ d. total_annual_min_capacity d i.region i.tech i.year) (λ d q x. refl)

  new_capacity_most : IsInequalityOf places (name_at NCC1 i) (priced_variable NEW_CAPACITY i)
  new_capacity_most = limit places (name_at NCC1 i) (priced_variable NEW_CAPACITY i) Most most (λ d. total_annual_max_capacity_investment d i.region i.tech i.year) (λ d q x. refl)

  new_capacity_least : IsInequalityOf places (name_at NCC2 i) (priced_variable NEW_CAPACITY i)
  new_capacity_least = limit places (name_at NCC2 i) (priced_variable NEW_CAPACITY i) Least least (λ d. total_annual_min_capacity_investment d i.region i.tech i.year) (λ d q x. refl)

  activity_most : IsInequalityOf places (name_at AAC2 i) (priced_variable TOTAL_TECHNOLOGY_ANNUAL_ACTIVITY i)
  activity_most = limit places (name_at AAC2 i) (priced_variable TOTAL_TECHNOLOGY_ANNUAL_ACTIVITY i) Most most (λ d. total_technology_annual_activity_upper_limit d i.region i.tech i.year) (λ d q x. refl)

  activity_least : IsInequalityOf places (name_at AAC3 i) (priced_variable TOTAL_TECHNOLOGY_ANNUAL_ACTIVITY i)
  activity_least = limit places (name_at AAC3 i) (priced_variable TOTAL_TECHNOLOGY_ANNUAL_ACTIVITY i) Least least (λ d. total_technology_annual_activity_lower_limit d i.region i.tech i.year) (λ d q x. refl)

  period_activity_most : IsInequalityOf places (name_at TAC2 i) (priced_variable TOTAL_TECHNOLOGY_MODEL_PERIOD_ACTIVITY i)
  period_activity_most = limit places (name_at TAC2 i) (priced_variable TOTAL_TECHNOLOGY_MODEL_PERIOD_ACTIVITY i) Most most (λ d. total_technology_model_period_activity_upper_limit d i.region i.tech) (λ d q x. refl)

  period_activity_least : IsInequalityOf places (name_at TAC3 i) (priced_variable TOTAL_TECHNOLOGY_MODEL_PERIOD_ACTIVITY i)
  period_activity_least = limit places (name_at TAC3 i) (priced_variable TOTAL_TECHNOLOGY_MODEL_PERIOD_ACTIVITY i) Least least (λ d. total_technology_model_period_activity_lower_limit d i.region i.tech) (λ d q x. refl)

  emission_most : IsInequalityOf places (name_at E8 i) (priced_variable ANNUAL_EMISSIONS i)
  emission_most = limit places (name_at E8 i) (priced_variable ANNUAL_EMISSIONS i) Most most (λ d. annual_emission_limit d i.region i.emission i.year -ℤ annual_exogenous_emission d i.region i.emission i.year) (λ d q x. refl)

  period_emission_most : IsInequalityOf places (name_at E9 i) (priced_variable MODEL_PERIOD_EMISSIONS i)
  period_emission_most = limit places (name_at E9 i) (priced_variable MODEL_PERIOD_EMISSIONS i) Most most (λ d. model_period_emission_limit d i.region i.emission) (λ d q x. refl)

  -- RM3 and RE4: the variable is alone on the right
  margin : IsInequalityOf places (name_at RM3 i) (priced_variable TOTAL_CAPACITY_IN_RESERVE_MARGIN i)
  margin =
      let p : Var = priced_variable TOTAL_CAPACITY_IN_RESERVE_MARGIN i in
      let v : Var = demand_needing_reserve_margin i.region i.slice i.year in
      alone-right places (name_at RM3 i) p Most most (λ d q x. x v *ℤ reserve_margin d i.region i.year)
      (λ d q x y h. ap (λ z. z *ℤ reserve_margin d i.region i.year) (h v (other-kind v p refl))) (λ d q x. refl)

  target : IsInequalityOf places (name_at RE4 i) (priced_variable TOTAL_RE_PRODUCTION_ANNUAL i)
  target =
      let p : Var = priced_variable TOTAL_RE_PRODUCTION_ANNUAL i in
      let v : Var = re_total_production_of_target_fuel_annual i.region i.year in
      alone-right places (name_at RE4 i) p Most most (λ d q x. re_min_production_target d i.region i.year *ℤ x v)
      (λ d q x y h. ap (λ z. re_min_production_target d i.region i.year *ℤ z) (h v (other-kind v p refl))) (λ d q x. refl)

  -- the balances: Production, and ProductionAnnual, is alone on the left
  balance : IsInequalityOf places (name_at EBA11 i) (priced_variable PRODUCTION i)
  balance =
      let p : Var = priced_variable PRODUCTION i in
      let demanded : Var = demand i.region i.slice i.fuel i.year in
      let used : Var = use_of_fuel i.region i.slice i.fuel i.year in
      let given : ℕ → Var = λ rr. trade i.region rr i.slice i.fuel i.year in
      let route : Data → ℕ → ℤ = λ d rr. trade_route d i.region rr i.fuel i.year in
      alone-left places (name_at EBA11 i) p Least least
      (λ d q x. scale_of 1 *ℤ (x demanded +ℤ x used) +ℤ sum_over (regions d) (λ rr. x (given rr) *ℤ route d rr))
      (λ d q x y h.
      ap₂ (λ s t. scale_of 1 *ℤ s +ℤ t) (ap₂ (λ s t. s +ℤ t) (h demanded (other-kind demanded p refl)) (h used (other-kind used p refl)))
      (sum_over-same (regions d) (λ rr. x (given rr) *ℤ route d rr) (λ rr. y (given rr) *ℤ route d rr) (λ rr. ap (λ z. z *ℤ route d rr) (h (given rr) (other-kind (given rr) p refl)))))
      (λ d q x. refl)

  annual_balance : IsInequalityOf places (name_at EBB4 i) (priced_variable PRODUCTION_ANNUAL i)
  annual_balance =
      let p : Var = priced_variable PRODUCTION_ANNUAL i in
      let used : Var = use_annual i.region i.fuel i.year in
      let given : ℕ → Var = λ rr. trade_annual i.region rr i.fuel i.year in
      let route : Data → ℕ → ℤ = λ d rr. trade_route d i.region rr i.fuel i.year in
      let demanded : Data → ℕ → ℤ = λ d q. accumulated_annual_demand d i.region i.fuel i.year *ℤ pos q in
      alone-left places (name_at EBB4 i) p Least least
      (λ d q x. scale_of 1 *ℤ x used +ℤ sum_over (regions d) (λ rr. x (given rr) *ℤ route d rr) +ℤ demanded d q)
      (λ d q x y h.
      ap₂ (λ s t. scale_of 1 *ℤ s +ℤ t +ℤ demanded d q) (h used (other-kind used p refl))
      (sum_over-same (regions d) (λ rr. x (given rr) *ℤ route d rr) (λ rr. y (given rr) *ℤ route d rr) (λ rr. ap (λ z. z *ℤ route d rr) (h (given rr) (other-kind (given rr) p refl)))))
      (λ d q x. refl)

  -- of an equation's number and a kind of variables: the equation speaks of the variable of the kind
  abbrev Speaks : ℕ → Option ℕ → Type 0
  Speaks n None = Unit {0}
  Speaks n (Some kind) = IsInequalityOf places (name_at n i) (priced_variable kind i)

  each_limit : EachFrom (λ n. Speaks n (limited_kind n)) 1 64
  each_limit =
      (tt, (tt, (tt, (tt, (tt, (tt, (tt, (tt, (tt, (tt, (tt, (tt, (tt, (tt, (tt, (tt, (tt, (tt, (tt, (tt, (tt, (tt, (tt, (tt, (tt, (tt, (tt, (tt, (tt, (tt, (tt, (tt, (tt, (tt, (tt, (tt, (tt, (tt, (tt, (tt, (tt, (tt, (capacity_most, (capacity_least, (new_capacity_most, (new_capacity_least, (tt, (activity_most, (activity_least, (tt, (period_activity_most, (period_activity_least, (tt, (tt, (margin, (tt, (tt, (tt, (target, (tt, (tt, (tt, (emission_most, (period_emission_most, tt))))))))))))))))))))))))))))))))))))))))))))))))))))))))))))))))

  each_fuel : EachFrom (λ n. Speaks n (fuel_kind n)) 1 64
  each_fuel =
      (tt, (tt, (tt, (tt, (tt, (tt, (tt, (tt, (tt, (tt, (tt, (tt, (tt, (tt, (tt, (tt, (balance, (tt, (tt, (tt, (annual_balance, (tt, (tt, (tt, (tt, (tt, (tt, (tt, (tt, (tt, (tt, (tt, (tt, (tt, (tt, (tt, (tt, (tt, (tt, (tt, (tt, (tt, (tt, (tt, (tt, (tt, (tt, (tt, (tt, (tt, (tt, (tt, (tt, (tt, (tt, (tt, (tt, (tt, (tt, (tt, (tt, (tt, (tt, (tt, tt))))))))))))))))))))))))))))))))))))))))))))))))))))))))))))))))

  -- of the rows of a table
  speaks-at : (table : PriceTable) (n : ℕ) → 1 ≤ n → n < 65 → Speaks n (priced_kind table n)
  speaks-at Limits n from to = at_number (λ k. Speaks k (limited_kind k)) 1 64 n each_limit from to
  speaks-at Fuels n from to = at_number (λ k. Speaks k (fuel_kind k)) 1 64 n each_fuel from to

-- ---- entries

-- a plan with m at p and nothing elsewhere
abbrev only : Var → ℤ → Var → ℤ
only p m v = alone p v *ℤ m

row_sum-only : (p : Var) (m : ℤ) (es : List (Var × ℤ)) → row_sum (only p m) es ≡ row_sum (alone p) es *ℤ m
row_sum-only p m [] = none m
  where
    none : (m : ℤ) → pos 0 ≡ pos 0 *ℤ m
    none m = simp ring
row_sum-only p m (e ∷ es) = ap (λ z. (e.1 *ℤ only p m e.0) +ℤ z) (row_sum-only p m es) ∙ regrouped (alone p e.0) m e.1 (row_sum (alone p) es)
  where
    regrouped : (a m n t : ℤ) → (n *ℤ (a *ℤ m)) +ℤ (t *ℤ m) ≡ ((n *ℤ a) +ℤ t) *ℤ m
    regrouped a m n t = simp ring

-- without an entry at p a row doesn't see it
unseen : (row : Row) (p : Var) (m : ℤ) → number_at row.entries.items p ≡ pos 0 → row_sum (only p m) row.entries.items ≡ pos 0
unseen row p m none = row_sum-only p m row.entries.items ∙ ap (λ z. z *ℤ m) (row_sum-alone p row.entries.items row.ascending ∙ none) ∙ nothing m
  where
    nothing : (m : ℤ) → pos 0 *ℤ m ≡ pos 0
    nothing m = simp ring

-- so where it holds of m there, it holds of any other number
as-well : (row : Row) (p : Var) (m k : ℤ) → number_at row.entries.items p ≡ pos 0 → RowHolds row 1 (only p m) → RowHolds row 1 (only p k)
as-well row p m k none h =
    subst (λ z. Stands row.sense z (row.rhs *ℤ pos 1)) (unseen row p m none ∙ sym (unseen row p k none)) h

-- numbers whose scaled values lie below and above another
record AreAround (right : ℤ) : Type 0 where
  below : ℤ
  above : ℤ
  under : (scale_of 1 *ℤ below) <ℤ right
  over : right <ℤ (scale_of 1 *ℤ above)

around : (right : ℤ) → AreAround right
around right =
    elim (≤ℤ_or_<ℤ (pos 0) right) [
      | inl from ↦ record { below = negsuc 0; above = right +ℤ pos 1; under = omega (arith, ints, from); over = omega (arith, ints, from) }
      | inr less ↦ record { below = right; above = pos 0; under = omega (arith, ints, less); over = omega (arith, ints, less) }
    ]

at-p : (p : Var) (m : ℤ) → scale_of 1 *ℤ only p m p ≡ scale_of 1 *ℤ m
at-p p m = ap (λ z. scale_of 1 *ℤ (z *ℤ m)) (alone-self p) ∙ ap (λ z. scale_of 1 *ℤ z) (one m)
  where
    one : (m : ℤ) → pos 1 *ℤ m ≡ m
    one m = simp ring

alone-other : (p v : Var) → v ≢ p → alone p v ≡ pos 0
alone-other p v other = by_test (is_eq (var_cmp v p)) refl
  where
    by_test : (b : Bool) → is_eq (var_cmp v p) ≡ b → (if b then pos 1 else pos 0) ≡ pos 0
    by_test true is = absurd (other (var_cmp_exact v p (alike (var_cmp v p) is)))
    by_test false is = refl

-- plans with other numbers at p differ there alone
only-differ : (p : Var) (m k : ℤ) → DifferAt p (only p m) (only p k)
only-differ p m k v apart = ap (λ z. z *ℤ m) (alone-other p v apart) ∙ both m k ∙ sym (ap (λ z. z *ℤ k) (alone-other p v apart))
  where
    both : (m k : ℤ) → pos 0 *ℤ m ≡ pos 0 *ℤ k
    both m k = simp ring

-- ---- more of the variable

more-differ : (p : Var) (m : ℤ) (x : Var → ℤ) → DifferAt p (with_more p m x) x
more-differ p m x v apart = ap (λ z. x v +ℤ z *ℤ m) (alone-other p v apart) ∙ same (x v) m
  where
    same : (a m : ℤ) → a +ℤ pos 0 *ℤ m ≡ a
    same a m = simp ring

more-of : (p : Var) (m : ℤ) (x : Var → ℤ) → scale_of 1 *ℤ with_more p m x p ≡ scale_of 1 *ℤ x p +ℤ scale_of 1 *ℤ m
more-of p m x = ap (λ z. scale_of 1 *ℤ (x p +ℤ z *ℤ m)) (alone-self p) ∙ parts (scale_of 1) (x p) m
  where
    parts : (s a m : ℤ) → s *ℤ (a +ℤ pos 1 *ℤ m) ≡ s *ℤ a +ℤ s *ℤ m
    parts s a m = simp ring

pub moves-by-unit : (places : ℕ) (name : RowName) (p : Var) → SpeaksOf places name p → MovesByUnit places name p
moves-by-unit places name p (inl is) d q x m =
    let moved = is.alone d q (with_more p m x) ∙ more-of p m x ∙ ap (λ z. z +ℤ scale_of 1 *ℤ m) (sym (is.alone d q x)) in
    inl (left (says places d q x name).left (says places d q x name).right (scale_of 1 *ℤ m) (says places d q (with_more p m x) name).left (says places d q (with_more p m x) name).right
    moved (is.apart d q (with_more p m x) x (more-differ p m x)))
  where
    left : (a b n a' b' : ℤ) → a' ≡ a +ℤ n → b' ≡ b → a' -ℤ b' ≡ a -ℤ b +ℤ n
    left a b n a' b' e f = omega (arith, ints, e, f)
moves-by-unit places name p (inr is) d q x m =
    let moved = is.alone d q (with_more p m x) ∙ more-of p m x ∙ ap (λ z. z +ℤ scale_of 1 *ℤ m) (sym (is.alone d q x)) in
    inr (right (says places d q x name).left (says places d q x name).right (scale_of 1 *ℤ m) (says places d q (with_more p m x) name).left (says places d q (with_more p m x) name).right
    (is.apart d q (with_more p m x) x (more-differ p m x)) moved)
  where
    right : (a b n a' b' : ℤ) → a' ≡ a → b' ≡ b +ℤ n → a' -ℤ b' ≡ a -ℤ b -ℤ n
    right a b n a' b' e f = omega (arith, ints, e, f)

-- ---- entries of inequalities

-- something holds of one number and fails of another
record IsSplit (P : ℤ → Type 0) : Type 0 where
  holding : ℤ
  failing : ℤ
  holds : P holding
  fails : ¬ (P failing)

-- an inequality between the scaled number and another that stays
number-left : (s : Sense) → s ≢ Equal → (r : ℤ) (one other : ℤ → ℤ) → ((m : ℤ) → one m ≡ scale_of 1 *ℤ m) → ((m : ℤ) → other m ≡ r) → AreAround r → IsSplit (λ m. Stands s (one m) (other m))
number-left Least unequal r one other is same near =
    let b = near.below in
    let a = near.above in
    record { holding = a; failing = b; holds = omega (arith, ints, is a, same a, near.over); fails = λ h. absurd (omega (arith, ints, is b, same b, near.under, h)) }
number-left Equal unequal r one other is same near = absurd (unequal refl)
number-left Most unequal r one other is same near =
    let b = near.below in
    let a = near.above in
    record { holding = b; failing = a; holds = omega (arith, ints, is b, same b, near.under); fails = λ h. absurd (omega (arith, ints, is a, same a, near.over, h)) }

number-right : (s : Sense) → s ≢ Equal → (r : ℤ) (one other : ℤ → ℤ) → ((m : ℤ) → one m ≡ scale_of 1 *ℤ m) → ((m : ℤ) → other m ≡ r) → AreAround r → IsSplit (λ m. Stands s (other m) (one m))
number-right Least unequal r one other is same near =
    let b = near.below in
    let a = near.above in
    record { holding = b; failing = a; holds = omega (arith, ints, is b, same b, near.under); fails = λ h. absurd (omega (arith, ints, is a, same a, near.over, h)) }
number-right Equal unequal r one other is same near = absurd (unequal refl)
number-right Most unequal r one other is same near =
    let b = near.below in
    let a = near.above in
    record { holding = a; failing = b; holds = omega (arith, ints, is a, same a, near.over); fails = λ h. absurd (omega (arith, ints, is b, same b, near.under, h)) }

module _ (places : ℕ) (d : Data) (name : RowName) (p : Var) where
  -- what the equation says of m at p alone
  abbrev said : ℤ → Statement
  said m = says places d 1 (only p m) name

  abbrev IsSaid : Sense → ℤ → Type 0
  IsSaid s m = Stands s (said m).left (said m).right

  by-side : (s : Sense) → s ≢ Equal → SpeaksOf places name p → IsSplit (IsSaid s)
  by-side s unequal (inl is) =
      let r : ℤ = (said (pos 0)).right in
      number-left s unequal r (λ m. (said m).left) (λ m. (said m).right) (λ m. is.alone d 1 (only p m) ∙ at-p p m)
      (λ m. is.apart d 1 (only p m) (only p (pos 0)) (only-differ p m (pos 0))) (around r)
  by-side s unequal (inr is) =
      let r : ℤ = (said (pos 0)).left in
      number-right s unequal r (λ m. (said m).right) (λ m. (said m).left) (λ m. is.alone d 1 (only p m) ∙ at-p p m)
      (λ m. is.apart d 1 (only p m) (only p (pos 0)) (only-differ p m (pos 0))) (around r)

  has-entry : (row : Row) → IsNamedRow places d name (terms_at places d name) row → IsInequalityOf places name p → number_at row.entries.items p ≢ pos 0
  has-entry row named is none =
      let split = by-side is.sense is.unequal is.speaks in
      let h = split.holding in
      let f = split.failing in
      let met : Holds (said h) = subst (λ s. IsSaid s h) (sym (is.sign d 1 (only p h))) split.holds in
      let too : Holds (said f) = (named.says 1 (only p f)).0 (as-well row p h f none ((named.says 1 (only p h)).1 met)) in
      split.fails (subst (λ s. IsSaid s f) (is.sign d 1 (only p f)) too)

-- ---- rows

-- a row of the data is that of a name of them
of-name : (places : ℕ) (d : Data) (names : List RowName) (rows : List Row) (row : Row) → AreRowsOf places d names rows → Has rows row
    → (name : RowName) × (Has names name × IsNamedRow places d name (terms_at places d name) row)
of-name places d [] [] row are has = absurd has
of-name places d [] (r ∷ rows) row are has = absurd are
of-name places d (n ∷ names) [] row are has = absurd has
of-name places d (n ∷ names) (r ∷ rows) row are (inl e) = (n, (inl refl, subst (λ m. IsNamedRow places d n (terms_at places d n) m) e are.0))
of-name places d (n ∷ names) (r ∷ rows) row are (inr has) =
    let rest = of-name places d names rows row are.1 has in (rest.0, (inr rest.1.0, rest.1.1))

-- what holds of each row with the variable of its kind holds of all that a table shows
module _ (table : PriceTable) (multipliers : List (RowName × Rational)) (P : Row × Var → Type 0) where
  by_multiplier : (row : Row) (p : Var) (is_none : Bool) (rest : List (Row × Var)) → P (row, p) → AllByRecursion P rest → AllByRecursion P ((if is_none then [] else (row, p) ∷ []) ++ rest)
  by_multiplier row p true rest here all = all
  by_multiplier row p false rest here all = (here, all)

  by_kind : (row : Row) (kind : Option ℕ) (rest : List (Row × Var)) → ((k : ℕ) → kind ≡ Some k → P (row, priced_variable k row.name.index)) → AllByRecursion P rest
      → AllByRecursion P (with_variable multipliers row kind ++ rest)
  by_kind row None rest here all = all
  by_kind row (Some k) rest here all = by_multiplier row (priced_variable k row.name.index) (is_zero (value_in row_name_cmp multipliers row.name).top) rest (here k refl) all

  of-shown : (rows : List Row) → ((row : Row) → Has rows row → (k : ℕ) → priced_kind table row.name.eq ≡ Some k → P (row, priced_variable k row.name.index)) → AllByRecursion P (priced_rows table multipliers rows)
  of-shown [] each = tt
  of-shown (row ∷ rows) each =
      by_kind row (priced_kind table row.name.eq) (priced_rows table multipliers rows) (each row (inl refl)) (of-shown rows (λ other has. each other (inr has)))

module _ (places : ℕ) (d : Data) (table : PriceTable) (multipliers : List (RowName × Rational)) (rows : List Row) (are : AreRowsOf places d (instances d) rows) where
  -- the number of an instance's equation
  number-in : (name : RowName) → Has (instances d) name → (1 ≤ name.eq) × (name.eq < 65)
  number-in name has =
      let number : Bool = list_any (nat_eq name.eq) (range_with_len 1 64) in
      let inside : Bool = is_index d (subscripts_of name.eq) name.index in
      let parts = and_parts (number && inside) (stands_at d name.eq name.index) ((Has-instances d name).0 has) in
      in-range name.eq 1 64 (and_parts number inside parts.0).0

  inequality-of : (row : Row) (name : RowName) (k : ℕ) → row.name ≡ name → Has (instances d) name → priced_kind table row.name.eq ≡ Some k → IsInequalityOf places row.name (priced_variable k row.name.index)
  inequality-of row name k named has kind =
      let within = number-in row.name (subst (Has (instances d)) (sym named) has) in
      subst (Speaks places row.name.index row.name.eq) kind (speaks-at places row.name.index table row.name.eq within.0 within.1)

  pub rows-spoken : AreSpokenOf places (priced_rows table multipliers rows)
  rows-spoken =
      of-shown table multipliers (λ e. SpeaksOf places e.0.name e.1) rows
      (λ row has k kind.
      let found = of-name places d (instances d) rows row are has in
      (inequality-of row found.0 k found.1.1.written.named found.1.0 kind).speaks)

  pub rows-entered : HaveEntries (priced_rows table multipliers rows)
  rows-entered =
      of-shown table multipliers (λ e. number_at e.0.entries.items e.1 ≢ pos 0) rows
      (λ row has k kind.
      let found = of-name places d (instances d) rows row are has in
      let same : row.name ≡ found.0 = found.1.1.written.named in
      let is : IsNamedRow places d row.name (terms_at places d row.name) row = subst (λ n. IsNamedRow places d n (terms_at places d n) row) (sym same) found.1.1 in
      has-entry places d row.name (priced_variable k row.name.index) row is (inequality-of row found.0 k same found.1.0 kind))

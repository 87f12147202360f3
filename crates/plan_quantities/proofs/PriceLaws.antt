-- A plan that covers more of a fuel costs at least the bound and the price of what is more: with that much less Production it meets every row, at its
-- scale, and in the row of the fuel's balance less Production is more on the right side.
use Rattle.plan_quantities.proofs.Common.{◌≡◌, ◌≢◌, ℕ, ◌*◌, ◌<◌, ℤ, pos, neg_ℤ, ◌+ℤ◌, ◌*ℤ◌, Bool, true, false, List, [], ◌∷◌, refl, sym, ap, ap₂, ◌∙◌, subst, inl, inr, arith, true≢false, is_eq, ints, Rational, whole, *ℤ_nonnegative, ring, *ℤ_assoc, *ℤ-one, +ℤ-zero, Data, Index, Row, RowName, Var, PRODUCTION, kind_is_free, ascends, row_name_cmp, value_in, number_at, row_sum, Holds, Stands, IsOver, AreMultipliersOver, Proves, bound_of, cost_of, model_cost, all_variables, exists, at_rlfy, instances, is_instance, scale_of, sum_over, trade_route, Meets, cost, all_years, regions, demand, production, total_discounted_cost, trade, use_of_fuel, variable, Contains-from_Has, Has, Has-from_Contains, Has-map, Contains-variables, Has-instances, Has-variables, alone-self, sum_over-same, sum_over-times, FeasibleWithLess, IsRowPromised, row_price_over, row_price, FeasibleWithMore, IsPromised, balance_at, price_of, price_over, production_entry, says_more, at_name, fractions, name-itself, same-name, weighted-one, weighted-plus, index-tidied, values-from_index, AreRowsOf}
use Rattle.std.specs.Prelude.{◌≤ℤ◌, Contains, if◌then◌else◌}
use Rattle.row_core.specs.Subscripts as place
use Rattle.row_core.proofs.MeaningLaws.{row_sum-alone}
use Rattle.row_core.proofs.SumLaws.{IsOver-times}
use Rattle.row_core.proofs.PlanLaws.{holds-scaled, row_sum-scaled}
use Rattle.certificate_checker.specs.Plans.{AllStand, HaveRightSigns, IsRight}
use Rattle.certificate_checker.specs.Sums.{HasVariablesOf, weighted}
use Rattle.certificate_checker.proofs.DualityLaws.{weak_duality, weighted-right}
use Rattle.named_equations.specs.RowMeaning.{IsNamedRow}
use Rattle.named_equations.proofs.InstanceOrder.{instances-ascend, variables-ascend}
use Rattle.plan_costs.proofs.ModelCost.{cost-of_all}
use Rattle.plan_quantities.proofs.MovedRows.{Stands-moved, moved, row_sum-moved}
use Rattle.row_core.specs.RowLists.{entry_variables, names_of}
use Rattle.row_book.specs.EquationRows.{terms_at}
use Rattle.row_book.proofs.Instances.{instance-parts}
use Rattle.row_book.proofs.Lists.{all-has}
use Rattle.row_book.proofs.Triangles.{IsThere, all-there, row-of}
use Rattle.row_book.proofs.Within.{names-of_rows}

-- ---- the balance of the plan with less Production

-- what is more, over b times q: a times q
abbrev pub more_of : ℤ → ℕ → ℤ
more_of a q = a *ℤ pos q

less-production : (s b v m : ℤ) → s *ℤ (b *ℤ v +ℤ pos 1 *ℤ m) ≡ b *ℤ (s *ℤ v) +ℤ s *ℤ m
less-production s b v m = simp ring

same-needs : (s b v w m t u : ℤ) → u ≡ b *ℤ t → s *ℤ ((b *ℤ v +ℤ pos 0 *ℤ m) +ℤ (b *ℤ w +ℤ pos 0 *ℤ m)) +ℤ u ≡ b *ℤ (s *ℤ (v +ℤ w) +ℤ t)
same-needs s b v w m t u is = ap (λ z. s *ℤ ((b *ℤ v +ℤ pos 0 *ℤ m) +ℤ (b *ℤ w +ℤ pos 0 *ℤ m)) +ℤ z) is ∙ taken s b v w m t
  where
    taken : (s b v w m t : ℤ) → s *ℤ ((b *ℤ v +ℤ pos 0 *ℤ m) +ℤ (b *ℤ w +ℤ pos 0 *ℤ m)) +ℤ b *ℤ t ≡ b *ℤ (s *ℤ (v +ℤ w) +ℤ t)
    taken s b v w m t = simp ring

same-trade : (b v m k : ℤ) → (b *ℤ v +ℤ pos 0 *ℤ m) *ℤ k ≡ b *ℤ (v *ℤ k)
same-trade b v m k = simp ring

less-more : (s a n : ℤ) → s *ℤ neg_ℤ (a *ℤ n) ≡ neg_ℤ (s *ℤ a *ℤ n)
less-more s a n = simp ring

covered : (needs made needs' made' more : ℤ) → needs' ≡ needs → made' ≡ made +ℤ neg_ℤ more → (needs +ℤ more) ≤ℤ made → needs' ≤ℤ made'
covered needs made needs' made' more e f h = omega (arith, ints, e, f, h)

module _ (places : ℕ) (d : Data) (a : ℤ) (b q : ℕ) (x : Var → ℤ) (positive : 0 < b) where
  -- the plan over b times q
  abbrev pub wider : Var → ℤ
  wider v = pos b *ℤ x v

  abbrev pub lessened : Var → Var → ℤ
  lessened p = moved (pos b) x p (neg_ℤ (more_of a q))

  balance-lessened : (r l f y : ℕ) → Holds (says_more places d (at_rlfy r l f y) a b q x) → Meets places d (b * q) (lessened (production r l f y)) (balance_at (at_rlfy r l f y))
  balance-lessened r l f y holds =
      let p = production r l f y in
      let m = neg_ℤ (more_of a q) in
      let traded : ℤ = sum_over (regions d) (λ rr. x (trade r rr l f y) *ℤ trade_route d r rr f y) in
      let needs : ℤ = pos b *ℤ (scale_of 1 *ℤ (x (demand r l f y) +ℤ x (use_of_fuel r l f y)) +ℤ traded) in
      let made : ℤ = pos b *ℤ (scale_of 1 *ℤ x p) in
      let trades : sum_over (regions d) (λ rr. lessened p (trade r rr l f y) *ℤ trade_route d r rr f y) ≡ pos b *ℤ traded =
      sum_over-same (regions d) (λ rr. lessened p (trade r rr l f y) *ℤ trade_route d r rr f y) (λ rr. pos b *ℤ (x (trade r rr l f y) *ℤ trade_route d r rr f y))
      (λ rr. same-trade (pos b) (x (trade r rr l f y)) m (trade_route d r rr f y))
      ∙ sym (sum_over-times (regions d) (pos b) (λ rr. x (trade r rr l f y) *ℤ trade_route d r rr f y)) in
      let more : ℤ = scale_of 1 *ℤ a *ℤ pos q in
      covered needs made
      (scale_of 1 *ℤ (lessened p (demand r l f y) +ℤ lessened p (use_of_fuel r l f y)) +ℤ sum_over (regions d) (λ rr. lessened p (trade r rr l f y) *ℤ trade_route d r rr f y))
      (scale_of 1 *ℤ lessened p p) more
      (same-needs (scale_of 1) (pos b) (x (demand r l f y)) (x (use_of_fuel r l f y)) m traded (sum_over (regions d) (λ rr. lessened p (trade r rr l f y) *ℤ trade_route d r rr f y)) trades)
      (ap (λ z. scale_of 1 *ℤ (pos b *ℤ x p +ℤ z *ℤ m)) (alone-self p)
      ∙ less-production (scale_of 1) (pos b) (x p) m
      ∙ ap (λ z. made +ℤ z) (less-more (scale_of 1) a (pos q)))
      holds

  -- ---- rows

  -- what the row has at this variable
  abbrev pub entry_at : Var → Row → ℤ
  entry_at p row = number_at row.entries.items p

  -- a row whose equation the plan meets
  pub row-wider : (row : Row) → Holds (record { left = row_sum x row.entries.items; sign = row.sense; right = row.rhs *ℤ pos q }) → Stands row.sense (row_sum wider row.entries.items) (row.rhs *ℤ pos (b * q))
  row-wider row holds = (holds-scaled row.sense row.entries.items row.rhs b q x positive).0 holds

  regroup : (n a k : ℤ) → n *ℤ neg_ℤ (a *ℤ k) ≡ neg_ℤ (n *ℤ (a *ℤ k))
  regroup n a k = simp ring

  -- a row that the plan with less of a variable meets
  pub row-lessened : (row : Row) (p : Var) → Stands row.sense (row_sum (lessened p) row.entries.items) (row.rhs *ℤ pos (b * q))
      → Stands row.sense (row_sum wider row.entries.items) (row.rhs *ℤ pos (b * q) +ℤ entry_at p row *ℤ more_of a q)
  row-lessened row p stands =
      let es = row.entries.items in
      let sum : row_sum (lessened p) es ≡ row_sum wider es +ℤ entry_at p row *ℤ neg_ℤ (more_of a q) =
      row_sum-moved (pos b) x p (neg_ℤ (more_of a q)) es
      ∙ ap₂ (λ s t. s +ℤ t *ℤ neg_ℤ (more_of a q)) (sym (row_sum-scaled (pos b) x es)) (row_sum-alone p es row.ascending) in
      Stands-moved row.sense (row_sum wider es) (entry_at p row *ℤ neg_ℤ (more_of a q)) (entry_at p row *ℤ more_of a q) (row.rhs *ℤ pos (b * q))
      (regroup (entry_at p row) a (pos q)) (subst (λ z. Stands row.sense z (row.rhs *ℤ pos (b * q))) sum stands)

  -- the right sides that all rows stand to
  abbrev right_at : RowName → Var → Row → ℤ
  right_at name p row = row.rhs *ℤ pos (b * q) +ℤ at_name name (λ other. entry_at p other *ℤ more_of a q) row

  -- a plan that covers more of a fuel meets the balance with less Production
  more-is-less : (r l f y : ℕ) → FeasibleWithMore places d (at_rlfy r l f y) a b q x → FeasibleWithLess places d (balance_at (at_rlfy r l f y)) (production r l f y) a b q x
  more-is-less r l f y plan = record { positive = plan.positive; others = plan.others; less = balance-lessened r l f y plan.balance; signs = plan.signs }

  module _ (at : RowName) (p : Var) (plan : FeasibleWithLess places d at p a b q x) where
    row-stands : (name : RowName) (row : Row) → IsNamedRow places d name (terms_at places d name) row → is_instance d name ≡ true
        → Stands row.sense (row_sum wider row.entries.items) (right_at at p row)
    row-stands name row is there = by_test (is_eq (row_name_cmp row.name at)) refl
      where
        by_test : (t : Bool) → is_eq (row_name_cmp row.name at) ≡ t
            → Stands row.sense (row_sum wider row.entries.items) (row.rhs *ℤ pos (b * q) +ℤ (if t then entry_at p row *ℤ more_of a q else pos 0))
        by_test true same =
            let named : name ≡ at = sym is.written.named ∙ same-name row.name at same in
            row-lessened row p ((is.says (b * q) (lessened p)).1 (subst (Meets places d (b * q) (lessened p)) (sym named) plan.less))
        by_test false other =
            let apart : name ≢ at = λ e. true≢false (sym (name-itself row.name at (is.written.named ∙ e)) ∙ other) in
            subst (Stands row.sense (row_sum wider row.entries.items)) (sym (+ℤ-zero (row.rhs *ℤ pos (b * q)))) (row-wider row ((is.says q x).1 (plan.others name there apart)))

    rows-stand : (ns : List RowName) (rows : List Row) → ((name : RowName) → Has ns name → is_instance d name ≡ true) → AreRowsOf places d ns rows
        → AllStand (right_at at p) rows wider
    rows-stand [] [] there are = tt
    rows-stand [] (row ∷ rows) there are = absurd are
    rows-stand (name ∷ ns) [] there are = absurd are
    rows-stand (name ∷ ns) (row ∷ rows) there are =
        (row-stands name row are.0 (there name (inl refl)), rows-stand ns rows (λ n has. there n (inr has)) are.1)

    signs-stand : (vs : List Var) → ((v : Var) → Has vs v → exists d v ≡ true) → HaveRightSigns vs wider
    signs-stand [] there = tt
    signs-stand (v ∷ vs) there = (by_kind (kind_is_free v.kind) (plan.signs v (there v (inl refl))), signs-stand vs (λ u has. there u (inr has)))
      where
        by_kind : (free : Bool) → (free ≡ false → pos 0 ≤ℤ x v) → IsRight free (wider v)
        by_kind true sign = tt
        by_kind false sign = *ℤ_nonnegative (pos b) (x v) (omega (arith, ints)) (sign refl)

    wider-cost : cost_of model_cost (all_variables d) wider ≡ pos b *ℤ cost d x
    wider-cost =
        cost-of_all d wider
        ∙ sum_over-same (regions d) (λ r. sum_over (all_years d) (λ y. pos b *ℤ x (total_discounted_cost r y))) (λ r. pos b *ℤ sum_over (all_years d) (λ y. x (total_discounted_cost r y)))
        (λ r. sym (sum_over-times (all_years d) (pos b) (λ y. x (total_discounted_cost r y))))
        ∙ sym (sum_over-times (regions d) (pos b) (λ r. sum_over (all_years d) (λ y. x (total_discounted_cost r y))))

    price-at : (rows : List Row) (s : ℕ) (w : RowName → ℤ) (row : Row) → AreRowsOf places d (instances d) rows → Proves model_cost rows (all_variables d) s w → Has rows row
        → row.name ≡ at → ((bound_of w rows *ℤ pos b +ℤ row_price_over w row p *ℤ a) *ℤ pos q) ≤ℤ (pos s *ℤ pos b *ℤ cost d x)
    price-at rows s w row are proves has named =
        let entry : Row → ℤ = λ other. number_at other.entries.items p *ℤ (a *ℤ pos q) in
        let up : ascends row_name_cmp (names_of rows) ≡ true = subst (λ ns. ascends row_name_cmp ns ≡ true) (sym (names-of_rows places d (instances d) rows are)) (instances-ascend d) in
        let of_book : HasVariablesOf rows (all_variables d) =
        λ v given. (Contains-variables d v).1 (all-has (IsThere d) (entry_variables rows) v (all-there places d rows are) (Has-from_Contains (entry_variables rows) v given)) in
        let least =
        weak_duality model_cost rows (all_variables d) s w (right_at at p) wider (variables-ascend d) of_book proves
        (rows-stand (instances d) rows (λ name there. (Has-instances d name).0 there) are) (signs-stand (all_variables d) (λ v there. (Has-variables d v).0 there)) in
        let alone_at : weighted w (at_name at entry) rows ≡ w row.name *ℤ entry row = subst (λ n. weighted w (at_name n entry) rows ≡ w row.name *ℤ entry row) named (weighted-one w entry rows row up has) in
        let left : weighted w (right_at at p) rows ≡ (bound_of w rows *ℤ pos b +ℤ row_price_over w row p *ℤ a) *ℤ pos q =
        weighted-plus w (λ other. other.rhs *ℤ pos (b * q)) (at_name at entry) rows
        ∙ ap₂ (λ u v. u +ℤ v) (weighted-right w (b * q) rows) alone_at
        ∙ together (bound_of w rows) (pos b) (pos q) (w row.name) (number_at row.entries.items p) a in
        let right : pos s *ℤ cost_of model_cost (all_variables d) wider ≡ pos s *ℤ pos b *ℤ cost d x = ap (λ z. pos s *ℤ z) wider-cost ∙ sym (*ℤ_assoc (pos s) (pos b) (cost d x)) in
        subst (λ z. z ≤ℤ (pos s *ℤ pos b *ℤ cost d x)) left (subst (λ z. weighted w (right_at at p) rows ≤ℤ z) right least)
      where
        together : (u b q y n a : ℤ) → u *ℤ (b *ℤ q) +ℤ y *ℤ (n *ℤ (a *ℤ q)) ≡ (u *ℤ b +ℤ y *ℤ n *ℤ a) *ℤ q
        together u b q y n a = simp ring

-- ---- any row

pub row-price-holds : (places : ℕ) (d : Data) (rows : List Row) (s : ℕ) (y : RowName → ℤ) (row : Row) (p : Var) (a : ℤ) (b q : ℕ) (x : Var → ℤ)
    → AreRowsOf places d (instances d) rows → Proves model_cost rows (all_variables d) s y → Contains rows row → 0 < b → FeasibleWithLess places d row.name p a b q x
    → ((bound_of y rows *ℤ pos b +ℤ row_price_over y row p *ℤ a) *ℤ pos q) ≤ℤ (pos s *ℤ pos b *ℤ cost d x)
row-price-holds places d rows s y row p a b q x are proves given positive plan =
    price-at places d a b q x positive row.name p plan rows s y row are proves (Has-from_Contains rows row given) refl

-- ---- the balance of a fuel

-- the subscripts of a balance are those of its index
balance-tidied : (d : Data) (index : Index) → is_instance d (balance_at index) ≡ true → index ≡ at_rlfy index.region index.slice index.fuel index.year
balance-tidied d index instance =
    let subscripts : List ℕ = place.r ∷ place.l ∷ place.f ∷ place.y ∷ [] in
    index-tidied d subscripts index (values-from_index d subscripts index (instance-parts d (balance_at index) instance).within)

pub more-less : (places : ℕ) (d : Data) (index : Index) (a : ℤ) (b q : ℕ) (x : Var → ℤ) → is_instance d (balance_at index) ≡ true → 0 < b → FeasibleWithMore places d index a b q x
    → FeasibleWithLess places d (balance_at index) (variable PRODUCTION index) a b q x
more-less places d index a b q x instance positive plan =
    let At : Index → Type 0 = λ i. FeasibleWithMore places d i a b q x → FeasibleWithLess places d (balance_at i) (variable PRODUCTION i) a b q x in
    subst At (sym (balance-tidied d index instance)) (λ more. more-is-less places d a b q x positive index.region index.slice index.fuel index.year more) plan

pub price-holds : (places : ℕ) (d : Data) (rows : List Row) (s : ℕ) (y : RowName → ℤ) (row : Row) (index : Index) (a : ℤ) (b q : ℕ) (x : Var → ℤ)
    → AreRowsOf places d (instances d) rows → Proves model_cost rows (all_variables d) s y → Contains rows row → row.name ≡ balance_at index → 0 < b → FeasibleWithMore places d index a b q x
    → ((bound_of y rows *ℤ pos b +ℤ price_over y row *ℤ a) *ℤ pos q) ≤ℤ (pos s *ℤ pos b *ℤ cost d x)
price-holds places d rows s y row index a b q x are proves given named positive plan =
    let has = Has-from_Contains rows row given in
    let listed : Has (instances d) row.name = subst (λ ns. Has ns row.name) (names-of_rows places d (instances d) rows are) (Has-map (λ (r : Row). r.name) rows row has) in
    let instance = subst (λ n. is_instance d n ≡ true) named ((Has-instances d row.name).0 listed) in
    let less : FeasibleWithLess places d row.name (variable PRODUCTION row.name.index) a b q x =
    subst (λ (n : RowName). FeasibleWithLess places d n (variable PRODUCTION n.index) a b q x) (sym named) (more-less places d index a b q x instance positive plan) in
    row-price-holds places d rows s y row (variable PRODUCTION row.name.index) a b q x are proves given positive less

-- each balance has a row
pub balance-row : (places : ℕ) (d : Data) (rows : List Row) (index : Index) → AreRowsOf places d (instances d) rows → is_instance d (balance_at index) ≡ true
    → (row : Row) × Contains rows row × (row.name ≡ balance_at index)
balance-row places d rows index are instance =
    let found = row-of places d (instances d) rows (balance_at index) are ((Has-instances d (balance_at index)).1 instance) in
    (found.0, Contains-from_Has rows found.0 found.1.0, found.1.1.written.named)

-- ---- in fractions

pub promise-holds : (places : ℕ) (d : Data) (rows : List Row) (s : ℕ) (y : RowName → ℤ) (multipliers : List (RowName × Rational)) (bound : Rational) (row : Row) (index : Index)
    → AreRowsOf places d (instances d) rows → Proves model_cost rows (all_variables d) s y → AreMultipliersOver s y multipliers → IsOver (pos s) bound (bound_of y rows)
    → Contains rows row → row.name ≡ balance_at index → IsPromised places d index bound (price_of multipliers row)
promise-holds places d rows s y multipliers bound row index are proves over bounds given named =
    let n = production_entry row in
    let price = IsOver-times (pos s) (pos 1) (value_in row_name_cmp multipliers row.name) (whole n) (y row.name) n (over.1 row.name) (whole-over n) in
    record {
      bound_positive = bounds.positive;
      price_positive = price.positive;
      costs = λ a b q x positive plan.
          fractions (pos s) (pos b) (pos q) a (cost d x) bound.top bound.bottom (price_of multipliers row).top (price_of multipliers row).bottom (bound_of y rows) (price_over y row)
          (omega (arith, ints, over.0)) bounds.positive price.positive bounds.cross (price.cross ∙ ap (λ z. (price_of multipliers row).top *ℤ z) (*ℤ-one (pos s)))
          (price-holds places d rows s y row index a b q x are proves given named positive plan);
    }
  where
    whole-over : (n : ℤ) → IsOver (pos 1) (whole n) n
    whole-over n = record { positive = omega (arith, ints); cross = refl }

pub row-promise-holds : (places : ℕ) (d : Data) (rows : List Row) (s : ℕ) (y : RowName → ℤ) (multipliers : List (RowName × Rational)) (bound : Rational) (row : Row) (p : Var)
    → AreRowsOf places d (instances d) rows → Proves model_cost rows (all_variables d) s y → AreMultipliersOver s y multipliers → IsOver (pos s) bound (bound_of y rows)
    → Contains rows row → IsRowPromised places d row.name p bound (row_price multipliers row p)
row-promise-holds places d rows s y multipliers bound row p are proves over bounds given =
    let n = number_at row.entries.items p in
    let price = IsOver-times (pos s) (pos 1) (value_in row_name_cmp multipliers row.name) (whole n) (y row.name) n (over.1 row.name) (whole-is n) in
    record {
      bound_positive = bounds.positive;
      price_positive = price.positive;
      costs = λ a b q x positive plan.
          fractions (pos s) (pos b) (pos q) a (cost d x) bound.top bound.bottom (row_price multipliers row p).top (row_price multipliers row p).bottom (bound_of y rows) (row_price_over y row p)
          (omega (arith, ints, over.0)) bounds.positive price.positive bounds.cross (price.cross ∙ ap (λ z. (row_price multipliers row p).top *ℤ z) (*ℤ-one (pos s)))
          (row-price-holds places d rows s y row p a b q x are proves given positive plan);
    }
  where
    whole-is : (n : ℤ) → IsOver (pos 1) (whole n) n
    whole-is n = record { positive = omega (arith, ints); cross = refl }

-- What is carried back from the simplex is what makes the checks say yes.
use Rattle.row_problem.proofs.Common.{◌≡◌, ℕ, ℤ, pos, neg_ℤ, ◌+ℤ◌, ◌*ℤ◌, true, false, List, map, sym, ap, ◌∙◌, subst, arith, ◌<ℤ◌, Option, ints, value_of, Frac, *ℤ_cancel, *ℤ_pos, <ℤ_cancel, nonzero_of_pos, *ℤ-zero, *ℤ_comm, ring, zero-*ℤ, Row, Var, AreOver, ascends, keys_of, row_name_cmp, var_cmp, value_in, row_sum, IsOver, IsOver-agree, Reduced, right_sum, AreTriangular, Definition, defined, definitions_of, is_among, lifted, no_right_side, right_side, program_of, bound_of, cost_of, AreOverSome, row_sum-avoids, row_sum-times, direction_met, lifted-others, lifted_meet, plan_met, weight_of, Cost, IsFoundDescentFor, IsFoundOptimumFor, BecomesDirection, BecomesPlan, BecomesProof, carried_direction, carried_plan, IsProgramOf, Values, Multipliers}
use Rattle.simplex_core.specs.Outcomes.{BoundCost, DescendAlong, MeetAll}
use Rattle.row_problem.proofs.CostLaws.{IsCostRow, cost-row}
use Rattle.row_problem.proofs.FoundWords.{found-plan, over-one, positive}
use Rattle.row_problem.proofs.OverLaws.{IsOverSome, values-listed}

-- ---- arithmetic

-- the cost c of a plan over p and the bound b of multipliers over s: r is the sum of the row of the cost over p, x that over q
closed-by : (own c r right p x q s sum b : ℤ) → pos 0 <ℤ own → pos 0 <ℤ q → (own *ℤ c) +ℤ r ≡ right *ℤ p → r *ℤ q ≡ x *ℤ p → neg_ℤ (s *ℤ x) ≡ own *ℤ (sum *ℤ q)
    → own *ℤ b ≡ (own *ℤ sum) +ℤ (s *ℤ right) → c *ℤ s ≡ b *ℤ p
closed-by own c r right p x q s sum b hown hq plan kept same bound =
    *ℤ_cancel (c *ℤ s) (b *ℤ p) (own *ℤ q) (nonzero_of_pos (own *ℤ q) (*ℤ_pos own q hown hq))
    (let e1 : ((own *ℤ c) +ℤ r) *ℤ (s *ℤ q) ≡ (right *ℤ p) *ℤ (s *ℤ q) = ap (λ z. z *ℤ (s *ℤ q)) plan in
    let e2 : (r *ℤ q) *ℤ s ≡ (x *ℤ p) *ℤ s = ap (λ z. z *ℤ s) kept in
    let e3 : neg_ℤ (s *ℤ x) *ℤ p ≡ (own *ℤ (sum *ℤ q)) *ℤ p = ap (λ z. z *ℤ p) same in
    let e4 : (own *ℤ b) *ℤ (p *ℤ q) ≡ ((own *ℤ sum) +ℤ (s *ℤ right)) *ℤ (p *ℤ q) = ap (λ z. z *ℤ (p *ℤ q)) bound in
    let r1 = apart1 own c r s q in
    let r2 = apart2 r s q in
    let r3 = apart3 s x p in
    let r4 = apart4 own sum s right p q in
    let r5 = apart5 c s own q in
    let r6 = apart6 b p own q in
    omega (arith, ints))
  where
    apart1 : (own c r s q : ℤ) → ((own *ℤ c) +ℤ r) *ℤ (s *ℤ q) ≡ ((own *ℤ c) *ℤ (s *ℤ q)) +ℤ (r *ℤ (s *ℤ q))
    apart1 own c r s q = simp ring

    apart2 : (r s q : ℤ) → r *ℤ (s *ℤ q) ≡ (r *ℤ q) *ℤ s
    apart2 r s q = simp ring

    apart3 : (s x p : ℤ) → neg_ℤ (s *ℤ x) *ℤ p ≡ neg_ℤ ((x *ℤ p) *ℤ s)
    apart3 s x p = simp ring

    apart4 : (own sum s right p q : ℤ) → ((own *ℤ sum) +ℤ (s *ℤ right)) *ℤ (p *ℤ q) ≡ ((own *ℤ (sum *ℤ q)) *ℤ p) +ℤ ((right *ℤ p) *ℤ (s *ℤ q))
    apart4 own sum s right p q = simp ring

    apart5 : (c s own q : ℤ) → (c *ℤ s) *ℤ (own *ℤ q) ≡ (own *ℤ c) *ℤ (s *ℤ q)
    apart5 c s own q = simp ring

    apart6 : (b p own q : ℤ) → (b *ℤ p) *ℤ (own *ℤ q) ≡ (own *ℤ b) *ℤ (p *ℤ q)
    apart6 b p own q = simp ring

-- of a direction: where the sum of the row of the cost is above 0, the cost is below it
falls-by : (own c r right p x q : ℤ) → pos 0 <ℤ own → pos 0 <ℤ q → pos 0 <ℤ p → pos 0 <ℤ x → (own *ℤ c) +ℤ r ≡ right *ℤ pos 0 → r *ℤ q ≡ x *ℤ p → c <ℤ pos 0
falls-by own c r right p x q hown hq hp hx met kept =
    let zero_q = zero-*ℤ q in
    let product : pos 0 <ℤ (x *ℤ p) = *ℤ_pos x p hx hp in
    let up : pos 0 <ℤ r = <ℤ_cancel (pos 0) r q hq (omega (arith, ints)) in
    let zero_right = *ℤ-zero right in
    let zero_own = zero-*ℤ own in
    let turned = *ℤ_comm own c in
    <ℤ_cancel c (pos 0) own hown (omega (arith, ints))

-- ---- what is found

module _ (rows : List Row) (defs : List (Option Var)) (vars : List Var) (cost : Cost) (reduced : Reduced) (program : IsProgramOf rows defs vars cost reduced) where
  abbrev ds : List Definition
  ds = definitions_of rows defs

  triangular : AreTriangular ds
  triangular = program.problem.triangular

  row : IsCostRow (weight_of cost) rows defs vars reduced
  row = cost-row rows defs vars cost reduced program

  -- the entries of the row of the cost have the same sum of the values and of what is made of them, but for the number over which they are written
  cost-kept : (values made : Values) (q p : ℕ) (x z : Var → ℤ) → ((v : Var) → is_among (defined ds) v ≡ false → value_in var_cmp made v ≡ value_in var_cmp values v)
      → AreOver (pos q) x (value_in var_cmp values) → AreOver (pos p) z (value_in var_cmp made) → row_sum z reduced.cost.items *ℤ pos q ≡ row_sum x reduced.cost.items *ℤ pos p
  cost-kept values made q p x z others over_x over_z =
      let es = reduced.cost.items in
      let agree : (v : Var) → is_among (defined ds) v ≡ false → z v *ℤ pos q ≡ x v *ℤ pos p
      = λ v k. IsOver-agree (pos p) (pos q) (value_in var_cmp values v) (z v) (x v) (subst (λ r. IsOver (pos p) r (z v)) (others v k) (over_z v)) (over_x v) in
      *ℤ_comm (row_sum z es) (pos q) ∙ sym (row_sum-times (pos q) z es)
      ∙ row_sum-avoids (λ v. pos q *ℤ z v) (λ v. pos p *ℤ x v) (defined ds) es row.without (λ v k. *ℤ_comm (pos q) (z v) ∙ agree v k ∙ *ℤ_comm (x v) (pos p))
      ∙ row_sum-times (pos p) x es ∙ *ℤ_comm (pos p) (row_sum x es)

  pub found-optimum : (values : Values) (lambda : List Frac) (multipliers : Multipliers) → keys_of values ≡ reduced.columns.items → ascends var_cmp (keys_of values) ≡ true
      → AreOverSome var_cmp values → AreOverSome var_cmp (carried_plan rows defs values) → AreOverSome row_name_cmp multipliers → IsOverSome (map value_of lambda)
      → MeetAll (program_of reduced) values → BoundCost (program_of reduced) values (map value_of lambda) → BecomesPlan rows vars reduced values (carried_plan rows defs values) → BecomesProof (weight_of cost) rows vars reduced lambda multipliers
      → IsFoundOptimumFor (weight_of cost) rows vars (carried_plan rows defs values) multipliers
  unfolding carried_plan
  found-optimum values lambda multipliers keyed up some made some_multipliers some_lambda meet bounds becomes proves =
      let one = over-one multipliers (map value_of lambda) some_multipliers some_lambda in
      let d = positive one.over one.are.0 in
      let proof = proves one.over one.named one.number one.are one.from in
      let q = positive some.over some.positive in
      let both = bounds (pos some.over) some.number (pos one.over) one.number q (values-listed values (pos some.over) some.number up some.each) d one.from in
      let p = positive made.over made.positive in
      let met = plan_met ds (pos made.over) made.number (lifted_meet right_side ds values (pos made.over) made.number p triangular made.each) in
      record {
        plan_found = found-plan rows vars reduced values (lifted right_side ds values) keyed up some made meet becomes;
        bound_found = record { over = one.over; number = one.named; are = one.are; proves = proof.proves both.0 };
        closed =
            closed-by reduced.cost_own (cost_of (weight_of cost) vars made.number) (row_sum made.number reduced.cost.items) reduced.cost_rhs (pos made.over) (row_sum some.number reduced.cost.items) (pos some.over)
            (pos one.over) (right_sum one.number 0 (program_of reduced).rows) (bound_of one.named rows) row.own q
            (row.says (pos made.over) made.number met)
            (cost-kept values (lifted right_side ds values) some.over made.over some.number made.number (lifted-others right_side ds values) some.each made.each)
            both.1 proof.bound;
      }

  pub found-descent : (direction : Values) → keys_of direction ≡ reduced.columns.items → ascends var_cmp (keys_of direction) ≡ true → AreOverSome var_cmp direction → AreOverSome var_cmp (carried_direction rows defs direction)
      → DescendAlong (program_of reduced) direction → BecomesDirection rows vars reduced direction (carried_direction rows defs direction) → IsFoundDescentFor (weight_of cost) rows vars (carried_direction rows defs direction)
  unfolding carried_direction
  found-descent direction keyed up some made along becomes =
      let q = positive some.over some.positive in
      let p = positive made.over made.positive in
      let two = along (pos some.over) some.number q (values-listed direction (pos some.over) some.number up some.each) in
      let stand = becomes some.over made.over some.number made.number keyed (some.positive, some.each) (made.positive, made.each) two.0 in
      let met = direction_met ds (pos made.over) made.number (lifted_meet no_right_side ds direction (pos made.over) made.number p triangular made.each) in
      record {
        over = made.over;
        number = made.number;
        are = (made.positive, made.each);
        descends = record {
          rows_stand = stand.0;
          signs = stand.1;
          falls =
              falls-by reduced.cost_own (cost_of (weight_of cost) vars made.number) (row_sum made.number reduced.cost.items) reduced.cost_rhs (pos made.over) (row_sum some.number reduced.cost.items) (pos some.over) row.own q p two.1
              (row.says (pos 0) made.number met)
              (cost-kept direction (lifted no_right_side ds direction) some.over made.over some.number made.number (lifted-others no_right_side ds direction) some.each made.each);
        };
      }

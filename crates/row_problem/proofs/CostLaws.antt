-- What the row of a cost says: of numbers that meet the definitions, its own number times the cost, and its entries, are its right side.
use Rattle.row_problem.proofs.Common.{◌≡◌, ℤ, pos, neg_ℤ, ◌+ℤ◌, ◌*ℤ◌, Bool, true, false, not, ◌&&◌, ◌||◌, ℕ, List, [], ◌∷◌, ◌⊎◌, inl, inr, map, length, refl, sym, ap, ap₂, ◌∙◌, subst, arith, if◌then◌else◌, ◌<ℤ◌, Option, Some, None, ◌==◌, nat_lt, is_eq, Ordering, Less, Greater, eqb-true, ints, *ℤ-one, *ℤ-zero, neg_ℤ-*ℤ, one-*ℤ, products, zero-*ℤ, Row, Var, RATE_OF_ACTIVITY, NEW_CAPACITY, TRADE, TOTAL_DISCOUNTED_COST, kind_is_free, ascends, var_cmp, number_at, row_sum, alone, Has, var_cmp_exact, Reduced, Definition, avoids, defined, definitions_of, is_among, cost_variables, is_column, placed, with_cost_variable, LinearProgram, is_split, AreAmong, cost_of, model_cost, sum_over, IsWhole, AreMet, alike, itself, is_model, sign_of, weight_of, Cost, Model, One, Goal, IsProblem, cost_entries_left, cost_own_left, cost_right_left, program_left, IsProgramOf, Has-filter, filter_parts, var_cmp_total, by_test, both_true, both_passed, Has-from_Contains}
use Rattle.std.specs.declared.cmp.Ordering.TheVariants.{Equal as Alike}
use Rattle.certificate_checker.proofs.SumLaws as sums
use Rattle.certificate_checker.proofs.SumLaws.{found_once, has_all, row_sum-by_columns, sum_over-same, sum_over-times}
use Rattle.variable_elimination.proofs.CostSums.{cost-defined, cost-met, cost-other, cost_entries}
use Rattle.variable_elimination.proofs.ProvenLaws.{chosen_plain}
use Rattle.variable_elimination.proofs.ReadyLaws.{contains-from_among}
use Rattle.variable_elimination.proofs.PlacedLaws.{placed-ascends}
use Rattle.row_problem.proofs.ProblemLaws.{defined-has, variable-known}

-- the row of a cost with these weights, which has no defined variable
pub record IsCostRow (weight : Var → ℤ) (rows : List Row) (defs : List (Option Var)) (vars : List Var) (reduced : Reduced) : Type 0 where
  pub own : pos 0 <ℤ reduced.cost_own
  pub without : avoids (defined (definitions_of rows defs)) reduced.cost.items ≡ true
  pub says : (q : ℤ) (x : Var → ℤ) → AreMet (definitions_of rows defs) q x → (reduced.cost_own *ℤ cost_of weight vars x) +ℤ row_sum x reduced.cost.items ≡ reduced.cost_rhs *ℤ q

among-test : (vs : List Var) (v : Var) → Has vs v → sums.is_among vs v ≡ true
among-test [] v h = absurd h
among-test (w ∷ vs) v (inl e) = rw (e, itself v) refl
among-test (w ∷ vs) v (inr h) = rw (among-test vs v h) (by_test (is_eq (var_cmp v w)) (λ is. rw is refl) (λ is. rw is refl))

-- a variable that a plan chooses isn't of the model's cost, and may be negative where it is split
pub chosen-plain : (v : Var) → is_column v ≡ true → (is_split v ≡ kind_is_free v.kind) × (model_cost v ≡ pos 0)
chosen-plain v h = chosen_plain v h

-- ---- the variables of which the cost is the sum

costs-ascend : (so_far : List Var) (defs : List (Option Var)) → ascends var_cmp so_far ≡ true → ascends var_cmp (cost_variables so_far defs) ≡ true
costs-ascend so_far [] h = h
costs-ascend so_far (None ∷ defs) h = costs-ascend so_far defs h
costs-ascend so_far (Some v ∷ defs) h =
    costs-ascend (with_cost_variable so_far (Some v)) defs (by_test (v.kind == TOTAL_DISCOUNTED_COST) (λ is. rw is (placed-ascends v so_far h)) (λ is. rw is h))

-- each of the list is one of the variables, as the sums by column test it
abbrev AllAmong : List Var → List Var → Type 0
AllAmong vars vs = has_all vars (map (λ v. let e : Var × ℤ = (v, pos 1) in e) vs) ≡ true

module _ (vars : List Var) where
  placed-among : (v : Var) (ws : List Var) → sums.is_among vars v ≡ true → AllAmong vars ws → AllAmong vars (placed v ws)
  placed-among v [] h k = rw h refl
  placed-among v (w ∷ ws) h k =
      let parts = both_passed (sums.is_among vars w) (has_all vars (map (λ v. let e : Var × ℤ = (v, pos 1) in e) ws)) k in
      cases (var_cmp v w) (placed-among v ws h parts.1) parts.0
    where
      cases : (o : Ordering) → AllAmong vars (placed v ws) → sums.is_among vars w ≡ true → AllAmong vars (elim o [ Less ↦ v ∷ w ∷ ws | Alike ↦ w ∷ ws | Greater ↦ w ∷ placed v ws ])
      cases Less rest first = both_true h k
      cases Alike rest first = k
      cases Greater rest first = both_true first rest

  costs-among : (so_far : List Var) (defs : List (Option Var)) → AllAmong vars so_far → ((v : Var) → Has defs (Some v) → sums.is_among vars v ≡ true) → AllAmong vars (cost_variables so_far defs)
  costs-among so_far [] h k = h
  costs-among so_far (None ∷ defs) h k = costs-among so_far defs h (λ v l. k v (inr l))
  costs-among so_far (Some v ∷ defs) h k =
      costs-among (with_cost_variable so_far (Some v)) defs (by_test (v.kind == TOTAL_DISCOUNTED_COST) (λ is. rw is (placed-among v so_far (k v (inl refl)) h)) (λ is. rw is h)) (λ u l. k u (inr l))

-- ---- the model's cost

sum-same_in : (vs : List Var) (f g : Var → ℤ) → ((v : Var) → Has vs v → f v ≡ g v) → sum_over vs f ≡ sum_over vs g
sum-same_in [] f g h = refl
sum-same_in (v ∷ vs) f g h = ap₂ (λ a b. a +ℤ b) (h v (inl refl)) (sum-same_in vs f g (λ u k. h u (inr k)))

-- what is defined is the variable of a definition
defines-has : (rows : List Row) (defs : List (Option Var)) (v : Var) → length defs ≡ length rows → Has defs (Some v) → Has (defined (definitions_of rows defs)) v
defines-has rows [] v same h = absurd h
defines-has [] (d ∷ defs) v same h = absurd (omega (arith, same))
defines-has (row ∷ rows) (None ∷ defs) v same (inl e) = absurd (cc e)
defines-has (row ∷ rows) (None ∷ defs) v same (inr h) = defines-has rows defs v (omega (arith, same)) h
defines-has (row ∷ rows) (Some w ∷ defs) v same (inl e) = let is : w ≡ v = cc e in inl is
defines-has (row ∷ rows) (Some w ∷ defs) v same (inr h) = inr (defines-has rows defs v (omega (arith, same)) h)

module _ (rows : List Row) (defs : List (Option Var)) (vars : List Var) (problem : IsProblem rows defs vars) where
  abbrev ds : List Definition
  ds = definitions_of rows defs

  all-among : has_all vars (cost_entries defs) ≡ true
  all-among = costs-among vars [] defs refl (λ v h. among-test vars v (defined-has rows defs vars problem v (defines-has rows defs v problem.same h)))

  up : ascends var_cmp (cost_variables [] defs) ≡ true
  up = costs-ascend [] defs refl

  coefficient-is : (v : Var) → Has vars v → row_sum (alone v) (cost_entries defs) ≡ model_cost v
  coefficient-is v h = by_test (is_among (defined ds) v) (λ is. cost-defined rows defs v problem.same up is)
      (λ is. elim (variable-known rows defs vars problem v h) [ inl k ↦ absurd (cc (is, k)) | inr k ↦ cost-other rows defs v problem.same up is ∙ sym (chosen-plain v k).1 ])

  -- the cost is the sum over the variables that are defined
  cost-sum : (x : Var → ℤ) → row_sum x (cost_entries defs) ≡ cost_of model_cost vars x
  cost-sum x =
      row_sum-by_columns x vars (cost_entries defs) problem.ascending all-among
      ∙ sum-same_in vars (λ v. row_sum (alone v) (cost_entries defs) *ℤ x v) (λ v. model_cost v *ℤ x v) (λ v h. ap (λ z. z *ℤ x v) (coefficient-is v h))

  model-row : (reduced : Reduced) → IsWhole rows defs reduced → IsCostRow model_cost rows defs vars reduced
  model-row reduced whole = record {
    own = whole.own;
    without = whole.without;
    says = λ q x met.
        ap (λ z. (reduced.cost_own *ℤ z) +ℤ row_sum x reduced.cost.items) (sym (cost-sum x))
        ∙ cost-met ds defs whole.form reduced q x whole.plain whole.reduced_cost whole.cost met;
  }

-- ---- another cost

number-there : (var : Var) (k : ℤ) (v : Var) → number_at ((var, k) ∷ []) v ≡ k *ℤ alone v var
number-there var k v = by_test (is_eq (var_cmp var v)) (λ is. rw is (sym (*ℤ-one k))) (λ is. rw is (sym (*ℤ-zero k)))

-- that of one variable is its number times the variable
pub cost-is : (vars : List Var) (var : Var) (k : ℤ) (x : Var → ℤ) → ascends var_cmp vars ≡ true → Has vars var → cost_of (number_at ((var, k) ∷ [])) vars x ≡ k *ℤ x var
cost-is vars var k x up h =
    sum_over-same vars (λ v. number_at ((var, k) ∷ []) v *ℤ x v) (λ v. k *ℤ (alone v var *ℤ x v)) (λ v. ap (λ z. z *ℤ x v) (number-there var k v) ∙ assoc k (alone v var) (x v))
    ∙ sum_over-times vars k (λ v. alone v var *ℤ x v) ∙ ap (λ z. k *ℤ z) (found_once x var vars up (among-test vars var h))
  where
    assoc : (a b c : ℤ) → (a *ℤ b) *ℤ c ≡ a *ℤ (b *ℤ c)
    assoc a b c = simp products

-- of a defined variable it is 0
cost-beyond : (var : Var) (k : ℤ) (ds : List Var) (v : Var) → is_among ds var ≡ false → is_among ds v ≡ true → number_at ((var, k) ∷ []) v ≡ pos 0
cost-beyond var k ds v apart there = by_test (is_eq (var_cmp var v))
    (λ is. let same : var ≡ v = var_cmp_exact var v (alike (var_cmp var v) is) in absurd (cc ((rw same at apart), there)))
    (λ is. rw is refl)

negated-number : (var : Var) (k : ℤ) (v : Var) → number_at ((var, neg_ℤ k) ∷ []) v ≡ neg_ℤ (number_at ((var, k) ∷ []) v)
negated-number var k v = by_test (is_eq (var_cmp var v)) (λ is. rw is refl) (λ is. rw is refl)

-- the row of such a cost: that of z less its numbers
pub record IsOtherCost (rows : List Row) (defs : List (Option Var)) (vars : List Var) (cost : Cost) (reduced : Reduced) : Type 0 where
  pub own : reduced.cost_own ≡ pos 1
  pub right_side : reduced.cost_rhs ≡ pos 0
  pub numbers : (v : Var) → number_at reduced.cost.items v ≡ neg_ℤ (weight_of cost v)
  pub undefined : (v : Var) → is_among (defined (definitions_of rows defs)) v ≡ true → weight_of cost v ≡ pos 0
  pub row : IsCostRow (weight_of cost) rows defs vars reduced

module _ (rows : List Row) (defs : List (Option Var)) (vars : List Var) (cost : Cost) (reduced : Reduced) (program : IsProgramOf rows defs vars cost reduced) where
  abbrev definitions : List Definition
  definitions = definitions_of rows defs

  entries-left : reduced.cost.items ≡ cost_entries_left cost rows defs
  unfolding program_left
  entries-left = ap (λ (p : LinearProgram). p.cost) program.left

  right-left : reduced.cost_rhs ≡ cost_right_left cost rows defs
  unfolding program_left
  right-left = ap (λ (p : LinearProgram). p.cost_right) program.left

  own-left : reduced.cost_own ≡ cost_own_left cost rows defs
  unfolding program_left
  own-left = ap (λ (p : LinearProgram). p.cost_own) program.left

  -- the variable of a cost is a column, so it isn't defined
  pub aimed-column : (var : Var) (goal : Goal) → cost ≡ One var goal → Has vars var × (is_among (defined definitions) var ≡ false)
  aimed-column var goal e =
      let es : reduced.cost.items ≡ (var, neg_ℤ (sign_of goal)) ∷ [] = entries-left ∙ ap (λ k. cost_entries_left k rows defs) e in
      let among = (subst (λ (entries : List (Var × ℤ)). AreAmong reduced.columns.items entries) es program.ready.cost_among).0 in
      let k = filter_parts is_column vars var (subst (λ vs. Has vs var) program.columns (Has-from_Contains reduced.columns.items var (contains-from_among reduced.columns.items var among))) in
      (k.0, by_test (is_among (defined definitions) var) (λ is. let no : is_column var ≡ false = program.problem.apart var is in absurd (cc (no, k.1))) (λ is. is))

  pub other-cost : is_model cost ≡ false → IsOtherCost rows defs vars cost reduced
  other-cost other = by_cost cost refl
    where
      by_cost : (k : Cost) → cost ≡ k → IsOtherCost rows defs vars cost reduced
      by_cost Model e = let yes : is_model cost ≡ true = ap is_model e in absurd (cc (other, yes))
      by_cost (One var goal) e =
          let es : reduced.cost.items ≡ (var, neg_ℤ (sign_of goal)) ∷ [] = entries-left ∙ ap (λ k. cost_entries_left k rows defs) e in
          let r : reduced.cost_rhs ≡ pos 0 = right-left ∙ ap (λ k. cost_right_left k rows defs) e in
          let o : reduced.cost_own ≡ pos 1 = own-left ∙ ap (λ k. cost_own_left k rows defs) e in
          let column = aimed-column var goal e in
          let number : (v : Var) → weight_of cost v ≡ number_at ((var, sign_of goal) ∷ []) v = λ v. ap (λ k. weight_of k v) e in
          record {
            own = o;
            right_side = r;
            numbers = λ v. ap (λ (entries : List (Var × ℤ)). number_at entries v) es ∙ negated-number var (sign_of goal) v ∙ ap neg_ℤ (sym (number v));
            undefined = λ v h. number v ∙ cost-beyond var (sign_of goal) (defined definitions) v column.1 h;
            row = record {
              own = program.ready.own_positive;
              without = ap (avoids (defined definitions)) es ∙ ap (λ b. not b && true) column.1;
              says = λ q x met.
                  ap₂ (λ a (entries : List (Var × ℤ)). (reduced.cost_own *ℤ a) +ℤ row_sum x entries) (ap (λ k. cost_of (weight_of k) vars x) e ∙ cost-is vars var (sign_of goal) x program.problem.ascending column.0) es
                  ∙ cancels reduced.cost_own (sign_of goal) (x var) reduced.cost_rhs q o r;
            };
          }
        where
          cancels : (own k x r q : ℤ) → own ≡ pos 1 → r ≡ pos 0 → (own *ℤ (k *ℤ x)) +ℤ ((neg_ℤ k *ℤ x) +ℤ pos 0) ≡ r *ℤ q
          cancels own k x r q f h =
              let a : own *ℤ (k *ℤ x) ≡ k *ℤ x = ap (λ z. z *ℤ (k *ℤ x)) f ∙ one-*ℤ (k *ℤ x) in
              let b : r *ℤ q ≡ pos 0 = ap (λ z. z *ℤ q) h ∙ zero-*ℤ q in
              let t = neg_ℤ-*ℤ k x in
              omega (arith, ints)

  pub cost-row : IsCostRow (weight_of cost) rows defs vars reduced
  cost-row = by_cost cost refl
    where
      by_cost : (k : Cost) → cost ≡ k → IsCostRow (weight_of cost) rows defs vars reduced
      by_cost Model e = subst (λ k. IsCostRow (weight_of k) rows defs vars reduced) (sym e) (model-row rows defs vars program.problem reduced (program.whole e))
      by_cost (One var goal) e = (other-cost (ap is_model e)).row

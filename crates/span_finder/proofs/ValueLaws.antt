-- What the exact method proves of the value of one variable.
use Rattle.span_finder.proofs.Common.{◌≡◌, ℕ, ℤ, pos, negsuc, neg_ℤ, ◌*ℤ◌, true, false, ◌&&◌, List, [], ◌∷◌, inl, inr, refl, sym, ap, ◌∙◌, subst, arith, Contains, Option, filter, nat_lt, ◌==◌, ◌<ℤ◌, ◌≤ℤ◌, ◌||◌, ints, Rational, value_of, Frac, neg_ℤ-*ℤ, one-*ℤ, zero-*ℤ, Row, Var, NEW_CAPACITY, RATE_OF_ACTIVITY, TRADE, kind_is_free, ascends, keys_of, var_cmp, value_in, Contains-from_Has, Has, Has-filter, Has-from_Contains, Reduced, is_column, BoundsAll, cost_of, HaveRightSigns, IsRight, MeetsAll, IsComplete, IsProvedFor, weight_of, IsDescentFor, IsPlan, Certified, Optimal, Unbounded, Cost, One, Goal, Least, Greatest, IsProgramOf, Values, Multipliers, end_seen, solved_end, IsCapacityOf, IsExtreme, IsRise, IsTrial, NonePasses}
use Rattle.row_problem.specs.declared.problem.Problem.{Problem}
use Rattle.certified_answers.specs.Answers.{turned}
use Rattle.row_problem.proofs.CostLaws.{cost-is}

-- ---- the cost that is one variable's value

-- a NewCapacity isn't below 0
pub capacity-bounded : (var : Var) → var.kind ≡ NEW_CAPACITY → kind_is_free var.kind ≡ false
capacity-bounded var e = ap kind_is_free e

sign-at : (vars : List Var) (x : Var → ℤ) (v : Var) → HaveRightSigns vars x → Has vars v → kind_is_free v.kind ≡ false → pos 0 ≤ℤ x v
sign-at [] x v h there free = absurd there
sign-at (w ∷ vars) x v h (inl e) free = subst (λ b. IsRight b (x v)) free (subst (λ u. IsRight (kind_is_free u.kind) (x u)) e h.0)
sign-at (w ∷ vars) x v h (inr there) free = sign-at vars x v h.1 there free

minus : (a : ℤ) → negsuc 0 *ℤ a ≡ neg_ℤ a
minus a = neg_ℤ-*ℤ (pos 1) a ∙ ap neg_ℤ (one-*ℤ a)

module _ (vars : List Var) (var : Var) (up : ascends var_cmp vars ≡ true) (listed : Has vars var) where
  pub least-is : (x : Var → ℤ) → cost_of (weight_of (One var Least)) vars x ≡ x var
  least-is x = cost-is vars var (pos 1) x up listed ∙ one-*ℤ (x var)

  pub greatest-is : (x : Var → ℤ) → cost_of (weight_of (One var Greatest)) vars x ≡ neg_ℤ (x var)
  greatest-is x = cost-is vars var (negsuc 0) x up listed ∙ minus (x var)

-- ---- what bounds and directions say of it

module _ (rows : List Row) (vars : List Var) (var : Var) (up : ascends var_cmp vars ≡ true) (listed : Has vars var) where
  -- a bound of the cost is one of the value, that of the greatest turned
  pub bound-passes : (goal : Goal) (bound : Rational) → BoundsAll (weight_of (One var goal)) rows vars bound → NonePasses goal rows vars var (turned goal bound)
  bound-passes Least bound h = λ q x meets. subst (λ z. (bound.top *ℤ pos q) ≤ℤ (z *ℤ bound.bottom)) (least-is vars var up listed x) (h q x meets)
  bound-passes Greatest bound h = λ q x meets.
      let costs : (bound.top *ℤ pos q) ≤ℤ (neg_ℤ (x var) *ℤ bound.bottom) = subst (λ z. (bound.top *ℤ pos q) ≤ℤ (z *ℤ bound.bottom)) (greatest-is vars var up listed x) (h q x meets) in
      let value : neg_ℤ (x var) *ℤ bound.bottom ≡ neg_ℤ (x var *ℤ bound.bottom) = neg_ℤ-*ℤ (x var) bound.bottom in
      let end : neg_ℤ bound.top *ℤ pos q ≡ neg_ℤ (bound.top *ℤ pos q) = neg_ℤ-*ℤ bound.top (pos q) in
      omega (arith, ints)

  -- an optimum of it is the value that no plan passes
  extreme : (goal : Goal) (plan : Values) (multipliers : Multipliers) (amount bound : Frac) (pivots : ℕ) → keys_of plan ≡ vars → IsProvedFor (One var goal) rows vars (Optimal plan multipliers amount bound pivots)
      → IsExtreme rows vars var goal plan
  extreme goal plan multipliers amount bound pivots complete h = record {
    is_plan = subst (IsPlan rows vars plan) h.0.cost_is h.0;
    complete = complete;
    none_passes = subst (NonePasses goal rows vars var) (ap (turned goal) h.2 ∙ twice goal (value_in var_cmp plan var)) (bound-passes goal (value_of bound) h.1.bounds);
  }
    where
      twice : (g : Goal) (value : Rational) → turned g (turned g value) ≡ value
      twice Least value = refl
      twice Greatest value = ap (λ z. let r : Rational = record { top = z; bottom = value.bottom } in r) (back value.top)
        where
          back : (z : ℤ) → neg_ℤ (neg_ℤ z) ≡ z
          back z = omega (arith, ints)

  -- of a NewCapacity the least value doesn't fall without end
  never-below : (direction : Values) (q : ℕ) (x : Var → ℤ) → kind_is_free var.kind ≡ false → MeetsAll rows vars q x → IsDescentFor (weight_of (One var Least)) rows vars direction → ⊥
  never-below direction q x bounded meets descent =
      let less = descent.endless q x (pos 0) meets in
      let least : pos 0 ≤ℤ less.plan var = sign-at vars less.plan var less.meets.signs listed bounded in
      let cost : cost_of (weight_of (One var Least)) vars less.plan ≡ less.plan var = least-is vars var up listed less.plan in
      let none = zero-*ℤ (pos less.over) in
      absurd (omega (arith, ints, less.less, least, cost, none))

  -- along a direction of the greatest value, whatever the number, some plan has more
  pub always-more : (direction : Values) (q : ℕ) (x : Var → ℤ) → MeetsAll rows vars q x → IsDescentFor (weight_of (One var Greatest)) rows vars direction → (n : ℤ)
      → (p : ℕ) × (z : Var → ℤ) × MeetsAll rows vars p z × ((n *ℤ pos p) <ℤ z var)
  always-more direction q x meets descent n =
      let less = descent.endless q x (neg_ℤ n) meets in
      let cost : cost_of (weight_of (One var Greatest)) vars less.plan ≡ neg_ℤ (less.plan var) = greatest-is vars var up listed less.plan in
      let moved = neg_ℤ-*ℤ n (pos less.over) in
      (less.over, less.plan, less.meets, omega (arith, ints, less.less, cost, moved))

  -- no bound of the least value says less than that it isn't below 0
  pub least-from_zero : kind_is_free var.kind ≡ false → (q : ℕ) (x : Var → ℤ) → MeetsAll rows vars q x → pos 0 ≤ℤ x var
  least-from_zero bounded q x meets = sign-at vars x var meets.signs listed bounded

-- ---- what a trial is

-- the variable is a column
pub capacity-among : (rows : List Row) (defs : List (Option Var)) (vars : List Var) (cost : Cost) (reduced : Reduced) (var : Var) → IsProgramOf rows defs vars cost reduced → IsCapacityOf vars var → Contains reduced.columns.items var
capacity-among rows defs vars cost reduced var program capacity =
    subst (λ vs. Contains vs var) (sym program.columns) (Contains-from_Has (filter is_column vars) var (Has-filter is_column vars var (Has-from_Contains vars var capacity.listed) (column capacity.chosen)))
  where
    column : var.kind ≡ NEW_CAPACITY → is_column var ≡ true
    column e = ap (λ k. (k == RATE_OF_ACTIVITY) || ((k == NEW_CAPACITY) || ((k == TRADE) && nat_lt var.index.region var.index.other))) e

-- ---- what a trial answers

module _ (problem : Problem) (var : Var) (goal : Goal) (trial : IsTrial problem var goal) (found : Certified) where
  abbrev rows : List Row
  rows = problem.rows.now

  abbrev vars : List Var
  vars = problem.vars.now

  up : ascends var_cmp vars ≡ true
  up = trial.posed.problem.ascending

  listed : Has vars var
  listed = Has-from_Contains vars var trial.capacity.listed

  pub trial-end : (pivots : ℕ) (seen : Certified) → found ≡ seen → end_seen found ≡ solved_end rows problem.defs.now vars problem.cost pivots → end_seen seen ≡ solved_end rows problem.defs.now vars (One var goal) pivots
  trial-end pivots seen is ends = sym (ap end_seen is) ∙ ends ∙ ap (λ (cost : Cost). solved_end rows problem.defs.now vars cost pivots) trial.cost

  proved-as : (seen : Certified) → found ≡ seen → IsProvedFor problem.cost rows vars found → IsProvedFor (One var goal) rows vars seen
  proved-as seen is proved = subst (λ (cost : Cost). IsProvedFor cost rows vars seen) trial.cost (subst (IsProvedFor problem.cost rows vars) is proved)

  module _ (proved : IsProvedFor problem.cost rows vars found) (complete : IsComplete vars found) where
    pub trial-extreme : (plan : Values) (multipliers : Multipliers) (amount bound : Frac) (made : ℕ) → found ≡ Optimal plan multipliers amount bound made → IsExtreme rows vars var goal plan
    trial-extreme plan multipliers amount bound made is =
        extreme rows vars var up listed goal plan multipliers amount bound made (subst (IsComplete vars) is complete) (proved-as (Optimal plan multipliers amount bound made) is proved)

    pub trial-rises : (plan direction : Values) (made : ℕ) → goal ≡ Greatest → found ≡ Unbounded plan direction made → IsRise rows vars var plan direction
    trial-rises plan direction made greatest is =
        let whole = subst (IsComplete vars) is complete in
        let worth = subst (λ (g : Goal). IsProvedFor (One var g) rows vars (Unbounded plan direction made)) greatest (proved-as (Unbounded plan direction made) is proved) in
        record { is_plan = worth.0; complete = whole.0; along = whole.1; descends = worth.1 }

    pub trial-stays : (plan direction : Values) (made : ℕ) → goal ≡ Least → (q : ℕ) (x : Var → ℤ) → MeetsAll rows vars q x → found ≡ Unbounded plan direction made → ⊥
    trial-stays plan direction made least q x meets is =
        let worth = subst (λ (g : Goal). IsProvedFor (One var g) rows vars (Unbounded plan direction made)) least (proved-as (Unbounded plan direction made) is proved) in
        never-below rows vars var up listed direction q x (capacity-bounded var trial.capacity.chosen) meets worth.1

-- Data with another demand in one timeslice. A plan that is feasible of them, with as much less of the two variables of the demand as it is more, meets every equation but the balance,
-- and the balance with that much more on its right side.
use Rattle.std.proofs.Common.{◌≡◌, ◌≢◌, ℕ, ◌*◌, ◌^◌, ◌<◌, Bool, true, false, not, ◌||◌, ℤ, pos, neg_ℤ, ◌+ℤ◌, ◌-ℤ◌, ◌*ℤ◌, List, [], ◌∷◌, nat_eq, Some, Option, None, refl, sym, ap, ap₂, ◌∙◌, subst, arith, inl, inr, eq-eqb, eqb-true, true≢false}
use Rattle.std.specs.Prelude.{◌==◌, ◌≤ℤ◌, ◌<ℤ◌, if◌then◌else◌}
use Rattle.std.specs.Ordering.{is_eq}
use Rattle.std.proofs.lemmas.Int.{ints}
use Rattle.exact_num.proofs.Integers.{*ℤ_nonnegative, ≤ℤ-*ℤ}
use Rattle.exact_num.proofs.Ring.{*ℤ-zero, +ℤ-zero, ring, zero-*ℤ}
use Rattle.exact_num.specs.Rational.{Rational}
use Rattle.row_core.proofs.Integers.{unscaled_le}
use Rattle.model_sets.specs.Data.{Data, IsUsedParam}
use Rattle.model_sets.specs.declared.param_numbers.TheConstants.{SPECIFIED_ANNUAL_DEMAND, SPECIFIED_DEMAND_PROFILE, YEAR_SPLIT}
use Rattle.row_core.specs.declared.Index.{Index}
use Rattle.row_core.specs.declared.RowName.{RowName}
use Rattle.row_core.specs.declared.Var.{Var}
use Rattle.row_core.specs.declared.equation_numbers.TheConstants.{EBA9, EBA11, EQ_SPECIFIED_DEMAND}
use Rattle.row_core.specs.declared.kind_numbers.TheConstants.{DEMAND, RATE_OF_DEMAND}
use Rattle.row_core.specs.Kinds.{kind_is_free}
use Rattle.row_core.specs.Order.{index_cmp, var_cmp}
use Rattle.row_core.specs.Statements.{Holds}
use Rattle.row_core.specs.Values.{alone}
use Rattle.named_equations.specs.Constants.{AreSameBut, constant_of, param_alone, positions_of, read_alone, value_alone, value_within}
use Rattle.named_equations.specs.Existence.{exists}
use Rattle.named_equations.specs.Indices.{at_rlfy}
use Rattle.named_equations.specs.Instances.{is_index, is_instance, name_at, subscripts_of}
use Rattle.named_equations.specs.Notation.{scale_of, sum_over}
use Rattle.named_equations.specs.Parameters.{trade_route, year_split}
use Rattle.named_equations.specs.Plans.{Feasible, Meets, cost, says}
use Rattle.named_equations.specs.Positions.{all_years, regions}
use Rattle.named_equations.specs.Variables.{demand, production, rate_of_demand, total_discounted_cost, trade, use_of_fuel}
use Rattle.named_equations.proofs.AlikeData.{ReadsAlike, exists-alike, instance-alike, says-alike}
use Rattle.named_equations.proofs.PositionsInSets.{AreInSets, are_in_sets}
use Rattle.named_equations.proofs.SameValues.{◌also◌}
use Rattle.named_equations.proofs.TermMeaning.{EachFrom, alone-self, sum_over-same, sum_over-times}
use Rattle.certificate_checker.proofs.NamedSums.{name-itself, same-name}
use Rattle.plan_quantities.specs.DataPrices.{AreWithDemand, demand_of}
use Rattle.plan_quantities.specs.Prices.{CostsAtLeast, FeasibleWithMore, balance_at, says_more}
use Rattle.plan_quantities.proofs.ChangedConstants.{IsThere, meets-there, not-eq, of_name, there}
use Rattle.plan_quantities.proofs.ConstantEquations.{billion}
use Rattle.plan_quantities.proofs.ReadAlone.{IsReadWell, ReadsWell, all-read, own, tidied-by}

-- ---- indices

same-index : (a b : Index) → is_eq (index_cmp a b) ≡ true → a ≡ b
same-index a b h = ap (λ (n : RowName). n.index) (same-name (name_at 1 a) (name_at 1 b) h)

self : (i : Index) → is_eq (index_cmp i i) ≡ true
self i = name-itself (name_at 1 i) (name_at 1 i) refl

-- ---- numbers

-- the rate of the demand, by its equation
rate-met : (s n v x d q : ℤ) → s *ℤ n *ℤ v ≡ x *ℤ q → s *ℤ n *ℤ (s *ℤ s *ℤ n *ℤ v +ℤ pos 1 *ℤ neg_ℤ (s *ℤ (x -ℤ d) *ℤ q)) ≡ d *ℤ (s *ℤ s *ℤ n *ℤ q)
rate-met s n v x d q h = spread s n v x d q ∙ ap (λ z. s *ℤ s *ℤ n *ℤ z +ℤ neg_ℤ (s *ℤ s *ℤ n *ℤ (x *ℤ q)) +ℤ d *ℤ (s *ℤ s *ℤ n *ℤ q)) h ∙ gone (s *ℤ s *ℤ n *ℤ (x *ℤ q)) (d *ℤ (s *ℤ s *ℤ n *ℤ q))
  where
    spread : (s n v x d q : ℤ) → s *ℤ n *ℤ (s *ℤ s *ℤ n *ℤ v +ℤ pos 1 *ℤ neg_ℤ (s *ℤ (x -ℤ d) *ℤ q))
        ≡ s *ℤ s *ℤ n *ℤ (s *ℤ n *ℤ v) +ℤ neg_ℤ (s *ℤ s *ℤ n *ℤ (x *ℤ q)) +ℤ d *ℤ (s *ℤ s *ℤ n *ℤ q)
    spread s n v x d q = simp ring

    gone : (a b : ℤ) → a +ℤ neg_ℤ a +ℤ b ≡ b
    gone a b = omega (arith, ints)

-- another rate
rate-kept : (s n v x k q m : ℤ) → s *ℤ n *ℤ v ≡ x *ℤ q → s *ℤ n *ℤ (k *ℤ v +ℤ pos 0 *ℤ m) ≡ x *ℤ (k *ℤ q)
rate-kept s n v x k q m h = spread s n v k m ∙ ap (λ z. k *ℤ z) h ∙ turned k x q
  where
    spread : (s n v k m : ℤ) → s *ℤ n *ℤ (k *ℤ v +ℤ pos 0 *ℤ m) ≡ k *ℤ (s *ℤ n *ℤ v)
    spread s n v k m = simp ring

    turned : (k x q : ℤ) → k *ℤ (x *ℤ q) ≡ x *ℤ (k *ℤ q)
    turned k x q = simp ring

-- a demand from its rate
demand-met : (s k v w n a q : ℤ) → s *ℤ v ≡ w *ℤ n → s *ℤ (k *ℤ v +ℤ pos 1 *ℤ neg_ℤ (a *ℤ q *ℤ n)) ≡ (k *ℤ w +ℤ pos 1 *ℤ neg_ℤ (s *ℤ a *ℤ q)) *ℤ n
demand-met s k v w n a q h = spread s k v a q n ∙ ap (λ z. k *ℤ z +ℤ neg_ℤ (s *ℤ a *ℤ q *ℤ n)) h ∙ gathered k w n s a q
  where
    spread : (s k v a q n : ℤ) → s *ℤ (k *ℤ v +ℤ pos 1 *ℤ neg_ℤ (a *ℤ q *ℤ n)) ≡ k *ℤ (s *ℤ v) +ℤ neg_ℤ (s *ℤ a *ℤ q *ℤ n)
    spread s k v a q n = simp ring

    gathered : (k w n s a q : ℤ) → k *ℤ (w *ℤ n) +ℤ neg_ℤ (s *ℤ a *ℤ q *ℤ n) ≡ (k *ℤ w +ℤ pos 1 *ℤ neg_ℤ (s *ℤ a *ℤ q)) *ℤ n
    gathered k w n s a q = simp ring

demand-kept : (s k v w n l m : ℤ) → s *ℤ v ≡ w *ℤ n → s *ℤ (k *ℤ v +ℤ pos 0 *ℤ l) ≡ (k *ℤ w +ℤ pos 0 *ℤ m) *ℤ n
demand-kept s k v w n l m h = spread s k v l ∙ ap (λ z. k *ℤ z) h ∙ gathered k w n m
  where
    spread : (s k v l : ℤ) → s *ℤ (k *ℤ v +ℤ pos 0 *ℤ l) ≡ k *ℤ (s *ℤ v)
    spread s k v l = simp ring

    gathered : (k w n m : ℤ) → k *ℤ (w *ℤ n) ≡ (k *ℤ w +ℤ pos 0 *ℤ m) *ℤ n
    gathered k w n m = simp ring

-- the balance with what is more
balance-more : (b s v u t k n a q left : ℤ) → pos 0 ≤ℤ b → k ≡ b *ℤ n → (s *ℤ (v +ℤ u) +ℤ t) ≤ℤ left
    → (b *ℤ (s *ℤ ((v +ℤ pos 1 *ℤ neg_ℤ (a *ℤ q *ℤ n)) +ℤ u) +ℤ t) +ℤ s *ℤ a *ℤ (k *ℤ q)) ≤ℤ (b *ℤ left)
balance-more b s v u t k n a q left nonnegative is h =
    subst (λ z. z ≤ℤ (b *ℤ left)) (spread b s v u t n a q ∙ ap (λ z. b *ℤ (s *ℤ ((v +ℤ pos 1 *ℤ neg_ℤ (a *ℤ q *ℤ n)) +ℤ u) +ℤ t) +ℤ s *ℤ a *ℤ (z *ℤ q)) (sym is))
    (≤ℤ-*ℤ (s *ℤ (v +ℤ u) +ℤ t) left b nonnegative h)
  where
    parted : (b s v u t n a q : ℤ) → b *ℤ (s *ℤ ((v +ℤ pos 1 *ℤ neg_ℤ (a *ℤ q *ℤ n)) +ℤ u) +ℤ t) +ℤ s *ℤ a *ℤ (b *ℤ n *ℤ q)
        ≡ b *ℤ (s *ℤ (v +ℤ u) +ℤ t) +ℤ (neg_ℤ (b *ℤ (s *ℤ (a *ℤ q *ℤ n))) +ℤ b *ℤ (s *ℤ (a *ℤ q *ℤ n)))
    parted b s v u t n a q = simp ring

    gone : (c z : ℤ) → c ≡ c +ℤ (neg_ℤ z +ℤ z)
    gone c z = omega (arith, ints)

    spread : (b s v u t n a q : ℤ) → b *ℤ (s *ℤ (v +ℤ u) +ℤ t) ≡ b *ℤ (s *ℤ ((v +ℤ pos 1 *ℤ neg_ℤ (a *ℤ q *ℤ n)) +ℤ u) +ℤ t) +ℤ s *ℤ a *ℤ (b *ℤ n *ℤ q)
    spread b s v u t n a q = gone (b *ℤ (s *ℤ (v +ℤ u) +ℤ t)) (b *ℤ (s *ℤ (a *ℤ q *ℤ n))) ∙ sym (parted b s v u t n a q)

-- ---- the plan

-- the equations that have one of the two variables
abbrev tells_demand : ℕ → Bool
tells_demand eq = eq == EQ_SPECIFIED_DEMAND || eq == EBA9 || eq == EBA11

module _ (places : ℕ) (d e : Data) (r l f y : ℕ) (x : ℤ) (changed : AreWithDemand d e (at_rlfy r l f y) x) (is : is_instance d (balance_at (at_rlfy r l f y)) ≡ true)
    (n : ℕ) (part : year_split d l y ≡ pos n) (some : 0 < n) (demanded : pos 0 ≤ℤ demand_of d (at_rlfy r l f y)) (q : ℕ) (plan : Var → ℤ) (feasible : Feasible places e q plan)
    (scaled : (name : RowName) → is_instance d name ≡ true → (k : ℕ) → 0 < k → Meets places d q plan name → Meets places d (k * q) (λ v. pos k *ℤ plan v) name) where
  here : Index
  here = at_rlfy r l f y

  -- what is demanded more, in 10^-18
  abbrev pub more : ℤ
  more = x -ℤ demand_of d (at_rlfy r l f y)

  abbrev pub factor : ℕ
  factor = billion * billion * n

  abbrev wider : Var → ℤ
  wider v = pos factor *ℤ plan v

  abbrev pub lowered : Var → ℤ
  lowered v =
      if nat_eq v.kind RATE_OF_DEMAND then pos factor *ℤ plan v +ℤ alone (rate_of_demand r l f y) v *ℤ neg_ℤ (scale_of 1 *ℤ more *ℤ pos q)
      else if nat_eq v.kind DEMAND then pos factor *ℤ plan v +ℤ alone (demand r l f y) v *ℤ neg_ℤ (more *ℤ pos q *ℤ pos n)
      else pos factor *ℤ plan v

  positive-factor : 0 < factor
  positive-factor = omega (arith, some)

  -- ---- equations without the two variables

  abbrev IsUnmoved : ℕ → Type 0
  IsUnmoved eq = tells_demand eq ≡ false → (i : Index) → says places d (factor * q) wider (name_at eq i) ≡ says places d (factor * q) lowered (name_at eq i)

  moved : (eq : ℕ) → tells_demand eq ≡ true → IsUnmoved eq
  moved eq tells h = absurd (true≢false (sym tells ∙ h))

  unmoved : EachFrom IsUnmoved 1 64
  unmoved =
      (moved 1 refl) also (λ h i. refl) also (λ h i. refl) also (λ h i. refl) also (λ h i. refl) also (λ h i. refl) also (λ h i. refl) also
      (λ h i. refl) also (λ h i. refl) also (λ h i. refl) also (λ h i. refl) also (λ h i. refl) also (λ h i. refl) also (λ h i. refl) also
      (moved 15 refl) also (λ h i. refl) also (moved 17 refl) also (λ h i. refl) also (λ h i. refl) also (λ h i. refl) also (λ h i. refl) also
      (λ h i. refl) also (λ h i. refl) also (λ h i. refl) also (λ h i. refl) also (λ h i. refl) also (λ h i. refl) also (λ h i. refl) also
      (λ h i. refl) also (λ h i. refl) also (λ h i. refl) also (λ h i. refl) also (λ h i. refl) also (λ h i. refl) also (λ h i. refl) also
      (λ h i. refl) also (λ h i. refl) also (λ h i. refl) also (λ h i. refl) also (λ h i. refl) also (λ h i. refl) also (λ h i. refl) also
      (λ h i. refl) also (λ h i. refl) also (λ h i. refl) also (λ h i. refl) also (λ h i. refl) also (λ h i. refl) also (λ h i. refl) also
      (λ h i. refl) also (λ h i. refl) also (λ h i. refl) also (λ h i. refl) also (λ h i. refl) also (λ h i. refl) also (λ h i. refl) also
      (λ h i. refl) also (λ h i. refl) also (λ h i. refl) also (λ h i. refl) also (λ h i. refl) also (λ h i. refl) also (λ h i. refl) also
      (λ h i. refl) also tt

  -- ---- the two data

  alike : AreSameBut d e
  alike = record {
    sets = changed.sets;
    second = changed.second;
    values = λ p shared used at within.
        changed.others p (λ is_demand. true≢false (ap read_alone (sym is_demand) ∙ shared)) (λ is_profile. true≢false (ap read_alone (sym is_profile) ∙ shared)) used at within;
  }

  -- an equation that tells no demand reads the same number
  other-reads : (name : RowName) → is_instance d name ≡ true → (name.eq == EQ_SPECIFIED_DEMAND) ≡ false → ReadsAlike alike name
  other-reads name is_name other = by_parts (name.eq == EQ_SPECIFIED_DEMAND) (param_alone name.eq) other refl
    where
      at : IsThere d name
      at = there d name is_name

      by_parts : (b : Bool) (o : Option ℕ) → b ≡ false → param_alone name.eq ≡ o
          → (if b then constant_of EQ_SPECIFIED_DEMAND d name.index else value_alone d name.index o) ≡ (if b then constant_of EQ_SPECIFIED_DEMAND e name.index else value_alone e name.index o)
      by_parts true o none is_param = absurd (true≢false none)
      by_parts false None none is_param = refl
      by_parts false (Some p) none is_param =
          let well : IsReadWell d name.eq p = of_name (ReadsWell d) name.eq (all-read d) at.number p is_param in
          let mine = own name.eq p at.number is_param in
          changed.others p (not-eq p SPECIFIED_ANNUAL_DEMAND mine.no_demand) (not-eq p SPECIFIED_DEMAND_PROFILE mine.no_profile) well.used (positions_of name.index p) (well.within name.index at.inside)

  -- what the plan meets of the one data it meets of the other
  met-of : (name : RowName) → is_instance d name ≡ true → ReadsAlike alike name → Meets places d q plan name
  met-of name is_name same = subst Holds (sym (says-alike alike places q plan name is_name same)) (meets-there places e q plan feasible name (instance-alike alike name is_name same))

  met-wider : (name : RowName) → is_instance d name ≡ true → ReadsAlike alike name → Meets places d (factor * q) wider name
  met-wider name is_name same = scaled name is_name factor positive-factor (met-of name is_name same)

  -- ---- the two variables

  -- where the subscripts are others, nothing is less
  abbrev is_here : Index → Bool
  is_here i = is_eq (index_cmp (at_rlfy i.region i.slice i.fuel i.year) (at_rlfy r l f y))

  abbrev one_if : Bool → ℤ
  one_if b = if b then pos 1 else pos 0

  part-at : (i : Index) → is_here i ≡ true → year_split d i.slice i.year ≡ pos n
  part-at i same = let same_at = same-index (at_rlfy i.region i.slice i.fuel i.year) (at_rlfy r l f y) same in ap (λ (j : Index). year_split d j.slice j.year) same_at ∙ part

  met-rate : (i : Index) → is_instance d (name_at EQ_SPECIFIED_DEMAND i) ≡ true → Meets places d (factor * q) lowered (name_at EQ_SPECIFIED_DEMAND i)
  met-rate i is_name = by_place (is_here i) refl
    where
      sets : AreInSets d (subscripts_of EQ_SPECIFIED_DEMAND) i
      sets = are_in_sets d (subscripts_of EQ_SPECIFIED_DEMAND) i (there d (name_at EQ_SPECIFIED_DEMAND i) is_name).inside

      v : Var
      v = rate_of_demand i.region i.slice i.fuel i.year

      met : scale_of 1 *ℤ year_split d i.slice i.year *ℤ plan v ≡ demand_of e i *ℤ pos q
      met =
          ap (λ z. scale_of 1 *ℤ z *ℤ plan v)
          (changed.others YEAR_SPLIT (λ h. absurd (cc h)) (λ h. absurd (cc h)) ((omega arith, omega arith), refl) (i.slice ∷ i.year ∷ []) (sets.slice refl, (sets.year refl, tt)))
          ∙ meets-there places e q plan feasible (name_at EQ_SPECIFIED_DEMAND i) (subst (λ s. is_instance (record { sets = s; given = e.given; defaults = e.defaults; second = e.second }) (name_at EQ_SPECIFIED_DEMAND i) ≡ true) changed.sets is_name)

      by_place : (b : Bool) → is_here i ≡ b
          → scale_of 1 *ℤ year_split d i.slice i.year *ℤ (pos factor *ℤ plan v +ℤ one_if b *ℤ neg_ℤ (scale_of 1 *ℤ more *ℤ pos q)) ≡ demand_of d i *ℤ pos (factor * q)
      by_place true same =
          let same_at : at_rlfy i.region i.slice i.fuel i.year ≡ at_rlfy r l f y = same-index (at_rlfy i.region i.slice i.fuel i.year) (at_rlfy r l f y) same in
          let at_part : year_split d i.slice i.year ≡ pos n = part-at i same in
          let now : demand_of e i ≡ x = ap (λ (j : Index). demand_of e j) same_at ∙ changed.here in
          let before : demand_of d (at_rlfy r l f y) ≡ demand_of d i = ap (λ (j : Index). demand_of d j) (sym same_at) in
          let met_here : scale_of 1 *ℤ pos n *ℤ plan v ≡ x *ℤ pos q = ap (λ z. scale_of 1 *ℤ z *ℤ plan v) (sym at_part) ∙ met ∙ ap (λ z. z *ℤ pos q) now in
          ap (λ z. scale_of 1 *ℤ z *ℤ (pos factor *ℤ plan v +ℤ pos 1 *ℤ neg_ℤ (scale_of 1 *ℤ more *ℤ pos q))) at_part
          ∙ rate-met (scale_of 1) (pos n) (plan v) x (demand_of d (at_rlfy r l f y)) (pos q) met_here
          ∙ ap (λ z. z *ℤ pos (factor * q)) before
      by_place false other =
          let apart : i ≢ at_rlfy r l f y = λ same. true≢false (sym (ap (λ (j : Index). is_here j) same ∙ here-itself) ∙ other) in
          rate-kept (scale_of 1) (year_split d i.slice i.year) (plan v) (demand_of d i) (pos factor) (pos q) (neg_ℤ (scale_of 1 *ℤ more *ℤ pos q))
          (met ∙ ap (λ z. z *ℤ pos q) (sym (changed.elsewhere i is_name apart)))
        where
          here-itself : is_here (at_rlfy r l f y) ≡ true
          here-itself = self (at_rlfy r l f y)

  met-demand : (i : Index) → is_instance d (name_at EBA9 i) ≡ true → Meets places d (factor * q) lowered (name_at EBA9 i)
  met-demand i is_name = by_place (is_here i) refl
    where
      v : Var
      v = demand i.region i.slice i.fuel i.year

      w : Var
      w = rate_of_demand i.region i.slice i.fuel i.year

      met : scale_of 1 *ℤ plan v ≡ plan w *ℤ year_split d i.slice i.year
      met = met-of (name_at EBA9 i) is_name (other-reads (name_at EBA9 i) is_name refl)

      by_place : (b : Bool) → is_here i ≡ b
          → scale_of 1 *ℤ (pos factor *ℤ plan v +ℤ one_if b *ℤ neg_ℤ (more *ℤ pos q *ℤ pos n)) ≡ (pos factor *ℤ plan w +ℤ one_if b *ℤ neg_ℤ (scale_of 1 *ℤ more *ℤ pos q)) *ℤ year_split d i.slice i.year
      by_place true same =
          demand-met (scale_of 1) (pos factor) (plan v) (plan w) (pos n) more (pos q) (met ∙ ap (λ z. plan w *ℤ z) (part-at i same))
          ∙ ap (λ z. (pos factor *ℤ plan w +ℤ pos 1 *ℤ neg_ℤ (scale_of 1 *ℤ more *ℤ pos q)) *ℤ z) (sym (part-at i same))
      by_place false other = demand-kept (scale_of 1) (pos factor) (plan v) (plan w) (year_split d i.slice i.year) (neg_ℤ (more *ℤ pos q *ℤ pos n)) (neg_ℤ (scale_of 1 *ℤ more *ℤ pos q)) met

  -- ---- balances

  other-place : (i : Index) → is_instance d (balance_at i) ≡ true → i ≢ at_rlfy r l f y → (b : Bool) → is_here i ≡ b → b ≡ false
  other-place i is_name apart false same = refl
  other-place i is_name apart true same =
      absurd (apart (tidied-by d (subscripts_of EBA11) i (there d (balance_at i) is_name).inside ∙ same-index (at_rlfy i.region i.slice i.fuel i.year) (at_rlfy r l f y) same))

  met-balance : (i : Index) → is_instance d (balance_at i) ≡ true → i ≢ at_rlfy r l f y → Meets places d (factor * q) lowered (balance_at i)
  met-balance i is_name apart =
      subst (λ z. (scale_of 1 *ℤ (z +ℤ pos factor *ℤ plan (use_of_fuel i.region i.slice i.fuel i.year))
      +ℤ sum_over (regions d) (λ rr. pos factor *ℤ plan (trade i.region rr i.slice i.fuel i.year) *ℤ trade_route d i.region rr i.fuel i.year)) ≤ℤ (scale_of 1 *ℤ (pos factor *ℤ plan (production i.region i.slice i.fuel i.year))))
      (sym (kept (pos factor *ℤ plan v) (neg_ℤ (more *ℤ pos q *ℤ pos n)) (is_here i) (other-place i is_name apart (is_here i) refl)))
      (met-wider (balance_at i) is_name (other-reads (balance_at i) is_name refl))
    where
      v : Var
      v = demand i.region i.slice i.fuel i.year

      kept : (k m : ℤ) (b : Bool) → b ≡ false → k +ℤ one_if b *ℤ m ≡ k
      kept k m true h = absurd (true≢false h)
      kept k m false h = zero k m
        where
          zero : (k m : ℤ) → k +ℤ pos 0 *ℤ m ≡ k
          zero k m = ap (λ z. k +ℤ z) (zero-*ℤ m) ∙ +ℤ-zero k

  met-here : Holds (says_more places d (at_rlfy r l f y) more (billion * billion) (factor * q) lowered)
  met-here =
      subst (λ z. (pos (billion * billion) *ℤ (scale_of 1 *ℤ ((pos factor *ℤ plan (demand r l f y) +ℤ z *ℤ neg_ℤ (more *ℤ pos q *ℤ pos n)) +ℤ pos factor *ℤ plan (use_of_fuel r l f y)) +ℤ traded)
      +ℤ scale_of 1 *ℤ more *ℤ pos (factor * q)) ≤ℤ (pos (billion * billion) *ℤ (scale_of 1 *ℤ (pos factor *ℤ plan (production r l f y)))))
      (sym (alone-self (demand r l f y)))
      (balance-more (pos (billion * billion)) (scale_of 1) (pos factor *ℤ plan (demand r l f y)) (pos factor *ℤ plan (use_of_fuel r l f y)) traded (pos factor) (pos n) more (pos q)
      (scale_of 1 *ℤ (pos factor *ℤ plan (production r l f y))) (omega (arith, ints)) refl
      (met-wider (balance_at (at_rlfy r l f y)) is (other-reads (balance_at (at_rlfy r l f y)) is refl)))
    where
      traded : ℤ
      traded = sum_over (regions d) (λ rr. pos factor *ℤ plan (trade r rr l f y) *ℤ trade_route d r rr f y)

  -- ---- the whole plan

  abbrev IsMetAt : Index → ℕ → Type 0
  IsMetAt i eq = Meets places d (factor * q) lowered (name_at eq i)

  met-other : (name : RowName) → is_instance d name ≡ true → name ≢ balance_at (at_rlfy r l f y) → Meets places d (factor * q) lowered name
  met-other name is_name apart = by_first (name.eq == EQ_SPECIFIED_DEMAND) refl
    where
      instance-at : (eq : ℕ) → name.eq ≡ eq → is_instance d (name_at eq name.index) ≡ true
      instance-at eq same = subst (λ k. is_instance d (name_at k name.index) ≡ true) same is_name

      by_third : (b : Bool) → (name.eq == EQ_SPECIFIED_DEMAND) ≡ false → (name.eq == EBA9) ≡ false → (name.eq == EBA11) ≡ b → IsMetAt name.index name.eq
      by_third true first second is_third =
          let same : name.eq ≡ EBA11 = eqb-true name.eq EBA11 is_third in
          subst (IsMetAt name.index) (sym same) (met-balance name.index (instance-at EBA11 same) (λ at. apart (ap₂ (λ (eq : ℕ) (index : Index). record { eq = eq; index = index }) same at)))
      by_third false first second third =
          let none : tells_demand name.eq ≡ false = either name.eq first second third in
          subst Holds (of_name IsUnmoved name.eq unmoved (there d name is_name).number none name.index) (met-wider name is_name (other-reads name is_name first))
        where
          either : (eq : ℕ) → (eq == EQ_SPECIFIED_DEMAND) ≡ false → (eq == EBA9) ≡ false → (eq == EBA11) ≡ false → tells_demand eq ≡ false
          either eq a b c = ap (λ t. t || eq == EBA9 || eq == EBA11) a ∙ ap (λ t. t || eq == EBA11) b ∙ c

      by_second : (b : Bool) → (name.eq == EQ_SPECIFIED_DEMAND) ≡ false → (name.eq == EBA9) ≡ b → IsMetAt name.index name.eq
      by_second true first is_second = let same : name.eq ≡ EBA9 = eqb-true name.eq EBA9 is_second in subst (IsMetAt name.index) (sym same) (met-demand name.index (instance-at EBA9 same))
      by_second false first second = by_third (name.eq == EBA11) first second refl

      by_first : (b : Bool) → (name.eq == EQ_SPECIFIED_DEMAND) ≡ b → IsMetAt name.index name.eq
      by_first true is_first = let same : name.eq ≡ EQ_SPECIFIED_DEMAND = eqb-true name.eq EQ_SPECIFIED_DEMAND is_first in subst (IsMetAt name.index) (sym same) (met-rate name.index (instance-at EQ_SPECIFIED_DEMAND same))
      by_first false first = by_second (name.eq == EBA9) first refl

  -- ---- signs

  wider-right : (v : Var) → exists d v ≡ true → kind_is_free v.kind ≡ false → pos 0 ≤ℤ wider v
  wider-right v is_there fixed = *ℤ_nonnegative (pos factor) (plan v) (omega (arith, ints)) (feasible.signs v (sym (exists-alike alike v) ∙ is_there) fixed)

  rate-here : scale_of 1 *ℤ pos n *ℤ lowered (rate_of_demand r l f y) ≡ demand_of d (at_rlfy r l f y) *ℤ pos (factor * q)
  rate-here = ap (λ z. scale_of 1 *ℤ z *ℤ lowered (rate_of_demand r l f y)) (sym part) ∙ met-rate (at_rlfy r l f y) is

  rate-right : pos 0 ≤ℤ lowered (rate_of_demand r l f y)
  rate-right =
      unscaled_le (billion * n) (pos 0) (lowered (rate_of_demand r l f y)) (omega (arith, some))
      (subst (λ z. z ≤ℤ (pos (billion * n) *ℤ lowered (rate_of_demand r l f y))) (sym (*ℤ-zero (pos (billion * n))))
      (subst (λ z. pos 0 ≤ℤ z) (sym rate-here) (*ℤ_nonnegative (demand_of d (at_rlfy r l f y)) (pos (factor * q)) demanded (omega (arith, ints)))))

  demand-right : pos 0 ≤ℤ lowered (demand r l f y)
  demand-right =
      unscaled_le billion (pos 0) (lowered (demand r l f y)) (omega arith)
      (subst (λ z. z ≤ℤ (pos billion *ℤ lowered (demand r l f y))) (sym (*ℤ-zero (pos billion)))
      (subst (λ z. pos 0 ≤ℤ z) (sym (met-demand (at_rlfy r l f y) is ∙ ap (λ z. lowered (rate_of_demand r l f y) *ℤ z) part))
      (*ℤ_nonnegative (lowered (rate_of_demand r l f y)) (pos n) rate-right (omega (arith, ints)))))

  signs-right : (v : Var) → exists d v ≡ true → kind_is_free v.kind ≡ false → pos 0 ≤ℤ lowered v
  signs-right v is_there fixed = by_rate (nat_eq v.kind RATE_OF_DEMAND) refl
    where
      same-var : (u v : Var) → is_eq (var_cmp u v) ≡ true → u ≡ v
      same-var u v h =
          let same : record { eq = u.kind; index = u.index } ≡ record { eq = v.kind; index = v.index } = same-name (record { eq = u.kind; index = u.index }) (record { eq = v.kind; index = v.index }) h in
          ap (λ (name : RowName). record { kind = name.eq; index = name.index }) same

      by_var : (w : Var) (m : ℤ) → (b : Bool) → is_eq (var_cmp v w) ≡ b → pos 0 ≤ℤ (pos factor *ℤ plan w +ℤ alone w w *ℤ m) → pos 0 ≤ℤ (pos factor *ℤ plan v +ℤ one_if b *ℤ m)
      by_var w m true same right = subst (λ (u : Var). pos 0 ≤ℤ (pos factor *ℤ plan u +ℤ pos 1 *ℤ m)) (sym (same-var v w same)) (subst (λ z. pos 0 ≤ℤ (pos factor *ℤ plan w +ℤ z *ℤ m)) (alone-self w) right)
      by_var w m false other right = subst (λ z. pos 0 ≤ℤ z) (sym (ap (λ z. pos factor *ℤ plan v +ℤ z) (zero-*ℤ m) ∙ +ℤ-zero (pos factor *ℤ plan v))) (wider-right v is_there fixed)

      by_demand : (b : Bool) → nat_eq v.kind DEMAND ≡ b
          → pos 0 ≤ℤ (if b then pos factor *ℤ plan v +ℤ alone (demand r l f y) v *ℤ neg_ℤ (more *ℤ pos q *ℤ pos n) else pos factor *ℤ plan v)
      by_demand true is_kind = by_var (demand r l f y) (neg_ℤ (more *ℤ pos q *ℤ pos n)) (is_eq (var_cmp v (demand r l f y))) refl demand-right
      by_demand false other = wider-right v is_there fixed

      by_rate : (b : Bool) → nat_eq v.kind RATE_OF_DEMAND ≡ b
          → pos 0 ≤ℤ (if b then pos factor *ℤ plan v +ℤ alone (rate_of_demand r l f y) v *ℤ neg_ℤ (scale_of 1 *ℤ more *ℤ pos q)
          else if nat_eq v.kind DEMAND then pos factor *ℤ plan v +ℤ alone (demand r l f y) v *ℤ neg_ℤ (more *ℤ pos q *ℤ pos n) else pos factor *ℤ plan v)
      by_rate true is_kind = by_var (rate_of_demand r l f y) (neg_ℤ (scale_of 1 *ℤ more *ℤ pos q)) (is_eq (var_cmp v (rate_of_demand r l f y))) refl rate-right
      by_rate false other = by_demand (nat_eq v.kind DEMAND) refl

  pub feasible-with-more : FeasibleWithMore places d (at_rlfy r l f y) more (billion * billion) (factor * q) lowered
  feasible-with-more = record {
    positive = positive-product factor q positive-factor feasible.positive;
    others = met-other;
    balance = met-here;
    signs = signs-right;
  }
    where
      positive-product : (a b : ℕ) → 0 < a → 0 < b → 0 < a * b
      positive-product a b ha hb = grind (arith, ha, hb)

  -- ---- its cost

  pub lowered-cost : cost d lowered ≡ pos factor *ℤ cost d plan
  lowered-cost =
      sum_over-same (regions d) (λ r. sum_over (all_years d) (λ y. pos factor *ℤ plan (total_discounted_cost r y))) (λ r. pos factor *ℤ sum_over (all_years d) (λ y. plan (total_discounted_cost r y)))
      (λ r. sym (sum_over-times (all_years d) (pos factor) (λ y. plan (total_discounted_cost r y))))
      ∙ sym (sum_over-times (regions d) (pos factor) (λ r. sum_over (all_years d) (λ y. plan (total_discounted_cost r y))))

-- ---- prices

-- what a plan times a factor costs at least, the plan does
pub costs-less : (d : Data) (q k : ℕ) (x : Var → ℤ) (w : Var → ℤ) (bound price : Rational) (a : ℤ) (b : ℕ) → 0 < k → cost d w ≡ pos k *ℤ cost d x → CostsAtLeast d (k * q) w bound price a b → CostsAtLeast d q x bound price a b
costs-less d q k x w bound price a b positive is costs =
    unscaled_le k ((bound.top *ℤ price.bottom *ℤ pos b +ℤ price.top *ℤ a *ℤ bound.bottom) *ℤ pos q) (bound.bottom *ℤ price.bottom *ℤ pos b *ℤ cost d x) positive
    (subst (λ z. z ≤ℤ (pos k *ℤ (bound.bottom *ℤ price.bottom *ℤ pos b *ℤ cost d x))) (left (bound.top *ℤ price.bottom *ℤ pos b +ℤ price.top *ℤ a *ℤ bound.bottom) (pos k) (pos q))
    (subst (λ z. ((bound.top *ℤ price.bottom *ℤ pos b +ℤ price.top *ℤ a *ℤ bound.bottom) *ℤ pos (k * q)) ≤ℤ z) (ap (λ z. bound.bottom *ℤ price.bottom *ℤ pos b *ℤ z) is ∙ right (bound.bottom *ℤ price.bottom *ℤ pos b) (pos k) (cost d x)) costs))
  where
    left : (u k q : ℤ) → u *ℤ (k *ℤ q) ≡ k *ℤ (u *ℤ q)
    left u k q = simp ring

    right : (u k c : ℤ) → u *ℤ (k *ℤ c) ≡ k *ℤ (u *ℤ c)
    right u k c = simp ring

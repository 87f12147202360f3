-- Where a least value is above the greatest, there is no plan.
use Rattle.data_warnings.proofs.Common.{◌≡◌, ℕ, ◌<◌, ℤ, pos, negsuc, ◌+ℤ◌, ◌*ℤ◌, ◌≤ℤ◌, ◌<ℤ◌, Bool, true, false, T, refl, sym, subst, arith, int_lt, int_le, ◌&&◌, both_true, ints, *ℤ-<ℤ, *ℤ_nonnegative, Data, Var, CAA2, TCC1, TCC2, NCC1, NCC2, AAC2, AAC3, TAC2, TAC3, exists, at_rt, at_rty, scale_of, Feasible, accumulated_new_capacity, new_capacity, total_capacity_annual, total_technology_annual_activity, total_technology_model_period_activity, is_limit, is_positive, is_above_zero}
use Rattle.model_sets.specs.Names as sets
use Rattle.data_warnings.specs.declared.rules.Pair.{Pair}
use Rattle.data_warnings.specs.declared.rules.Pair.TheVariants.{Residual, Capacity, Investment, Activity}
use Rattle.data_warnings.specs.Limits.{greatest_period, greatest_value, is_crossed, is_crossed_period, is_set, least_period, least_value}
use Rattle.data_warnings.proofs.MetEquations.{In, index-rt, index-rty, met}

-- ---- tests of numbers

pub both : (a b : Bool) → (a && b) ≡ true → (a ≡ true) × (b ≡ true)
both true true h = (refl, refl)
both true false h = absurd (cc h)
both false b h = absurd (cc h)

pub lt_of : (a b : ℤ) → int_lt a b ≡ true → a <ℤ b
lt_of a b e = record { lt = subst T (sym e) tt }

pub le_of : (a b : ℤ) → int_le a b ≡ true → a ≤ℤ b
le_of a b e = record { le = subst T (sym e) tt }

true_so : (t : Bool) → T t → t ≡ true
true_so true h = refl
true_so false h = absurd h

pub positive_test : (z : ℤ) → pos 0 <ℤ z → is_positive z ≡ true
positive_test z h = true_so (int_lt (pos 0) z) h.lt

pub limit_test : (z : ℤ) → pos 0 ≤ℤ z → is_limit z ≡ true
limit_test (pos n) h = refl
limit_test (negsuc n) h = absurd (omega (arith, ints, h))

-- ---- numbers that contradict each other

between : (v lo hi qz : ℤ) → pos 0 <ℤ qz → hi <ℤ lo → v ≤ℤ (hi *ℤ qz) → (lo *ℤ qz) ≤ℤ v → ⊥
between v lo hi qz some less most least = let more = *ℤ-<ℤ hi lo qz some less in omega (arith, ints, more, most, least)

-- the same of a sum of which a part is at least 0
part_between : (v a lo hi qz : ℤ) → pos 0 <ℤ qz → hi <ℤ lo → pos 0 ≤ℤ a → v ≡ a +ℤ lo *ℤ qz → v ≤ℤ (hi *ℤ qz) → ⊥
part_between v a lo hi qz some less nonnegative is most = let more = *ℤ-<ℤ hi lo qz some less in omega (arith, ints, more, nonnegative, is, most)

module _ (places : ℕ) (d : Data) (q : ℕ) (x : Var → ℤ) (plan : Feasible places d q x) where
  pub some : pos 0 <ℤ pos q
  some = let positive : 0 < q = plan.positive in omega (arith, ints, positive)

  -- least and greatest of the four pairs
  pub not_crossed : (pair : Pair) (r t y : ℕ) → In d sets.region r → In d sets.technology t → In d sets.year y → is_crossed d pair r t y ≡ true → ⊥
  not_crossed Residual r t y in_r in_t in_y h =
      let lo = least_value d Residual r t y in
      let hi = greatest_value d Residual r t y in
      let tests = both (is_set hi) (int_lt hi lo) h in
      let within = index-rty d r t y in_r in_t in_y in
      let there : exists d (accumulated_new_capacity r t y) ≡ true = both_true (both_true refl within) refl in
      part_between (scale_of 1 *ℤ x (total_capacity_annual r t y)) (scale_of 1 *ℤ x (accumulated_new_capacity r t y)) lo hi (pos q) some (lt_of hi lo tests.1)
      (*ℤ_nonnegative (scale_of 1) (x (accumulated_new_capacity r t y)) (omega (arith, ints)) (plan.signs (accumulated_new_capacity r t y) there refl))
      (met places d q x plan CAA2 (at_rty r t y) refl within refl)
      (met places d q x plan TCC1 (at_rty r t y) refl within (limit_test hi (le_of (pos 0) hi tests.0)))
  not_crossed Capacity r t y in_r in_t in_y h =
      let lo = least_value d Capacity r t y in
      let hi = greatest_value d Capacity r t y in
      let tests = both (is_set hi) (int_lt hi lo) h in
      let within = index-rty d r t y in_r in_t in_y in
      let set = le_of (pos 0) hi tests.0 in
      let less = lt_of hi lo tests.1 in
      between (scale_of 1 *ℤ x (total_capacity_annual r t y)) lo hi (pos q) some less
      (met places d q x plan TCC1 (at_rty r t y) refl within (limit_test hi set))
      (met places d q x plan TCC2 (at_rty r t y) refl within (positive_test lo (omega (arith, ints, set, less))))
  not_crossed Investment r t y in_r in_t in_y h =
      let lo = least_value d Investment r t y in
      let hi = greatest_value d Investment r t y in
      let tests = both (is_set hi) (int_lt hi lo) h in
      let within = index-rty d r t y in_r in_t in_y in
      let set = le_of (pos 0) hi tests.0 in
      let less = lt_of hi lo tests.1 in
      between (scale_of 1 *ℤ x (new_capacity r t y)) lo hi (pos q) some less
      (met places d q x plan NCC1 (at_rty r t y) refl within (limit_test hi set))
      (met places d q x plan NCC2 (at_rty r t y) refl within (positive_test lo (omega (arith, ints, set, less))))
  not_crossed Activity r t y in_r in_t in_y h =
      let lo = least_value d Activity r t y in
      let hi = greatest_value d Activity r t y in
      let tests = both (is_set hi) (int_lt hi lo) h in
      let within = index-rty d r t y in_r in_t in_y in
      let set = le_of (pos 0) hi tests.0 in
      let less = lt_of hi lo tests.1 in
      between (scale_of 1 *ℤ x (total_technology_annual_activity r t y)) lo hi (pos q) some less
      (met places d q x plan AAC2 (at_rty r t y) refl within (limit_test hi set))
      (met places d q x plan AAC3 (at_rty r t y) refl within (positive_test lo (omega (arith, ints, set, less))))

  -- and of the activity of the model period
  pub not_crossed_period : (r t : ℕ) → In d sets.region r → In d sets.technology t → is_crossed_period d r t ≡ true → ⊥
  not_crossed_period r t in_r in_t h =
      let lo = least_period d r t in
      let hi = greatest_period d r t in
      let tests = both (is_above_zero hi) (int_lt hi lo) h in
      let within = index-rt d r t in_r in_t in
      let set = lt_of (pos 0) hi tests.0 in
      let less = lt_of hi lo tests.1 in
      between (scale_of 1 *ℤ x (total_technology_model_period_activity r t)) lo hi (pos q) some less
      (met places d q x plan TAC2 (at_rt r t) refl within (positive_test hi set))
      (met places d q x plan TAC3 (at_rt r t) refl within (positive_test lo (omega (arith, ints, set, less))))

-- Where a fuel is asked for and nothing makes or brings it, there is no plan.
use Rattle.data_warnings.proofs.Common.{◌≡◌, ℕ, zero, suc, ◌+◌, ◌<◌, ℤ, pos, ◌+ℤ◌, ◌*ℤ◌, ◌≤ℤ◌, ◌<ℤ◌, Bool, true, false, not, ◌||◌, ◌⊎◌, List, [], ◌∷◌, length, nat_eq, refl, ap, ap₂, sym, ◌∙◌, subst, arith, eqb-true, inl, inr, true≢false, ◌&&◌, both_true, list_any, range_with_len, ints, ≤ℤ_or_<ℤ, *ℤ_pos, *ℤ_cancel, *ℤ_nonnegative, <ℤ_cancel, nonzero_of_pos, *ℤ-zero, zero-*ℤ, *ℤ_comm, products, Data, Var, EQ_SPECIFIED_DEMAND, EBA3, EBA7, EBA9, EBA10, EBA11, EBB1, EBB3, EBB4, exists, at_rfy, at_rlfy, at_rrrfy, at_rrrlfy, scale_of, sum_over, accumulated_annual_demand, specified_annual_demand, specified_demand_profile, trade_route, year_split, Feasible, count_of, regions, demand, production, production_annual, rate_of_demand, rate_of_production, rate_of_production_by_technology, trade, trade_annual, use_annual, use_of_fuel, producing_technologies, Profile, Route, is_so, is_so_somewhere, is_above_zero, is_nonzero}
use Rattle.std.specs.Ordering.{is_eq}
use Rattle.exact_num.proofs.OrderLaws.{int_cmp-less, int_cmp-greater}
use Rattle.model_sets.specs.Names as sets
use Rattle.param_tables.specs.declared.ratios.ActivityRatio.TheVariants.{Output}
use Rattle.data_warnings.specs.Makers.{has_some, is_asked_for, is_handled, is_specified, is_supplied, is_unmade}
use Rattle.data_warnings.proofs.CrossedLimits.{both, lt_of, some}
use Rattle.data_warnings.proofs.MetEquations.{In, in_of, index-rfy, index-rlfy, index-rrrfy, index-rrrlfy, met}

-- ---- tests of lists

off : (a : Bool) → not a ≡ false → a ≡ true
off true h = refl
off false h = absurd (cc h)

none_of : (xs : List ℕ) → has_some xs ≡ false → xs ≡ []
none_of [] h = refl
none_of (x ∷ xs) h = let e : length (x ∷ xs) ≡ 0 = eqb-true (length (x ∷ xs)) 0 (off (nat_eq (length (x ∷ xs)) 0) h) in absurd (omega (arith, e))

neither : (a b : Bool) → not (a || b) ≡ true → (a ≡ false) × (b ≡ false)
neither false false h = (refl, refl)
neither false true h = absurd (cc h)
neither true b h = absurd (cc h)

not_both : (a b : Bool) → (a && b) ≡ false → a ≡ true → b ≡ false
not_both true b h is = h
not_both false b h is = absurd (cc is)

or_either : (a b : Bool) → (a || b) ≡ true → (a ≡ true) ⊎ (b ≡ true)
or_either true b h = inl refl
or_either false b h = inr h

-- a sum of which each summand is 0, by a test that no position passes
sum-none : (P : ℕ → Bool) (f : ℕ → ℤ) (a n end : ℕ) → a + n ≡ end → list_any P (range_with_len a n) ≡ false → ((i : ℕ) → i < end → P i ≡ false → f i ≡ pos 0)
    → sum_over (range_with_len a n) f ≡ pos 0
sum-none P f a zero end is h zeros = refl
sum-none P f a (suc n) end is h zeros =
    let parts = or_neither (P a) (list_any P (range_with_len (a + 1) n)) h in
    ap₂ (λ u v. u +ℤ v) (zeros a (omega (arith, is)) parts.0) (sum-none P f (a + 1) n end (omega (arith, is)) parts.1 zeros)
  where
    or_neither : (b c : Bool) → (b || c) ≡ false → (b ≡ false) × (c ≡ false)
    or_neither false false h = (refl, refl)
    or_neither false true h = absurd (cc h)
    or_neither true c h = absurd (cc h)

-- a sum of zeros
sum-zeros : (f : ℕ → ℤ) (a n end : ℕ) → a + n ≡ end → ((i : ℕ) → i < end → f i ≡ pos 0) → sum_over (range_with_len a n) f ≡ pos 0
sum-zeros f a zero end is zeros = refl
sum-zeros f a (suc n) end is zeros = ap₂ (λ u v. u +ℤ v) (zeros a (omega (arith, is))) (sum-zeros f (a + 1) n end (omega (arith, is)) zeros)

-- a position that passes
pub record Passes (P : ℕ → Bool) (end : ℕ) : Type 0 where
  pub at : ℕ
  pub below : at < end
  pub passes : P at ≡ true

any-passes : (P : ℕ → Bool) (a n end : ℕ) → a + n ≡ end → list_any P (range_with_len a n) ≡ true → Passes P end
any-passes P a zero end is h = absurd (cc h)
any-passes P a (suc n) end is h =
    elim (or_either (P a) (list_any P (range_with_len (a + 1) n)) h) [
      | inl here ↦ record { at = a; below = omega (arith, is); passes = here }
      | inr later ↦ any-passes P (a + 1) n end (omega (arith, is)) later
    ]

-- ---- numbers

zero_of : (z : ℤ) → is_nonzero z ≡ false → z ≡ pos 0
zero_of z h =
    elim (≤ℤ_or_<ℤ z (pos 0)) [
      | inl to ↦
          elim (≤ℤ_or_<ℤ (pos 0) z) [
            | inl from ↦ omega (arith, ints, from, to)
            | inr below ↦ absurd (true≢false (sym (ap (λ o. not (is_eq o)) (int_cmp-less z (pos 0) below)) ∙ h))
          ]
      | inr above ↦ absurd (true≢false (sym (ap (λ o. not (is_eq o)) (int_cmp-greater z (pos 0) above)) ∙ h))
    ]

twice : (z : ℤ) → z +ℤ z ≡ pos 0 → z ≡ pos 0
twice z h = omega (arith, ints, h)

-- nothing is produced of a rate of 0
no_product : (s p rate ys : ℤ) → pos 0 <ℤ s → s *ℤ p ≡ rate *ℤ ys → rate ≡ pos 0 → p ≡ pos 0
no_product s p rate ys above is none =
    *ℤ_cancel p (pos 0) s (nonzero_of_pos s above) (*ℤ_comm p s ∙ is ∙ ap (λ z. z *ℤ ys) none ∙ zero-*ℤ ys ∙ sym (zero-*ℤ s))

-- a demand in a timeslice is above 0 where its rate is
demanded : (s dem rate ys wanted : ℤ) → pos 0 <ℤ s → pos 0 <ℤ wanted → s *ℤ ys *ℤ rate ≡ wanted → s *ℤ dem ≡ rate *ℤ ys → pos 0 <ℤ dem
demanded s dem rate ys wanted above wants rates is =
    let product : (dem *ℤ s) *ℤ s ≡ wanted = ap (λ z. z *ℤ s) (*ℤ_comm dem s ∙ is) ∙ turned ∙ rates in
    <ℤ_cancel (pos 0) dem s above (<ℤ_cancel (pos 0 *ℤ s) (dem *ℤ s) s above
    (subst (λ z. z <ℤ ((dem *ℤ s) *ℤ s)) (sym (ap (λ z. z *ℤ s) (zero-*ℤ s) ∙ zero-*ℤ s)) (subst (λ z. pos 0 <ℤ z) (sym product) wants)))
  where
    turned : (rate *ℤ ys) *ℤ s ≡ s *ℤ ys *ℤ rate
    turned = simp products

-- what is produced doesn't cover a demand
uncovered : (s prod dem used routes : ℤ) → pos 0 <ℤ s → prod ≡ pos 0 → pos 0 <ℤ dem → pos 0 ≤ℤ used → routes ≡ pos 0
    → (s *ℤ (dem +ℤ used) +ℤ routes) ≤ℤ (s *ℤ prod) → ⊥
uncovered s prod dem used routes above none wants least no_routes covered =
    let more : pos 0 <ℤ (s *ℤ (dem +ℤ used)) = *ℤ_pos s (dem +ℤ used) above (omega (arith, ints, wants, least)) in
    let nothing : s *ℤ prod ≡ pos 0 = ap (λ z. s *ℤ z) none ∙ *ℤ-zero s in
    omega (arith, ints, more, nothing, no_routes, covered)

-- nor one over the year
uncovered_yearly : (s prod used routes wanted : ℤ) → pos 0 <ℤ s → prod ≡ pos 0 → pos 0 ≤ℤ used → routes ≡ pos 0 → pos 0 <ℤ wanted
    → (s *ℤ used +ℤ routes +ℤ wanted) ≤ℤ (s *ℤ prod) → ⊥
uncovered_yearly s prod used routes wanted above none least no_routes wants covered =
    let uses : pos 0 ≤ℤ (s *ℤ used) = *ℤ_nonnegative s used (omega (arith, ints, above)) least in
    let nothing : s *ℤ prod ≡ pos 0 = ap (λ z. s *ℤ z) none ∙ *ℤ-zero s in
    omega (arith, ints, uses, nothing, no_routes, wants, covered)

module _ (places : ℕ) (d : Data) (q : ℕ) (x : Var → ℤ) (plan : Feasible places d q x) (r f y : ℕ) (in_r : In d sets.region r) (in_f : In d sets.fuel f) (in_y : In d sets.year y) where
  one : pos 0 <ℤ scale_of 1
  one = omega (arith, ints)

  -- where no technology makes the fuel, nothing is produced
  no-production : is_handled d Output r f y ≡ false → (l : ℕ) → In d sets.timeslice l → x (production r l f y) ≡ pos 0
  no-production made l in_l =
      let none : producing_technologies d r f y ≡ [] = none_of (producing_technologies d r f y) made in
      let within = index-rlfy d r l f y in_r in_l in_f in_y in
      let rate : x (rate_of_production r l f y) ≡ pos 0 =
      met places d q x plan EBA3 (at_rlfy r l f y) refl within refl ∙ ap (λ ts. sum_over ts (λ t. x (rate_of_production_by_technology r l t f y))) none in
      no_product (scale_of 1) (x (production r l f y)) (x (rate_of_production r l f y)) (year_split d l y) one
      (met places d q x plan EBA7 (at_rlfy r l f y) refl within refl) rate

  -- what a region gets of itself is 0
  own-trade : (l : ℕ) → In d sets.timeslice l → x (trade r r l f y) ≡ pos 0
  own-trade l in_l = twice (x (trade r r l f y)) (met places d q x plan EBA10 (at_rrrlfy r r l f y) refl (index-rrrlfy d r r l f y in_r in_r in_l in_f in_y) refl)

  -- a trade along no route is 0
  along_no_route : (z route : ℕ → ℤ) (rr : ℕ) → z r ≡ pos 0 → (not (nat_eq rr r) && is_nonzero (route rr)) ≡ false → z rr *ℤ route rr ≡ pos 0
  along_no_route z route rr own none = cases (nat_eq rr r) refl
    where
      cases : (same : Bool) → nat_eq rr r ≡ same → z rr *ℤ route rr ≡ pos 0
      cases true is = ap (λ w. w *ℤ route rr) (ap z (eqb-true rr r is) ∙ own) ∙ zero-*ℤ (route rr)
      cases false is = ap (λ w. z rr *ℤ w) (zero_of (route rr) (not_both (not (nat_eq rr r)) (is_nonzero (route rr)) none (ap not is))) ∙ *ℤ-zero (z rr)

  no-routes : is_so_somewhere d (Route r f y) ≡ false → (z : ℕ → ℤ) → z r ≡ pos 0 → sum_over (regions d) (λ rr. z rr *ℤ trade_route d r rr f y) ≡ pos 0
  no-routes none z own =
      sum-none (is_so d (Route r f y)) (λ rr. z rr *ℤ trade_route d r rr f y) 0 (count_of d sets.region) (count_of d sets.region) (omega arith) none
      (λ rr below fails. along_no_route z (λ i. trade_route d r i f y) rr own fails)

  -- a specified demand isn't covered
  not-specified : is_handled d Output r f y ≡ false → is_so_somewhere d (Route r f y) ≡ false → is_specified d r f y ≡ true → is_so_somewhere d (Profile r f y) ≡ true → ⊥
  not-specified made brought specified profiled =
      let found = any-passes (is_so d (Profile r f y)) 0 (count_of d sets.timeslice) (count_of d sets.timeslice) (omega arith) profiled in
      let l = found.at in
      let in_l = in_of d sets.timeslice l found.below in
      let within = index-rlfy d r l f y in_r in_l in_f in_y in
      let there : exists d (use_of_fuel r l f y) ≡ true = both_true (both_true refl within) refl in
      let sad = specified_annual_demand d r f y in
      let sdp = specified_demand_profile d r f l y in
      let wanted : pos 0 <ℤ (sad *ℤ sdp *ℤ pos q) =
      *ℤ_pos (sad *ℤ sdp) (pos q) (*ℤ_pos sad sdp (lt_of (pos 0) sad specified) (lt_of (pos 0) sdp found.passes)) (some places d q x plan) in
      let asked : pos 0 <ℤ x (demand r l f y) =
      demanded (scale_of 1) (x (demand r l f y)) (x (rate_of_demand r l f y)) (year_split d l y) (sad *ℤ sdp *ℤ pos q) one wanted
      (met places d q x plan EQ_SPECIFIED_DEMAND (at_rlfy r l f y) refl within refl) (met places d q x plan EBA9 (at_rlfy r l f y) refl within refl) in
      uncovered (scale_of 1) (x (production r l f y)) (x (demand r l f y)) (x (use_of_fuel r l f y)) (sum_over (regions d) (λ rr. x (trade r rr l f y) *ℤ trade_route d r rr f y)) one
      (no-production made l in_l) asked (plan.signs (use_of_fuel r l f y) there refl)
      (no-routes brought (λ rr. x (trade r rr l f y)) (own-trade l in_l))
      (met places d q x plan EBA11 (at_rlfy r l f y) refl within refl)

  -- nor is one over the year
  not-accumulated : is_handled d Output r f y ≡ false → is_so_somewhere d (Route r f y) ≡ false → is_above_zero (accumulated_annual_demand d r f y) ≡ true → ⊥
  not-accumulated made brought accumulated =
      let within = index-rfy d r f y in_r in_f in_y in
      let there : exists d (use_annual r f y) ≡ true = both_true (both_true refl within) refl in
      let slices = count_of d sets.timeslice in
      let acc = accumulated_annual_demand d r f y in
      let produced : x (production_annual r f y) ≡ pos 0 =
      met places d q x plan EBB1 (at_rfy r f y) refl within refl
      ∙ sum-zeros (λ l. x (production r l f y)) 0 slices slices (omega arith) (λ l below. no-production made l (in_of d sets.timeslice l below)) in
      let own : x (trade_annual r r f y) ≡ pos 0 =
      met places d q x plan EBB3 (at_rrrfy r r f y) refl (index-rrrfy d r r f y in_r in_r in_f in_y) refl
      ∙ sum-zeros (λ l. x (trade r r l f y)) 0 slices slices (omega arith) (λ l below. own-trade l (in_of d sets.timeslice l below)) in
      uncovered_yearly (scale_of 1) (x (production_annual r f y)) (x (use_annual r f y)) (sum_over (regions d) (λ rr. x (trade_annual r rr f y) *ℤ trade_route d r rr f y)) (acc *ℤ pos q) one
      produced (plan.signs (use_annual r f y) there refl) (no-routes brought (λ rr. x (trade_annual r rr f y)) own)
      (*ℤ_pos acc (pos q) (lt_of (pos 0) acc accumulated) (some places d q x plan))
      (met places d q x plan EBB4 (at_rfy r f y) refl within refl)

  -- so nothing is asked for that isn't supplied
  pub not_unmade : is_unmade d r f y ≡ true → ⊥
  not_unmade h =
      let tests = both (is_asked_for d r f y) (not (is_supplied d r f y)) h in
      let supply = neither (is_handled d Output r f y) (is_so_somewhere d (Route r f y)) tests.1 in
      elim (or_either (is_specified d r f y && is_so_somewhere d (Profile r f y)) (is_above_zero (accumulated_annual_demand d r f y)) tests.0) [
        | inl specified ↦
            let parts = both (is_specified d r f y) (is_so_somewhere d (Profile r f y)) specified in not-specified supply.0 supply.1 parts.0 parts.1
        | inr accumulated ↦ not-accumulated supply.0 supply.1 accumulated
      ]

-- What a price promises of other data, in the example with one technology that makes a fuel at 8 a unit: data with an annual demand of 11 on top of the timeslice's 10, with a demand
-- of 11 in the timeslice, and with a limit on capacity that is taken away.
use Rattle.std.proofs.Common.{◌≡◌, ◌≢◌, ℕ, zero, suc, ◌<◌, ◌^◌, ◌*◌, Bool, true, false, ◌&&◌, ◌||◌, ℤ, pos, negsuc, neg_ℤ, ◌-ℤ◌, ◌*ℤ◌, List, [], ◌∷◌, nat_eq, Option, Some, None, refl, sym, ap, ap₂, ◌∙◌, arith, inl, inr, subst, eqb-true, true≢false}
use Rattle.std.specs.Prelude.{◌≤ℤ◌, codes, find, int_le, unwrap_or, if◌then◌else◌}
use Rattle.std.specs.List.{list_all}
use Rattle.std.specs.Option.{option_map, option_or}
use Rattle.std.proofs.lemmas.Bool.{and_parts}
use Rattle.std.proofs.lemmas.Int.{ints}
unfoldable use Rattle.discount_factors.specs.Factors.{capital_factor, discounted, half_year_root, operating_factor, root_from, salvage_fraction}
use Rattle.exact_num.specs.Rational.{Rational, whole}
use Rattle.model_sets.specs.Data.{Data, Given, default_of, given_at, is_given_at, value_at, value_of_none}
use Rattle.model_sets.specs.Names.{region, technology, fuel, year}
use Rattle.model_sets.specs.Params.{subscript_sets}
use Rattle.model_sets.specs.declared.param_numbers.TheConstants.{ACCUMULATED_ANNUAL_DEMAND, SPECIFIED_ANNUAL_DEMAND, TOTAL_ANNUAL_MAX_CAPACITY}
use Rattle.row_core.specs.declared.Index.{Index}
use Rattle.row_core.specs.declared.RowName.{RowName}
use Rattle.row_core.specs.declared.Var.{Var}
use Rattle.row_core.specs.declared.equation_numbers.TheConstants.{E8, EBB4, TCC1}
use Rattle.row_core.specs.Kinds.{kind_is_free}
use Rattle.row_core.specs.Statements.{holds}
use Rattle.row_core.proofs.Members.{Has}
use Rattle.row_core.proofs.StatementLaws.{holds_sound}
use Rattle.named_equations.specs.Constants.{AreWithin, names_within, param_alone, positions_of, value_within}
use Rattle.named_equations.specs.Existence.{all_variables, exists}
use Rattle.named_equations.specs.Indices.{at_rfy, at_rty}
use Rattle.named_equations.specs.Instances.{instances, is_instance, name_at}
use Rattle.named_equations.specs.Plans.{Feasible, Meets, MeetsEach, meets, says}
use Rattle.named_equations.proofs.InstanceTests.{Has-variables}
use Rattle.plan_quantities.specs.DataPrices.{AreWith, IsConstantPromised}
use Rattle.plan_quantities.specs.Prices.{CostsAtLeast}
use Rattle.plan_quantities.proofs.PriceExamples.{keeps_sign, making, one_technology, sign_of}
use Rattle.plan_quantities.proofs.WholeTests.{all_at}

-- ---- data with one more value

-- the example with a value given first, in whole units
abbrev one_with : ℕ → List (List ℕ) → ℤ → Data
one_with param index units = record {
  sets = one_technology.sets;
  given = record { param = param; index = index; value = units *ℤ pos (10 ^ 9) } ∷ [];
  defaults = one_technology.defaults;
  second = false;
}

-- a value that isn't given is that of the default
module _ (p : ℕ) (index : List (List ℕ)) (units : ℤ) (same-place : (is : List ℕ) → AreWithin one_technology.sets (subscript_sets p) is → is ≡ 0 ∷ 0 ∷ 0 ∷ []) where
  abbrev more : Data
  more = one_with p index units

  other-value : (other : ℕ) (is : List ℕ) → AreWithin one_technology.sets (subscript_sets other) is → ¬ ((other ≡ p) × (is ≡ 0 ∷ 0 ∷ 0 ∷ [])) → value_within one_technology other is ≡ value_within more other is
  other-value other is within differs = by_test (is_given_at other (names_within one_technology.sets (subscript_sets other) is) (record { param = p; index = index; value = units *ℤ pos (10 ^ 9) })) refl
    where
      names : List (List ℕ)
      names = names_within one_technology.sets (subscript_sets other) is

      default : Option ℤ
      default = option_or (default_of one_technology other) (value_of_none other)

      by_test : (b : Bool) → is_given_at other names (record { param = p; index = index; value = units *ℤ pos (10 ^ 9) }) ≡ b
          → unwrap_or default (pos 0) ≡ unwrap_or (option_or (option_map (λ (g : Given). g.value) (if b then Some (record { param = p; index = index; value = units *ℤ pos (10 ^ 9) }) else None)) default) (pos 0)
      by_test false is_test = refl
      by_test true is_test =
          let same : other ≡ p = sym (eqb-true p other (and_parts (nat_eq p other) _ is_test).0) in
          absurd (differs (same, same-place is (subst (λ n. AreWithin one_technology.sets (subscript_sets n) is) same within)))

-- every set has one member
place-of : (i : ℕ) → i < 1 → i ≡ 0
place-of i h = omega (arith, h)

technology-place : (is : List ℕ) → AreWithin one_technology.sets (region ∷ technology ∷ year ∷ []) is → is ≡ 0 ∷ 0 ∷ 0 ∷ []
technology-place [] h = absurd h
technology-place (r ∷ []) h = absurd h.1
technology-place (r ∷ t ∷ []) h = absurd h.1.1
technology-place (r ∷ t ∷ y ∷ []) h = ap₂ (λ a rest. a ∷ rest) (place-of r h.0) (ap₂ (λ a b. a ∷ b ∷ []) (place-of t h.1.0) (place-of y h.1.1.0))
technology-place (r ∷ t ∷ y ∷ z ∷ is) h = absurd h.1.1.1

fuel-place : (is : List ℕ) → AreWithin one_technology.sets (region ∷ fuel ∷ year ∷ []) is → is ≡ 0 ∷ 0 ∷ 0 ∷ []
fuel-place [] h = absurd h
fuel-place (r ∷ []) h = absurd h.1
fuel-place (r ∷ t ∷ []) h = absurd h.1.1
fuel-place (r ∷ t ∷ y ∷ []) h = ap₂ (λ a rest. a ∷ rest) (place-of r h.0) (ap₂ (λ a b. a ∷ b ∷ []) (place-of t h.1.0) (place-of y h.1.1.0))
fuel-place (r ∷ t ∷ y ∷ z ∷ is) h = absurd h.1.1.1

-- ---- feasible plans, by tests

each_met : (d : Data) (x : Var → ℤ) (names : List RowName) → list_all (meets 6 d 1 x) names ≡ true → MeetsEach 6 d 1 x names
each_met d x [] passes = tt
each_met d x (name ∷ names) passes =
    let parts = and_parts (meets 6 d 1 x name) (list_all (meets 6 d 1 x) names) passes in
    (holds_sound (says 6 d 1 x name) parts.0, each_met d x names parts.1)

feasible-by : (d : Data) (x : Var → ℤ) → list_all (meets 6 d 1 x) (instances d) ≡ true → list_all (keeps_sign x) (all_variables d) ≡ true → Feasible 6 d 1 x
feasible-by d x passes signs = record {
  positive = omega arith;
  equations = each_met d x (instances d) passes;
  signs = λ v is fixed. sign_of (kind_is_free v.kind) (x v) (all_at (keeps_sign x) (all_variables d) v signs ((Has-variables d v).1 is)) fixed;
}

-- ---- an annual demand

abbrev balance_of_year : RowName
balance_of_year = name_at EBB4 (at_rfy 0 0 0)

-- eleven units a year, of which ten in the timeslice
abbrev with_eleven : Data
with_eleven = one_with ACCUMULATED_ANNUAL_DEMAND (codes "R" ∷ codes "F" ∷ codes "2020" ∷ []) (pos 11)

are-with-eleven : AreWith one_technology with_eleven ACCUMULATED_ANNUAL_DEMAND (0 ∷ 0 ∷ 0 ∷ []) (pos 11 *ℤ pos (10 ^ 9))
are-with-eleven = record {
  sets = refl;
  second = refl;
  here = refl;
  others = λ other used is within differs. other-value ACCUMULATED_ANNUAL_DEMAND (codes "R" ∷ codes "F" ∷ codes "2020" ∷ []) (pos 11) fuel-place other is within differs;
}

eleven_met : list_all (meets 6 with_eleven 1 (making 11)) (instances with_eleven) ≡ true
unfolding discounted capital_factor root_from half_year_root operating_factor salvage_fraction
eleven_met = refl

-- ten aren't enough
ten_short : list_all (meets 6 with_eleven 1 (making 10)) (instances with_eleven) ≡ false
unfolding discounted capital_factor root_from half_year_root operating_factor salvage_fraction
ten_short = refl

eleven_feasible : Feasible 6 with_eleven 1 (making 11)
eleven_feasible = feasible-by with_eleven (making 11) eleven_met refl

-- eleven cost 88: a bound of 80 and a price of 1 for each of the 11 would promise 91
too_dear : ¬ (CostsAtLeast one_technology 1 (making 11) (whole (pos 80)) (whole (pos 1)) (pos 11 *ℤ pos (10 ^ 9) -ℤ pos 0) (10 ^ 9))
too_dear h = absurd (omega (arith, ints, h))

one_isnt_promised : ¬ (IsConstantPromised 6 one_technology balance_of_year (whole (pos 80)) (whole (pos 1)))
one_isnt_promised promise = too_dear (promise.costs ACCUMULATED_ANNUAL_DEMAND with_eleven (pos 11 *ℤ pos (10 ^ 9)) 1 (making 11) refl are-with-eleven refl eleven_feasible)

-- ---- a limit that is taken away

abbrev limit_of_ten : Data
limit_of_ten = one_with TOTAL_ANNUAL_MAX_CAPACITY (codes "R" ∷ codes "T" ∷ codes "2020" ∷ []) (pos 10)

abbrev capacity_limit : RowName
capacity_limit = name_at TCC1 (at_rty 0 0 0)

-- the example has -1 there, and nothing else is different
are-without : AreWith limit_of_ten one_technology TOTAL_ANNUAL_MAX_CAPACITY (0 ∷ 0 ∷ 0 ∷ []) (neg_ℤ (pos (10 ^ 9)))
are-without = record {
  sets = refl;
  second = refl;
  here = refl;
  others = λ other used is within differs. sym (other-value TOTAL_ANNUAL_MAX_CAPACITY (codes "R" ∷ codes "T" ∷ codes "2020" ∷ []) (pos 10) technology-place other is within differs);
}

-- the equation stands with a limit of ten, and doesn't with -1
stands : is_instance limit_of_ten capacity_limit ≡ true
stands = refl

no_longer : is_instance one_technology capacity_limit ≡ false
no_longer = refl

ten_met : list_all (meets 6 one_technology 1 (making 10)) (instances one_technology) ≡ true
unfolding discounted capital_factor root_from half_year_root operating_factor salvage_fraction
ten_met = refl

ten_feasible : Feasible 6 one_technology 1 (making 10)
ten_feasible = feasible-by one_technology (making 10) ten_met refl

-- With a price of 11 at the balance and -3 at the limit the bound is 80 too. Eleven less than ten is no limit: the promise of 113 would be wrong, since ten units cost 80.
abbrev PromisedAlways : Rational → Rational → Type 0
PromisedAlways bound price =
    (p : ℕ) (e : Data) (x : ℤ) (q : ℕ) (plan : Var → ℤ) → param_alone capacity_limit.eq ≡ Some p → AreWith limit_of_ten e p (positions_of capacity_limit.index p) x → Feasible 6 e q plan
    → CostsAtLeast limit_of_ten q plan bound price (x -ℤ value_within limit_of_ten p (positions_of capacity_limit.index p)) (10 ^ 9)

below_promise : ¬ (CostsAtLeast limit_of_ten 1 (making 10) (whole (pos 80)) (whole (negsuc 2)) (neg_ℤ (pos (10 ^ 9)) -ℤ pos 10 *ℤ pos (10 ^ 9)) (10 ^ 9))
below_promise h = absurd (omega (arith, ints, h))

isnt_promised_always : ¬ (PromisedAlways (whole (pos 80)) (whole (negsuc 2)))
isnt_promised_always promise = below_promise (promise TOTAL_ANNUAL_MAX_CAPACITY one_technology (neg_ℤ (pos (10 ^ 9))) 1 (making 10) refl are-without ten_feasible)

-- ---- which number an equation reads alone

own_numbers : (param_alone EBB4 ≡ Some ACCUMULATED_ANNUAL_DEMAND) × (param_alone TCC1 ≡ Some TOTAL_ANNUAL_MAX_CAPACITY)
own_numbers = (refl, refl)

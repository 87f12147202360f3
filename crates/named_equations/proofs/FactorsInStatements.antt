-- Both sides of each equation with written factors at nine decimal places, and of CC1 under profile 2 at both scales, over the sets and at the index of
-- `BothSides`. The figures were worked out by a program of another kind, from the published statements.
use Rattle.named_equations.proofs.Common.{◌≡◌, ℕ, ◌*◌, ◌^◌, pos, Bool, true, false, List, [], ◌∷◌, map, refl, codes, if◌then◌else◌, nat_eq, annuity, capital_factor, discounted, half_year_root, operating_factor, recovery_factor, root_from, salvage_fraction, DISCOUNT_RATE_IDV, OPERATIONAL_LIFE, Data, Given, CC1, CC2, E5, OC4, SV1, SV2, SV4, NEW_CAPACITY, Statement, name_at, ◌equals◌, meets, says}
use Rattle.named_equations.proofs.BaseFile.{default, given}
use Rattle.named_equations.proofs.BothSides.{hundredths, spelled, there, uneven, uneven_defaults}

-- ---- nine decimal places

at_nine_places : map (λ eq. says 9 uneven 7 spelled (name_at eq there)) (CC1 ∷ CC2 ∷ SV1 ∷ SV2 ∷ SV4 ∷ OC4 ∷ E5 ∷ []) ≡
    -- CC1, which has no written factor under profile 1
    (pos 2310030001000000000 equals pos 241534501150000000)
    -- CC2
    ∷ (pos 2410030001000000000 equals pos 2095265305971369478)
    -- SV1
    ∷ (pos 2510030001000000000000000000 equals pos 84470035569429808300000000)
    -- SV2
    ∷ (pos 2510030001000000000000000000 equals pos 80511500302821832950000000)
    -- SV4
    ∷ (pos 2610030001000000000 equals pos 2065007891636922474)
    -- OC4
    ∷ (pos 3010030001000000000 equals pos 2575871645929190134)
    -- E5
    ∷ (pos 3510030001000000000 equals pos 3018456712929190134)
    ∷ []
unfolding discounted capital_factor root_from half_year_root operating_factor salvage_fraction
at_nine_places = refl

-- ---- profile 2

-- T3 of B lives for three years, and the others for seven; its own rate is 0.12, and theirs 0.08
abbrev lives_and_rates : List Given
lives_and_rates =
    given OPERATIONAL_LIFE (codes "B" ∷ codes "T3" ∷ []) (hundredths 300)
    ∷ given DISCOUNT_RATE_IDV (codes "B" ∷ codes "T3" ∷ []) (hundredths 12)
    ∷ []

-- the same data under this profile, with these lives and rates
abbrev lived : Bool → Data
lived second = record {
  sets = uneven.sets;
  given = lives_and_rates;
  defaults = default OPERATIONAL_LIFE (hundredths 700) ∷ default DISCOUNT_RATE_IDV (hundredths 8) ∷ uneven_defaults;
  second = second;
}

-- what CC1 says of the plan that spells its variables
abbrev cc1_said : Bool → ℕ → Statement
cc1_said second places = says places (lived second) 7 spelled (name_at CC1 there)

-- the investment is spread by a recovery factor of 0.371740161 and an annuity of 2.859410430, as many of their places as there are
recovered_at_six_places : cc1_said true 6 ≡ (pos 2310030001000000000000000000000 equals pos 256740806467532934410000000000)
unfolding annuity discounted recovery_factor
recovered_at_six_places = refl

recovered_at_nine_places : cc1_said true 9 ≡ (pos 2310030001000000000000000000000000000 equals pos 256740956270437939833706114500000000)
unfolding annuity discounted recovery_factor
recovered_at_nine_places = refl

-- under profile 1 it is paid at once, at any scale
paid_at_six_places : cc1_said false 6 ≡ (pos 2310030001000000000 equals pos 241534501150000000)
paid_at_six_places = refl

paid_at_nine_places : cc1_said false 9 ≡ (pos 2310030001000000000 equals pos 241534501150000000)
paid_at_nine_places = refl

-- whether CC1 is met by a new capacity of 10^14 at this investment
abbrev spread_by : ℕ → ℕ → Bool
spread_by places investment = meets places (lived true) 1 (λ v. if nat_eq v.kind NEW_CAPACITY then pos (10 ^ 14) else pos investment) (name_at CC1 there)

by_its_own_life : spread_by 6 (115 * 371740 * 2859410) ≡ true
unfolding annuity discounted recovery_factor
by_its_own_life = refl

-- by the life of another technology: the recovery factor alone, and both
by_another_life : spread_by 6 (115 * 195640 * 2859410) ≡ false
unfolding annuity discounted recovery_factor
by_another_life = refl

by_another_life_twice : spread_by 6 (115 * 195640 * 6075692) ≡ false
unfolding annuity discounted recovery_factor
by_another_life_twice = refl

-- by the rate of another technology
by_another_rate : spread_by 6 (115 * 359290 * 2859410) ≡ false
unfolding annuity discounted recovery_factor
by_another_rate = refl

-- at nine places, with the factors of six
by_the_other_scale : spread_by 9 (115 * 371740 * 2859410) ≡ false
unfolding annuity discounted recovery_factor
by_the_other_scale = refl

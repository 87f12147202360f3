-- Both sides of each of the 64 equations at one index, over sets of seven sizes, so that a sum over another set, a lost factor or term, and a right side
-- without the common denominator would show. The figures were worked out by a program of another kind, in exact fractions, from the published statements.
use Rattle.named_equations.proofs.Common.{◌≡◌, ℕ, ◌+◌, ◌*◌, ◌^◌, ℤ, pos, negsuc, false, List, [], ◌∷◌, map, refl, codes, range_with_len, DEPRECIATION_METHOD, DISCOUNT_RATE, EMISSION_ACTIVITY_RATIO, INPUT_ACTIVITY_RATIO, OPERATIONAL_LIFE, OUTPUT_ACTIVITY_RATIO, USED_PARAM_COUNT, Data, Default, Given, SetLists, Index, Var, Statement, discounted, capital_factor, root_from, half_year_root, operating_factor, salvage_fraction, index, name_at, ◌equals◌, ◌at_most◌, ◌at_least◌, says}
use Rattle.named_equations.proofs.BaseFile.{default, given, sets_of}

-- ---- data

-- two regions, six technologies, seven fuels, one emission, five modes, four timeslices and three years
abbrev uneven_sets : SetLists
uneven_sets = sets_of
    (codes "A" ∷ codes "B" ∷ [])
    (codes "T0" ∷ codes "T1" ∷ codes "T2" ∷ codes "T3" ∷ codes "T4" ∷ codes "T5" ∷ [])
    (codes "F0" ∷ codes "F1" ∷ codes "F2" ∷ codes "F3" ∷ codes "F4" ∷ codes "F5" ∷ codes "F6" ∷ [])
    (codes "E0" ∷ [])
    (codes "M0" ∷ codes "M1" ∷ codes "M2" ∷ codes "M3" ∷ codes "M4" ∷ [])
    (codes "L0" ∷ codes "L1" ∷ codes "L2" ∷ codes "L3" ∷ [])
    (codes "2020" ∷ codes "2022" ∷ codes "2023" ∷ [])

-- a value in hundredths
abbrev pub hundredths : ℕ → ℤ
hundredths n = pos (n * 10 ^ 7)

-- what a technology of B makes of a fuel in a mode in 2022, or uses of it
abbrev makes : List ℕ → List ℕ → List ℕ → ℕ → Given
makes t f m n = given OUTPUT_ACTIVITY_RATIO (codes "B" ∷ t ∷ f ∷ m ∷ codes "2022" ∷ []) (hundredths n)

abbrev takes : List ℕ → List ℕ → List ℕ → ℕ → Given
takes t f m n = given INPUT_ACTIVITY_RATIO (codes "B" ∷ t ∷ f ∷ m ∷ codes "2022" ∷ []) (hundredths n)

-- what T3 gives off in a mode
abbrev emits : List ℕ → ℤ → Given
emits m value = given EMISSION_ACTIVITY_RATIO (codes "B" ∷ codes "T3" ∷ codes "E0" ∷ m ∷ codes "2022" ∷ []) value

-- three technologies make F4, T3 in two modes of five, and it makes two other fuels
abbrev pub ratios : List Given
ratios =
    makes (codes "T0") (codes "F4") (codes "M1") 50
    ∷ makes (codes "T3") (codes "F4") (codes "M2") 70
    ∷ makes (codes "T3") (codes "F4") (codes "M4") 90
    ∷ makes (codes "T5") (codes "F4") (codes "M0") 110
    ∷ makes (codes "T3") (codes "F0") (codes "M3") 30
    ∷ makes (codes "T3") (codes "F6") (codes "M2") 20
    ∷ makes (codes "T1") (codes "F2") (codes "M0") 60
    ∷ takes (codes "T2") (codes "F4") (codes "M2") 40
    ∷ takes (codes "T2") (codes "F4") (codes "M3") 80
    ∷ takes (codes "T3") (codes "F4") (codes "M2") 35
    ∷ takes (codes "T3") (codes "F4") (codes "M1") 45
    ∷ takes (codes "T4") (codes "F1") (codes "M0") 55
    ∷ emits (codes "M2") (negsuc 249999999)
    ∷ emits (codes "M0") (pos 150000000)
    ∷ emits (codes "M4") (pos 650000000)
    ∷ []

-- the default of a parameter: a ratio of 0, a rate of 5 hundredths, the sinking fund, a life of three years, and for every other parameter 100 hundredths and its number
abbrev pub uneven_defaults : List Default
uneven_defaults =
    default INPUT_ACTIVITY_RATIO (pos 0) ∷ default OUTPUT_ACTIVITY_RATIO (pos 0) ∷ default EMISSION_ACTIVITY_RATIO (pos 0)
    ∷ default DISCOUNT_RATE (hundredths 5) ∷ default DEPRECIATION_METHOD (hundredths 100) ∷ default OPERATIONAL_LIFE (hundredths 300)
    ∷ map (λ param. default param (hundredths (100 + param))) (range_with_len 1 USED_PARAM_COUNT)

abbrev pub uneven : Data
uneven = record { sets = uneven_sets; given = ratios; defaults = uneven_defaults; second = false }

-- ---- plan

-- each variable has a number that spells it: its kind, and then a digit for each subscript
abbrev pub spelled : Var → ℤ
spelled v =
    let i = v.index in
    pos (v.kind * 10 ^ 8 + i.region * 10 ^ 7 + i.other * 10 ^ 6 + i.slice * 10 ^ 5 + i.tech * 10 ^ 4 + i.fuel * 10 ^ 3 + i.emission * 10 ^ 2 + i.mode * 10 + i.year)

-- ---- equations

-- the second region with the first as the other one, the third timeslice, the fourth technology, the fifth fuel, the third mode, and 2022
abbrev pub there : Index
there = index 1 0 2 3 4 0 2 1

-- what the equations of these numbers say of the plan over 7 at that index
abbrev said : List ℕ → List Statement
said numbers = map (λ eq. says 6 uneven 7 spelled (name_at eq there)) numbers

equations_1_to_9 : said (range_with_len 1 9) ≡
    -- EQ_SpecifiedDemand
    (pos 414306041010000000000000000 equals pos 7791000000000000000)
    -- CAa1
    ∷ (pos 510030001 equals pos 420060001)
    -- CAa2
    ∷ (pos 610030001000000000 equals pos 510030008840000000)
    -- CAa3
    ∷ (pos 710230001 equals pos 551150105)
    -- CAa4
    ∷ (pos 710230001000000000000000000 at_most pos 718127317177200000000000000)
    -- CAb1
    ∷ (pos 2869127204040000000000000000000000000000000000 at_most pos 3191357797535476800000000000000000000000000000)
    -- EBa1
    ∷ (pos 810234021000000000 equals pos 77161014700000000)
    -- EBa2
    ∷ (pos 910234001 equals pos 1620468062)
    -- EBa3
    ∷ (pos 1010204001 equals pos 2730692003)
    ∷ []
equations_1_to_9 = refl

equations_10_to_17 : said (range_with_len 10 8) ≡
    -- EBa4
    (pos 1110234021000000000 equals pos 38580507350000000)
    -- EBa5
    ∷ (pos 1210234001 equals pos 2220468032)
    -- EBa6
    ∷ (pos 1310204001 equals pos 2420458002)
    -- EBa7
    ∷ (pos 1410204001000000000 equals pos 1020306041010000000)
    -- EBa8
    ∷ (pos 1510204001000000000 equals pos 1323306041010000000)
    -- EBa9
    ∷ (pos 1610204001000000000 equals pos 414306041010000000)
    -- EBa10
    ∷ (pos 611408002 equals pos 0)
    -- EBa11
    ∷ (pos 1410204001000000000 at_least pos 3766672324080000000)
    ∷ []
equations_10_to_17 = refl

equations_18_to_25 : said (range_with_len 18 8) ≡
    -- EBb1
    (pos 1710004001 equals pos 5640616004)
    -- EBb2
    ∷ (pos 1810004001 equals pos 6040616004)
    -- EBb3
    ∷ (pos 1910004001 equals pos 1240616004)
    -- EBb4
    ∷ (pos 1710004001000000000 at_least pos 5783852330570000000)
    -- Acc1
    ∷ (pos 2010234001000000000 equals pos 919336341010000000)
    -- Acc2
    ∷ (pos 2110234001000000000 equals pos 1222336341010000000)
    -- Acc3
    ∷ (pos 2210030021000000000 equals pos 445127284840000000)
    -- CC1
    ∷ (pos 2310030001000000000 equals pos 241534501150000000)
    ∷ []
equations_18_to_25 = refl

equations_26_to_33 : said (range_with_len 26 8) ≡
    -- CC2
    (pos 2410030001000000 equals pos 2095264201777029)
    -- SV1
    ∷ (pos 2510030001000000000000000 equals pos 84469928811180300000000)
    -- SV2
    ∷ (pos 2510030001000000000000000 equals pos 80511419871832950000000)
    -- SV3
    ∷ (pos 2510030001 equals pos 0)
    -- SV4
    ∷ (pos 2610030001000000 equals pos 2065006701882702)
    -- OC1
    ∷ (pos 2710030001000000000 equals pos 12818174121800000000)
    -- OC2
    ∷ (pos 2810030001000000000 equals pos 713735101170000000)
    -- OC3
    ∷ (pos 2910030001 equals pos 5520060002)
    ∷ []
unfolding discounted capital_factor root_from half_year_root operating_factor salvage_fraction
equations_26_to_33 = refl

equations_34_to_41 : said (range_with_len 34 8) ≡
    -- OC4
    (pos 3010030001000000 equals pos 2575871255985170)
    -- E1
    ∷ (pos 3110030021000000000 equals negsuc 552507505249999999)
    -- E2
    ∷ (pos 3210030001 equals pos 9330090063)
    -- E3
    ∷ (pos 3310030001000000000 equals pos 4301440201340000000)
    -- E4
    ∷ (pos 3410030001 equals pos 3310030001)
    -- E5
    ∷ (pos 3510030001000000 equals pos 3018456255985170)
    -- TDC1
    ∷ (pos 3610030001 equals pos 6320060002)
    -- TDC2
    ∷ (pos 3710000001 equals pos 21660150006)
    ∷ []
unfolding discounted capital_factor root_from half_year_root operating_factor salvage_fraction
equations_34_to_41 = refl

equations_42_to_52 : said (range_with_len 42 11) ≡
    -- Acc4
    (pos 3810000000 equals pos 11130000003)
    -- TCC1
    ∷ (pos 610030001000000000 at_most pos 8330000000)
    -- TCC2
    ∷ (pos 610030001000000000 at_least pos 8400000000)
    -- NCC1
    ∷ (pos 210030001000000000 at_most pos 8470000000)
    -- NCC2
    ∷ (pos 210030001000000000 at_least pos 8540000000)
    -- AAC1
    ∷ (pos 3910030001000000000 equals pos 2869127204040000000)
    -- AAC2
    ∷ (pos 3910030001000000000 at_most pos 8610000000)
    -- AAC3
    ∷ (pos 3910030001000000000 at_least pos 8680000000)
    -- TAC1
    ∷ (pos 4010030000 equals pos 11730090003)
    -- TAC2
    ∷ (pos 4010030000000000000 at_most pos 8750000000)
    -- TAC3
    ∷ (pos 4010030000000000000 at_least pos 8820000000)
    ∷ []
equations_42_to_52 = refl

equations_53_to_60 : said (range_with_len 53 8) ≡
    -- RM1
    (pos 4110000001000000000000000000 equals pos 5020261748229600000000000000)
    -- RM2
    ∷ (pos 4210200001000000000 equals pos 9051418888960000000)
    -- RM3
    ∷ (pos 5431158001290000000 at_most pos 4110000001000000000)
    -- RE1
    ∷ (pos 4310034001 equals pos 8040736004)
    -- RE2
    ∷ (pos 4410000001000000000 equals pos 33618221007800000000)
    -- RE3
    ∷ (pos 4510000001000000000000000000 equals pos 37422936197446800000000000000)
    -- RE4
    ∷ (pos 5953200001320000000 at_most pos 4410000001000000000)
    -- RE5
    ∷ (pos 4610034001 equals pos 8440736004)
    ∷ []
equations_53_to_60 = refl

equations_61_to_64 : said (range_with_len 61 4) ≡
    -- E6
    (pos 4710000001 equals pos 19260150006)
    -- E7
    ∷ (pos 4810000000000000000 equals pos 14130000012590000000)
    -- E8
    ∷ (pos 4710000001000000000 at_most pos 70000000)
    -- E9
    ∷ (pos 4810000000000000000 at_most pos 9660000000)
    ∷ []
equations_61_to_64 = refl

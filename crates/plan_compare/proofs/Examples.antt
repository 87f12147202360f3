-- The definitions, computed on small examples, and on near misses.
use Rattle.plan_compare.proofs.Common.{◌≡◌, ℕ, pos, negsuc, List, [], ◌∷◌, None, Some, true, false, refl, codes, escaped, fields_text, is_blank, in_range, lowest, Rational, order_of, pair, whole, SetLists, Var, millionths, millionths_text, difference, changes, value_there, kind_text, members_text, section_text, counterpart, greatest_first, at_least, at_most, head_text, Side, sum_of, sums}
use Rattle.std.specs.Fmt.{digits}
use Rattle.exact_num.specs.Gcd.{gcd_of, gcd_within}
use Rattle.row_core.specs.declared.kind_numbers.TheConstants as k
use Rattle.value_millionths.specs.Shown.{shown}

-- ---- numbers

halves : shown (pair (pos 21) (pos 2)) ≡ Some (pos 10500000)
unfolding millionths
halves = refl

-- a value of 2^127 millionths has none
too_great : shown (pair (pos 170141183460469231731687303715884105728) (pos 1000000)) ≡ None
unfolding millionths
too_great = refl

greatest : shown (pair (pos 170141183460469231731687303715884105727) (pos 1000000)) ≡ Some (pos 170141183460469231731687303715884105727)
unfolding millionths
greatest = refl

-- the second less the first, and none where a number isn't there or the difference doesn't fit
less : difference (Some (pos 5)) (Some (pos 3)) ≡ Some (negsuc 1)
unfolding in_range
less = refl

of_none : difference None (Some (pos 3)) ≡ None
of_none = refl

out_of_range : difference (Some (negsuc 0)) (Some (pos 170141183460469231731687303715884105727)) ≡ None
unfolding in_range
out_of_range = refl

-- ---- the greatest first

-- those of one size in their order
ordered : greatest_first (λ (e : ℕ × ℕ). e.0) ((1, 0) ∷ (3, 1) ∷ (2, 2) ∷ (3, 3) ∷ (1, 4) ∷ []) ≡ (3, 1) ∷ (3, 3) ∷ (2, 2) ∷ (1, 0) ∷ (1, 4) ∷ []
ordered = refl

-- ---- two models: the second has a technology for another, its years stand the other way round, and so do its technologies

abbrev sets_of : List (List ℕ) → List (List ℕ) → SetLists
sets_of technologies years =
    (codes "R" ∷ []) ∷ technologies ∷ (codes "F" ∷ []) ∷ (codes "E" ∷ []) ∷ (codes "1" ∷ []) ∷ (codes "D" ∷ []) ∷ years ∷ [] ∷ [] ∷ [] ∷ [] ∷ []

abbrev sets : SetLists
sets = sets_of (codes "GAS" ∷ codes "SUN" ∷ codes "OLD, OIL" ∷ []) (codes "2020" ∷ codes "2030" ∷ [])

abbrev others : SetLists
others = sets_of (codes "WIND" ∷ codes "SUN" ∷ codes "GAS" ∷ []) (codes "2030" ∷ codes "2020" ∷ [])

abbrev of_kind : ℕ → ℕ → ℕ → Var
of_kind kind tech year = record { kind = kind; index = record { region = 0; other = 0; slice = 0; tech = tech; fuel = 0; emission = 0; mode = 0; year = year } }

abbrev built : ℕ → ℕ → Var
built = of_kind k.NEW_CAPACITY

abbrev first : Side
first = record {
  sets = sets;
  plan = (built 0 0, whole (pos 1)) ∷ (built 0 1, whole (pos 2)) ∷ (built 1 0, whole (pos 0)) ∷ (built 1 1, pair (pos 3) (pos 2)) ∷ (built 2 1, pair (pos 1) (pos 4))
      ∷ (of_kind k.TOTAL_CAPACITY_ANNUAL 0 0, whole (pos 1)) ∷ [];
}

abbrev second : Side
second = record {
  sets = others;
  plan = (built 0 0, pair (pos 5) (pos 4)) ∷ (built 1 0, pair (pos 3) (pos 2)) ∷ (built 2 0, whole (pos 1)) ∷ (built 2 1, whole (pos 2))
      ∷ (of_kind k.TOTAL_CAPACITY_ANNUAL 2 1, whole (pos 1)) ∷ [];
}

-- ---- the same variable there

same_gas : counterpart true k.NEW_CAPACITY sets others (built 0 1) ≡ Some (built 2 0)
same_gas = refl

-- over the years there is no year
any_gas : counterpart false k.NEW_CAPACITY sets others (built 0 1) ≡ Some (built 2 0)
any_gas = refl

any_sun : counterpart false k.NEW_CAPACITY sets others (built 1 1) ≡ Some (built 1 0)
any_sun = refl

no_oil : counterpart true k.NEW_CAPACITY sets others (built 2 1) ≡ None
no_oil = refl

-- positions don't decide: what stands at the position of gas there is wind
by_names : value_there k.NEW_CAPACITY first second (built 0 0) ≡ whole (pos 2)
by_names = refl

oil_there : value_there k.NEW_CAPACITY first second (built 2 1) ≡ whole (pos 0)
oil_there = refl

-- ---- tables

-- of one size those of the first plan are in its order, and those that the second alone has come after them
capacities : kind_text first second k.NEW_CAPACITY
    ≡ codes "table NewCapacity changed 4 same 1\nR,WIND,2030,0.000000,1.250000,1.250000\nR,GAS,2020,1.000000,2.000000,1.000000\nR,GAS,2030,2.000000,1.000000,-1.000000\nR,\"OLD, OIL\",2030,0.250000,0.000000,-0.250000\nsums NewCapacity changed 2 same 2\nR,WIND,0.000000,1.250000,1.250000\nR,\"OLD, OIL\",0.250000,0.000000,-0.250000\n"
unfolding escaped fields_text is_blank millionths millionths_text digits in_range
capacities = refl

-- the other way round the differences change their signs, and those of one size follow the other plan
turned : kind_text second first k.NEW_CAPACITY
    ≡ codes "table NewCapacity changed 4 same 1\nR,WIND,2030,1.250000,0.000000,-1.250000\nR,GAS,2030,1.000000,2.000000,1.000000\nR,GAS,2020,2.000000,1.000000,-1.000000\nR,\"OLD, OIL\",2030,0.000000,0.250000,0.250000\nsums NewCapacity changed 2 same 2\nR,WIND,1.250000,0.000000,-1.250000\nR,\"OLD, OIL\",0.000000,0.250000,0.250000\n"
unfolding escaped fields_text is_blank millionths millionths_text digits in_range
turned = refl

-- capacities that stand aren't added up
standing : kind_text first second k.TOTAL_CAPACITY_ANNUAL ≡ codes "table TotalCapacityAnnual changed 0 same 1\n"
unfolding escaped fields_text is_blank millionths millionths_text digits in_range
standing = refl

-- a kind of which neither plan has a value
nothing : kind_text first second k.TRADE_ANNUAL ≡ codes "table TradeAnnual changed 0 same 0\nsums TradeAnnual changed 0 same 0\n"
unfolding escaped fields_text is_blank millionths millionths_text digits in_range
nothing = refl

-- a plan beside itself
itself : kind_text first first k.NEW_CAPACITY ≡ codes "table NewCapacity changed 0 same 4\nsums NewCapacity changed 0 same 3\n"
unfolding escaped fields_text is_blank millionths millionths_text digits in_range
itself = refl

-- values that differ by less than their decimals show differ
abbrev third : Rational → Side
third value = record { sets = sets; plan = (built 0 0, value) ∷ [] }

hardly : section_text true k.NEW_CAPACITY (third (pair (pos 1) (pos 3))) (third (pair (pos 333333) (pos 1000000))) (changes k.NEW_CAPACITY (third (pair (pos 1) (pos 3))) (third (pair (pos 333333) (pos 1000000))))
    ≡ codes "table NewCapacity changed 1 same 0\nR,GAS,2020,0.333333,0.333333,0.000000\n"
unfolding escaped fields_text is_blank millionths millionths_text digits in_range
hardly = refl

-- a value whose millionths leave 128 bits has an empty field, and so has the difference, which comes first
abbrev vast : Side
vast = record { sets = sets; plan = (built 0 0, whole (pos 1)) ∷ (built 1 1, whole (pos 170141183460469231731687303715884105727)) ∷ [] }

empty_fields : section_text true k.NEW_CAPACITY vast first (changes k.NEW_CAPACITY vast first)
    ≡ codes "table NewCapacity changed 3 same 1\nR,SUN,2030,,1.500000,\nR,GAS,2030,0.000000,2.000000,2.000000\nR,\"OLD, OIL\",2030,0.000000,0.250000,0.250000\n"
unfolding escaped fields_text is_blank millionths millionths_text digits in_range
empty_fields = refl

-- ---- sums

all_gas : sum_of first (built 0 1) ≡ Some (pos 3000000)
unfolding millionths in_range
all_gas = refl

-- a third in each year beside two in the first: the sums are equal, and the rounded sums aren't
abbrev thirds : Side
thirds = record { sets = sets; plan = (built 0 0, pair (pos 1) (pos 3)) ∷ (built 0 1, pair (pos 1) (pos 3)) ∷ [] }

otherwise_split : section_text false k.NEW_CAPACITY thirds (third (pair (pos 2) (pos 3))) (sums k.NEW_CAPACITY thirds (third (pair (pos 2) (pos 3))))
    ≡ codes "sums NewCapacity changed 1 same 0\nR,GAS,0.666666,0.666667,0.000001\n"
unfolding escaped fields_text is_blank millionths millionths_text digits in_range
otherwise_split = refl

-- sums that differ by less than their decimals show are the same
hardly_more : section_text false k.NEW_CAPACITY (third (pair (pos 1) (pos 3))) (third (pair (pos 333333) (pos 1000000))) (sums k.NEW_CAPACITY (third (pair (pos 1) (pos 3))) (third (pair (pos 333333) (pos 1000000))))
    ≡ codes "sums NewCapacity changed 0 same 1\n"
unfolding escaped fields_text is_blank millionths millionths_text digits in_range
hardly_more = refl

-- sums that leave 128 bits are the same where each year's values are, and differ else
same_vast : section_text false k.NEW_CAPACITY vast vast (sums k.NEW_CAPACITY vast vast) ≡ codes "sums NewCapacity changed 0 same 2\n"
unfolding escaped fields_text is_blank millionths millionths_text digits in_range
same_vast = refl

abbrev vaster : Side
vaster = record { sets = sets; plan = (built 0 0, whole (pos 1)) ∷ (built 1 0, whole (pos 1)) ∷ (built 1 1, whole (pos 170141183460469231731687303715884105727)) ∷ [] }

other_vast : section_text false k.NEW_CAPACITY vast vaster (sums k.NEW_CAPACITY vast vaster) ≡ codes "sums NewCapacity changed 1 same 1\nR,SUN,,,\n"
unfolding escaped fields_text is_blank millionths millionths_text digits in_range
other_vast = refl

-- ---- members

only : members_text sets others ≡ codes "only first\nTECHNOLOGY,\"OLD, OIL\"\nonly second\nTECHNOLOGY,WIND\n"
unfolding escaped fields_text is_blank
only = refl

-- ---- the first lines

heads : head_text (pair (pos 41) (pos 4)) (pair (pos 41) (pos 4)) (pair (pos 15) (pos 2)) (pair (pos 29) (pos 4))
    ≡ codes "compared\nstatus least near\ncost 10.250000 7.500000 -2.750000\nbound 10.250000 7.250000\ndifference -3.000000 -2.750000\n"
unfolding millionths millionths_text digits gcd_of gcd_within in_range lowest order_of
heads = refl

-- a cost that leaves 128 bits
unknown : head_text (whole (pos 170141183460469231731687303715884105727)) (whole (pos 0)) (whole (pos 2)) (whole (pos 2))
    ≡ codes "compared\nstatus near least\ncost unknown 2.000000 unknown\nbound 0.000000 2.000000\ndifference unknown 2.000000\n"
unfolding millionths millionths_text digits gcd_of gcd_within in_range lowest order_of
unknown = refl

-- the difference of the rounded numbers would be wrong: 0.333333 less 1/3 is below 0, and 0.333333 less 0.333333 isn't
outward : at_least (pair (pos 1) (pos 3)) (pair (pos 333333) (pos 1000000)) ≡ Some (negsuc 0)
unfolding millionths gcd_of gcd_within in_range lowest order_of
outward = refl

-- what six decimal places hold isn't moved
not_moved : at_most (pair (pos 41) (pos 4)) (pair (pos 41) (pos 4)) ≡ Some (pos 0)
unfolding millionths gcd_of gcd_within in_range lowest order_of
not_moved = refl

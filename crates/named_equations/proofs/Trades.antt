-- Two regions that trade: which way a route goes, and which of two exchanges defines.
use Rattle.named_equations.proofs.Common.{◌≡◌, ◌+◌, ◌*◌, ℤ, pos, negsuc, true, List, [], ◌∷◌, map, refl, Data, Given, Default, discounted, capital_factor, root_from, half_year_root, operating_factor, salvage_fraction, Var, instances_of, name_at, variable_of, at_rrrlfy, cost, trade}
use Rattle.std.specs.Prelude.{Some, None, codes}
use Rattle.named_equations.proofs.BaseFile.{sets_of, data_of, default, given, whole}
use Rattle.named_equations.proofs.Tables.{tabled, meets_all, first_broken}

-- ---- data

-- the base example with the regions A and B in place of R
abbrev pub two_regions : List Given → List Default → Data
two_regions values defaults =
    data_of (sets_of (codes "A" ∷ codes "B" ∷ []) (codes "T" ∷ []) (codes "F" ∷ []) [] (codes "1" ∷ []) (codes "D" ∷ []) (codes "2020" ∷ [])) values defaults

-- routes both ways, a demand of 10 in B alone, and production in A alone
abbrev pub routes_both_ways : Data
routes_both_ways = two_regions
    (given 5 (codes "B" ∷ codes "F" ∷ codes "2020" ∷ []) (whole 10)
    ∷ given 14 (codes "B" ∷ codes "T" ∷ codes "F" ∷ codes "1" ∷ codes "2020" ∷ []) (whole 0) ∷ [])
    (default 4 (whole 1) ∷ default 5 (whole 0) ∷ [])

-- a route from A to B alone, and a demand of 10 in A alone
abbrev route_one_way : Data
route_one_way = two_regions
    (given 4 (codes "A" ∷ codes "B" ∷ codes "F" ∷ codes "2020" ∷ []) (whole 1)
    ∷ given 5 (codes "A" ∷ codes "F" ∷ codes "2020" ∷ []) (whole 10) ∷ [])
    (default 4 (whole 0) ∷ default 5 (whole 0) ∷ [])

-- ---- which exchange defines

exchanges : instances_of routes_both_ways 16 ≡ map (name_at 16) (at_rrrlfy 0 0 0 0 0 ∷ at_rrrlfy 0 1 0 0 0 ∷ at_rrrlfy 1 0 0 0 0 ∷ at_rrrlfy 1 1 0 0 0 ∷ [])
exchanges = refl

-- from A to B it defines the trade from B to A; from B to A it defines nothing; within a region it defines that region's trade with itself
exchanged : map variable_of (instances_of routes_both_ways 16) ≡ Some (trade 0 0 0 0 0) ∷ Some (trade 1 0 0 0 0) ∷ None ∷ Some (trade 1 1 0 0 0) ∷ []
exchanged = refl

-- ---- plans

-- A makes 10 and gives them to B; by kind, region and other region
abbrev pub both_ways : List (List ℤ)
both_ways =
    (pos 10 ∷ []) ∷ (pos 10 ∷ []) ∷ (pos 0 ∷ pos 10 ∷ negsuc 9 ∷ [])
    ∷ (pos 0 ∷ pos 0 ∷ pos 10 ∷ []) ∷ (pos 10 ∷ []) ∷ (pos 10 ∷ []) ∷ (pos 10 ∷ [])
    ∷ (pos 10 ∷ []) ∷ (pos 10 ∷ []) ∷ (pos 10 ∷ []) ∷ [] ∷ [] ∷ []
    ∷ (pos 10 ∷ []) ∷ [] ∷ (pos 0 ∷ pos 0 ∷ pos 10 ∷ []) ∷ (pos 10 ∷ []) ∷ [] ∷ (pos 0 ∷ pos 10 ∷ negsuc 9 ∷ [])
    ∷ (pos 10 ∷ []) ∷ [] ∷ (pos 10 ∷ [])
    ∷ (pos 50 ∷ []) ∷ (pos 50 ∷ []) ∷ [] ∷ []
    ∷ (pos 20 ∷ []) ∷ (pos 10 ∷ []) ∷ (pos 30 ∷ []) ∷ (pos 30 ∷ [])
    ∷ [] ∷ [] ∷ [] ∷ [] ∷ []
    ∷ (pos 80 ∷ []) ∷ (pos 80 ∷ []) ∷ (pos 80 ∷ [])
    ∷ (pos 10 ∷ []) ∷ (pos 10 ∷ [])
    ∷ [] ∷ []
    ∷ (pos 10 ∷ []) ∷ [] ∷ [] ∷ []
    ∷ [] ∷ []
    ∷ []

-- A gets 10 from B, which loses nothing
abbrev pub one_way : List (List ℤ)
one_way =
    [] ∷ [] ∷ (pos 0 ∷ negsuc 9 ∷ pos 10 ∷ [])
    ∷ (pos 10 ∷ []) ∷ [] ∷ [] ∷ []
    ∷ [] ∷ [] ∷ [] ∷ [] ∷ [] ∷ []
    ∷ [] ∷ [] ∷ (pos 10 ∷ []) ∷ [] ∷ [] ∷ (pos 0 ∷ negsuc 9 ∷ pos 10 ∷ [])
    ∷ [] ∷ [] ∷ []
    ∷ [] ∷ [] ∷ [] ∷ []
    ∷ [] ∷ [] ∷ [] ∷ []
    ∷ [] ∷ [] ∷ [] ∷ [] ∷ []
    ∷ [] ∷ [] ∷ []
    ∷ [] ∷ []
    ∷ [] ∷ []
    ∷ [] ∷ [] ∷ [] ∷ []
    ∷ [] ∷ []
    ∷ []

-- A gives 10 to B, and has 10 less than it needs
abbrev pub other_way : List (List ℤ)
other_way =
    [] ∷ [] ∷ (pos 0 ∷ pos 10 ∷ negsuc 9 ∷ [])
    ∷ (pos 10 ∷ []) ∷ [] ∷ [] ∷ []
    ∷ [] ∷ [] ∷ [] ∷ [] ∷ [] ∷ []
    ∷ [] ∷ [] ∷ (pos 10 ∷ []) ∷ [] ∷ [] ∷ (pos 0 ∷ pos 10 ∷ negsuc 9 ∷ [])
    ∷ [] ∷ [] ∷ []
    ∷ [] ∷ [] ∷ [] ∷ []
    ∷ [] ∷ [] ∷ [] ∷ []
    ∷ [] ∷ [] ∷ [] ∷ [] ∷ []
    ∷ [] ∷ [] ∷ []
    ∷ [] ∷ []
    ∷ [] ∷ []
    ∷ [] ∷ [] ∷ [] ∷ []
    ∷ [] ∷ []
    ∷ []

-- the plan of such a table
abbrev pub regional : List (List ℤ) → Var → ℤ
regional table v = tabled (λ i. 2 * i.region + i.other) table v

pub meets_both_ways : meets_all 6 routes_both_ways 1 (regional both_ways) ≡ true
unfolding discounted capital_factor root_from half_year_root operating_factor salvage_fraction
meets_both_ways = refl

costs_both_ways : cost routes_both_ways (regional both_ways) ≡ pos 80
costs_both_ways = refl

-- a route in one direction gives A energy that B doesn't lose: so the equations say
meets_one_way : meets_all 6 route_one_way 1 (regional one_way) ≡ true
unfolding discounted capital_factor root_from half_year_root operating_factor salvage_fraction
meets_one_way = refl

costs_one_way : cost route_one_way (regional one_way) ≡ pos 0
costs_one_way = refl

-- a trade along the route out of A takes from A
breaks_other_way : first_broken 6 route_one_way 1 (regional other_way) ≡ Some 17
unfolding discounted capital_factor root_from half_year_root operating_factor salvage_fraction
breaks_other_way = refl

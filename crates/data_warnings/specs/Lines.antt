-- The lines of findings.
use Rattle.std.specs.Prelude.{ℕ, ◌+◌, List, [], ◌++◌, codes, length, nat_eq, if◌then◌else◌}
use Rattle.std.specs.Fmt.{decimal}
use Rattle.std.specs.List.{flat_map}
use Rattle.model_sets.specs.Members.{SetLists}
use Rattle.model_sets.specs.Names.{technology, year}
use Rattle.model_sets.specs.Params.{param_word}
use Rattle.model_sets.specs.declared.param_numbers.TheConstants.{TOTAL_ANNUAL_MAX_CAPACITY, TOTAL_TECHNOLOGY_MODEL_PERIOD_ACTIVITY_UPPER_LIMIT}
use Rattle.data_warnings.specs.declared.places.Finding.{Finding}
use Rattle.data_warnings.specs.declared.rules.Rule.{Rule}
use Rattle.data_warnings.specs.declared.rules.Rule.TheVariants.{YearSplitSum, YearGap, DiscountRate, UnprofiledDemand, ProfileSum, UnmadeDemand, StarvedTechnology, Disabled, Crossed, CrossedPeriod, Unreachable, ShortLives, CoarseRates, LargeFactor, LargeAvailability, LargeTarget, SmallMargin, NegativeCost, Outlier, OneWayRoute, EqualRoute, UnequalRoute, ZeroLimits, ZeroEmissions, HighLimits, IdleLimit, UnusedFuel, IdleTechnology, Rounded}
use Rattle.data_warnings.specs.Decimals.{decimal_text}
use Rattle.data_warnings.specs.Frames.{frame_of}
use Rattle.data_warnings.specs.Limits.{greatest_of}
use Rattle.data_warnings.specs.Neighbours.{nearest}
use Rattle.data_warnings.specs.Values.{name, no_set}
use Rattle.data_warnings.specs.Words.{param_of}

-- ---- parts of lines

-- one more name after a comma, where the frame has such a set
abbrev pub next_name : SetLists → ℕ → ℕ → List ℕ
next_name sets k i = if nat_eq k no_set then [] else codes "," ++ name sets k i

-- the names of the members, as R,T
unfoldable pub names_text : SetLists → Finding → List ℕ
names_text sets f =
    let over = frame_of f.rule in
    name sets over.first f.place.first ++ next_name sets over.second f.place.second ++ next_name sets over.third f.place.third

-- what stands after their number
abbrev pub more_word : ℕ → List ℕ
more_word n = if nat_eq n 1 then codes " more year" else codes " more years"

-- further years, as ` and 5 more years`
unfoldable pub more_years : ℕ → List ℕ
more_years n =
    if nat_eq n 0 then []
    else codes " and " ++ decimal n ++ more_word n

-- the years of a rule that goes by years, as ` in 2030 and 5 more years`
unfoldable pub years_text : SetLists → Finding → List ℕ
years_text sets f =
    if nat_eq (frame_of f.rule).last no_set then []
    else codes " in " ++ name sets year f.place.last ++ more_years f.more

-- of which members, as ` of R,T`, where there are any
unfoldable pub of_names : SetLists → Finding → List ℕ
of_names sets f = if nat_eq (frame_of f.rule).first no_set then [] else codes " of " ++ names_text sets f

-- the parameter and the names of the members, as `CapitalCost of R,T`
unfoldable pub subject_text : SetLists → Finding → List ℕ
subject_text sets f = param_word (param_of f.rule) ++ of_names sets f

-- the second member and the first, as `T of R`
unfoldable pub pair_text : SetLists → Finding → List ℕ
pair_text sets f = name sets (frame_of f.rule).second f.place.second ++ codes " of " ++ name sets (frame_of f.rule).first f.place.first

-- the same with its number, as `CapitalCost of R,T is 5`
unfoldable pub number_text : SetLists → Finding → List ℕ
number_text sets f = subject_text sets f ++ codes " is " ++ decimal_text f.number

-- how many more members, as ` and 5 more`
unfoldable pub more_members : ℕ → List ℕ
more_members n =
    if nat_eq n 0 then []
    else codes " and " ++ decimal n ++ codes " more"

-- the first member and the first of those that are told together, as R,T
unfoldable pub first_names : SetLists → Finding → List ℕ
first_names sets f =
    let over = frame_of f.rule in
    name sets over.first f.place.first ++ next_name sets over.last f.place.last

-- for which it is so, as ` for R,T`
unfoldable pub for_first : SetLists → Finding → List ℕ
for_first sets f = codes " for " ++ first_names sets f

-- the parameter with its number, as `OperationalLife is 1`
unfoldable pub bare_number : Finding → List ℕ
bare_number f = param_word (param_of f.rule) ++ codes " is " ++ decimal_text f.number

-- that this is a default, as `OperationalLife is 1 by default`
unfoldable pub default_text : Finding → List ℕ
default_text f = bare_number f ++ codes " by default"

-- ---- lines

-- a number alone, and a remark
unfoldable pub plain_line : SetLists → Finding → List ℕ → List ℕ
plain_line sets f remark = number_text sets f ++ years_text sets f ++ remark

-- a default, the members that have it, and a remark
unfoldable pub default_line : SetLists → Finding → List ℕ → List ℕ
default_line sets f remark = default_text f ++ for_first sets f ++ more_members f.more ++ remark

-- the number of another parameter, as ` and TotalAnnualMaxCapacity 3`
unfoldable pub beside_text : Finding → ℕ → List ℕ
beside_text f greatest = codes " and " ++ param_word greatest ++ codes " " ++ decimal_text f.other

-- a number beside that of another parameter, above which it can't be
unfoldable pub crossed_line : SetLists → Finding → ℕ → List ℕ
crossed_line sets f greatest = number_text sets f ++ beside_text f greatest ++ years_text sets f ++ codes ": no plan"

-- the number of the nearest year, as ` beside 1300 in 2030`
unfoldable pub nearest_text : SetLists → Finding → List ℕ
nearest_text sets f = codes " beside " ++ decimal_text f.other ++ codes " in " ++ name sets year (nearest f.place.last)

-- a number beside that of the nearest year
unfoldable pub outlier_line : SetLists → Finding → List ℕ
outlier_line sets f = number_text sets f ++ years_text sets f ++ nearest_text sets f

-- what a route that leads one way does
unfoldable pub route_remark : SetLists → Finding → List ℕ
route_remark sets f =
    codes ": what " ++ name sets (frame_of f.rule).first f.place.first ++ codes " gets, " ++ name sets (frame_of f.rule).second f.place.second ++ codes " doesn't lose"

-- that there is no route back
unfoldable pub route_start : SetLists → Finding → List ℕ
route_start sets f = subject_text sets f ++ codes " has no route back"

-- a route that leads one way
unfoldable pub route_line : SetLists → Finding → List ℕ
route_line sets f = route_start sets f ++ years_text sets f ++ route_remark sets f

-- both ways of a route, as `TradeRoute of R,S,F is 0.9 and back 0.8`
unfoldable pub both_ways_text : SetLists → Finding → List ℕ
both_ways_text sets f = number_text sets f ++ codes " and back " ++ decimal_text f.other

-- a route whose two ways differ, and a remark
unfoldable pub both_ways_line : SetLists → Finding → List ℕ → List ℕ
both_ways_line sets f remark = both_ways_text sets f ++ years_text sets f ++ remark

-- a parameter, the first of the members that are told together, and how many more, as `DiscountRateIdv for R,T and 3 more`
unfoldable pub members_text : SetLists → Finding → List ℕ
members_text sets f = param_word (param_of f.rule) ++ for_first sets f ++ more_members f.more

-- these members, and a remark
unfoldable pub members_line : SetLists → Finding → List ℕ → List ℕ
members_line sets f remark = members_text sets f ++ remark

-- a cost below 0
unfoldable pub loose_line : SetLists → Finding → List ℕ
loose_line sets f = number_text sets f ++ codes " and no limit holds it" ++ years_text sets f

-- numbers that were rounded
unfoldable pub rounded_line : Finding → List ℕ
rounded_line f = decimal_text f.number ++ codes " of the numbers had more than nine decimal places"

-- parts that don't sum to 1
unfoldable pub sum_line : SetLists → Finding → List ℕ
sum_line sets f = subject_text sets f ++ codes " sums to " ++ decimal_text f.number ++ years_text sets f

-- a missing year, as `no year 2031 after 2030`
unfoldable pub gap_text : SetLists → Finding → List ℕ
gap_text sets f = codes "no year " ++ decimal_text f.number ++ codes " after " ++ name sets year f.place.last

-- years between which one is missing
unfoldable pub gap_line : SetLists → Finding → List ℕ
gap_line sets f = gap_text sets f ++ codes ": what lies between the years costs and emits nothing"

-- a fuel that is asked for, as `F is asked for`
unfoldable pub asked_start : SetLists → Finding → List ℕ
asked_start sets f = name sets (frame_of f.rule).second f.place.second ++ codes " is asked for"

-- the same with its region
unfoldable pub asked_text : SetLists → Finding → List ℕ
asked_text sets f = asked_start sets f ++ codes " in " ++ name sets (frame_of f.rule).first f.place.first

-- the same, and that nothing makes it
unfoldable pub unmade_text : SetLists → Finding → List ℕ
unmade_text sets f = asked_text sets f ++ codes " and nothing makes it"

-- a fuel that is asked for and not supplied
unfoldable pub unmade_line : SetLists → Finding → List ℕ
unmade_line sets f = unmade_text sets f ++ years_text sets f ++ codes ": no plan"

-- what a technology takes, as `T of R takes F and nothing makes it`
unfoldable pub starved_text : SetLists → Finding → List ℕ
starved_text sets f = pair_text sets f ++ codes " takes " ++ name sets (frame_of f.rule).third f.place.third ++ codes " and nothing makes it"

-- a technology that takes what isn't supplied
unfoldable pub starved_line : SetLists → Finding → List ℕ
starved_line sets f = starved_text sets f ++ years_text sets f

-- a share above 1 in some timeslice
unfoldable pub above_line : SetLists → Finding → List ℕ
above_line sets f = subject_text sets f ++ codes " is above 1" ++ years_text sets f

-- a parameter, and a remark
unfoldable pub subject_line : SetLists → Finding → List ℕ → List ℕ
subject_line sets f remark = subject_text sets f ++ remark

-- a member of a region, and a remark
unfoldable pub pair_line : SetLists → Finding → List ℕ → List ℕ
pair_line sets f remark = pair_text sets f ++ remark

-- a member, and a remark
unfoldable pub member_line : SetLists → Finding → List ℕ → List ℕ
member_line sets f remark = names_text sets f ++ remark

-- beside what it is more, as `, more than TotalAnnualMaxCapacity`
unfoldable pub more_text : List ℕ
more_text = codes ", more than " ++ param_word TOTAL_ANNUAL_MAX_CAPACITY

-- the greatest capacity, as `, more than TotalAnnualMaxCapacity 3 can do`
unfoldable pub reach_text : Finding → List ℕ
reach_text f = more_text ++ codes " " ++ decimal_text f.other ++ codes " can do"

-- a least activity above what the greatest capacity can do
unfoldable pub reach_line : SetLists → Finding → List ℕ
reach_line sets f = number_text sets f ++ reach_text f ++ years_text sets f ++ codes ": no plan"

-- what is said of a finding
abbrev pub said : SetLists → Finding → Rule → List ℕ
said sets f YearSplitSum = sum_line sets f
said sets f YearGap = gap_line sets f
said sets f DiscountRate = plain_line sets f (codes ": 0.05 is 5 per cent")
said sets f UnprofiledDemand = plain_line sets f (codes ": its profile is 0, so none of it is asked for")
said sets f ProfileSum = sum_line sets f
said sets f UnmadeDemand = unmade_line sets f
said sets f StarvedTechnology = starved_line sets f
said sets f (Disabled enabler) = plain_line sets f (codes ": it makes something and can't run")
said sets f (Crossed pair) = crossed_line sets f (greatest_of pair)
said sets f CrossedPeriod = crossed_line sets f TOTAL_TECHNOLOGY_MODEL_PERIOD_ACTIVITY_UPPER_LIMIT
said sets f Unreachable = reach_line sets f
said sets f ShortLives = default_line sets f (codes ": each is bought anew each year")
said sets f CoarseRates = members_line sets f (codes ": investments are more than a millionth off; use --places 9")
said sets f LargeFactor = above_line sets f
said sets f LargeAvailability = plain_line sets f []
said sets f LargeTarget = plain_line sets f (codes ": 0.2 is 20 per cent")
said sets f SmallMargin = plain_line sets f (codes ": 1.15 asks for 15 per cent more than is made")
said sets f (NegativeCost cost) = loose_line sets f
said sets f (Outlier series) = outlier_line sets f
said sets f OneWayRoute = route_line sets f
said sets f EqualRoute = plain_line sets f (codes ": equal both ways, it loses nothing; use a technology")
said sets f UnequalRoute = both_ways_line sets f (codes ": one way makes energy, the other destroys it; use a technology")
said sets f (ZeroLimits limit) = default_line sets f (codes ": 0 is a limit, -1 is none")
said sets f (ZeroEmissions limit) = default_line sets f (codes ": 0 is a limit, -1 is none")
said sets f (HighLimits ceiling) = subject_line sets f (codes " has values of 99999 and more: -1 is no limit, and quicker")
said sets f IdleLimit = pair_line sets f (codes " has a limit and nothing emits it")
said sets f UnusedFuel = pair_line sets f (codes " is made and nobody takes it")
said sets f IdleTechnology = member_line sets f (codes " makes and takes nothing")
said sets f Rounded = rounded_line f

-- the line of a finding
unfoldable pub line : SetLists → Finding → List ℕ
line sets f = codes "warning " ++ said sets f f.rule ++ codes "\n"

-- ---- the text

-- the last line: how many findings there are
unfoldable pub last_line : ℕ → List ℕ
last_line n = codes "warnings " ++ decimal n ++ codes "\n"

-- what is said of a technology that charges or discharges a storage
unfoldable pub storage_text : List ℕ
storage_text = codes " charges or discharges a storage, and the equations have none: what discharges makes energy out of nothing"

-- the line of such a technology at this position
unfoldable pub storage_line : SetLists → ℕ → List ℕ
storage_line sets t = codes "warning " ++ name sets technology t ++ storage_text ++ codes "\n"

-- the lines of the findings and of these technologies, and the last line
abbrev pub lines_text : SetLists → List Finding → (users : List ℕ) → List ℕ
lines_text sets found users = flat_map (line sets) found ++ flat_map (storage_line sets) users ++ last_line (length found + length users)

-- The text of the made file, in the data format of the GNU MathProg language. Every line ends with a line feed.
use Rattle.std.specs.Prelude.{ℕ, ◌+◌, ◌-◌, ◌*◌, List, ◌++◌, codes}
use Rattle.std.specs.Fmt.{decimal}
use Rattle.std.specs.List.{flat_map, range_with_len}
use Rattle.model_maker.specs.MadeModel.{Parameter, Value, Growing, Same, parameters}

-- a text and a line feed
abbrev pub line : List ℕ → List ℕ
line text = text ++ codes "\n"

-- the years, counted from 2020 on: 0, 1 and so on, so many of them
abbrev pub years_from_first : ℕ → List ℕ
years_from_first count = range_with_len 0 count

-- a year by its digits
abbrev pub year_text : ℕ → List ℕ
year_text k = decimal (2020 + k)

-- the value that a record has k years after 2020
abbrev pub value_text : ℕ → Value → List ℕ
value_text k Growing = decimal (40 + 4 * k)
value_text k (Same text) = text

-- the record of that year: members, year and value, with single blanks between
abbrev pub record_line : ℕ → List ℕ × Value → List ℕ
record_line k r = line (r.0 ++ codes " " ++ year_text k ++ codes " " ++ value_text k r.1)

-- the records of a year, and of all years, each year after the one before
abbrev pub year_lines : List (List ℕ × Value) → ℕ → List ℕ
year_lines records k = flat_map (record_line k) records

abbrev pub record_lines : ℕ → List (List ℕ × Value) → List ℕ
record_lines count records = flat_map (year_lines records) (years_from_first count)

-- a parameter: its name and default, then its records year by year
abbrev pub parameter_text : ℕ → Parameter → List ℕ
parameter_text count p =
    line (codes "param " ++ p.name ++ codes " default " ++ p.default_value ++ codes " :=") ++ record_lines count p.records ++ line (codes ";")

-- the set of so many years
abbrev pub year_member : ℕ → List ℕ
year_member k = codes " " ++ year_text k

abbrev pub year_set : ℕ → List ℕ
year_set count = line (codes "set YEAR :=" ++ flat_map year_member (years_from_first count) ++ codes " ;")

-- the sets before it, and those after it, which have no member
abbrev pub first_sets : List ℕ
first_sets =
    line (codes "set REGION := R1 ;")
    ++ line (codes "set TECHNOLOGY := MINE IMPORT PPCOAL PPGAS WIND BOILER ;")
    ++ line (codes "set FUEL := COAL GAS ELC HEAT ;")
    ++ line (codes "set EMISSION := CO2 ;")
    ++ line (codes "set MODE_OF_OPERATION := 1 ;")
    ++ line (codes "set TIMESLICE := S1 S2 S3 S4 ;")

abbrev pub last_sets : List ℕ
last_sets = line (codes "set STORAGE := ;") ++ line (codes "set SEASON := ;") ++ line (codes "set DAYTYPE := ;") ++ line (codes "set DAILYTIMEBRACKET := ;")

-- the sets, with so many years
abbrev pub sets_text : ℕ → List ℕ
sets_text count = first_sets ++ year_set count ++ last_sets

-- The text of the file that is made of n, from 3 on.
abbrev pub made_text : ℕ → List ℕ
made_text n = line (codes "data;") ++ sets_text (n - 2) ++ flat_map (parameter_text (n - 2)) parameters ++ line (codes "end;")

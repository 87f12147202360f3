-- What the money of a year is worth: the written operating factor of each region and year, with all its decimal places.
use Rattle.std.specs.Prelude.{ℕ, zero, suc, ◌+◌, ◌/◌, ◌%◌, ◌^◌, pos, List, [], ◌∷◌, ◌++◌, map, codes, decimal}
use Rattle.std.specs.List.{flat_map}
use Rattle.discount_factors.specs.Factors.{operating_factor, unit_of}
use Rattle.exact_num.specs.Rational.{lowest}
use Rattle.model_sets.specs.Data.{Data}
use Rattle.model_sets.specs.Names.{region, year}
use Rattle.param_tables.specs.Ratios.{positions_in}
use Rattle.named_equations.specs.Parameters.{region_name, year_name}
use Rattle.named_equations.specs.Positions.{years_since_first}
use Rattle.named_equations.specs.WrittenFactors.{rate_of}
use Rattle.scaled_decimals.specs.PrintedFraction.{fraction_text}
use Rattle.plan_files.specs.Files.{Fields}
use Rattle.plan_files.specs.Texts.{records_text}
use Rattle.plan_tables.specs.declared.shown.NumberForm.{NumberForm}
use Rattle.plan_tables.specs.declared.shown.NumberForm.TheVariants.{Decimals, Fractions}

-- the last so many decimal digits of n
abbrev pub last_digits : ℕ → ℕ → List ℕ
last_digits zero n = []
last_digits (suc places) n = (48 + n / 10 ^ places % 10) ∷ last_digits places n

-- a factor of so many decimal places, with all of them, or as a fraction
abbrev pub factor_text : NumberForm → ℕ → ℕ → List ℕ
factor_text Decimals places n = decimal (n / unit_of places) ++ codes "." ++ last_digits places n
factor_text Fractions places n = fraction_text (lowest (pos n) (pos (unit_of places)))

-- what 1 that is due in the middle of the year is worth at the beginning of the first, as a whole number of so many decimal places
abbrev pub worth_of : ℕ → Data → ℕ → ℕ → ℕ
worth_of places d r y = operating_factor places (rate_of d r) (years_since_first d y)

abbrev pub worth_record : NumberForm → ℕ → Data → ℕ → ℕ → Fields
worth_record form places d r y = region_name d r ∷ year_name d y ∷ factor_text form places (worth_of places d r y) ∷ []

-- the records of a region, in the order of the years
abbrev pub region_records : NumberForm → ℕ → Data → ℕ → List Fields
region_records form places d r = map (worth_record form places d r) (positions_in d.sets year)

abbrev pub worth_header : Fields
worth_header = codes "REGION" ∷ codes "YEAR" ∷ codes "VALUE" ∷ []

-- The text of the table.
abbrev pub worth_text : NumberForm → ℕ → Data → List ℕ
worth_text form places d = records_text (worth_header ∷ flat_map (region_records form places d) (positions_in d.sets region))

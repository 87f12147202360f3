-- The text of a whole small model, and that it says its blocks.
use Rattle.command_answers.proofs.Common.{ℕ, ◌*◌, ◌^◌, List, [], ◌∷◌, ◌++◌, map, pos, neg_ℤ, Some, refl, enumerate_from, Blocks, reading, set_word, param_word, Says}
use Rattle.std.specs.Prelude.{ℤ, codes}
use Rattle.scaled_decimals.specs.DecimalReading.{numerator, denominator}
use Rattle.scaled_decimals.specs.Digits.{number_of}
use Rattle.command_answers.proofs.DefaultTexts.{Line, SetLine, DefaultLine, AreFit, AreNew, IsSection, section_says}

-- ---- the text

unfoldable pub text : List ℕ
text =
    codes "data;\n"
    ++ codes "set REGION := R;\n"
    ++ codes "set TECHNOLOGY := T;\n"
    ++ codes "set FUEL := F;\n"
    ++ codes "set EMISSION :=;\n"
    ++ codes "set MODE_OF_OPERATION := 1;\n"
    ++ codes "set TIMESLICE := D;\n"
    ++ codes "set YEAR := 2020;\n"
    ++ codes "param YearSplit default 1 :=;\n"
    ++ codes "param DiscountRate default 0 :=;\n"
    ++ codes "param DepreciationMethod default 1 :=;\n"
    ++ codes "param TradeRoute default 0 :=;\n"
    ++ codes "param SpecifiedAnnualDemand default 10 :=;\n"
    ++ codes "param SpecifiedDemandProfile default 1 :=;\n"
    ++ codes "param AccumulatedAnnualDemand default 0 :=;\n"
    ++ codes "param CapacityToActivityUnit default 1 :=;\n"
    ++ codes "param CapacityFactor default 1 :=;\n"
    ++ codes "param AvailabilityFactor default 1 :=;\n"
    ++ codes "param OperationalLife default 1 :=;\n"
    ++ codes "param ResidualCapacity default 0 :=;\n"
    ++ codes "param InputActivityRatio default 0 :=;\n"
    ++ codes "param OutputActivityRatio default 1 :=;\n"
    ++ codes "param CapitalCost default 5 :=;\n"
    ++ codes "param VariableCost default 2 :=;\n"
    ++ codes "param FixedCost default 1 :=;\n"
    ++ codes "param CapacityOfOneTechnologyUnit default 0 :=;\n"
    ++ codes "param TotalAnnualMaxCapacity default -1 :=;\n"
    ++ codes "param TotalAnnualMinCapacity default 0 :=;\n"
    ++ codes "param TotalAnnualMaxCapacityInvestment default -1 :=;\n"
    ++ codes "param TotalAnnualMinCapacityInvestment default 0 :=;\n"
    ++ codes "param TotalTechnologyAnnualActivityUpperLimit default -1 :=;\n"
    ++ codes "param TotalTechnologyAnnualActivityLowerLimit default 0 :=;\n"
    ++ codes "param TotalTechnologyModelPeriodActivityUpperLimit default 0 :=;\n"
    ++ codes "param TotalTechnologyModelPeriodActivityLowerLimit default 0 :=;\n"
    ++ codes "param ReserveMarginTagTechnology default 0 :=;\n"
    ++ codes "param ReserveMarginTagFuel default 0 :=;\n"
    ++ codes "param ReserveMargin default 0 :=;\n"
    ++ codes "param RETagTechnology default 0 :=;\n"
    ++ codes "param RETagFuel default 0 :=;\n"
    ++ codes "param REMinProductionTarget default 0 :=;\n"
    ++ codes "param EmissionActivityRatio default 0 :=;\n"
    ++ codes "param EmissionsPenalty default 0 :=;\n"
    ++ codes "param AnnualExogenousEmission default 0 :=;\n"
    ++ codes "param AnnualEmissionLimit default -1 :=;\n"
    ++ codes "param ModelPeriodExogenousEmission default 0 :=;\n"
    ++ codes "param ModelPeriodEmissionLimit default -1 :=;\n"
    ++ codes "end;\n"

-- ---- what it says

-- the members of the sets, from number 1 on
abbrev pub members : List (List (List ℕ))
members = (codes "R" ∷ []) ∷ (codes "T" ∷ []) ∷ (codes "F" ∷ []) ∷ [] ∷ (codes "1" ∷ []) ∷ (codes "D" ∷ []) ∷ (codes "2020" ∷ []) ∷ []

abbrev whole : ℕ → ℤ
whole n = pos (n * 10 ^ 9)

-- a default: how it is written, and its value in billionths
abbrev Default : Type 0
Default = List ℕ × ℤ

abbrev none : Default
none = (codes "0", whole 0)

abbrev one : Default
one = (codes "1", whole 1)

abbrev two : Default
two = (codes "2", whole 2)

abbrev five : Default
five = (codes "5", whole 5)

abbrev ten : Default
ten = (codes "10", whole 10)

abbrev no_limit : Default
no_limit = (codes "-1", neg_ℤ (whole 1))

-- the defaults of the parameters, from number 1 on
abbrev defaults : List Default
defaults =
    one ∷ none ∷ one ∷ none ∷ ten ∷ one ∷ none ∷ one ∷ one ∷ one ∷ one ∷ none ∷ none ∷ one ∷ five ∷ two ∷ one ∷ none ∷ no_limit
    ∷ none ∷ no_limit ∷ none ∷ no_limit ∷ none ∷ none ∷ none ∷ none ∷ none ∷ none ∷ none ∷ none ∷ none ∷ none ∷ none ∷ none
    ∷ no_limit ∷ none ∷ no_limit ∷ []

-- their values
abbrev pub values : List ℤ
values = map (λ default. default.1) defaults

abbrev pub blocks : Blocks
blocks = record {
  sets = map (λ entry. record { set = entry.0; members = entry.1 }) (enumerate_from 1 members);
  params = map (λ entry. record { param = entry.0; default = Some entry.1; values = [] }) (enumerate_from 1 values);
  rounded = 0;
}

-- ---- that it says so

-- the lines of the text
abbrev lines : List Line
lines =
    map (λ entry. SetLine (set_word entry.0) entry.0 entry.1) (enumerate_from 1 members)
    ++ map (λ entry. DefaultLine (param_word entry.0) entry.0 entry.1.0 entry.1.1) (enumerate_from 1 defaults)

are_its_lines : IsSection text lines (codes "\n")
unfolding text
are_its_lines = record { parts = refl; closes = refl; first = refl; closed = refl }

are_fit : AreFit lines
unfolding reading number_of numerator denominator
are_fit = refl

are_new : AreNew lines
are_new = refl

pub says : Says text blocks
says = section_says text lines (codes "\n") are_its_lines are_fit are_new

-- What is shown of a solution, for what of it prices are formed, and what words want.
use Rattle.std.specs.Prelude.{ℕ, ⊤}
use Rattle.command_words.specs.declared.command.SolveMethod.{SolveMethod}
use Rattle.command_words.specs.declared.command.SolveShow.{SolveShow}
use Rattle.command_words.specs.declared.command.SolveShow.TheVariants as words
use Rattle.result_tables.specs.declared.attempts.Begun.TheVariants.{FromNothing}
use Rattle.solve_command.specs.declared.solve.Shown.{Shown}
use Rattle.solve_command.specs.declared.solve.Shown.TheVariants.{Report, Plan, Multipliers, Proof, Line, Summary}
use Rattle.solve_command.specs.declared.solve.Wanted.{Wanted}

-- what the words ask for
abbrev pub shown_of : SolveShow → Shown
shown_of words.Report = Report
shown_of words.Plan = Plan
shown_of words.Multipliers = Multipliers
shown_of words.Proof = Proof
shown_of words.Line = Line

-- what is wanted by these words
abbrev pub wanted_by : ℕ → ℕ → SolveShow → SolveMethod → Wanted
wanted_by gap pivots show method = record { gap = gap; pivots = pivots; show = shown_of show; method = method; begun = FromNothing }

-- a report has prices, and a summary is that of a report
abbrev pub HasPrices : Shown → Type 0
HasPrices Report = ⊤
HasPrices Summary = ⊤
HasPrices show = ⊥

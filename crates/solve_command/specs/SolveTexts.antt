-- What `solve` writes at each of its ends, by what is to be shown: a report, a plan, multipliers, what proves the end, one line, or a summary. A file of a plan or of
-- multipliers that there aren't is its header alone.
use Rattle.std.specs.Prelude.{ℕ, List, [], ◌++◌, codes}
use Rattle.exact_num.specs.Rational.{Rational}
use Rattle.model_sets.specs.Members.{SetLists}
use Rattle.mps_writer.specs.MpsText.{line}
use Rattle.scaled_decimals.specs.PrintedFraction.{fraction_text}
use Rattle.std.specs.Fmt.{decimal}
use Rattle.row_core.specs.declared.Row.{Row}
use Rattle.row_core.specs.declared.RowName.{RowName}
use Rattle.row_core.specs.declared.Var.{Var}
use Rattle.plan_files.specs.Records.{multiplier_records, plan_records}
use Rattle.plan_files.specs.Texts.{records_text}
use Rattle.proof_files.specs.ProofRecords.{descent_file, optimum_file, refutation_file}
use Rattle.result_tables.specs.declared.attempts.FoundBy.{FoundBy}
use Rattle.result_tables.specs.Reports.{infeasible_text, report_text, unbounded_text}
use Rattle.solve_command.specs.declared.solve.Shown.{Shown}
use Rattle.solve_command.specs.LineTexts.{infeasible_line, solved_line, unbounded_line}
use Rattle.solve_command.specs.declared.solve.Shown.TheVariants.{Report, Plan, Multipliers, Proof, Line, Summary}

-- the text of a plan, and of multipliers
abbrev pub plan_file : SetLists → List (Var × Rational) → List ℕ
plan_file sets plan = records_text (plan_records sets plan)

abbrev pub multiplier_file : SetLists → List (RowName × Rational) → List ℕ
multiplier_file sets multipliers = records_text (multiplier_records sets multipliers)

-- the summary of an optimum
abbrev pub solved_lines : Rational → Rational → ℕ → List ℕ
solved_lines cost bound made =
    line (codes "status solved") ++ line (codes "cost " ++ fraction_text cost) ++ line (codes "bound " ++ fraction_text bound) ++ line (codes "pivots " ++ decimal made)

-- of a model that is solved, by this attempt
abbrev pub solved_shown : Shown → SetLists → List Var → List (Var × Rational) → List Row → List (RowName × Rational) → Rational → Rational → ℕ → ℕ → ℕ → FoundBy → List ℕ
solved_shown Report sets vars plan rows multipliers cost bound made rounded places attempt = report_text sets vars plan rows multipliers cost bound made rounded places attempt
solved_shown Plan sets vars plan rows multipliers cost bound made rounded places attempt = plan_file sets plan
solved_shown Multipliers sets vars plan rows multipliers cost bound made rounded places attempt = multiplier_file sets multipliers
solved_shown Proof sets vars plan rows multipliers cost bound made rounded places attempt = optimum_file sets plan multipliers
solved_shown Line sets vars plan rows multipliers cost bound made rounded places attempt = solved_line cost bound made
solved_shown Summary sets vars plan rows multipliers cost bound made rounded places attempt = solved_lines cost bound made

-- of one that has no plan, by this attempt
abbrev pub infeasible_shown : Shown → SetLists → List (RowName × Rational) → ℕ → ℕ → ℕ → FoundBy → List ℕ
infeasible_shown Report sets multipliers made rounded places attempt = infeasible_text made rounded places attempt
infeasible_shown Plan sets multipliers made rounded places attempt = plan_file sets []
infeasible_shown Multipliers sets multipliers made rounded places attempt = multiplier_file sets multipliers
infeasible_shown Proof sets multipliers made rounded places attempt = refutation_file sets multipliers
infeasible_shown Line sets multipliers made rounded places attempt = infeasible_line made
infeasible_shown Summary sets multipliers made rounded places attempt = line (codes "status infeasible")

-- of one whose cost has no bound
abbrev pub unbounded_shown : Shown → SetLists → List (Var × Rational) → List (Var × Rational) → ℕ → ℕ → ℕ → List ℕ
unbounded_shown Report sets plan direction made rounded places = unbounded_text sets direction made rounded places
unbounded_shown Plan sets plan direction made rounded places = plan_file sets plan
unbounded_shown Multipliers sets plan direction made rounded places = multiplier_file sets []
unbounded_shown Proof sets plan direction made rounded places = descent_file sets plan direction
unbounded_shown Line sets plan direction made rounded places = unbounded_line made
unbounded_shown Summary sets plan direction made rounded places = line (codes "status unbounded")

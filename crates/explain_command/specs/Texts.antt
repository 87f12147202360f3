-- What `explain` writes.
use Rattle.std.specs.Prelude.{ℕ, List, [], ◌∷◌, ◌++◌, codes, length}
use Rattle.std.specs.Fmt.{decimal}
use Rattle.std.specs.List.{flat_map}
use Rattle.exact_num.specs.Rational.{Rational}
use Rattle.model_sets.specs.Members.{SetLists}
use Rattle.mps_writer.specs.MpsText.{line}
use Rattle.row_core.specs.declared.RowName.{RowName}
use Rattle.row_core.specs.declared.Var.{Var}
use Rattle.row_core.specs.NameTexts.{row_name}
use Rattle.scaled_decimals.specs.PrintedFraction.{fraction_text}
use Rattle.plan_files.specs.Texts.{records_text}
use Rattle.result_tables.specs.Tables.{direction_table}

-- some plan meets all equations
abbrev pub feasible_text : List ℕ
feasible_text = line (codes "status feasible") ++ line (codes "end")

-- a member with its multiplier
abbrev pub member_line : SetLists → RowName × Rational → List ℕ
member_line sets member = line (codes "equation " ++ row_name sets member.0 ++ codes " " ++ fraction_text member.1)

-- a plan without a member: its RateOfActivity, NewCapacity and Trade that aren't 0
abbrev pub plan_lines : SetLists → RowName → List (Var × Rational) → List ℕ
plan_lines sets name plan = line (codes "without " ++ row_name sets name) ++ records_text (direction_table sets plan).records

-- each member's plan in turn
abbrev pub all_plan_lines : SetLists → List (RowName × Rational) → List (List (Var × Rational)) → List ℕ
all_plan_lines sets [] plans = []
all_plan_lines sets (member ∷ members) [] = []
all_plan_lines sets (member ∷ members) (plan ∷ plans) = plan_lines sets member.0 plan ++ all_plan_lines sets members plans

-- a conflict: how many members it has, the members, and their plans
abbrev pub conflict_text : SetLists → List (RowName × Rational) → List (List (Var × Rational)) → List ℕ
conflict_text sets members plans =
    line (codes "status infeasible") ++ line (codes "conflict " ++ decimal (length members)) ++ flat_map (member_line sets) members ++ all_plan_lines sets members plans
    ++ line (codes "end")

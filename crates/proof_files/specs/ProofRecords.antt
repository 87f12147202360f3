-- The records of a proof: those of a plan, of a direction and of multipliers, one after another below one header.
use Rattle.std.specs.Prelude.{ℕ, List, ◌∷◌, [], ◌++◌, map, codes}
use Rattle.exact_num.specs.Rational.{Rational}
use Rattle.model_sets.specs.Members.{SetLists}
use Rattle.row_core.specs.declared.RowName.{RowName}
use Rattle.row_core.specs.declared.Var.{Var}
use Rattle.row_core.specs.Kinds.{kind_has, word_of_kind}
use Rattle.scaled_decimals.specs.PrintedFraction.{fraction_text}
use Rattle.plan_files.specs.Answers.{row_names, variable_names}
use Rattle.plan_files.specs.Files.{Fields}
use Rattle.plan_files.specs.Records.{header, nonzero, row_record, subscript_fields, variable_record}
use Rattle.plan_files.specs.Texts.{records_text}

-- the word of a variable of a direction: `Direction.` and the word of the variable
abbrev pub direction_word : ℕ → List ℕ
direction_word kind = codes "Direction." ++ word_of_kind kind

-- the first nine fields of a variable of a direction: that word, and the variable's subscripts
abbrev pub direction_fields : SetLists → Var → Fields
direction_fields sets v = direction_word v.kind ∷ subscript_fields sets (kind_has v.kind) v.index

abbrev pub direction_names : SetLists → List Var → List Fields
direction_names sets vars = map (direction_fields sets) vars

abbrev pub direction_record : SetLists → Var × Rational → Fields
direction_record sets e = direction_fields sets e.0 ++ fraction_text e.1 ∷ []

-- the names that the records of a proof may have: of the variables, of the rows, and of the variables of a direction
abbrev pub proof_names : SetLists → List Var → List RowName → List Fields
proof_names sets vars names = variable_names sets vars ++ row_names sets names ++ direction_names sets vars

-- ---- what is written of each end

-- of an optimum: a record for each value of the plan, and one for each multiplier that isn't 0
abbrev pub optimum_records : SetLists → List (Var × Rational) → List (RowName × Rational) → List Fields
optimum_records sets plan multipliers = header ∷ map (variable_record sets) plan ++ map (row_record sets) (nonzero multipliers)

-- that there is no plan: the multipliers alone
abbrev pub refutation_records : SetLists → List (RowName × Rational) → List Fields
refutation_records sets multipliers = header ∷ map (row_record sets) (nonzero multipliers)

-- that there is no least cost: a plan, and a record for each value of the direction
abbrev pub descent_records : SetLists → List (Var × Rational) → List (Var × Rational) → List Fields
descent_records sets plan direction = header ∷ map (variable_record sets) plan ++ map (direction_record sets) direction

-- the texts
abbrev pub optimum_file : SetLists → List (Var × Rational) → List (RowName × Rational) → List ℕ
optimum_file sets plan multipliers = records_text (optimum_records sets plan multipliers)

abbrev pub refutation_file : SetLists → List (RowName × Rational) → List ℕ
refutation_file sets multipliers = records_text (refutation_records sets multipliers)

abbrev pub descent_file : SetLists → List (Var × Rational) → List (Var × Rational) → List ℕ
descent_file sets plan direction = records_text (descent_records sets plan direction)

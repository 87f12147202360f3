use Rattle.std.proofs.Common.{◌≡◌, ◌++◌, drop}
use Rattle.std.specs.List.{flat_map}
use Rattle.model_maker.specs.MadeText.{parameter_text}
use Rattle.model_maker.specs.Tables.{parameters_told}
use Rattle.model_maker.proofs.push_parameters.Given as goal

-- with the parameters that are left, those so far are all of the table
abbrev pub invariant-loop-parameter : goal.invariant-loop-parameter
invariant-loop-parameter l =
    l.out.items ++ flat_map (parameter_text l.years) (parameters_told (drop l.parameter-index l.table)) ≡ l.fn.out.items ++ flat_map (parameter_text l.years) (parameters_told l.table)

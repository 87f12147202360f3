-- The range of YearSplit begins above 0.
use Rattle.equation_parts.proofs.Common.{ℤ, [], ◌∷◌, Option, value_at, YEAR_SPLIT, slice_name, year_name}
use Rattle.equation_parts.proofs.Splits.{above_zero}
use Rattle.equation_parts.proofs.parameters.year_split.Goals as goal

pub returns-clause-positive : goal.returns-clause-positive
returns-clause-positive c =
    let d = c.args.model.now.facts in
    let given : Option ℤ = value_at d YEAR_SPLIT (slice_name d c.args.l ∷ year_name d c.args.y ∷ []) in
    above_zero given c.at.ensures.given

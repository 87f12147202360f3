use Rattle.model_sets.proofs.Common.{subst, IsYear}
use Rattle.model_sets.proofs.YearLaws.{is_year-from, year_is}
use Rattle.model_sets.proofs.laws.year_laws.Goals as goal

pub returns : goal.returns
returns c = record { told = λ name n. (λ year. is_year-from name n year, λ told. subst (IsYear name) told.1 (year_is name told.0)) }

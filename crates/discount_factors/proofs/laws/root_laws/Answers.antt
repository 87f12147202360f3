use Rattle.discount_factors.specs.Factors.{half_year_root}
use Rattle.discount_factors.proofs.RootLaws.{half_year_root_is, root_unique}
use Rattle.discount_factors.proofs.laws.root_laws.Goals as goal

pub returns : goal.returns
returns c = record { greatest = half_year_root_is; unique = λ rate h is. root_unique rate h (half_year_root rate) is (half_year_root_is rate) }

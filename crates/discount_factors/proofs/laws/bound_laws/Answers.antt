use Rattle.discount_factors.proofs.AnnuityLaws.{annuity-le, annuity_of_life-le, annuity_of_200-le}
use Rattle.discount_factors.proofs.FactorLaws.{capital_factor-le, operating_factor-le}
use Rattle.discount_factors.proofs.LifeLaws.{salvage_fraction-le, recovery_factor-le}
use Rattle.discount_factors.proofs.laws.bound_laws.Goals as goal

pub returns : goal.returns
returns c = record {
  capital = capital_factor-le;
  operating = operating_factor-le;
  salvage = salvage_fraction-le;
  recovery = recovery_factor-le;
  annuity = annuity-le;
  annuity_of_life = annuity_of_life-le;
  annuity_of_200 = annuity_of_200-le;
}

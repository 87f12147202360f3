use Rattle.discount_factors.proofs.AnnuityLaws.{annuity-level}
use Rattle.discount_factors.proofs.FactorLaws.{capital_factor-level, operating_factor-level}
use Rattle.discount_factors.proofs.LifeLaws.{salvage-level, salvage-second, recovery-level}
use Rattle.discount_factors.proofs.laws.level_laws.Goals as goal

pub returns : goal.returns
returns c = record {
  capital = capital_factor-level;
  operating = operating_factor-level;
  level = salvage-level;
  straight = salvage-second;
  recovery = recovery-level;
  annuity = annuity-level;
}

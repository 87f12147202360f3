use Rattle.std.proofs.Common.{arith}
use Rattle.discount_factors.proofs.ClosenessLaws.{capital-below, capital-near, operating-below, operating-near}
use Rattle.discount_factors.proofs.laws.closeness_laws.Goals as goal

pub returns : goal.returns
returns c = record {
  capital = λ places rate n is few. record { at_most = capital-below places rate n is; near = capital-near places rate n is (omega arith) };
  operating = λ places rate n is few. record { at_most = operating-below places rate n is; near = operating-near places rate n is (omega arith) };
}

use Rattle.exact_num.proofs.GcdLaws.{gcd_of-IsGcd, dvd_from_coprime}
use Rattle.exact_num.proofs.laws.gcd_laws.Goals as goal

pub returns-clause-greatest : goal.returns-clause-greatest
returns-clause-greatest c = gcd_of-IsGcd

pub returns-clause-euclid : goal.returns-clause-euclid
returns-clause-euclid c = dvd_from_coprime

use Rattle.param_tables.proofs.CanonicalLaws.{canonical_alike, canonical_one, canonical_same}
use Rattle.param_tables.proofs.ChangeLaws.{data_with}
use Rattle.param_tables.proofs.laws.canonical_laws.Goals as goal

pub returns : goal.returns
returns c = record { told = record { same = canonical_same; alike = canonical_alike; one = canonical_one; changed = data_with } }

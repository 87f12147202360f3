-- By the law of texts.
use Rattle.result_pages.proofs.TextLaws.{clean}
use Rattle.result_pages.proofs.laws.escaping_laws.Goals as goal

pub returns : goal.returns
returns c = clean

use Rattle.command_answers.proofs.AcceptedData.{accepted-complete}
use Rattle.mps_plans.proofs.AcceptedNames.{accepted-names}
use Rattle.mps_plans.proofs.Law.{means}
use Rattle.mps_plans.proofs.plans_law.Goals as goal

pub returns : goal.returns
returns c = record { means = λ places file d rows columns accepted are listed. means places d rows columns (accepted-complete file d accepted) (accepted-names file d accepted) are listed }

use Rattle.check_command.proofs.Common.{subst, OutcomeIsWithin}
use Rattle.check_command.proofs.ProofLaws.{said-from_within}
use Rattle.check_command.proofs.files.answer_outcome.Goals as goal

pub reject_plan-requires : goal.reject_plan-requires
reject_plan-requires c = said-from_within c.args.sets.now c.in-Rejected.rejection (subst (OutcomeIsWithin c.args.sets.now) c.in-Rejected.is c.requires)

use Rattle.explain_command.proofs.ends.answer_stop.Goals as goal

pub stop_at-requires : goal.stop_at-requires
stop_at-requires c = rw c.in-Width.is at c.requires

pub stop_at_trial-requires : goal.stop_at_trial-requires
stop_at_trial-requires c = rw c.in-Trial.is at c.requires

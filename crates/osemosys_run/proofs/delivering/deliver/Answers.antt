use Rattle.osemosys_run.proofs.Common.{sym, subst, Delivers, sent, CanBeSent, DueForReply, IsAsMade, Reply}
use Rattle.osemosys_run.proofs.delivering.deliver.Goals as goal

pub send_answer-requires : goal.send_answer-requires
send_answer-requires g c = subst CanBeSent c.in-Told.is c.requires

pub write_equations-requires : goal.write_equations-requires
write_equations-requires g c = subst CanBeSent c.in-Equations.is c.requires

pub returns-in-Told-clause-delivers : goal.returns-in-Told-clause-delivers
returns-in-Told-clause-delivers g c =
    subst (λ (reply : Reply). Delivers (IsAsMade reply) (DueForReply reply) c.send_answer.result (sent g.K.Sink c.args.out.now) (sent g.K.Sink c.send_answer.new.out)) (sym c.in-Told.is) c.send_answer.ensures.delivers

pub returns-in-Equations-clause-delivers : goal.returns-in-Equations-clause-delivers
returns-in-Equations-clause-delivers g c =
    subst (λ (reply : Reply). Delivers (IsAsMade reply) (DueForReply reply) c.write_equations.result (sent g.K.Sink c.args.out.now) (sent g.K.Sink c.write_equations.new.out)) (sym c.in-Equations.is) c.write_equations.ensures.delivers

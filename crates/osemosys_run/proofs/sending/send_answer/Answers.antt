use Rattle.osemosys_run.proofs.Common.{List, ℕ, inl, inr, refl, subst, Took, TookPrefix, sent}
use Rattle.osemosys_run.proofs.sending.send_answer.Goals as goal

pub returns-in-Ok-clause-delivers : goal.returns-in-Ok-clause-delivers
returns-in-Ok-clause-delivers g c =
    inl (record {
      text = c.args.answer.text.items;
      due = (refl, refl);
      told = c.requires;
      took = subst (λ (t : List ℕ). Took (sent g.K.Sink c.args.out.now).output (sent g.K.Sink c.send.new.out).output t) c.deref.ensures.value c.in-Ok.ensures.whole;
    })

pub returns-in-Err-clause-delivers : goal.returns-in-Err-clause-delivers
returns-in-Err-clause-delivers g c =
    inr (inl (record {
      status_is = refl;
      rose = c.in-Err.ensures.failed;
      said = c.args.answer.status;
      text = c.args.answer.text.items;
      due = (refl, refl);
      took = subst (λ (t : List ℕ). TookPrefix (sent g.K.Sink c.args.out.now).output (sent g.K.Sink c.send.new.out).output t) c.deref.ensures.value c.in-Err.ensures.cut;
    }))

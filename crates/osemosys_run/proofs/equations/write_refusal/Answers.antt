use Rattle.osemosys_run.proofs.Common.{List, ℕ, inl, inr, refl, subst, sym, SetLists, TellsFail, Status, BookFail, CanBeTold, sent, IsTold}
use Rattle.row_book.specs.declared.fail.BookFail.TheVariants as fails
use Rattle.osemosys_run.proofs.ReplyLaws.{told_so}
use Rattle.osemosys_run.proofs.RunLaws.{delivers-weaker}
use Rattle.osemosys_run.proofs.equations.write_refusal.Goals as goal

-- the status that tells why a row can't be made can be told
fail_told : (sets : SetLists) (fail : BookFail) (status : Status) (text : List ℕ) → TellsFail sets fail status text → CanBeTold status
fail_told sets (fails.Width place) status text told = subst CanBeTold (sym told.0) tt
fail_told sets fails.TooManyEntries status text told = subst CanBeTold (sym told.0) tt
fail_told sets fails.Memory status text told = absurd told

pub send_answer-requires : goal.send_answer-requires
send_answer-requires g c = fail_told c.sets.result.now c.args.fail c.in-Ok.answer.status c.in-Ok.answer.text.items c.in-Ok.ensures

pub returns-in-Ok-clause-delivers : goal.returns-in-Ok-clause-delivers
returns-in-Ok-clause-delivers g c =
    let sets = c.args.model.now.facts.sets in
    let answer = c.in-Ok.answer in
    let told : TellsFail sets c.args.fail answer.status answer.text.items =
    subst (λ (all : SetLists). TellsFail all c.args.fail answer.status answer.text.items) c.sets.ensures.sets c.in-Ok.ensures in
    delivers-weaker ⊥ ⊥ (IsTold answer.status answer.text.items) (TellsFail sets c.args.fail)
    c.send_answer.result (sent g.K.Sink c.args.out.now) (sent g.K.Sink c.send_answer.new.out)
    (λ never. never)
    (λ status text said. told_so (TellsFail sets c.args.fail) answer.status answer.text.items told status text said)
    c.send_answer.ensures.delivers

pub returns-in-Err-clause-delivers : goal.returns-in-Err-clause-delivers
returns-in-Err-clause-delivers g c = inr (inr (record { status_is = refl; left = inl refl }))

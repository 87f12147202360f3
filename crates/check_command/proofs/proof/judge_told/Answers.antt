-- What is due of each kind of proof is due of the one that was read.
use Rattle.check_command.proofs.Common.{subst, sym, Proof, HasWorth, DueForProofTold}
use Rattle.check_command.proofs.proof.judge_told.Goals as goal

pub returns-in_ok-answer-in-Optimum-clause-due : goal.returns-in_ok-answer-in-Optimum-clause-due
returns-in_ok-answer-in-Optimum-clause-due c = λ places d same book.
    let answer = c.in_ok-answer-in-Optimum.answer in
    subst (λ (proof : Proof). DueForProofTold places d c.args.book.now.rows c.args.gap proof answer.status answer.text.items) (sym c.in-Optimum.is) (c.in_ok-answer-in-Optimum.ensures.due places d same book)

pub returns-in_ok-answer-in-Optimum-clause-worth : goal.returns-in_ok-answer-in-Optimum-clause-worth
returns-in_ok-answer-in-Optimum-clause-worth c = λ places d book done.
    subst (λ (proof : Proof). HasWorth d c.args.book.now.rows proof c.in_ok-answer-in-Optimum.worth) (sym c.in-Optimum.is) (c.in_ok-answer-in-Optimum.ensures.worth places d book done)

pub returns-in_ok-answer-in-Refutation-clause-due : goal.returns-in_ok-answer-in-Refutation-clause-due
returns-in_ok-answer-in-Refutation-clause-due c = λ places d same book.
    let answer = c.in_ok-answer-in-Refutation.answer in
    subst (λ (proof : Proof). DueForProofTold places d c.args.book.now.rows c.args.gap proof answer.status answer.text.items) (sym c.in-Refutation.is) (c.in_ok-answer-in-Refutation.ensures places d same book)

pub returns-in_ok-answer-in-Descent-clause-due : goal.returns-in_ok-answer-in-Descent-clause-due
returns-in_ok-answer-in-Descent-clause-due c = λ places d same book.
    let answer = c.in_ok-answer-in-Descent.answer in
    subst (λ (proof : Proof). DueForProofTold places d c.args.book.now.rows c.args.gap proof answer.status answer.text.items) (sym c.in-Descent.is) (c.in_ok-answer-in-Descent.ensures places d same book)

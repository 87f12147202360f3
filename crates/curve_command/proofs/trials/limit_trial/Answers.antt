-- Over the book of the model with the limit.
use Rattle.std.proofs.Common.{refl}
use Rattle.curve_command.proofs.LimitValues.{place-of}
use Rattle.curve_command.proofs.TrialLaws.{book-told, fail-told}
use Rattle.curve_command.proofs.trials.limit_trial.Goals as goal

pub returns-in_ok-trial-in-Ok : goal.returns-in_ok-trial-in-Ok
returns-in_ok-trial-in-Ok g c =
    let d = c.args.model.now.facts in
    let limit = c.args.limit in
    let wanted = c.args.wanted in
    let book = c.in-Ok.book in
    let trial = c.in_ok-trial-in-Ok.trial in
    let at = place-of d.sets d limit.member refl c.sets.ensures.complete.sets c.requires.limit.member in
    let made = c.in-Ok.ensures.book in
    record {
      trial = book-told c.args.places d limit wanted at c.requires.limit.most book made trial
          (rw (c.sets.ensures.sets, c.limit_row-row.ensures) at c.in_ok-trial-in-Ok.ensures);
      book = record { most = limit.most; least = c.requires.limit.most.0; made = made };
    }

pub returns-in_ok-trial-in-Err : goal.returns-in_ok-trial-in-Err
returns-in_ok-trial-in-Err g c =
    let d = c.args.model.now.facts in
    let limit = c.args.limit in
    let trial = c.in_ok-trial-in-Err.trial in
    let at = place-of d.sets d limit.member refl c.sets-in-Err.ensures.complete.sets c.requires.limit.member in
    record {
      trial = fail-told c.args.places d limit c.args.wanted at c.requires.limit.most c.in-Err.fail c.in-Err.ensures.stopped trial
          (rw c.sets-in-Err.ensures.sets at c.in_ok-trial-in-Err.ensures);
      book = tt;
    }

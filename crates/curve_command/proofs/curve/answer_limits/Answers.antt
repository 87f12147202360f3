-- The text of all trials, or the answer of the first that refuses.
use Rattle.curve_command.proofs.Common.{map, inl, inr, AllByRecursion-weaker, IsFoundOf, IsPrintable, found_seen}
use Rattle.curve_command.proofs.TrialLists.{trials-of}
use Rattle.curve_command.proofs.curve.answer_limits.Goals as goal

pub curve_text-requires : goal.curve_text-requires
curve_text-requires g c =
    let model = c.args.model.now.facts in
    let told = rw c.in-Ended.is at c.in_ok-all.ensures in
    rw (c.deref.ensures.value, c.sets.ensures.sets)
    (AllByRecursion-weaker (IsFoundOf c.args.places model c.args.member c.args.wanted) (IsPrintable model.sets) (λ found is. is.1) c.in-Ended.all.items told.found)

pub returns-in_ok-text-in-Ended : goal.returns-in_ok-text-in-Ended
returns-in_ok-text-in-Ended g c =
    let d = c.args.model.now.facts in
    let all = c.in-Ended.all.items in
    let told = rw c.in-Ended.is at c.in_ok-all.ensures in
    inl (record {
      all = map found_seen all;
      whole = told.whole;
      trials = trials-of c.args.places d c.args.member c.args.wanted all told.found;
      status_is = rw c.deref-in-Ended.ensures.value at c.curve_status-status.ensures;
      text_is = rw (c.sets.ensures.sets, c.deref.ensures.value) at c.in_ok-text-in-Ended.ensures;
    })

pub returns-in-Refused : goal.returns-in-Refused
returns-in-Refused g c = inr (rw c.in-Refused.is at c.in_ok-all.ensures)

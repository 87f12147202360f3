-- Limit by limit.
use Rattle.curve_command.proofs.Common.{◌≡◌, ◌+◌, ◌++◌, ◌∷◌, [], List, ℤ, pos, map, drop, get_or, refl, sym, ap, ◌∙◌, subst, append-nil, drop_all, AllByRecursion, IsLimit, AllByRecursion-append, limits_in, IsFoundOf, TriedTells, found_seen, Found, Limit, each-at}
use Rattle.curve_command.proofs.LimitValues.{limit-fits}
use Rattle.curve_command.proofs.TrialLists.{limits-next, limits-split, trials-of}
use Rattle.curve_command.proofs.trials.trials.Goals as goal

pub returns-in-Refused : goal.returns-in-Refused
returns-in-Refused g c =
    let d = c.args.model.now.facts in
    let limits : List ℤ = c.args.limits.now in
    let i = c.loop-most.most-index in
    let all = c.loop-most.all.items in
    let wanted = c.args.wanted in
    let limit : Limit = record { member = c.args.member; most = get_or limits i (pos 0) } in
    let fits = limit-fits limit.most (each-at IsLimit limits i (pos 0) c.requires.limits c.loop-most-test.true) in
    let told = subst (λ (n : ℤ). TriedTells c.args.places d (record { member = c.args.member; most = n }) wanted c.in_ok-trial.field-0) fits c.in_ok-trial.ensures in
    record {
      earlier = map found_seen all;
      limit = limit.most;
      later = drop (i + 1) limits;
      split = limits-split all limits i (pos 0) c.loop-most-test.true c.loop-most.invariant.whole;
      trials = trials-of c.args.places d c.args.member wanted all c.loop-most.invariant.found;
      refuses = rw c.in-Refused.is at told.trial;
    }

pub loop-most-preserved : goal.loop-most-preserved
loop-most-preserved g c =
    let d = c.args.model.now.facts in
    let inv = c.loop-most.invariant in
    let limits : List ℤ = c.args.limits.now in
    let i = c.loop-most.most-index in
    let all = c.loop-most.all.items in
    let wanted = c.args.wanted in
    let limit : Limit = record { member = c.args.member; most = get_or limits i (pos 0) } in
    let found : Found = record { limit = limit.most; point = c.in-Ended.point } in
    let fits = limit-fits limit.most (each-at IsLimit limits i (pos 0) c.requires.limits c.loop-most-test.true) in
    let pushed : c.push.new.self.items ≡ all ++ found ∷ [] = c.in_ok-push-in-Ended.ensures.items ∙ ap (λ (n : ℤ). all ++ record { limit = n; point = c.in-Ended.point } ∷ []) fits in
    let told : TriedTells c.args.places d limit wanted c.in_ok-trial.field-0 =
    subst (λ (n : ℤ). TriedTells c.args.places d (record { member = c.args.member; most = n }) wanted c.in_ok-trial.field-0) fits c.in_ok-trial.ensures in
    record {
      whole = ap (λ (fs : List Found). limits_in (map found_seen fs) ++ drop (i + 1) limits) pushed ∙ limits-next all found limits i (pos 0) c.loop-most-test.true refl inv.whole;
      found =
          subst (AllByRecursion (IsFoundOf c.args.places d c.args.member wanted)) (sym pushed)
          (AllByRecursion-append (IsFoundOf c.args.places d c.args.member wanted) all (found ∷ []) inv.found
          (rw c.in-Ended.is at told.trial, tt));
      kept = told.book;
    }

pub returns : goal.returns
returns g c =
    let seen : List ℤ = limits_in (map found_seen c.loop-most.all.items) in
    record {
      whole = sym (append-nil seen) ∙ ap (λ (zs : List ℤ). seen ++ zs) (sym (drop_all c.loop-most.most-index c.args.limits.now c.loop-most-test.false)) ∙ c.loop-most.invariant.whole;
      found = c.loop-most.invariant.found;
    }

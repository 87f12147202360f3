-- One member after another.
use Rattle.data_warnings.proofs.Common.{ℕ, ◌<◌, ◌≤◌, Bool, sym, ◌∙◌, subst, any-begin, any-here, any-later, any-end, region, MakesOrTakes, is_so_of_some, count}
use Rattle.data_warnings.proofs.wide.is_used.Goals as goal

pub loop-r-init : goal.loop-r-init
loop-r-init c =
    let d = c.args.model.now.facts in record {
      end = c.count-r-end.ensures;
      rest = any-begin (λ r. is_so_of_some d (MakesOrTakes r c.args.t)) (count d region);
    }

pub returns-then-so : goal.returns-then-so
returns-then-so c =
    let d = c.args.model.now.facts in
    let test : ℕ → Bool = λ r. is_so_of_some d (MakesOrTakes r c.args.t) in
    let n = count d region in
    sym (c.loop-r.invariant.rest ∙ any-here test n c.loop-r.r (subst (λ k. c.loop-r.r < k) c.loop-r.invariant.end c.loop-r-test.true) (sym c.in_ok-so.ensures ∙ c.if-so.true))

pub loop-r-preserved : goal.loop-r-preserved
loop-r-preserved c =
    let d = c.args.model.now.facts in
    let test : ℕ → Bool = λ r. is_so_of_some d (MakesOrTakes r c.args.t) in
    let n = count d region in record {
      end = c.loop-r.invariant.end;
      rest = c.loop-r.invariant.rest ∙ any-later test n c.loop-r.r (subst (λ k. c.loop-r.r < k) c.loop-r.invariant.end c.loop-r-test.true) (sym c.in_ok-so.ensures ∙ c.if-so.false);
    }

pub returns : goal.returns
returns c =
    let d = c.args.model.now.facts in
    let test : ℕ → Bool = λ r. is_so_of_some d (MakesOrTakes r c.args.t) in
    let n = count d region in
    sym (c.loop-r.invariant.rest ∙ any-end test n c.loop-r.r (subst (λ k. k ≤ c.loop-r.r) c.loop-r.invariant.end c.loop-r-test.false))

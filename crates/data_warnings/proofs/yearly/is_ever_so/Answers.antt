-- One member after another.
use Rattle.data_warnings.proofs.Common.{ℕ, ◌<◌, ◌≤◌, Bool, sym, ◌∙◌, subst, any-begin, any-here, any-later, any-end, year, is_so_in, count}
use Rattle.data_warnings.proofs.yearly.is_ever_so.Goals as goal

pub loop-y-init : goal.loop-y-init
loop-y-init c =
    let d = c.args.model.now.facts in record {
      end = c.count-y-end.ensures;
      rest = any-begin (is_so_in d c.args.question) (count d year);
    }

pub returns-then-so : goal.returns-then-so
returns-then-so c =
    let d = c.args.model.now.facts in
    let test : ℕ → Bool = is_so_in d c.args.question in
    let n = count d year in
    sym (c.loop-y.invariant.rest ∙ any-here test n c.loop-y.y (subst (λ k. c.loop-y.y < k) c.loop-y.invariant.end c.loop-y-test.true) (sym c.in_ok-so.ensures ∙ c.if-so.true))

pub loop-y-preserved : goal.loop-y-preserved
loop-y-preserved c =
    let d = c.args.model.now.facts in
    let test : ℕ → Bool = is_so_in d c.args.question in
    let n = count d year in record {
      end = c.loop-y.invariant.end;
      rest = c.loop-y.invariant.rest ∙ any-later test n c.loop-y.y (subst (λ k. c.loop-y.y < k) c.loop-y.invariant.end c.loop-y-test.true) (sym c.in_ok-so.ensures ∙ c.if-so.false);
    }

pub returns : goal.returns
returns c =
    let d = c.args.model.now.facts in
    let test : ℕ → Bool = is_so_in d c.args.question in
    let n = count d year in
    sym (c.loop-y.invariant.rest ∙ any-end test n c.loop-y.y (subst (λ k. k ≤ c.loop-y.y) c.loop-y.invariant.end c.loop-y-test.false))

-- One member after another.
use Rattle.data_warnings.proofs.Common.{ℕ, ◌<◌, ◌≤◌, Bool, sym, ap, ◌∙◌, subst, any-begin, any-here, any-later, any-end, is_so, over, count}
use Rattle.data_warnings.proofs.questions.is_so_somewhere.Goals as goal

pub loop-i-init : goal.loop-i-init
loop-i-init c =
    let d = c.args.model.now.facts in record {
      end = c.count-i-end.ensures ∙ ap (count d) c.over.ensures.set;
      rest = any-begin (is_so d c.args.question) (count d (over c.args.question));
    }

pub returns-then-is_so : goal.returns-then-is_so
returns-then-is_so c =
    let d = c.args.model.now.facts in
    let test : ℕ → Bool = is_so d c.args.question in
    let n = count d (over c.args.question) in
    sym (c.loop-i.invariant.rest ∙ any-here test n c.loop-i.i (subst (λ k. c.loop-i.i < k) c.loop-i.invariant.end c.loop-i-test.true) (sym c.is_so.ensures ∙ c.if-is_so.true))

pub loop-i-preserved : goal.loop-i-preserved
loop-i-preserved c =
    let d = c.args.model.now.facts in
    let test : ℕ → Bool = is_so d c.args.question in
    let n = count d (over c.args.question) in record {
      end = c.loop-i.invariant.end;
      rest = c.loop-i.invariant.rest ∙ any-later test n c.loop-i.i (subst (λ k. c.loop-i.i < k) c.loop-i.invariant.end c.loop-i-test.true) (sym c.is_so.ensures ∙ c.if-is_so.false);
    }

pub returns : goal.returns
returns c =
    let d = c.args.model.now.facts in
    let test : ℕ → Bool = is_so d c.args.question in
    let n = count d (over c.args.question) in
    sym (c.loop-i.invariant.rest ∙ any-end test n c.loop-i.i (subst (λ k. k ≤ c.loop-i.i) c.loop-i.invariant.end c.loop-i-test.false))

-- One member after another.
use Rattle.data_warnings.proofs.Common.{ℕ, ◌<◌, ◌≤◌, Bool, sym, ap, ◌∙◌, subst, any-begin, any-here, any-later, any-end, is_so_of, wide_over, count}
use Rattle.data_warnings.proofs.wide.is_so_of_some.Goals as goal

pub loop-i-init : goal.loop-i-init
loop-i-init c =
    let d = c.args.model.now.facts in record {
      end = c.count-i-end.ensures ∙ ap (count d) c.wide_over.ensures.set;
      rest = any-begin (is_so_of d c.args.question) (count d (wide_over c.args.question));
    }

pub returns-then-so : goal.returns-then-so
returns-then-so c =
    let d = c.args.model.now.facts in
    let test : ℕ → Bool = is_so_of d c.args.question in
    let n = count d (wide_over c.args.question) in
    sym (c.loop-i.invariant.rest ∙ any-here test n c.loop-i.i (subst (λ k. c.loop-i.i < k) c.loop-i.invariant.end c.loop-i-test.true) (sym c.in_ok-so.ensures ∙ c.if-so.true))

pub loop-i-preserved : goal.loop-i-preserved
loop-i-preserved c =
    let d = c.args.model.now.facts in
    let test : ℕ → Bool = is_so_of d c.args.question in
    let n = count d (wide_over c.args.question) in record {
      end = c.loop-i.invariant.end;
      rest = c.loop-i.invariant.rest ∙ any-later test n c.loop-i.i (subst (λ k. c.loop-i.i < k) c.loop-i.invariant.end c.loop-i-test.true) (sym c.in_ok-so.ensures ∙ c.if-so.false);
    }

pub returns : goal.returns
returns c =
    let d = c.args.model.now.facts in
    let test : ℕ → Bool = is_so_of d c.args.question in
    let n = count d (wide_over c.args.question) in
    sym (c.loop-i.invariant.rest ∙ any-end test n c.loop-i.i (subst (λ k. k ≤ c.loop-i.i) c.loop-i.invariant.end c.loop-i-test.false))

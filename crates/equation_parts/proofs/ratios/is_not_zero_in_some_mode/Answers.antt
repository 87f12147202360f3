-- One mode after another.
use Rattle.equation_parts.proofs.Common.{ℕ, ◌<◌, ◌≤◌, Bool, sym, ap, ◌∙◌, subst, mode, count_of, any-begin, any-here, any-later, any-end}
use Rattle.equation_parts.proofs.ratios.is_not_zero_in_some_mode.Invariants.{is_there}
use Rattle.equation_parts.proofs.ratios.is_not_zero_in_some_mode.Goals as goal

pub loop-m-init : goal.loop-m-init
loop-m-init c =
    let d = c.args.model.now.facts in (
      c.count-m-end.ensures.count ∙ ap (λ sets. count_of (record d { sets = sets }) mode) c.sets.ensures.sets,
      any-begin (is_there d c.args.ratio c.args.r c.args.t c.args.f c.args.y) (count_of d mode),
    )

pub returns-then-is_not_zero : goal.returns-then-is_not_zero
returns-then-is_not_zero c =
    let d = c.args.model.now.facts in
    sym
    (c.loop-m.invariant.1
    ∙ any-here (is_there d c.args.ratio c.args.r c.args.t c.args.f c.args.y) (count_of d mode) c.loop-m.m (subst (λ n. c.loop-m.m < n) c.loop-m.invariant.0 c.loop-m-test.true)
    (sym c.is_not_zero.ensures ∙ c.if-is_not_zero.true))

pub loop-m-preserved : goal.loop-m-preserved
loop-m-preserved c =
    let d = c.args.model.now.facts in (
      c.loop-m.invariant.0,
      c.loop-m.invariant.1
          ∙ any-later (is_there d c.args.ratio c.args.r c.args.t c.args.f c.args.y) (count_of d mode) c.loop-m.m (subst (λ n. c.loop-m.m < n) c.loop-m.invariant.0 c.loop-m-test.true)
          (sym c.is_not_zero.ensures ∙ c.if-is_not_zero.false),
    )

pub returns : goal.returns
returns c =
    let d = c.args.model.now.facts in
    sym (c.loop-m.invariant.1 ∙ any-end (is_there d c.args.ratio c.args.r c.args.t c.args.f c.args.y) (count_of d mode) c.loop-m.m (subst (λ n. n ≤ c.loop-m.m) c.loop-m.invariant.0 c.loop-m-test.false))

use Rattle.std.proofs.Common.{◌≡◌, ◌∙◌, subst, drop, false, arith}
use Rattle.std.specs.List.{list_any}
use Rattle.result_pages.specs.FileNames.{is_slash}
use Rattle.result_pages.proofs.FileNameLaws.{after_slash_at, without_slash}
use Rattle.result_pages.proofs.names.last_segment.Goals as goal

pub returns-then-path-start-eq47 : goal.returns-then-path-start-eq47
returns-then-path-start-eq47 c =
    c.split_at.ensures.back ∙ after_slash_at c.args.path.now c.loop-start.start (omega (arith, c.loop-start-test.true)) c.if-path-start-eq47.true c.loop-start.invariant.none

pub returns : goal.returns
returns c =
    let none : c.loop-start.start ≡ 0 = omega (arith, c.loop-start-test.false) in
    without_slash c.args.path.now (subst (λ start. list_any is_slash (drop start c.args.path.now) ≡ false) none c.loop-start.invariant.none)

-- No sum of a free variable is rounded, and one that is kept is at most itself.
use Rattle.std.proofs.Common.{◌≡◌, ◌≢◌, false, Greater, IfSome, sym, subst, true≢false, ◌∙◌}
use Rattle.exact_num.specs.Value.{value_of}
use Rattle.exact_num.proofs.OrderLaws.{order_of-self}
use Rattle.row_core.specs.Kinds.{kind_is_free}
use Rattle.rounded_solver.proofs.carried_back.short_rest.Goals as goal

pub returns-in-Some-clause-free : goal.returns-in-Some-clause-free
returns-in-Some-clause-free c = λ free.
    let bounded : kind_is_free c.args.kind ≡ false = subst (λ places. IfSome places (λ p. kind_is_free c.args.kind ≡ false)) c.in-Some.is c.short_sum.ensures in
    absurd (true≢false (sym free ∙ bounded))

pub returns-in-None-clause-down : goal.returns-in-None-clause-down
returns-in-None-clause-down c = subst (λ o. o ≢ Greater) (sym (order_of-self (value_of c.args.rest))) (λ e. cc)

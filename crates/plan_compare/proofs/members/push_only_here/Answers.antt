-- Set by set.
use Rattle.plan_compare.proofs.Common.{ℕ, ◌+◌, List, ◌++◌, drop, get_or, sym, ap, ◌∙◌, append-nil, Fields, records_text, compared_sets, member_records}
use Rattle.plan_compare.proofs.TextLaws.{made_next, text_of_each, text_of_each-joined}
use Rattle.plan_compare.proofs.members.push_only_here.Goals as goal

pub loop-set-preserved : goal.loop-set-preserved
loop-set-preserved c =
    let records_of : ℕ → List Fields = member_records c.args.here.now c.args.there.now in
    let left : List ℕ = text_of_each records_of (drop (c.loop-set.set-index + 1) compared_sets) in
    ap (λ t. t ++ left) (c.in_ok-push_missing.ensures ∙ ap (λ (rows : List Fields). c.loop-set.out.items ++ records_text rows) (sym (append-nil (records_of (get_or compared_sets c.loop-set.set-index 0)))))
    ∙ made_next (text_of_each records_of) (text_of_each-joined records_of) compared_sets c.loop-set.set-index 0 c.loop-set.out.items _ c.loop-set-test.true c.loop-set.invariant

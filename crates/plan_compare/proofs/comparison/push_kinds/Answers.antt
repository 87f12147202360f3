-- Kind by kind.
use Rattle.plan_compare.proofs.Common.{ℕ, ◌+◌, List, ◌++◌, drop, sym, ap, ◌∙◌, append-nil, flat_map, compared_kinds, kind_text, side_of}
use Rattle.plan_compare.proofs.TextLaws.{flat-joined, made_next}
use Rattle.plan_compare.proofs.comparison.push_kinds.Goals as goal

pub loop-kind-preserved : goal.loop-kind-preserved
loop-kind-preserved c =
    let text : ℕ → List ℕ = kind_text (side_of c.args.first) (side_of c.args.second) in
    let left : List ℕ = flat_map text (drop (c.loop-kind.kind-index + 1) compared_kinds) in
    ap (λ t. t ++ left) (c.in_ok-push_kind.ensures ∙ ap (λ t. c.loop-kind.out.items ++ t) (sym (append-nil _)))
    ∙ made_next (flat_map text) (flat-joined text) compared_kinds c.loop-kind.kind-index 0 c.loop-kind.out.items _ c.loop-kind-test.true c.loop-kind.invariant

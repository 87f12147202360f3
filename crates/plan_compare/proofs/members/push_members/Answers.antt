-- One after the other.
use Rattle.plan_compare.proofs.Common.{List, ℕ, ◌++◌, ap, ◌∙◌, append_assoc, codes, on_ok_weaker, only_text}
use Rattle.plan_compare.proofs.members.push_members.Goals as goal

pub returns : goal.returns
returns c =
    let first : List ℕ = only_text (codes "only first\n") c.args.first.now c.args.second.now in
    let second : List ℕ = only_text (codes "only second\n") c.args.second.now c.args.first.now in
    on_ok_weaker c.push_only-2.result
    (λ last. last ∙ ap (λ t. t ++ second) c.in_ok-push_only.ensures ∙ append_assoc c.args.out.now.items first second)
    c.push_only-2.ensures

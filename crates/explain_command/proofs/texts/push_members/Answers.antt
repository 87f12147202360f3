-- Member by member.
use Rattle.explain_command.proofs.Common.{ℕ, List, ◌++◌, ◌+◌, drop, map, ap, ◌∙◌, flat_map, Frac, RowName, valued, IsRowOfSets, member_line, each-at, lines-next}
use Rattle.explain_command.proofs.texts.push_members.Goals as goal

pub push_member-requires : goal.push_member-requires
push_member-requires c =
    rw (← c.loop-name-item.is) at
    (each-at (λ (e : RowName × Frac). IsRowOfSets c.args.sets.now e.0) c.args.members.now c.loop-name.name-index c.loop-name-item.result c.requires c.loop-name-test.true)

pub loop-name-preserved : goal.loop-name-preserved
loop-name-preserved c =
    let line_of = member_line c.args.sets.now in
    let members = c.args.members.now in
    let i : ℕ = c.loop-name.name-index in
    let out : List ℕ = c.loop-name.out.items in
    let rest : List ℕ = flat_map line_of (map valued (drop (i + 1) members)) in
    let next = lines-next valued line_of members i c.loop-name-item.result out (c.args.out.now.items ++ flat_map line_of (map valued members)) c.loop-name-test.true c.loop-name.invariant in
    ap (λ (text : List ℕ). text ++ rest) (c.in_ok-push_member.ensures ∙ ap (λ (e : RowName × Frac). out ++ line_of (valued e)) c.loop-name-item.is) ∙ next

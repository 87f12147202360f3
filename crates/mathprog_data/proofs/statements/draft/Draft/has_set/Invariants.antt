use Rattle.mathprog_data.proofs.Common.{◌≡◌, drop, map, nat_eq, list_any, set_told, SetBlock}
use Rattle.mathprog_data.proofs.statements.draft.Draft.has_set.Given as goal

abbrev pub invariant-loop-block : goal.invariant-loop-block
invariant-loop-block l =
    list_any (λ (b : SetBlock). nat_eq l.set b.set) (map set_told (drop l.block-index l.self.sets.items))
    ≡ list_any (λ (b : SetBlock). nat_eq l.set b.set) (map set_told l.self.sets.items)

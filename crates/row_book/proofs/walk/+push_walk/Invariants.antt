use Rattle.row_book.proofs.Common.{◌≡◌, ◌-◌, ◌++◌, length, flat_map, range_with_len, subscripts_of, moved, walk}
use Rattle.row_book.proofs.walk.+push_walk.Given as goal

abbrev pub decreases-push_walk : goal.decreases-push_walk
decreases-push_walk l = length l.subscripts.now

-- the whole list is the list so far, and the walks from the values that are left
abbrev pub invariant-loop-position : goal.invariant-loop-position
invariant-loop-position l =
    l.initial.out.items ++ flat_map (λ v. walk l.model.facts (subscripts_of l.eq) l.more (moved l.start l.subscript v)) (range_with_len 0 l.position-end)
    ≡ l.out.items ++ flat_map (λ v. walk l.model.facts (subscripts_of l.eq) l.more (moved l.start l.subscript v)) (range_with_len l.position (l.position-end - l.position))

-- The terms of the timeslices from here on make of the left side what the equation's terms make.
use Rattle.limit_rows.proofs.Common.{◌≡◌, timeslice, no_terms, with_amounts, count_of, re3, target_production, with_rest_of}
use Rattle.limit_rows.proofs.renewable_target.re3.Given as goal

abbrev pub invariant-loop-l : goal.invariant-loop-l
invariant-loop-l l =
    (l.l-end ≡ count_of l.model.facts timeslice)
    × (with_amounts (re3 l.model.facts l.r l.y).terms (no_terms l.fn.name)
    ≡ with_rest_of (λ i. target_production l.model.facts l.r i l.y) (count_of l.model.facts timeslice) l.l l.left)

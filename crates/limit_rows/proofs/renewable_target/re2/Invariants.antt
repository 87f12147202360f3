-- The terms of the fuels from here on make of the left side what the equation's terms make.
use Rattle.limit_rows.proofs.Common.{◌≡◌, fuel, no_terms, with_amounts, count_of, re2, renewable_production, with_rest_of}
use Rattle.limit_rows.proofs.renewable_target.re2.Given as goal

abbrev pub invariant-loop-f : goal.invariant-loop-f
invariant-loop-f l =
    (l.f-end ≡ count_of l.model.facts fuel)
    × (with_amounts (re2 l.model.facts l.r l.y).terms (no_terms l.fn.name)
    ≡ with_rest_of (λ f. renewable_production l.model.facts l.r f l.y) (count_of l.model.facts fuel) l.f l.left)

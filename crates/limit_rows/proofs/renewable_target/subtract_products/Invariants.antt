-- The technologies that are left make of the left side what all of them make of the first.
use Rattle.limit_rows.proofs.Common.{◌≡◌, drop, with_amounts, products_of}
use Rattle.limit_rows.proofs.renewable_target.subtract_products.Given as goal

abbrev pub invariant-loop-maker : goal.invariant-loop-maker
invariant-loop-maker l =
    with_amounts (products_of l.model.facts l.r l.f l.y l.fn.makers) l.fn.left ≡ with_amounts (products_of l.model.facts l.r l.f l.y (drop l.maker-index l.makers)) l.left

-- The order of subscripts, variables and row names, as the derived comparisons of the code compute it.
use Rattle.std.specs.Ordering.{nat_cmp, ordering_then}
use Rattle.std.specs.declared.cmp.Ordering.{Ordering}
use Rattle.row_core.specs.declared.Index.{Index}
use Rattle.row_core.specs.declared.Var.{Var}
use Rattle.row_core.specs.declared.RowName.{RowName}

-- by region, other region, slice, technology, fuel, emission, mode and year, in this order
abbrev pub index_cmp : Index → Index → Ordering
index_cmp a b =
    ordering_then (nat_cmp a.region b.region)
    (ordering_then (nat_cmp a.other b.other)
    (ordering_then (nat_cmp a.slice b.slice)
    (ordering_then (nat_cmp a.tech b.tech)
    (ordering_then (nat_cmp a.fuel b.fuel)
    (ordering_then (nat_cmp a.emission b.emission)
    (ordering_then (nat_cmp a.mode b.mode) (nat_cmp a.year b.year)))))))

-- by kind, and then by subscripts
abbrev pub var_cmp : Var → Var → Ordering
var_cmp a b = ordering_then (nat_cmp a.kind b.kind) (index_cmp a.index b.index)

-- by equation, and then by subscripts
abbrev pub row_name_cmp : RowName → RowName → Ordering
row_name_cmp a b = ordering_then (nat_cmp a.eq b.eq) (index_cmp a.index b.index)

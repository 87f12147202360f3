-- Three factors, multiplied from left to right.
use Rattle.std.proofs.Common.{ap₂, ◌∙◌}
use Rattle.row_core.specs.Calculated.{product_of}
use Rattle.capacity_rows.proofs.capacity.year_capacity.Goals as goal

pub returns : goal.returns
returns c =
    c.times-2.ensures ∙ ap₂ product_of (c.times.ensures ∙ ap₂ product_of c.slices_capacity-slices.ensures c.value.ensures) c.value-2.ensures

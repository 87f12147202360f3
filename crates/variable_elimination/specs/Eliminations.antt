-- What a linear program has to be to those rows that define variables and those that don't: what is carried back rests on this alone.
use Rattle.std.specs.Prelude.{◌≡◌, pos, ◌<ℤ◌, true, ◌⊎◌, List, [], ◌∷◌, Option}
use Rattle.exact_num.specs.Value.{value_of}
use Rattle.exact_num.specs.declared.fraction.Frac.{Frac}
use Rattle.row_core.specs.declared.Row.{Row}
use Rattle.row_core.specs.declared.Var.{Var}
use Rattle.row_core.specs.Forms.{Form}
use Rattle.written_method.specs.declared.reduced.Reduced.{Reduced}
use Rattle.written_method.specs.Definitions.{definitions_of, others_of, rows_of, defined, avoids}
use Rattle.written_method.specs.Eliminated.{cost_variable}
use Rattle.variable_elimination.specs.CostRows.{IsCostReduced, IsCostOf}
use Rattle.variable_elimination.specs.Left.{AvoidAll}
use Rattle.variable_elimination.specs.ReducedRows.{IsReduction}
use Rattle.variable_elimination.specs.SoFar.{HaveNone}

-- each of the named rows in turn is reduced to the next of the rows, over the next of the scales, or passed over
abbrev pub AreAmongReductions : List Row → List Row → List Row → List Frac → Type 0
AreAmongReductions definitions [] rows scales = (rows ≡ []) × (scales ≡ [])
AreAmongReductions definitions (named ∷ others) rows scales =
    AreAmongReductions definitions others rows scales
    ⊎ ((new : Row) × (scale : Frac) × (more : List Row) × (more_scales : List Frac) × (rows ≡ new ∷ more) × (scales ≡ scale ∷ more_scales) × IsReduction definitions named (value_of scale) new × AreAmongReductions definitions others more more_scales)

-- some of the rows that define nothing, reduced, with no defined variable
pub record IsPartOf (rows : List Row) (defs : List (Option Var)) (reduced : Reduced) : Type 0 where
  pub reductions : AreAmongReductions (rows_of (definitions_of rows defs)) (others_of rows defs) reduced.rows.items reduced.scales.items
  pub without : AvoidAll (defined (definitions_of rows defs)) reduced.rows.items

-- and the row of the cost, reduced
pub record IsWhole (rows : List Row) (defs : List (Option Var)) (reduced : Reduced) : Type 0 where
  pub part : IsPartOf rows defs reduced
  pub plain : HaveNone cost_variable (rows_of (definitions_of rows defs))
  pub form : Form
  pub reduced_cost : IsCostReduced (rows_of (definitions_of rows defs)) defs form
  pub cost : IsCostOf form reduced
  pub without : avoids (defined (definitions_of rows defs)) reduced.cost.items ≡ true
  pub own : pos 0 <ℤ reduced.cost_own

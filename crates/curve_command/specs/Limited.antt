-- Plans at a limit on the emissions of the model period, whichever it is: the data with a fraction in place of ModelPeriodEmissionLimit of an emission in a region.
use Rattle.std.specs.Prelude.{◌≡◌, ◌≢◌, ℕ, ◌<◌, ℤ, pos, ◌*ℤ◌, ◌≤ℤ◌, true, false, List, [], ◌∷◌}
use Rattle.model_sets.specs.Data.{Data, Given}
use Rattle.model_sets.specs.declared.param_numbers.TheConstants.{MODEL_PERIOD_EMISSION_LIMIT}
use Rattle.param_tables.specs.Canonical.{given_value, with_given}
use Rattle.row_core.specs.declared.RowName.{RowName}
use Rattle.row_core.specs.declared.Var.{Var}
use Rattle.row_core.specs.declared.equation_numbers.TheConstants.{E9}
use Rattle.row_core.specs.Kinds.{kind_is_free}
use Rattle.named_equations.specs.Existence.{exists}
use Rattle.named_equations.specs.Indices.{at_re}
use Rattle.named_equations.specs.Instances.{is_instance, name_at}
use Rattle.named_equations.specs.Parameters.{emission_name, region_name}
use Rattle.named_equations.specs.Plans.{Meets}
use Rattle.named_equations.specs.Variables.{model_period_emissions}

-- E9 of the emission in the region
abbrev pub limit_at : ℕ → ℕ → RowName
limit_at r e = name_at E9 (at_re r e)

-- the index of the limit by the names of its members
abbrev pub limit_names : Data → ℕ → ℕ → List (List ℕ)
limit_names d r e = region_name d r ∷ emission_name d e ∷ []

-- the limit in the place of a value that is given
abbrev pub given_limit : Data → ℕ → ℕ → ℤ → Given
given_limit d r e z = given_value MODEL_PERIOD_EMISSION_LIMIT (limit_names d r e) z

-- the data with so many billionths as that limit, which is given before all other values
abbrev pub with_limit : Data → ℕ → ℕ → ℤ → Data
with_limit d r e z = with_given d MODEL_PERIOD_EMISSION_LIMIT (limit_names d r e) z

-- The plan meets every named equation but E9 of the emission in the region; its emissions of the model period are at most a over b; and every variable that exists
-- is at least 0 where its kind isn't free.
pub record FeasibleWithin (places : ℕ) (d : Data) (r e : ℕ) (a : ℤ) (b q : ℕ) (x : Var → ℤ) : Type 0 where
  pub positive : 0 < q
  pub others : (name : RowName) → is_instance d name ≡ true → name ≢ limit_at r e → Meets places d q x name
  pub within : (pos b *ℤ x (model_period_emissions r e)) ≤ℤ (a *ℤ pos q)
  pub signs : (v : Var) → exists d v ≡ true → kind_is_free v.kind ≡ false → pos 0 ≤ℤ x v

-- A row without its defined variables: each is removed in turn, by its expanded definition. A row that defines nothing keeps the fraction by which it was multiplied, its scale; definitions and the row of the cost have none.
use Rattle.std.specs.Prelude.{ℤ, List, [], ◌∷◌, ◌++◌, Option, Some, None, if◌then◌else◌}
use Rattle.std.specs.Ordering.{is_eq}
use Rattle.exact_num.specs.Formed.{product_formed}
use Rattle.exact_num.specs.Rational.{Rational, times}
use Rattle.row_core.specs.declared.Var.{Var}
use Rattle.row_core.specs.Combined.{combined, combined_scale, combined_formed}
use Rattle.row_core.specs.Forms.{Form}
use Rattle.row_core.specs.Numbers.{variables_of}
use Rattle.row_core.specs.Order.{var_cmp}

-- the expanded definition of a variable, if it has one: of those that were made last the first
abbrev pub definition_among : List (Var × Form) → Var → Option Form
definition_among [] v = None
definition_among (d ∷ ds) v = if is_eq (var_cmp v d.0) then Some d.1 else definition_among ds v

-- a form, and the fraction by which its row was multiplied in all, where that is kept
pub record Scaled : Type 0 where
  pub form : Form
  pub scale : Option Rational

-- the scale that is kept is multiplied; and the numbers that this forms
abbrev pub scaled_by : Option Rational → Rational → Option Rational
scaled_by None by = None
scaled_by (Some scale) by = Some (times scale by)

abbrev pub scaled_by_formed : Option Rational → Rational → List ℤ
scaled_by_formed None by = []
scaled_by_formed (Some scale) by = product_formed scale by

-- without a variable, if it is defined; and the numbers that this forms
abbrev pub without : Option Form → Var → Scaled → Scaled
without None v s = s
without (Some def) v s = record { form = combined s.form def v; scale = scaled_by s.scale (combined_scale s.form def v) }

abbrev pub without_formed : Option Form → Var → Scaled → List ℤ
without_formed None v s = []
without_formed (Some def) v s = combined_formed s.form def v ++ scaled_by_formed s.scale (combined_scale s.form def v)

-- without variables, one after another
abbrev pub without_all : List (Var × Form) → List Var → Scaled → Scaled
without_all defs [] s = s
without_all defs (v ∷ vs) s = without_all defs vs (without (definition_among defs v) v s)

abbrev pub without_all_formed : List (Var × Form) → List Var → Scaled → List ℤ
without_all_formed defs [] s = []
without_all_formed defs (v ∷ vs) s = without_formed (definition_among defs v) v s ++ without_all_formed defs vs (without (definition_among defs v) v s)

-- without its defined variables, in ascending order of variables; and the numbers that this forms
abbrev pub expanded : List (Var × Form) → Scaled → Scaled
expanded defs s = without_all defs (variables_of s.form.entries) s

abbrev pub expanded_formed : List (Var × Form) → Scaled → List ℤ
expanded_formed defs s = without_all_formed defs (variables_of s.form.entries) s

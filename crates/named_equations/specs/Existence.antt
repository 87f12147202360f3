-- The variables that exist: RateOfActivity, NewCapacity and Trade at every index, and each other one where an equation that defines it has an instance.
-- Every equation but EBa10 defines its variable at the index of its own; EBa10 defines a Trade at the index with the two regions exchanged.
-- Which equations define the variables of a kind comes of the table of equations; proofs/WhatDefines.antt shows it whole, with names.
use Rattle.std.specs.Prelude.{ℕ, Bool, false, ◌&&◌, ◌||◌, List, map, filter, nat_eq, nat_le}
use Rattle.std.specs.List.{list_any, flat_map, range_with_len}
use Rattle.std.specs.Option.{option_map_or}
use Rattle.model_sets.specs.Data.{Data}
use Rattle.row_core.specs.declared.Index.{Index}
use Rattle.row_core.specs.declared.Var.{Var}
use Rattle.row_core.specs.declared.kind_numbers.TheConstants.{KIND_COUNT, TRADE}
use Rattle.row_core.specs.Kinds.{kind_at}
use Rattle.named_equations.specs.Indices.{index}
use Rattle.named_equations.specs.Instances.{equation_of, equation_numbers, stands_at, indices, is_index}
use Rattle.named_equations.specs.Variables.{variable}

-- the kinds whose variables exist at every index, the first three: RateOfActivity, NewCapacity and Trade
abbrev pub exists_everywhere : ℕ → Bool
exists_everywhere kind = nat_le kind TRADE

-- the subscripts of a kind
abbrev pub subscripts_of_kind : ℕ → List ℕ
subscripts_of_kind kind = (kind_at kind).subscripts

-- the equation of this number defines variables of this kind, as it does at the index of zeros
abbrev pub defines_kind : ℕ → ℕ → Bool
defines_kind kind eq = option_map_or (λ v. nat_eq v.kind kind) ((equation_of eq).defines (index 0 0 0 0 0 0 0 0)) false

-- the numbers of the equations that define variables of this kind
abbrev pub definers : ℕ → List ℕ
definers kind = filter (defines_kind kind) equation_numbers

-- the variable of this kind exists at this index, whose subscripts lie in their sets
abbrev pub exists_at : Data → ℕ → Index → Bool
exists_at d kind i = exists_everywhere kind || list_any (λ eq. stands_at d eq i) (definers kind)

-- the numbers of the kinds
abbrev pub kind_numbers : List ℕ
kind_numbers = range_with_len 1 KIND_COUNT

-- the variables of one kind that exist
abbrev pub variables_of_kind : Data → ℕ → List Var
variables_of_kind d kind = map (variable kind) (filter (exists_at d kind) (indices d (subscripts_of_kind kind)))

-- the variables that exist, by kind and then by subscripts
abbrev pub all_variables : Data → List Var
all_variables d = flat_map (variables_of_kind d) kind_numbers

-- the variable exists
abbrev pub exists : Data → Var → Bool
exists d v = list_any (nat_eq v.kind) kind_numbers && is_index d (subscripts_of_kind v.kind) v.index && exists_at d v.kind v.index

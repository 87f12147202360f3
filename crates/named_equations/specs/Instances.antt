-- The instances of the named equations: all pairs of an equation and an index at which the data have it, by equation and then by subscripts.
use Rattle.std.specs.Prelude.{ℕ, pos, Bool, false, ◌&&◌, List, [], ◌∷◌, map, filter, nat_eq, nat_lt, Option, slice_index_or, if◌then◌else◌}
use Rattle.std.specs.List.{list_any, flat_map, range_with_len}
use Rattle.model_sets.specs.Data.{Data}
use Rattle.model_sets.specs.Names.{region, technology, fuel, emission, mode, timeslice, year}
use Rattle.row_core.specs.declared.Index.{Index}
use Rattle.row_core.specs.declared.RowName.{RowName}
use Rattle.row_core.specs.declared.Var.{Var}
use Rattle.row_core.specs.declared.equation_numbers.TheConstants.{EQUATION_COUNT}
use Rattle.row_core.specs.Equations.{equation_at}
use Rattle.row_core.specs.Subscripts as place
use Rattle.named_equations.specs.Indices.{index}
use Rattle.named_equations.specs.Notation.{◌equals◌}
use Rattle.named_equations.specs.Positions.{count_of, positions}
use Rattle.named_equations.specs.Table.{NamedEquation, named_equations, inequality}

-- ---- indices

-- the set over which the subscript at this place runs
abbrev pub set_at : ℕ → ℕ
set_at place = slice_index_or (region ∷ region ∷ timeslice ∷ technology ∷ fuel ∷ emission ∷ mode ∷ year ∷ []) place 0

-- the subscript at this place is one of these
abbrev pub is_one_of : List ℕ → ℕ → Bool
is_one_of subscripts place = list_any (nat_eq place) subscripts

-- the values of the subscript at this place: the positions of its set, or 0 alone where it isn't one of these
abbrev pub values_at : Data → List ℕ → ℕ → List ℕ
values_at d subscripts place = if is_one_of subscripts place then positions d (set_at place) else 0 ∷ []

-- for each of these numbers in turn, what f lists
abbrev pub each : List ℕ → (ℕ → List Index) → List Index
each values f = flat_map f values

-- all indices with these subscripts, in the order of the fields of an index
abbrev pub indices : Data → List ℕ → List Index
indices d subscripts =
    each (values_at d subscripts place.r) (λ r.
    each (values_at d subscripts place.rr) (λ rr.
    each (values_at d subscripts place.l) (λ l.
    each (values_at d subscripts place.t) (λ t.
    each (values_at d subscripts place.f) (λ f.
    each (values_at d subscripts place.e) (λ e.
    each (values_at d subscripts place.m) (λ m.
    each (values_at d subscripts place.y) (λ y.
    index r rr l t f e m y ∷ []))))))))

-- i is a value of the subscript at this place
abbrev pub is_value_at : Data → List ℕ → ℕ → ℕ → Bool
is_value_at d subscripts place i = if is_one_of subscripts place then nat_lt i (count_of d (set_at place)) else nat_eq i 0

-- the index is one of those with these subscripts
abbrev pub is_index : Data → List ℕ → Index → Bool
is_index d subscripts i =
    is_value_at d subscripts place.r i.region && is_value_at d subscripts place.rr i.other && is_value_at d subscripts place.l i.slice
    && is_value_at d subscripts place.t i.tech && is_value_at d subscripts place.f i.fuel && is_value_at d subscripts place.e i.emission
    && is_value_at d subscripts place.m i.mode && is_value_at d subscripts place.y i.year

-- ---- instances

-- what stands for an equation of another number: it has no instance and never holds
abbrev pub no_equation : NamedEquation
no_equation = inequality (λ d i. false) (λ d q x i. pos 0 equals pos 1)

-- the equation of this number, from 1 on
abbrev pub equation_of : ℕ → NamedEquation
equation_of eq = slice_index_or (no_equation ∷ named_equations) eq no_equation

-- the subscripts of the equation of a number
abbrev pub subscripts_of : ℕ → List ℕ
subscripts_of eq = (equation_at eq).subscripts

-- the equation has an instance at this index, whose subscripts lie in their sets
abbrev pub stands_at : Data → ℕ → Index → Bool
stands_at d eq i = (equation_of eq).stands d i

-- the numbers of the equations
abbrev pub equation_numbers : List ℕ
equation_numbers = range_with_len 1 EQUATION_COUNT

-- the equation at the index
abbrev pub name_at : ℕ → Index → RowName
name_at eq i = record { eq = eq; index = i }

-- the instances of one equation
abbrev pub instances_of : Data → ℕ → List RowName
instances_of d eq = map (name_at eq) (filter (stands_at d eq) (indices d (subscripts_of eq)))

-- all instances
abbrev pub instances : Data → List RowName
instances d = flat_map (instances_of d) equation_numbers

-- the equation has an instance at the index
abbrev pub is_instance : Data → RowName → Bool
is_instance d name = list_any (nat_eq name.eq) equation_numbers && is_index d (subscripts_of name.eq) name.index && stands_at d name.eq name.index

-- the variable that the instance defines
abbrev pub variable_of : RowName → Option Var
variable_of name = (equation_of name.eq).defines name.index

-- Walking through the subscripts of an equation, and its instances region by region. Only private functions cite these.
use Rattle.std.specs.Prelude.{◌≡◌, ℕ, ◌≤◌, ◌⊎◌, Bool, true, List, [], ◌∷◌, ◌++◌, length, filter, Some, if◌then◌else◌}
use Rattle.std.specs.List.{AllByRecursion, flat_map}
use Rattle.model_sets.specs.Data.{Data}
use Rattle.model_sets.specs.Names as sets
use Rattle.row_core.specs.declared.Index.{Index}
use Rattle.row_core.specs.declared.RowName.{RowName}
use Rattle.row_core.specs.declared.Var.{Var}
use Rattle.row_core.specs.Subscripts as place
use Rattle.named_equations.specs.Indices.{at_r}
use Rattle.named_equations.specs.Instances.{values_at, subscripts_of, stands_at, name_at, variable_of}
use Rattle.row_book.specs.declared.walk.Subscript.{Subscript}
use Rattle.row_book.specs.declared.walk.Subscript.TheVariants.{Region, Other, Slice, Tech, Fuel, Emission, Mode, Year}

-- ---- walks

-- the place of the subscript among the fields of an index
abbrev pub place_of : Subscript → ℕ
place_of Region = place.r
place_of Other = place.rr
place_of Slice = place.l
place_of Tech = place.t
place_of Fuel = place.f
place_of Emission = place.e
place_of Mode = place.m
place_of Year = place.y

-- the set over which it runs
abbrev pub set_of : Subscript → ℕ
set_of Region = sets.region
set_of Other = sets.region
set_of Slice = sets.timeslice
set_of Tech = sets.technology
set_of Fuel = sets.fuel
set_of Emission = sets.emission
set_of Mode = sets.mode
set_of Year = sets.year

-- the index with another position of the subscript
abbrev pub moved : Index → Subscript → ℕ → Index
moved i Region v = record i { region = v }
moved i Other v = record i { other = v }
moved i Slice v = record i { slice = v }
moved i Tech v = record i { tech = v }
moved i Fuel v = record i { fuel = v }
moved i Emission v = record i { emission = v }
moved i Mode v = record i { mode = v }
moved i Year v = record i { year = v }

-- the indices that come from this one when each of these subscripts in turn takes each of its values
abbrev pub walk : Data → List ℕ → List Subscript → Index → List Index
walk d subscripts [] i = i ∷ []
walk d subscripts (s ∷ more) i = flat_map (λ v. walk d subscripts more (moved i s v)) (values_at d subscripts (place_of s))

-- ---- instances, region by region

-- the subscripts of which it doesn't depend whether an equation has an instance, the region aside
abbrev pub outer_subscripts : List Subscript
outer_subscripts = Other ∷ Slice ∷ []

-- those of which it may depend
abbrev pub inner_subscripts : List Subscript
inner_subscripts = Tech ∷ Fuel ∷ Emission ∷ Mode ∷ Year ∷ []

-- the outer subscripts in a region, in order, with 0 for the others
abbrev pub outers_of : Data → ℕ → ℕ → List Index
outers_of d eq r = walk d (subscripts_of eq) outer_subscripts (at_r r)

-- the inner subscripts in a region, in order, with 0 for the others
abbrev pub inners_of : Data → ℕ → ℕ → List Index
inners_of d eq r = walk d (subscripts_of eq) inner_subscripts (at_r r)

-- the inner subscripts of one index with the outer ones of another
abbrev pub joined : Index → Index → Index
joined outer cell = record cell { other = outer.other; slice = outer.slice }

-- the equation at the index, where it has an instance there
abbrev pub instance_at : Data → ℕ → Index → List RowName
instance_at d eq i = if stands_at d eq i then name_at eq i ∷ [] else []

-- the instances with these outer subscripts and these inner ones, in order
abbrev pub instances_with : Data → ℕ → List Index → Index → List RowName
instances_with d eq cells outer = flat_map (λ cell. instance_at d eq (joined outer cell)) cells

-- the instances of the equation in a region, in order
abbrev pub instances_in : Data → ℕ → ℕ → List RowName
instances_in d eq r = flat_map (instances_with d eq (inners_of d eq r)) (outers_of d eq r)

-- the inner subscripts are some of those in a region, in order, and among them are all with which the equation has an instance
pub record AreAsked (d : Data) (eq r : ℕ) (cells : List Index) : Type 0 where
  pub asked : Index → Bool
  pub are : cells ≡ filter asked (inners_of d eq r)
  pub every : (outer cell : Index) → stands_at d eq (joined outer cell) ≡ true → asked cell ≡ true

-- with each of the inner subscripts, whatever the outer ones, the equation has an instance, and each of its instances defines a variable
pub record HaveRows (d : Data) (eq : ℕ) (cells : List Index) : Type 0 where
  pub stand : (outer : Index) → AllByRecursion (λ cell. stands_at d eq (joined outer cell) ≡ true) cells
  pub define : (i : Index) → (v : Var) × (variable_of (name_at eq i) ≡ Some v)

-- the inner subscripts are the first of those that are asked: all of them, or as many as this, of which each has rows
pub record AreFirstAsked (d : Data) (eq r most : ℕ) (cells : List Index) : Type 0 where
  pub rest : List Index
  pub asked : AreAsked d eq r (cells ++ rest)
  pub enough : (rest ≡ []) ⊎ ((most ≤ length cells) × HaveRows d eq cells)

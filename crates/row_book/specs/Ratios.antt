-- Where ratios aren't 0 in a region. Only private functions cite these.
use Rattle.std.specs.Prelude.{ℕ, Bool, List, [], ◌∷◌, filter}
use Rattle.std.specs.List.{list_any}
use Rattle.model_sets.specs.Data.{Data}
use Rattle.row_core.specs.declared.Index.{Index}
use Rattle.row_core.specs.Subscripts as place
use Rattle.param_tables.specs.declared.ratios.ActivityRatio.{ActivityRatio}
use Rattle.param_tables.specs.declared.ratios.ActivityRatio.TheVariants.{Input, Output, Emission}
use Rattle.param_tables.specs.declared.ratios.RatioIndex.{RatioIndex}
use Rattle.named_equations.specs.Indices.{at_r, by_rtemy, by_rtfmy, index}
use Rattle.named_equations.specs.Positions.{modes}
use Rattle.named_equations.specs.Where.{emits_in_mode, produces_in_mode, uses_in_mode}
use Rattle.row_book.specs.Walks.{walk, inner_subscripts}

-- the subscripts of a ratio's parameter
abbrev pub ratio_subscripts : ActivityRatio → List ℕ
ratio_subscripts Input = place.r ∷ place.t ∷ place.f ∷ place.m ∷ place.y ∷ []
ratio_subscripts Output = place.r ∷ place.t ∷ place.f ∷ place.m ∷ place.y ∷ []
ratio_subscripts Emission = place.r ∷ place.t ∷ place.e ∷ place.m ∷ place.y ∷ []

-- the same but for the mode
abbrev pub subscripts_but_mode : ActivityRatio → List ℕ
subscripts_but_mode Input = place.r ∷ place.t ∷ place.f ∷ place.y ∷ []
subscripts_but_mode Output = place.r ∷ place.t ∷ place.f ∷ place.y ∷ []
subscripts_but_mode Emission = place.r ∷ place.t ∷ place.e ∷ place.y ∷ []

-- an index of a ratio in the region, with 0 for the other subscripts
abbrev pub cell_at : ActivityRatio → ℕ → RatioIndex → Index
cell_at Input r i = index r 0 0 i.technology i.commodity 0 i.mode i.year
cell_at Output r i = index r 0 0 i.technology i.commodity 0 i.mode i.year
cell_at Emission r i = index r 0 0 i.technology 0 i.commodity i.mode i.year

-- the ratio isn't 0 at the index
abbrev pub has_ratio : Data → ActivityRatio → Index → Bool
has_ratio d Input i = by_rtfmy (uses_in_mode d) i
has_ratio d Output i = by_rtfmy (produces_in_mode d) i
has_ratio d Emission i = by_rtemy (emits_in_mode d) i

-- the index with another mode
abbrev pub with_mode : ℕ → Index → Index
with_mode m i = record i { mode = m }

-- the ratio isn't 0 at the index in some mode
abbrev pub has_some_ratio : Data → ActivityRatio → Index → Bool
has_some_ratio d ratio i = list_any (λ m. has_ratio d ratio (with_mode m i)) (modes d)

-- the indices of a region where the ratio isn't 0, in order
abbrev pub cells_of_ratio : Data → ActivityRatio → ℕ → List Index
cells_of_ratio d ratio r = filter (has_ratio d ratio) (walk d (ratio_subscripts ratio) inner_subscripts (at_r r))

-- those without a mode where it isn't 0 in some mode, in order
abbrev pub cells_of_some_mode : Data → ActivityRatio → ℕ → List Index
cells_of_some_mode d ratio r = filter (has_some_ratio d ratio) (walk d (subscripts_but_mode ratio) inner_subscripts (at_r r))

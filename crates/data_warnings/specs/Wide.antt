-- Questions on the members of a set over all years, which are asked of whether it is so of some of them.
use Rattle.std.specs.Prelude.{ℕ, ◌<◌, Bool}
use Rattle.std.specs.List.{list_any}
use Rattle.model_sets.specs.Data.{Data}
use Rattle.model_sets.specs.Names.{region, technology, fuel}
use Rattle.data_warnings.specs.declared.wide.Wide.{Wide}
use Rattle.data_warnings.specs.declared.wide.Wide.TheVariants as of_some
use Rattle.data_warnings.specs.declared.yearly.Yearly.TheVariants as ever
use Rattle.data_warnings.specs.Values.{count, positions}
use Rattle.data_warnings.specs.Yearly.{ceiling_over, is_ever_so}

-- the set over which the question goes
abbrev pub wide_over : Wide → ℕ
wide_over (of_some.Makes r t) = fuel
wide_over (of_some.MakesOrTakes r t) = fuel
wide_over (of_some.Towers ceiling r) = ceiling_over ceiling

-- its positions are those of members
abbrev pub IsAskedWidely : Data → Wide → Type 0
IsAskedWidely d (of_some.Makes r t) = (r < count d region) × (t < count d technology)
IsAskedWidely d (of_some.MakesOrTakes r t) = (r < count d region) × (t < count d technology)
IsAskedWidely d (of_some.Towers ceiling r) = r < count d region

-- it is so of the member at this position
abbrev pub is_so_of : Data → Wide → ℕ → Bool
is_so_of d (of_some.Makes r t) f = is_ever_so d (ever.Makes r t f)
is_so_of d (of_some.MakesOrTakes r t) f = is_ever_so d (ever.MakesOrTakes r t f)
is_so_of d (of_some.Towers ceiling r) i = is_ever_so d (ever.Towers ceiling r i)

-- it is so of some member
abbrev pub is_so_of_some : Data → Wide → Bool
is_so_of_some d question = list_any (is_so_of d question) (positions d (wide_over question))

-- in some region the technology makes or takes something
abbrev pub is_used : Data → ℕ → Bool
is_used d t = list_any (λ r. is_so_of_some d (of_some.MakesOrTakes r t)) (positions d region)

-- The eight subscripts of an index, each a position in its set, by the letters of the long code: r region, rr other region, l timeslice,
-- t technology, f fuel, e emission, m mode of operation, y year. For each choice of some of them: the index that has 0 for the others (at_..),
-- and a function of just these, taken at an index (by_..).
use Rattle.std.specs.Prelude.{ℕ}
use Rattle.row_core.specs.declared.Index.{Index}

-- the index with these eight subscripts
abbrev pub index : ℕ → ℕ → ℕ → ℕ → ℕ → ℕ → ℕ → ℕ → Index
index r rr l t f e m y = record { region = r; other = rr; slice = l; tech = t; fuel = f; emission = e; mode = m; year = y }

-- the subscript r alone
abbrev pub at_r : ℕ → Index
at_r r = index r 0 0 0 0 0 0 0

-- the subscripts r, rr, l, f, y
abbrev pub at_rrrlfy : ℕ → ℕ → ℕ → ℕ → ℕ → Index
at_rrrlfy r rr l f y = index r rr l 0 f 0 0 y

-- the subscripts r, rr, f, y
abbrev pub at_rrrfy : ℕ → ℕ → ℕ → ℕ → Index
at_rrrfy r rr f y = index r rr 0 0 f 0 0 y

-- the subscripts r, l, t, f, m, y
abbrev pub at_rltfmy : ℕ → ℕ → ℕ → ℕ → ℕ → ℕ → Index
at_rltfmy r l t f m y = index r 0 l t f 0 m y

-- the subscripts r, l, t, f, y
abbrev pub at_rltfy : ℕ → ℕ → ℕ → ℕ → ℕ → Index
at_rltfy r l t f y = index r 0 l t f 0 0 y

-- the subscripts r, l, t, m, y
abbrev pub at_rltmy : ℕ → ℕ → ℕ → ℕ → ℕ → Index
at_rltmy r l t m y = index r 0 l t 0 0 m y

-- the subscripts r, l, t, y
abbrev pub at_rlty : ℕ → ℕ → ℕ → ℕ → Index
at_rlty r l t y = index r 0 l t 0 0 0 y

-- the subscripts r, l, f, y
abbrev pub at_rlfy : ℕ → ℕ → ℕ → ℕ → Index
at_rlfy r l f y = index r 0 l 0 f 0 0 y

-- the subscripts r, l, y
abbrev pub at_rly : ℕ → ℕ → ℕ → Index
at_rly r l y = index r 0 l 0 0 0 0 y

-- the subscripts r, t
abbrev pub at_rt : ℕ → ℕ → Index
at_rt r t = index r 0 0 t 0 0 0 0

-- the subscripts r, t, f, y
abbrev pub at_rtfy : ℕ → ℕ → ℕ → ℕ → Index
at_rtfy r t f y = index r 0 0 t f 0 0 y

-- the subscripts r, t, e, m, y
abbrev pub at_rtemy : ℕ → ℕ → ℕ → ℕ → ℕ → Index
at_rtemy r t e m y = index r 0 0 t 0 e m y

-- the subscripts r, t, e, y
abbrev pub at_rtey : ℕ → ℕ → ℕ → ℕ → Index
at_rtey r t e y = index r 0 0 t 0 e 0 y

-- the subscripts r, t, m, y
abbrev pub at_rtmy : ℕ → ℕ → ℕ → ℕ → Index
at_rtmy r t m y = index r 0 0 t 0 0 m y

-- the subscripts r, t, y
abbrev pub at_rty : ℕ → ℕ → ℕ → Index
at_rty r t y = index r 0 0 t 0 0 0 y

-- the subscripts r, f, y
abbrev pub at_rfy : ℕ → ℕ → ℕ → Index
at_rfy r f y = index r 0 0 0 f 0 0 y

-- the subscripts r, e
abbrev pub at_re : ℕ → ℕ → Index
at_re r e = index r 0 0 0 0 e 0 0

-- the subscripts r, e, y
abbrev pub at_rey : ℕ → ℕ → ℕ → Index
at_rey r e y = index r 0 0 0 0 e 0 y

-- the subscripts r, y
abbrev pub at_ry : ℕ → ℕ → Index
at_ry r y = index r 0 0 0 0 0 0 y

-- taken at the subscript r of an index
abbrev pub by_r : {A : Type 0} → (ℕ → A) → Index → A
by_r g i = g i.region

-- taken at the subscripts r, rr, l, f, y of an index
abbrev pub by_rrrlfy : {A : Type 0} → (ℕ → ℕ → ℕ → ℕ → ℕ → A) → Index → A
by_rrrlfy g i = g i.region i.other i.slice i.fuel i.year

-- taken at the subscripts r, rr, f, y of an index
abbrev pub by_rrrfy : {A : Type 0} → (ℕ → ℕ → ℕ → ℕ → A) → Index → A
by_rrrfy g i = g i.region i.other i.fuel i.year

-- taken at the subscripts r, l, t, f, m, y of an index
abbrev pub by_rltfmy : {A : Type 0} → (ℕ → ℕ → ℕ → ℕ → ℕ → ℕ → A) → Index → A
by_rltfmy g i = g i.region i.slice i.tech i.fuel i.mode i.year

-- taken at the subscripts r, l, t, f, y of an index
abbrev pub by_rltfy : {A : Type 0} → (ℕ → ℕ → ℕ → ℕ → ℕ → A) → Index → A
by_rltfy g i = g i.region i.slice i.tech i.fuel i.year

-- taken at the subscripts r, l, t, y of an index
abbrev pub by_rlty : {A : Type 0} → (ℕ → ℕ → ℕ → ℕ → A) → Index → A
by_rlty g i = g i.region i.slice i.tech i.year

-- taken at the subscripts r, l, f, y of an index
abbrev pub by_rlfy : {A : Type 0} → (ℕ → ℕ → ℕ → ℕ → A) → Index → A
by_rlfy g i = g i.region i.slice i.fuel i.year

-- taken at the subscripts r, l, y of an index
abbrev pub by_rly : {A : Type 0} → (ℕ → ℕ → ℕ → A) → Index → A
by_rly g i = g i.region i.slice i.year

-- taken at the subscripts r, t of an index
abbrev pub by_rt : {A : Type 0} → (ℕ → ℕ → A) → Index → A
by_rt g i = g i.region i.tech

-- taken at the subscripts r, t, f, y of an index
abbrev pub by_rtfy : {A : Type 0} → (ℕ → ℕ → ℕ → ℕ → A) → Index → A
by_rtfy g i = g i.region i.tech i.fuel i.year

-- taken at the subscripts r, t, f, m, y of an index
abbrev pub by_rtfmy : {A : Type 0} → (ℕ → ℕ → ℕ → ℕ → ℕ → A) → Index → A
by_rtfmy g i = g i.region i.tech i.fuel i.mode i.year

-- taken at the subscripts r, t, e, m, y of an index
abbrev pub by_rtemy : {A : Type 0} → (ℕ → ℕ → ℕ → ℕ → ℕ → A) → Index → A
by_rtemy g i = g i.region i.tech i.emission i.mode i.year

-- taken at the subscripts r, t, e, y of an index
abbrev pub by_rtey : {A : Type 0} → (ℕ → ℕ → ℕ → ℕ → A) → Index → A
by_rtey g i = g i.region i.tech i.emission i.year

-- taken at the subscripts r, t, m, y of an index
abbrev pub by_rtmy : {A : Type 0} → (ℕ → ℕ → ℕ → ℕ → A) → Index → A
by_rtmy g i = g i.region i.tech i.mode i.year

-- taken at the subscripts r, t, y of an index
abbrev pub by_rty : {A : Type 0} → (ℕ → ℕ → ℕ → A) → Index → A
by_rty g i = g i.region i.tech i.year

-- taken at the subscripts r, f, y of an index
abbrev pub by_rfy : {A : Type 0} → (ℕ → ℕ → ℕ → A) → Index → A
by_rfy g i = g i.region i.fuel i.year

-- taken at the subscripts r, e of an index
abbrev pub by_re : {A : Type 0} → (ℕ → ℕ → A) → Index → A
by_re g i = g i.region i.emission

-- taken at the subscripts r, e, y of an index
abbrev pub by_rey : {A : Type 0} → (ℕ → ℕ → ℕ → A) → Index → A
by_rey g i = g i.region i.emission i.year

-- taken at the subscripts r, y of an index
abbrev pub by_ry : {A : Type 0} → (ℕ → ℕ → A) → Index → A
by_ry g i = g i.region i.year

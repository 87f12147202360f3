-- The columns of a kind's table: the sets of its subscripts, and VALUE. Where otoole has a result file of the kind (https://otoole.readthedocs.io), they are that file's.
use Rattle.std.specs.Prelude.{ℕ, Bool, ◌==◌, ◌||◌, List, [], ◌∷◌, ◌++◌, map, filter, codes, if◌then◌else◌}
use Rattle.row_core.specs.declared.kind_numbers.TheConstants as k
use Rattle.row_core.specs.Kinds.{kind_has}
use Rattle.row_core.specs.Subscripts.{r, rr, l, t, f, e, m, y}
use Rattle.plan_files.specs.Files.{Fields}

-- the head of the column of the subscript at a place: the set that it runs over; the other region of a trade is `_REGION`
abbrev pub column_word : ℕ → List ℕ
column_word place =
    if place == r then codes "REGION"
    else if place == rr then codes "_REGION"
    else if place == l then codes "TIMESLICE"
    else if place == t then codes "TECHNOLOGY"
    else if place == f then codes "FUEL"
    else if place == e then codes "EMISSION"
    else if place == m then codes "MODE_OF_OPERATION"
    else codes "YEAR"

-- the order of the columns, that of the long code: it is the order of `Index`, but of three kinds
abbrev pub by_mode : ℕ → Bool
by_mode kind = kind == k.RATE_OF_PRODUCTION_BY_TECHNOLOGY_BY_MODE || kind == k.RATE_OF_USE_BY_TECHNOLOGY_BY_MODE

abbrev pub column_order : ℕ → List ℕ
column_order kind =
    if by_mode kind then r ∷ rr ∷ l ∷ t ∷ m ∷ f ∷ e ∷ y ∷ []
    else if kind == k.RATE_OF_TOTAL_ACTIVITY then r ∷ rr ∷ t ∷ l ∷ f ∷ e ∷ m ∷ y ∷ []
    else r ∷ rr ∷ l ∷ t ∷ f ∷ e ∷ m ∷ y ∷ []

-- the places of the subscripts that the kind has, in the order of its columns
abbrev pub columns : ℕ → List ℕ
columns kind = filter (kind_has kind) (column_order kind)

-- the first record of a table
abbrev pub header_of : List ℕ → Fields
header_of places = map column_word places ++ codes "VALUE" ∷ []

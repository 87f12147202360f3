-- In rows that ascend by name each row is found by its name.
use Rattle.result_tables.proofs.Common.{◌≡◌, Bool, true, false, List, [], ◌∷◌, map, filter, refl, sym, ap, ◌∙◌, if◌then◌else◌, AllByRecursion, Rational, name_of_row, Row, RowName, number_at, entries_of, is_balance, named_price, price_at, priced, prices, production_of}
use Rattle.std.specs.Ordering.{is_eq, is_lt, ordering_reverse}
use Rattle.std.specs.declared.cmp.Ordering.{Ordering}
use Rattle.std.specs.declared.cmp.Ordering.TheVariants.{Less, Equal, Greater}
use Rattle.row_core.specs.Numbers.{ascends}
use Rattle.row_core.specs.Order.{row_name_cmp}
use Rattle.row_core.proofs.AscendingLaws.{Less-from_test, ascends-skip, ascends-tail, both_passed}
use Rattle.row_core.proofs.Orders.{row_name_cmp_total}

alike : (o : Ordering) → o ≡ ordering_reverse o → o ≡ Equal
alike Less h = absurd (cc h)
alike Equal h = refl
alike Greater h = absurd (cc h)

same_name : (name : RowName) → row_name_cmp name name ≡ Equal
same_name name = alike (row_name_cmp name name) (row_name_cmp_total.antisymm name name)

-- the row is the first of its name
abbrev Finds : List Row → Row → Type 0
Finds rows row = entries_of rows row.name ≡ row.entries.items

abbrev IsAfter : RowName → Row → Type 0
IsAfter name row = row_name_cmp name row.name ≡ Less

all_after : (name : RowName) (rows : List Row) → ascends row_name_cmp (name ∷ map name_of_row rows) ≡ true → AllByRecursion (IsAfter name) rows
all_after name [] h = tt
all_after name (row ∷ rows) h = (
  Less-from_test (row_name_cmp name row.name) (both_passed (is_lt (row_name_cmp name row.name)) (ascends row_name_cmp (map name_of_row (row ∷ rows))) h).0,
  all_after name rows (ascends-skip row_name_cmp row_name_cmp_total name row.name (map name_of_row rows) h),
)

still_found : (first : Row) (rows xs : List Row) → AllByRecursion (IsAfter first.name) xs → AllByRecursion (Finds rows) xs → AllByRecursion (Finds (first ∷ rows)) xs
still_found first rows [] after found = tt
still_found first rows (x ∷ xs) after found =
    (ap (λ o. if is_eq o then first.entries.items else entries_of rows x.name) after.0 ∙ found.0, still_found first rows xs after.1 found.1)

all_found : (rows : List Row) → ascends row_name_cmp (map name_of_row rows) ≡ true → AllByRecursion (Finds rows) rows
all_found [] h = tt
all_found (row ∷ rows) h = (
  ap (λ o. if is_eq o then row.entries.items else entries_of rows row.name) (same_name row.name),
  still_found row rows rows (all_after row.name rows h) (all_found rows (ascends-tail row_name_cmp row.name (map name_of_row rows) h)),
)

module _ (all : List Row) (m : List (RowName × Rational)) where
  abbrev pub IsAt : RowName × Rational → Type 0
  IsAt e = e.1 ≡ price_at all m e.0

  prices_at : (rows : List Row) → AllByRecursion (Finds all) rows → AllByRecursion IsAt (prices rows m)
  prices_at [] found = tt
  prices_at (row ∷ rows) found = by_test (is_balance row) (prices_at rows found.1)
    where
      here : IsAt (named_price m row)
      here = ap (λ es. priced m row.name (number_at es (production_of row.name))) (sym found.0)

      by_test : (b : Bool) → AllByRecursion IsAt (prices rows m) → AllByRecursion IsAt (map (named_price m) (if b then row ∷ filter is_balance rows else filter is_balance rows))
      by_test true later = (here, later)
      by_test false later = later

  pub all_prices_at : ascends row_name_cmp (map name_of_row all) ≡ true → AllByRecursion IsAt (prices all m)
  all_prices_at h = prices_at all (all_found all h)

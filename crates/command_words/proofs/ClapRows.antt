-- What clap's rows hold after one more value.
use Rattle.command_words.proofs.Common.{◌≡◌, ◌∙◌, ◌||◌, List, [], ◌∷◌, ◌++◌, Option, Some, is_some, Bool, true, false, cond, refl, ap, true≢false, option_map, find, unwrap_or, bytes_eq, bytes_eq-Decides, Reading}
use Rattle.clap.specs.Walk.{Row, Text, all_of, has_row, more_values, with_values, without}
use Rattle.clap.specs.declared.parser.matches.ValueSource.{ValueSource}

-- the values of the row that is found
abbrev values : Option Row → Option (List Text)
values = option_map (λ r. r.values)

-- a row is there exactly where its values are
pub has_row_is : (id : Text) (rows : List Row) → has_row id rows ≡ is_some (all_of id rows)
has_row_is id [] = refl
has_row_is id (r ∷ rows) = go (bytes_eq r.id id) (has_row_is id rows)
  where
    go : (b : Bool) → has_row id rows ≡ is_some (all_of id rows) → (b || has_row id rows) ≡ is_some (values (cond b (Some r) (find (λ r. bytes_eq r.id id) rows)))
    go true rest = refl
    go false rest = rest

-- nothing is taken out where no row has the id
pub without_none : (id : Text) (rows : List Row) → has_row id rows ≡ false → without id rows ≡ rows
without_none id [] none = refl
without_none id (r ∷ rows) none = go (bytes_eq r.id id) none (without_none id rows)
  where
    go : (b : Bool) → (b || has_row id rows) ≡ false → (has_row id rows ≡ false → without id rows ≡ rows) → cond b rows (r ∷ without id rows) ≡ r ∷ rows
    go true e rest = absurd (true≢false e)
    go false e rest = ap (λ more. r ∷ more) (rest e)

-- the row of an id
abbrev pub row_with : Text → List Row → Option Row
row_with id = find (λ r. bytes_eq r.id id)

module _ (id : Text) (how : Reading) (source : ValueSource) (value : Text) where
  abbrev added : List Row → List Row
  added = with_values id how source (value ∷ [])

  -- the value comes after those of its id
  pub added_here : (rows : List Row) → bytes_eq id id ≡ true → all_of id (added rows) ≡ Some (unwrap_or (all_of id rows) [] ++ value ∷ [])
  added_here [] same = rw same refl
  added_here (r ∷ rows) same = go (bytes_eq r.id id) refl (added_here rows same)
    where
      go : (b : Bool) → bytes_eq r.id id ≡ b → all_of id (added rows) ≡ Some (unwrap_or (all_of id rows) [] ++ value ∷ [])
          → all_of id (cond b (more_values source (value ∷ []) r ++ rows) (r ∷ added rows))
          ≡ Some (unwrap_or (values (cond b (Some r) (find (λ r. bytes_eq r.id id) rows))) [] ++ value ∷ [])
      go true e rest = rw e refl
      go false e rest = rw e rest

  -- and the row of another id stays
  pub row_elsewhere : (other : Text) (rows : List Row) → bytes_eq id other ≡ false → row_with other (added rows) ≡ row_with other rows
  row_elsewhere other [] apart = rw apart refl
  row_elsewhere other (r ∷ rows) apart = go (bytes_eq r.id id) refl (skip (bytes_eq r.id other) (row_elsewhere other rows apart))
    where
      skip : (b : Bool) → row_with other (added rows) ≡ row_with other rows → cond b (Some r) (row_with other (added rows)) ≡ cond b (Some r) (row_with other rows)
      skip true rest = refl
      skip false rest = rest

      go : (b : Bool) → bytes_eq r.id id ≡ b → row_with other (r ∷ added rows) ≡ row_with other (r ∷ rows)
          → row_with other (cond b (more_values source (value ∷ []) r ++ rows) (r ∷ added rows)) ≡ row_with other (r ∷ rows)
      go true e rest =
          let is : r.id ≡ id = (bytes_eq-Decides r.id id).0 e in
          let other_row : bytes_eq r.id other ≡ false = ap (λ t. bytes_eq t other) is ∙ apart in
          rw other_row refl
      go false e rest = rest

  -- with its values
  pub added_elsewhere : (other : Text) (rows : List Row) → bytes_eq id other ≡ false → all_of other (added rows) ≡ all_of other rows
  added_elsewhere other rows apart = ap values (row_elsewhere other rows apart)

-- Rows that are copied and names that are listed, one after another.
use Rattle.conflict_sets.proofs.Common.{◌≡◌, ℕ, zero, suc, ◌+◌, ◌<◌, ◌≤◌, Bool, List, [], ◌∷◌, ◌++◌, length, get_or, drop, map, refl, sym, ap, ap₂, ◌∙◌, append_assoc, append-nil, arith, if◌then◌else◌, ◌&&◌, at_drop_all, drop_more, Row, RowName, is_unequal, RowContents, contents_of, by_test, Multipliers, is_taken, selected, tests_of, rows_with, is_listed, listed_names}

-- an element, and the rest after it
pub next-of : {A : Type 0} (xs : List A) (i : ℕ) (x : A) → i < length xs → x ≡ get_or xs i x → drop i xs ≡ x ∷ drop (i + 1) xs
next-of {A} xs i x h e = drop_more xs i x h ∙ ap {B = List A} (λ y. y ∷ drop (i + 1) xs) (sym e)

-- one more part of a whole that is made part by part; and nothing is left of it
pub one-more : {A : Type 0} (old new part here rest all : List A) → here ≡ part ++ rest → new ≡ old ++ part → old ++ here ≡ all → new ++ rest ≡ all
one-more old new part here rest all s e h = ap (λ xs. xs ++ rest) e ∙ append_assoc old part rest ∙ ap (λ xs. old ++ xs) (sym s) ∙ h

pub all-made : {A : Type 0} (made rest all : List A) → rest ≡ [] → made ++ rest ≡ all → made ≡ all
all-made made rest all e h = sym (ap (λ xs. made ++ xs) e ∙ append-nil made) ∙ h

-- the contents of a row stand at its place among those of all rows
pub contents-at : (rows : List Row) (i : ℕ) (row : Row) → i < length rows → row ≡ get_or rows i row → contents_of row ≡ get_or (map contents_of rows) i (contents_of row)
contents-at [] i row h e = absurd (omega arith)
contents-at (r ∷ rows) zero row h e = ap contents_of e
contents-at (r ∷ rows) (suc i) row h e = contents-at rows i row (omega arith) e

-- ---- rows of a trial

module _ (listed : RowName → Bool) where
  abbrev all_contents : List Row → List RowContents
  all_contents rows = map contents_of (rows_with listed rows)

  abbrev taken_contents : Row → List RowContents
  taken_contents row = if is_taken listed row then (contents_of row ∷ []) else []

  all_contents-first : (row : Row) (rows : List Row) → all_contents (row ∷ rows) ≡ taken_contents row ++ all_contents rows
  all_contents-first row rows = by_test (is_taken listed row) (λ is. rw is refl) (λ is. rw is refl)

  pub taken-next : (rows : List Row) (i : ℕ) (row : Row) (old new : List RowContents) → i < length rows → row ≡ get_or rows i row → new ≡ old ++ taken_contents row → old ++ all_contents (drop i rows) ≡ all_contents rows → new ++ all_contents (drop (i + 1) rows) ≡ all_contents rows
  taken-next rows i row old new h e = one-more old new (taken_contents row) _ _ _ (ap all_contents (next-of rows i row h e) ∙ all_contents-first row (drop (i + 1) rows))

  pub taken-all : (rows : List Row) (i : ℕ) (made : List RowContents) → length rows ≤ i → made ++ all_contents (drop i rows) ≡ all_contents rows → made ≡ all_contents rows
  taken-all rows i made h = all-made made _ _ (at_drop_all all_contents rows i h)

  -- ---- rows that are tried, with something for each

  abbrev chosen : {A : Type 0} → List Row → List A → List A
  chosen rows xs = selected (tests_of listed rows) xs

  chosen-first : {A : Type 0} (row : Row) (rows : List Row) (x : A) (xs : List A) → chosen (row ∷ rows) (x ∷ xs) ≡ (if listed row.name then (x ∷ []) else []) ++ chosen rows xs
  chosen-first {A} row rows x xs = by_test (listed row.name) (λ is. rw is refl) (λ is. rw is refl)

  pub chosen-next : {A : Type 0} (rows : List Row) (xs : List A) (i : ℕ) (row : Row) (x : A) (old new : List A) → i < length rows → i < length xs → row ≡ get_or rows i row → x ≡ get_or xs i x
      → new ≡ old ++ (if listed row.name then (x ∷ []) else []) → old ++ chosen (drop i rows) (drop i xs) ≡ chosen rows xs → new ++ chosen (drop (i + 1) rows) (drop (i + 1) xs) ≡ chosen rows xs
  chosen-next rows xs i row x old new h k e f =
      one-more old new (if listed row.name then (x ∷ []) else []) _ _ _ (ap₂ (λ rs ys. chosen rs ys) (next-of rows i row h e) (next-of xs i x k f) ∙ chosen-first row (drop (i + 1) rows) x (drop (i + 1) xs))

  pub chosen-all : {A : Type 0} (rows : List Row) (xs : List A) (i : ℕ) (made : List A) → length rows ≤ i → made ++ chosen (drop i rows) (drop i xs) ≡ chosen rows xs → made ≡ chosen rows xs
  chosen-all rows xs i made h = all-made made _ _ (at_drop_all (λ rs. chosen rs (drop i xs)) rows i h)

-- ---- names

module _ (m : Multipliers) where
  abbrev on_list : Row → Bool
  on_list row = is_unequal row.sense && is_listed m row.name

  names-first : (row : Row) (rows : List Row) → listed_names m (row ∷ rows) ≡ (if on_list row then (row.name ∷ []) else []) ++ listed_names m rows
  names-first row rows = by_test (on_list row) (λ is. rw is refl) (λ is. rw is refl)

  pub names-next : (rows : List Row) (i : ℕ) (row : Row) (old new : List RowName) → i < length rows → row ≡ get_or rows i row → new ≡ old ++ (if on_list row then (row.name ∷ []) else []) → old ++ listed_names m (drop i rows) ≡ listed_names m rows
      → new ++ listed_names m (drop (i + 1) rows) ≡ listed_names m rows
  names-next rows i row old new h e = one-more old new (if on_list row then (row.name ∷ []) else []) _ _ _ (ap (listed_names m) (next-of rows i row h e) ∙ names-first row (drop (i + 1) rows))

  pub names-all : (rows : List Row) (i : ℕ) (made : List RowName) → length rows ≤ i → made ++ listed_names m (drop i rows) ≡ listed_names m rows → made ≡ listed_names m rows
  names-all rows i made h = all-made made _ _ (at_drop_all (listed_names m) rows i h)

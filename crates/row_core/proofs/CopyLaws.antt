-- Copies of rows, one after another.
use Rattle.row_core.proofs.Common.{◌≡◌, ℕ, ◌+◌, ◌<◌, ◌≤◌, List, [], ◌∷◌, ◌++◌, length, get_or, drop, map, sym, ap, ◌∙◌, append_assoc, append-nil, at_drop_all, drop_more, map-append, Row, RowContents, contents_of}

module _ (rows : List Row) where
  pub copies-next : (i : ℕ) (row copy : Row) (old new : List Row) → i < length rows → row ≡ get_or rows i row → new ≡ old ++ copy ∷ [] → contents_of copy ≡ contents_of row → map contents_of old ++ map contents_of (drop i rows) ≡ map contents_of rows
      → map contents_of new ++ map contents_of (drop (i + 1) rows) ≡ map contents_of rows
  copies-next i row copy old new h e pushed same so_far =
      let rest = map contents_of (drop (i + 1) rows) in
      let one : map contents_of new ≡ map contents_of old ++ contents_of row ∷ [] = ap (map contents_of) pushed ∙ map-append contents_of old (copy ∷ []) ∙ ap (λ (c : RowContents). map contents_of old ++ c ∷ []) same in
      ap (λ cs. cs ++ rest) one ∙ append_assoc (map contents_of old) (contents_of row ∷ []) rest
      ∙ ap (λ cs. map contents_of old ++ cs) (sym (ap (map contents_of) (drop_more rows i row h) ∙ ap {B = List RowContents} (λ c. c ∷ rest) (ap contents_of (sym e)))) ∙ so_far

  pub copies-all : (i : ℕ) (made : List RowContents) → length rows ≤ i → made ++ map contents_of (drop i rows) ≡ map contents_of rows → made ≡ map contents_of rows
  copies-all i made h so_far = sym (ap (λ cs. made ++ cs) (at_drop_all (map contents_of) rows i h) ∙ append-nil made) ∙ so_far

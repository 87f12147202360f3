-- The rows after a pivot, one after another.
use Rattle.row_problem.proofs.Common.{◌≡◌, ◌≢◌, ℕ, ◌+◌, ◌<◌, List, [], ◌∷◌, ◌++◌, Option, Some, length, set, take, drop, sym, ap, ap₂, ◌∙◌, refl, subst, arith, ◌==◌, drop-set-lt, length-map, length-set, length-take-le, map-append, take-append-le, take_all, take_more_set}
use Rattle.decimal_solver.proofs.Words.{GridRow, IsLeft, folded, cleared, and_then, with_cleared, line_seen, row_seen, rows_seen}
use Rattle.decimal_solver.specs.Lines as lines
use Rattle.decimal_solver.specs.States as states
use Rattle.decimal_solver.proofs.LineLaws.{same-no, same-yes}

-- a row with another line
abbrev pub with_line : states.GridRow → lines.Line → states.GridRow
with_line row line = record { line = line; basic = row.basic; scale = row.scale }

module _ (r c : ℕ) (p : lines.Line) (items : List GridRow) (i : ℕ) (row : GridRow) (within : i < length items) where
  abbrev made : List states.GridRow
  made = rows_seen (take i items)

  counted : length made ≡ i
  counted = length-map (take i items) row_seen ∙ length-take-le i items (omega (arith, within))

  pub others-at : (o : Option lines.Line) → i ≢ r → cleared c p (line_seen row.line) ≡ o → with_cleared r c p made (row_seen row) ≡ and_then o (λ line. Some (made ++ with_line (row_seen row) line ∷ []))
  others-at o n g = rw (ap (λ k. k == r) counted ∙ same-no i r n, g) refl

  pub others-pivot : i ≡ r → with_cleared r c p made (row_seen row) ≡ Some (made ++ row_seen row ∷ [])
  others-pivot e = rw (ap (λ k. k == r) counted ∙ same-yes i r e) refl

taken-set : (rows : List GridRow) (i : ℕ) (row : GridRow) → i < length rows → rows_seen (take (i + 1) (set rows i row)) ≡ rows_seen (take i rows) ++ row_seen row ∷ []
taken-set rows i row h = ap (λ (xs : List GridRow). rows_seen xs) (take_more_set rows i row h) ∙ map-append row_seen (take i rows) (row ∷ [])

dropped-set : (rows : List GridRow) (i : ℕ) (row : GridRow) → rows_seen (drop (i + 1) (set rows i row)) ≡ rows_seen (drop (i + 1) rows)
dropped-set rows i row = ap (λ (xs : List GridRow). rows_seen xs) (drop-set-lt (i + 1) rows i row (omega arith))

pub written-back : (items rows : List GridRow) (n : ℕ) → length items ≡ length rows → n ≡ length rows → take n (items ++ drop (length items) rows) ≡ items
written-back items rows n e f =
    take-append-le n items (drop (length items) rows) (omega arith) ∙ take_all n items (omega arith)

pub others-set : {whole : Option (List states.GridRow)} {step : List states.GridRow → states.GridRow → Option (List states.GridRow)} (items written : List GridRow) (i : ℕ) (row : GridRow) → i < length items → written ≡ set items i row
    → IsLeft whole step (rows_seen (take i items) ++ row_seen row ∷ []) (rows_seen (drop (i + 1) items)) → IsLeft whole step (rows_seen (take (i + 1) written)) (rows_seen (drop (i + 1) written))
others-set {whole} {step} items written i row h e left = subst (λ (xs : List GridRow). IsLeft whole step (rows_seen (take (i + 1) xs)) (rows_seen (drop (i + 1) xs))) (sym e) (record {
  same = left.same ∙ ap₂ (λ m d. folded step m d) (sym (taken-set items i row h)) (sym (dropped-set items i row));
})

pub counted-set : (items written : List GridRow) (i : ℕ) (row : GridRow) → written ≡ set items i row → length written ≡ length items
counted-set items written i row e = ap (λ (xs : List GridRow). length xs) e ∙ length-set items i row

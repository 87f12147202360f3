-- Plans that meet rows meet copies of them, which have the same names, senses, entries and right sides.
use Rattle.row_problem.proofs.Common.{◌≡◌, ℕ, ℤ, pos, ◌*ℤ◌, List, [], ◌∷◌, map, subst, Row, Var, row_sum, Stands, AllStand, MeetsAll, RowContents, contents_of}

pub copied-stand : (q : ℕ) (x : Var → ℤ) (copies rows : List Row) → map contents_of copies ≡ map contents_of rows → AllStand (λ row. row.rhs *ℤ pos q) copies x → AllStand (λ row. row.rhs *ℤ pos q) rows x
copied-stand q x [] [] e h = tt
copied-stand q x [] (row ∷ rows) e h = absurd (cc e)
copied-stand q x (copy ∷ copies) [] e h = absurd (cc e)
copied-stand q x (copy ∷ copies) (row ∷ rows) e h =
    let first : contents_of copy ≡ contents_of row = cc e in
    let rest : map contents_of copies ≡ map contents_of rows = cc e in
    (subst (λ (s : RowContents). Stands s.sense (row_sum x s.entries) (s.rhs *ℤ pos q)) first h.0, copied-stand q x copies rows rest h.1)

pub copied-meets : (vars : List Var) (q : ℕ) (x : Var → ℤ) (copies rows : List Row) → map contents_of copies ≡ map contents_of rows → MeetsAll copies vars q x → MeetsAll rows vars q x
copied-meets vars q x copies rows e h = record { positive = h.positive; rows_hold = copied-stand q x copies rows e h.rows_hold; signs = h.signs }

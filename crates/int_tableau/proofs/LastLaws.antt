-- The number in the last column is the line's last entry, and that in another column its entry there.
use Rattle.int_tableau.proofs.Common.{◌≡◌, ◌<◌, ◌-◌, ℕ, ℤ, List, length, sym, ap, ◌∙◌, subst, arith, Line, entry_of, at, line_seen}
use Rattle.int_tableau.proofs.LineLaws.{length-spread, entry_of-seen}

pub last_column : (now : Line) (n : ℕ) (es : List (ℕ × ℤ)) (right own : ℤ) → line_seen n es right own ≡ now → 0 < length now.entries → at es (n - 1) ≡ entry_of now (length now.entries - 1)
last_column now n es right own seen h =
    let columns : length now.entries ≡ n = sym (ap (λ (l : Line). length l.entries) seen) ∙ length-spread (at es) 0 n in
    let some : 0 < n = subst (λ m. 0 < m) columns h in
    sym (entry_of-seen n es right own (n - 1) (omega arith))
    ∙ ap (λ (l : Line). entry_of l (n - 1)) seen
    ∙ ap (λ m. entry_of now (m - 1)) (sym columns)

pub in_column : (now : Line) (n : ℕ) (es : List (ℕ × ℤ)) (right own : ℤ) (column : ℕ) → line_seen n es right own ≡ now → column < length now.entries → at es column ≡ entry_of now column
in_column now n es right own column seen below =
    let columns : length now.entries ≡ n = sym (ap (λ (l : Line). length l.entries) seen) ∙ length-spread (at es) 0 n in
    sym (entry_of-seen n es right own column (subst (λ m. column < m) columns below)) ∙ ap (λ (l : Line). entry_of l column) seen

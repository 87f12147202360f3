-- Two rows in each other's place, as the code exchanges them, are the kept tableau's next.
use Rattle.simplex_core.proofs.Common.{◌≡◌, ◌≢◌, ℕ, ◌<◌, List, length, set, arith, sym, ap, ap₂, ◌∙◌, get_or-set_same, get_or-set_other, set-set, length-set, Line, Tableau, line_of, basic_of, rows_of, no_line, pivoted, negated_line, length-pivoted, rows_of-pivoted, line_of-pivoted, exchanged, swapped}
use Rattle.std.proofs.lemmas.List.Edits.{swap_is}
use Rattle.simplex_core.proofs.KeptLaws.{set_turned, same_tableaus}

pub swapped-pivoted : (t : Tableau) (h r c : ℕ) → h < length t.lines → r < length t.lines → h < rows_of t → r < rows_of t → r ≢ h → swapped h r (pivoted h c t) ≡ exchanged h r c t
swapped-pivoted t h r c kh kr bh br n =
    same_tableaus (swapped h r (pivoted h c t)).lines (exchanged h r c t).lines (swapped h r (pivoted h c t)).basics (exchanged h r c t).basics t.columns
    (sym (swap_is (set P r N) r h no_line (omega (arith, length-set P r N, length-pivoted t h c)) (omega (arith, length-set P r N, length-pivoted t h c)))
    ∙ ap₂ {C = List Line} (λ (x y : Line). set (set (set P r N) r x) h y)
    (get_or-set_other P r h N no_line (λ e. n (sym e)) ∙ line_of-pivoted t h c kh)
    (get_or-set_same P r N no_line (omega (arith, length-pivoted t h c)))
    ∙ ap {B = List Line} (λ ls. set ls h N) (set-set P r N (line_of t h)))
    (sym (swap_is B r h 0 (omega (arith, rows_of-pivoted t h c)) (omega (arith, rows_of-pivoted t h c)))
    ∙ ap₂ {C = List ℕ} (λ (x y : ℕ). set (set B r x) h y) (get_or-set_same t.basics h c 0 bh) (get_or-set_other t.basics h r c 0 n)
    ∙ ap {B = List ℕ} (λ bs. set bs h (basic_of t r)) (set_turned t.basics h r c c (λ e. n (sym e)))
    ∙ set-set (set t.basics r c) h c (basic_of t r))
  where
    P : List Line
    P = (pivoted h c t).lines

    N : Line
    N = negated_line (line_of (pivoted h c t) r)

    B : List ℕ
    B = (pivoted h c t).basics

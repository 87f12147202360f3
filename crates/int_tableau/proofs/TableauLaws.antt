-- One pivot over all lines.
use Rattle.int_tableau.proofs.Common.{◌≡◌, ℕ, zero, suc, ◌+◌, ◌-◌, ◌^◌, ◌<◌, ◌≤◌, ◌≢◌, ℤ, pos, Bool, true, false, List, [], ◌∷◌, length, get_or, set, map, take, arith, refl, sym, ap, ◌∙◌, subst, is_zero, row_divisor, no_line, others, without_last, IsShaped, counted_from, tableau_with, width_of, LinearProgram, IsShaped-first, line_seen, HaveColumns, AreBelow, HaveSome, IsNowhere, IsTableau}
use Rattle.std.specs.Prelude.{flat_map, int_div, if◌then◌else◌}
use Rattle.written_method.specs.Lines.{Line, entry_of, numbers_of, all_less, line_less, lowest_line, factor_of, cleared, cleared_formed}
use Rattle.int_tableau.proofs.LineLaws.{entry_of-seen, cleared_formed-none}
use Rattle.int_tableau.proofs.ListLaws.{formed-set, HaveColumns-at, HaveColumns-set, HaveColumns-map}

-- a line of zeros in the pivot row's place forms nothing
pub formed-blank : (lines : List Line) (row column columns : ℕ) (pivot blank : Line) → row < length lines → column < columns → blank ≡ line_seen columns [] (pos 0) (pos 0)
    → flat_map (cleared_formed column pivot) (set lines row blank) ≡ flat_map (cleared_formed column pivot) (others row lines)
formed-blank lines row column columns pivot blank h k e =
    formed-set (cleared_formed column pivot) lines row blank h
    (cleared_formed-none column pivot blank (ap (λ (l : Line). entry_of l column) e ∙ entry_of-seen columns [] (pos 0) (pos 0) column k))

-- a combined line has the columns of both
length-all_less : (a b : ℤ) (xs ys : List ℤ) → length xs ≡ length ys → length (all_less a b xs ys) ≡ length xs
length-all_less a b [] ys h = refl
length-all_less a b (x ∷ xs) [] h = absurd (omega arith)
length-all_less a b (x ∷ xs) (y ∷ ys) h = ap suc (length-all_less a b xs ys (omega arith))

pub length-map : (f : ℤ → ℤ) (xs : List ℤ) → length (map f xs) ≡ length xs
length-map f [] = refl
length-map f (x ∷ xs) = ap suc (length-map f xs)

pub length-cleared : (c : ℕ) (pivot line : Line) → length line.entries ≡ length pivot.entries → length (cleared c pivot line).entries ≡ length line.entries
length-cleared c pivot line h = cases (is_zero (entry_of line c))
  where
    Same : Bool → Type 0
    Same t = length (if t then line else lowest_line (line_less (factor_of (entry_of pivot c) (entry_of line c)) (factor_of (entry_of line c) (entry_of pivot c)) line pivot)).entries ≡ length line.entries

    cases : (t : Bool) → Same t
    cases true = refl
    cases false =
        length-map (λ z. int_div z (pos (row_divisor (numbers_of (line_less (factor_of (entry_of pivot c) (entry_of line c)) (factor_of (entry_of line c) (entry_of pivot c)) line pivot))))) (all_less (factor_of (entry_of pivot c) (entry_of line c)) (factor_of (entry_of line c) (entry_of pivot c)) line.entries pivot.entries)
        ∙ length-all_less (factor_of (entry_of pivot c) (entry_of line c)) (factor_of (entry_of line c) (entry_of pivot c)) line.entries pivot.entries h

pub HaveColumns-pivoted : (n : ℕ) (lines : List Line) (row column : ℕ) (pivot : Line) → HaveColumns n lines → length pivot.entries ≡ n → HaveColumns n (set (map (cleared column pivot) lines) row pivot)
HaveColumns-pivoted n lines row column pivot s h =
    HaveColumns-set n (map (cleared column pivot) lines) row pivot
    (HaveColumns-map n (cleared column pivot) lines (λ l e. length-cleared column pivot l (e ∙ sym h) ∙ e) s) h

pub AreBelow-at : (n : ℕ) (cs : List ℕ) (i d : ℕ) → AreBelow n cs → i < length cs → get_or cs i d < n
AreBelow-at n [] i d s h = absurd (omega arith)
AreBelow-at n (c ∷ cs) zero d s h = s.0
AreBelow-at n (c ∷ cs) (suc i) d s h = AreBelow-at n cs i d s.1 (omega arith)

pub AreBelow-set : (n : ℕ) (cs : List ℕ) (i c : ℕ) → AreBelow n cs → c < n → AreBelow n (set cs i c)
AreBelow-set n [] i c s h = tt
AreBelow-set n (d ∷ cs) zero c s h = (h, s.1)
AreBelow-set n (d ∷ cs) (suc i) c s h = (s.0, AreBelow-set n cs i c s.1 h)

pub length-pivoted : (lines : List Line) (row column : ℕ) (pivot : Line) → length (set (map (cleared column pivot) lines) row pivot) ≡ length lines
length-pivoted [] row column pivot = refl
length-pivoted (l ∷ lines) zero column pivot = ap suc (lines_length (cleared column pivot) lines)
  where
    lines_length : (f : Line → Line) (ls : List Line) → length (map f ls) ≡ length ls
    lines_length f [] = refl
    lines_length f (k ∷ ls) = ap suc (lines_length f ls)
length-pivoted (l ∷ lines) (suc row) column pivot = ap suc (length-pivoted lines row column pivot)

-- ---- without the last column

pub HaveColumns-take : (n : ℕ) (ls : List Line) (k : ℕ) → HaveColumns n ls → HaveColumns n (take k ls)
HaveColumns-take n ls zero s = tt
HaveColumns-take n [] (suc k) s = tt
HaveColumns-take n (l ∷ ls) (suc k) s = (s.0, HaveColumns-take n ls k s.1)

pub HaveSome-of : (n : ℕ) (ls : List Line) → 0 < n → HaveColumns n ls → HaveSome ls
HaveSome-of n [] h s = tt
HaveSome-of n (l ∷ ls) h s = (subst (λ m. 0 < m) (sym s.0) h, HaveSome-of n ls h s.1)

pub HaveSome-at : (ls : List Line) (i : ℕ) (d : Line) → HaveSome ls → i < length ls → 0 < length (get_or ls i d).entries
HaveSome-at [] i d s h = absurd (omega arith)
HaveSome-at (l ∷ ls) zero d s h = s.0
HaveSome-at (l ∷ ls) (suc i) d s h = HaveSome-at ls i d s.1 (omega arith)

pub length-taken : {X : Type 0} (xs : List X) (n : ℕ) → n ≤ length xs → length (take n xs) ≡ n
length-taken xs zero h = refl
length-taken [] (suc n) h = absurd (omega arith)
length-taken (x ∷ xs) (suc n) h = ap suc (length-taken xs n (omega arith))

pub HaveColumns-without_last : (n : ℕ) (ls : List Line) → HaveColumns n ls → HaveColumns (n - 1) (map without_last ls)
HaveColumns-without_last n [] s = tt
HaveColumns-without_last n (l ∷ ls) s = (length-taken l.entries (length l.entries - 1) (omega arith) ∙ ap (λ m. m - 1) s.0, HaveColumns-without_last n ls s.1)

pub AreBelow-nowhere : (n : ℕ) (cs : List ℕ) → AreBelow n cs → IsNowhere (n - 1) cs → AreBelow (n - 1) cs
AreBelow-nowhere n [] s h = tt
AreBelow-nowhere n (c ∷ cs) s h =
    let below : c < n = s.0 in
    let apart : c ≢ n - 1 = h.0 in
    (omega arith, AreBelow-nowhere n cs s.1 h.1)

pub length-mapped : {X Y : Type 0} (f : X → Y) (xs : List X) → length (map f xs) ≡ length xs
length-mapped f [] = refl
length-mapped f (x ∷ xs) = ap suc (length-mapped f xs)

-- ---- the shape that the written method speaks of

pub IsShaped-of : (columns : ℕ) (lines : List Line) (basics : List ℕ) → IsTableau columns lines basics → IsShaped (record { lines = lines; basics = basics; columns = columns })
IsShaped-of columns lines basics t = record {
  lines = t.line_of_z;
  entries = λ i h. HaveColumns-at columns lines i no_line t.have_columns h;
  rows_own = t.no_own;
}

HaveColumns-from : (n : ℕ) (ls : List Line) → ((i : ℕ) → i < length ls → length (get_or ls i no_line).entries ≡ n) → HaveColumns n ls
HaveColumns-from n [] h = tt
HaveColumns-from n (l ∷ ls) h = (h 0 (omega arith), HaveColumns-from n ls (λ i k. h (suc i) (omega arith)))

pub AreBelow-counted : (n low count : ℕ) → low + count ≤ n → AreBelow n (counted_from low count)
AreBelow-counted n low zero h = tt
AreBelow-counted n low (suc count) h = (omega arith, AreBelow-counted n (suc low) count (omega arith))

-- the first tableau is one
pub IsTableau-first : (p : LinearProgram) (there : Bool) → (tableau_with p there).columns < 2 ^ 64 → IsTableau (tableau_with p there).columns (tableau_with p there).lines (tableau_with p there).basics
IsTableau-first p there countable =
    let shaped : IsShaped (tableau_with p there) = IsShaped-first p there in
    record {
      have_columns = HaveColumns-from (tableau_with p there).columns (tableau_with p there).lines shaped.entries;
      below = AreBelow-counted (width_of p.columns + length p.rows + (if there then 1 else 0)) (width_of p.columns) (length p.rows) (omega arith);
      countable = countable;
      line_of_z = shaped.lines;
      no_own = shaped.rows_own;
    }

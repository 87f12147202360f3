-- The numbers of 64 bits are those of the rough lines.
use Rattle.simplex_core.proofs.Common.{◌≡◌, ◌≢◌, ℕ, ◌<◌, ◌-◌, length, sym, ap, ap₂, ◌∙◌, arith, entry_of, less, Tableau, line_of, rows_of, IsKept, IsHome, rough_of, x0_in, AreRough}
use Rattle.int_tableau.specs.Shorts.{AreOf}
use Rattle.int_tableau.specs.declared.short_numbers.ShortNumbers.{ShortNumbers}
use Rattle.simplex_core.specs.declared.home.Home.{Home}
use Rattle.simplex_core.proofs.KeptChoiceLaws.{rough-entry, rough-entry_home, rough-right, rough-right_home}

-- the last entry of a line is that at x0
last-x0 : (t : Tableau) (h x0 i c : ℕ) (s : ShortNumbers) → IsKept h x0 t → i < length t.lines → AreOf (line_of t i) c s → s.last ≡ entry_of (line_of t i) (x0_in t)
last-x0 t h x0 i c s w k a = a.last_is ∙ ap (λ n. entry_of (line_of t i) (n - 1)) (w.shaped.entries i k)

home-within : (t : Tableau) (h x0 : ℕ) → IsKept h x0 t → h < length t.lines
home-within t h x0 w = let more : rows_of t < length t.lines = w.shaped.lines in let row : h < rows_of t = w.home_row in omega arith

-- x0's row stands for itself
pub home-rough : (t : Tableau) (h : Home) (row : ℕ) (s : ShortNumbers) → IsHome t h → row ≡ h.row → AreOf (line_of t h.row) h.column s → AreRough t h row s
home-rough t h row s w e a = record {
  entry_is = a.entry_is ∙ sym (rough-entry_home t h.row (x0_in t) row h.column e);
  last_is = last-x0 t h.row (x0_in t) h.row h.column s w.kept (home-within t h.row (x0_in t) w.kept) a ∙ ap (λ i. entry_of (line_of t i) (x0_in t)) (sym e);
  right_is = a.right_is ∙ sym (rough-right_home t h.row (x0_in t) row e);
}

-- another line
pub other-entry : (t : Tableau) (h : Home) (row : ℕ) (home own : ShortNumbers) → IsHome t h → row < length t.lines → row ≢ h.row → AreOf (line_of t h.row) h.column home → AreOf (line_of t row) h.column own
    → less home.last own.last own.entry home.entry ≡ entry_of (rough_of t h.row (x0_in t) row) h.column
other-entry t h row home own w k n a b =
    ap₂ (λ p q. less p q own.entry home.entry) (last-x0 t h.row (x0_in t) h.row h.column home w.kept (home-within t h.row (x0_in t) w.kept) a) (last-x0 t h.row (x0_in t) row h.column own w.kept k b)
    ∙ ap₂ (λ p q. less (entry_of (line_of t h.row) (x0_in t)) (entry_of (line_of t row) (x0_in t)) p q) b.entry_is a.entry_is
    ∙ rough-entry t h.row (x0_in t) row h.column w.kept k n

pub other-right : (t : Tableau) (h : Home) (row : ℕ) (home own : ShortNumbers) → IsHome t h → row < length t.lines → row ≢ h.row → AreOf (line_of t h.row) h.column home → AreOf (line_of t row) h.column own
    → less home.last own.last own.right home.right ≡ (rough_of t h.row (x0_in t) row).right
other-right t h row home own w k n a b =
    ap₂ (λ p q. less p q own.right home.right) (last-x0 t h.row (x0_in t) h.row h.column home w.kept (home-within t h.row (x0_in t) w.kept) a) (last-x0 t h.row (x0_in t) row h.column own w.kept k b)
    ∙ ap₂ (λ p q. less (entry_of (line_of t h.row) (x0_in t)) (entry_of (line_of t row) (x0_in t)) p q) b.right_is a.right_is
    ∙ rough-right t h.row (x0_in t) row n

pub other-last : (t : Tableau) (h : Home) (row : ℕ) (own : ShortNumbers) → IsHome t h → row < length t.lines → AreOf (line_of t row) h.column own → own.last ≡ entry_of (line_of t row) (x0_in t)
other-last t h row own w k b = last-x0 t h.row (x0_in t) row h.column own w.kept k b

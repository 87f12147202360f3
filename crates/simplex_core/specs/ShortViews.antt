-- What the code's numbers of 64 bits mean.
use Rattle.std.specs.Prelude.{◌≡◌, ℕ, Option, Some, None}
use Rattle.written_method.specs.Lines.{entry_of}
use Rattle.written_method.specs.Choices as choices
use Rattle.written_method.specs.Tableaus.{Tableau, line_of}
use Rattle.int_tableau.specs.declared.short_numbers.ShortNumbers.{ShortNumbers}
use Rattle.simplex_core.specs.declared.home.Home.{Home}
use Rattle.simplex_core.specs.declared.candidate.ShortCandidate.{ShortCandidate}
use Rattle.simplex_core.specs.KeptViews.{rough_of, x0_in}

abbrev pub short_candidate_seen : ShortCandidate → choices.Candidate
short_candidate_seen a = record { row = a.row; right = a.right; entry = a.entry; rank = a.rank }

abbrev pub short_chosen_seen : Option ShortCandidate → Option choices.Candidate
short_chosen_seen None = None
short_chosen_seen (Some a) = Some (short_candidate_seen a)

-- the rough line's entry in the column that enters and its right side, and the line's entry at x0
pub record AreRough (t : Tableau) (h : Home) (row : ℕ) (s : ShortNumbers) : Type 0 where
  pub entry_is : s.entry ≡ entry_of (rough_of t h.row (x0_in t) row) h.column
  pub last_is : s.last ≡ entry_of (line_of t row) (x0_in t)
  pub right_is : s.right ≡ (rough_of t h.row (x0_in t) row).right

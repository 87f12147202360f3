-- Two data that are the same have the same rows: the same terms at each instance, so that the same rows can be made, or the same one can't.
use Rattle.row_book.proofs.Common.{◌≡◌, ℕ, ◌+◌, ◌<◌, ◌≤◌, true, ◌&&◌, List, [], ◌∷◌, ◌++◌, ap, ap₂, sym, ◌∙◌, refl, subst, arith, inl, inr, list_all, cases_lt, sum_by-cons, AreSameData, Data, Default, Given, Row, RowName, Var, all_fit, EquationTerms, IsRowOf, equation_formed, right_of, terms_of, written_entries, RowHolds, instances, is_instance, subscripts_of, IsNamedRow, Has, Has-append_left, Has-append_right, Has-instances, are_in_sets, AgreeInAll, with_values, at_number, AreRowsOf, CanBeMade, HasTooMany, IsTooWide, StopsAt, entries_in, entry_count, entry_limit, row_fits, terms_at}
use Rattle.std.specs.Prelude.{ℤ, ◌↔◌, length}
use Rattle.row_core.specs.Statements.{Holds, Statement}
use Rattle.named_equations.specs.Plans.{says}
use Rattle.named_equations.proofs.SameInstances.{agree, back, same-instances, same-says, with_sets}
use Rattle.row_book.proofs.Instances.{IsInstance, instance-parts}
use Rattle.row_book.proofs.SameCostTerms.{cost-same}
use Rattle.row_book.proofs.SameEnergyTerms.{energy-same}
use Rattle.row_book.proofs.SameLimitTerms.{limit-same}
use Rattle.row_book.proofs.SameTerms.{TermsSame}

-- ---- terms

module _ {d : Data} {given : List Given} {defaults : List Default} (same : AgreeInAll d given defaults) (places : ℕ) where
  at_its_number : (name : RowName) → IsInstance d name → TermsSame places d given defaults name.index name.eq
  at_its_number name instance =
      elim (cases_lt name.eq 25) [
        | inl below ↦ at_number (TermsSame places d given defaults name.index) 1 24 name.eq (energy-same same places name.index) instance.equation.0 below
        | inr from ↦
            elim (cases_lt name.eq 43) [
              | inl below ↦ at_number (TermsSame places d given defaults name.index) 25 18 name.eq (cost-same same places name.index) from below
              | inr past ↦ at_number (TermsSame places d given defaults name.index) 43 22 name.eq (limit-same same places name.index) past (omega (arith, instance.equation.1))
            ]
      ]

  terms-same : (name : RowName) → is_instance d name ≡ true → terms_at places d name ≡ terms_at places (with_values d given defaults) name
  terms-same name is =
      let instance = instance-parts d name is in at_its_number name instance (are_in_sets d (subscripts_of name.eq) name.index instance.within)

pub same-terms : (places : ℕ) (d e : Data) → AreSameData d e → (name : RowName) → is_instance d name ≡ true → terms_at places d name ≡ terms_at places e name
same-terms places d e same name is = terms-same (agree same) places name is ∙ ap (λ (f : Data). terms_at places f name) (with_sets d e same.sets same.second)

-- ---- rows

module _ (places : ℕ) (d e : Data) where
  -- of these instances the terms are the same
  abbrev pub HaveSameTerms : List RowName → Type 0
  HaveSameTerms names = (name : RowName) → Has names name → terms_at places d name ≡ terms_at places e name

  pub fits-same : (name : RowName) → terms_at places d name ≡ terms_at places e name → row_fits places d name ≡ row_fits places e name
  fits-same name is = ap (λ (t : EquationTerms). all_fit (equation_formed t)) is

  pub count-same : (name : RowName) → terms_at places d name ≡ terms_at places e name → entry_count places d name ≡ entry_count places e name
  count-same name is = ap (λ (t : EquationTerms). length (written_entries (terms_of t) (right_of t))) is

  all_fit-same : (names : List RowName) → HaveSameTerms names → list_all (row_fits places d) names ≡ list_all (row_fits places e) names
  all_fit-same [] terms = refl
  all_fit-same (name ∷ names) terms =
      ap₂ (λ b c. b && c) (fits-same name (terms name (inl refl))) (all_fit-same names (λ other has. terms other (inr has)))

  entries-same : (names : List RowName) → HaveSameTerms names → entries_in places d names ≡ entries_in places e names
  entries-same [] terms = refl
  entries-same (name ∷ names) terms =
      sum_by-cons (entry_count places d) name names
      ∙ ap₂ (λ m n. m + n) (count-same name (terms name (inl refl))) (entries-same names (λ other has. terms other (inr has)))
      ∙ sym (sum_by-cons (entry_count places e) name names)

  can_be_made : (before : ℕ) (names : List RowName) → HaveSameTerms names → CanBeMade places d before names → CanBeMade places e before names
  can_be_made before names terms made = record {
    fit = sym (all_fit-same names terms) ∙ made.fit;
    few = subst (λ n. before + n ≤ entry_limit) (entries-same names terms) made.few;
  }

  stops_at : (before : ℕ) (names : List RowName) (name : RowName) → HaveSameTerms names → (stops : StopsAt places d before names name)
      → HaveSameTerms stops.earlier × (terms_at places d name ≡ terms_at places e name) × StopsAt places e before names name
  stops_at before names name terms stops =
      let among : List RowName → Type 0 = λ all. (other : RowName) → Has all other → Has names other in
      let whole : among (stops.earlier ++ name ∷ stops.later) = λ other has. subst (λ (all : List RowName). Has all other) (sym stops.split) has in
      let of_earlier : HaveSameTerms stops.earlier = λ other has. terms other (whole other (Has-append_left stops.earlier (name ∷ stops.later) other has)) in (
        of_earlier,
        terms name (whole name (Has-append_right stops.earlier (name ∷ stops.later) name (inl refl))),
        record { earlier = stops.earlier; later = stops.later; split = stops.split; made = can_be_made before stops.earlier of_earlier stops.made },
      )

  is_too_wide : (before : ℕ) (names : List RowName) (name : RowName) → HaveSameTerms names → IsTooWide places d before names name → IsTooWide places e before names name
  is_too_wide before names name terms wide =
      let stops = stops_at before names name terms wide.stops in
      record { stops = stops.2; wide = sym (fits-same name stops.1) ∙ wide.wide }

  has_too_many : (before : ℕ) (names : List RowName) (name : RowName) → HaveSameTerms names → HasTooMany places d before names name → HasTooMany places e before names name
  unfolding stops_at
  has_too_many before names name terms many =
      let stops = stops_at before names name terms many.stops in
      record {
        stops = stops.2;
        fits = sym (fits-same name stops.1) ∙ many.fits;
        many = subst (λ n. entry_limit < n) (ap₂ (λ m n. (before + m) + n) (entries-same many.stops.earlier stops.0) (count-same name stops.1)) many.many;
      }

  -- of these instances it is the same what they say
  abbrev pub SayTheSame : List RowName → Type 0
  SayTheSame names = (name : RowName) → Has names name → (q : ℕ) (x : Var → ℤ) → says places d q x name ≡ says places e q x name

  pub is_named_row : (name : RowName) (row : Row) → terms_at places d name ≡ terms_at places e name → ((q : ℕ) (x : Var → ℤ) → says places d q x name ≡ says places e q x name)
      → IsNamedRow places d name (terms_at places d name) row → IsNamedRow places e name (terms_at places e name) row
  is_named_row name row terms say is = record {
    written = subst (λ (t : EquationTerms). IsRowOf name t row) terms is.written;
    says = λ q x. subst (λ (s : Statement). RowHolds row q x ↔ Holds s) (say q x) (is.says q x);
    defines = is.defines;
  }

  pub are_rows_of : (names : List RowName) (rows : List Row) → HaveSameTerms names → SayTheSame names → AreRowsOf places d names rows → AreRowsOf places e names rows
  are_rows_of [] [] terms say are = are
  are_rows_of [] (row ∷ rows) terms say are = absurd are
  are_rows_of (name ∷ names) [] terms say are = absurd are
  are_rows_of (name ∷ names) (row ∷ rows) terms say are = (
    is_named_row name row (terms name (inl refl)) (say name (inl refl)) are.0,
    are_rows_of names rows (λ other has. terms other (inr has)) (λ other has. say other (inr has)) are.1,
  )

-- ---- the rows of all instances

terms_alike : (places : ℕ) (d e : Data) → AreSameData d e → HaveSameTerms places d e (instances d)
terms_alike places d e same name has = same-terms places d e same name ((Has-instances d name).0 has)

say_alike : (places : ℕ) (d e : Data) → AreSameData d e → SayTheSame places d e (instances d)
say_alike places d e same name has q x = same-says d e same places q x name ((Has-instances d name).0 has)

-- one way
made-over : (places : ℕ) (d e : Data) → AreSameData d e → (before : ℕ) → CanBeMade places d before (instances d) → CanBeMade places e before (instances e)
made-over places d e same before made =
    subst (λ (names : List RowName). CanBeMade places e before names) (same-instances d e same) (can_be_made places d e before (instances d) (terms_alike places d e same) made)

wide-over : (places : ℕ) (d e : Data) → AreSameData d e → (before : ℕ) (name : RowName) → IsTooWide places d before (instances d) name → IsTooWide places e before (instances e) name
wide-over places d e same before name wide =
    subst (λ (names : List RowName). IsTooWide places e before names name) (same-instances d e same) (is_too_wide places d e before (instances d) name (terms_alike places d e same) wide)

many-over : (places : ℕ) (d e : Data) → AreSameData d e → (before : ℕ) (name : RowName) → HasTooMany places d before (instances d) name → HasTooMany places e before (instances e) name
many-over places d e same before name many =
    subst (λ (names : List RowName). HasTooMany places e before names name) (same-instances d e same) (has_too_many places d e before (instances d) name (terms_alike places d e same) many)

rows-over : (places : ℕ) (d e : Data) → AreSameData d e → (rows : List Row) → AreRowsOf places d (instances d) rows → AreRowsOf places e (instances e) rows
rows-over places d e same rows are =
    subst (λ (names : List RowName). AreRowsOf places e names rows) (same-instances d e same) (are_rows_of places d e (instances d) rows (terms_alike places d e same) (say_alike places d e same) are)

-- and back
pub same-made : (places : ℕ) (d e : Data) → AreSameData d e → (before : ℕ) → CanBeMade places d before (instances d) ↔ CanBeMade places e before (instances e)
same-made places d e same before = (made-over places d e same before, made-over places e d (back same) before)

pub same-wide : (places : ℕ) (d e : Data) → AreSameData d e → (before : ℕ) (name : RowName) → IsTooWide places d before (instances d) name ↔ IsTooWide places e before (instances e) name
same-wide places d e same before name = (wide-over places d e same before name, wide-over places e d (back same) before name)

pub same-many : (places : ℕ) (d e : Data) → AreSameData d e → (before : ℕ) (name : RowName) → HasTooMany places d before (instances d) name ↔ HasTooMany places e before (instances e) name
same-many places d e same before name = (many-over places d e same before name, many-over places e d (back same) before name)

pub same-rows : (places : ℕ) (d e : Data) → AreSameData d e → (rows : List Row) → AreRowsOf places d (instances d) rows ↔ AreRowsOf places e (instances e) rows
same-rows places d e same rows = (rows-over places d e same rows, rows-over places e d (back same) rows)

-- What is due in a round: the column that enters has a positive entry in the deciding line, and the row that leaves is the first by
-- quotient and rank of those with a positive entry in the column.
use Rattle.written_method.proofs.Common.{◌≡◌, ℕ, zero, suc, ◌+◌, ◌-◌, ◌<◌, ℤ, pos, Bool, true, false, Option, Some, None, List, [], ◌∷◌, length, get_or, arith, refl, sym, ap, ◌∙◌, subst, inl, inr, if◌then◌else◌, ◌<ℤ◌, ◌≤ℤ◌, int_lt, nat_lt, ints, IsShaped, MayLeave, Candidate, leaving_from, least_right_from, greatest_from, first_positive_from, rank_of, Line, entry_of, State, Phase, Start, One, Two, entering, deciding_line, leaving, x0_of, right_sides, Due, Pivot, NoColumn, NoRow, due, Tableau, line_of, basic_of, rows_of}
use Rattle.written_method.proofs.EndLaws.{greatest-none, first_positive-none}
use Rattle.written_method.proofs.PivotLaws.{same_or_not}
use Rattle.written_method.proofs.LeavingLaws.{Leads, IsLeast, IsOfRow, leaving-IsLeast, none-leaves}

-- ---- what is due in a phase

-- a round, in either phase
abbrev pub round_of : State → Due
round_of s = elim (entering s) [ None ↦ NoColumn | Some c ↦ leaving s c ]

due_in : State → Phase → Due
due_in s phase =
    elim phase [
      | Start ↦ Pivot (least_right_from 0 0 (pos 0) (right_sides s.tableau)) (s.tableau.columns - 1)
      | One ↦ elim (entering s) [ None ↦ NoColumn | Some c ↦ leaving s c ]
      | Two ↦ elim (entering s) [ None ↦ NoColumn | Some c ↦ leaving s c ]
    ]

pub due-start : (s : State) → s.phase ≡ Start → due s ≡ Pivot (least_right_from 0 0 (pos 0) (right_sides s.tableau)) (s.tableau.columns - 1)
unfolding due_in
due-start s h = ap (due_in s) h

pub due-one : (s : State) → s.phase ≡ One → due s ≡ round_of s
unfolding due_in
due-one s h = ap (due_in s) h

pub due-two : (s : State) → s.phase ≡ Two → due s ≡ round_of s
unfolding due_in
due-two s h = ap (due_in s) h

deciding_in : State → Phase → Line
deciding_in s phase = elim phase [ Start ↦ line_of s.tableau (rows_of s.tableau + 1) | One ↦ line_of s.tableau (rows_of s.tableau + 1) | Two ↦ line_of s.tableau (rows_of s.tableau) ]

pub deciding-one : (s : State) → s.phase ≡ One → deciding_line s ≡ line_of s.tableau (rows_of s.tableau + 1)
unfolding deciding_in
deciding-one s h = ap (deciding_in s) h

pub deciding-two : (s : State) → s.phase ≡ Two → deciding_line s ≡ line_of s.tableau (rows_of s.tableau)
unfolding deciding_in
deciding-two s h = ap (deciding_in s) h

x0_in : State → Phase → Option ℕ
x0_in s phase = elim phase [ Start ↦ Some (s.tableau.columns - 1) | One ↦ Some (s.tableau.columns - 1) | Two ↦ None ]

pub x0-one : (s : State) → s.phase ≡ One → x0_of s ≡ Some (s.tableau.columns - 1)
unfolding x0_in
x0-one s h = ap (x0_in s) h

-- ---- the column that enters

greatest-some : (zs : List ℤ) (at : ℕ) (best : ℤ) (chosen : Option ℕ) (c : ℕ) → greatest_from at best chosen zs ≡ Some c → pos 0 ≤ℤ best
    → ((k : ℕ) → chosen ≡ Some k → k ≡ c → ⊥) → (k : ℕ) × (c ≡ at + k) × (pos 0 <ℤ get_or zs k (pos 0))
greatest-some [] at best chosen c h positive not = absurd (not c h refl)
greatest-some (z ∷ zs) at best chosen c h positive not = pick (int_lt best z) refl (λ b o e p n. greatest-some zs (suc at) b o c e p n) h
  where
    Found : Type 0
    Found = (k : ℕ) × (c ≡ at + k) × (pos 0 <ℤ get_or (z ∷ zs) k (pos 0))

    later : ((k : ℕ) × (c ≡ suc at + k) × (pos 0 <ℤ get_or zs k (pos 0))) → (k : ℕ) × (c ≡ at + k) × (pos 0 <ℤ get_or (z ∷ zs) k (pos 0))
    later w = (suc w.0, omega (arith, w.1), w.2)

    pick : (t : Bool) → int_lt best z ≡ t
        → ((b : ℤ) (o : Option ℕ) → greatest_from (suc at) b o zs ≡ Some c → pos 0 ≤ℤ b → ((k : ℕ) → o ≡ Some k → k ≡ c → ⊥) → (k : ℕ) × (c ≡ suc at + k) × (pos 0 <ℤ get_or zs k (pos 0)))
        → (if t then greatest_from (suc at) z (Some at) zs else greatest_from (suc at) best chosen zs) ≡ Some c → (k : ℕ) × (c ≡ at + k) × (pos 0 <ℤ get_or (z ∷ zs) k (pos 0))
    pick false e ih g = later (ih best chosen g positive not)
    pick true e ih g = elim (same_or_not at c) [
      | inl same ↦ (0, omega arith, omega (arith, ints, e))
      | inr apart ↦ later (ih z (Some at) g (omega (arith, ints, e)) (λ k q r. apart (omega (arith, some_is at k q))))
    ]
      where
        some_is : (a b : ℕ) → Some a ≡ Some b → a ≡ b
        some_is a b q = cc

first_positive-some : (zs : List ℤ) (at c : ℕ) → first_positive_from at zs ≡ Some c → (k : ℕ) × (c ≡ at + k) × (pos 0 <ℤ get_or zs k (pos 0))
first_positive-some [] at c h = absurd (cc h)
first_positive-some (z ∷ zs) at c h = pick (int_lt (pos 0) z) refl (first_positive-some zs (suc at) c) h
  where
    some_is : (a b : ℕ) → Some a ≡ Some b → a ≡ b
    some_is a b q = cc

    pick : (t : Bool) → int_lt (pos 0) z ≡ t → (first_positive_from (suc at) zs ≡ Some c → (k : ℕ) × (c ≡ suc at + k) × (pos 0 <ℤ get_or zs k (pos 0)))
        → (if t then Some at else first_positive_from (suc at) zs) ≡ Some c → (k : ℕ) × (c ≡ at + k) × (pos 0 <ℤ get_or (z ∷ zs) k (pos 0))
    pick true e ih g = (0, omega (arith, some_is at c g), omega (arith, ints, e))
    pick false e ih g = let w = ih g in (suc w.0, omega (arith, w.1), w.2)

pub entering-positive : (s : State) (c : ℕ) → entering s ≡ Some c → pos 0 <ℤ entry_of (deciding_line s) c
entering-positive s c h = pick (nat_lt s.degenerate 50) h
  where
    at_place : ((k : ℕ) × (c ≡ 0 + k) × (pos 0 <ℤ entry_of (deciding_line s) k)) → pos 0 <ℤ entry_of (deciding_line s) c
    at_place w = let same : w.0 ≡ c = omega (arith, w.1) in subst (λ k. pos 0 <ℤ entry_of (deciding_line s) k) same w.2

    pick : (t : Bool) → (if t then greatest_from 0 (pos 0) None (deciding_line s).entries else first_positive_from 0 (deciding_line s).entries) ≡ Some c → pos 0 <ℤ entry_of (deciding_line s) c
    pick true g = at_place (greatest-some (deciding_line s).entries 0 (pos 0) None c g (omega (arith, ints)) (λ k e f. absurd (cc e)))
    pick false g = at_place (first_positive-some (deciding_line s).entries 0 c g)

pub entering-none : (s : State) (c : ℕ) → entering s ≡ None → entry_of (deciding_line s) c ≤ℤ pos 0
entering-none s c h = pick (nat_lt s.degenerate 50) h
  where
    pick : (t : Bool) → (if t then greatest_from 0 (pos 0) None (deciding_line s).entries else first_positive_from 0 (deciding_line s).entries) ≡ None → entry_of (deciding_line s) c ≤ℤ pos 0
    pick true g = greatest-none (deciding_line s).entries 0 g c
    pick false g = first_positive-none (deciding_line s).entries 0 g c

-- ---- a round

-- a pivot that is due in a round
pub record IsRound (s : State) (r c : ℕ) : Type 0 where
  pub row : r < rows_of s.tableau
  pub column : c < s.tableau.columns
  pub entering : pos 0 <ℤ entry_of (deciding_line s) c
  pub positive : pos 0 <ℤ entry_of (line_of s.tableau r) c
  pub leads : (i : ℕ) → i < rows_of s.tableau → pos 0 <ℤ entry_of (line_of s.tableau i) c
      → Leads (line_of s.tableau r).right (entry_of (line_of s.tableau r) c) (rank_of (x0_of s) (basic_of s.tableau r)) (line_of s.tableau i).right (entry_of (line_of s.tableau i) c) (rank_of (x0_of s) (basic_of s.tableau i))

-- a column with an entry other than 0 is there
within-entries : (zs : List ℤ) (c : ℕ) → pos 0 <ℤ get_or zs c (pos 0) → c < length zs
within-entries [] c h = absurd (omega (arith, ints))
within-entries (z ∷ zs) zero h = omega arith
within-entries (z ∷ zs) (suc c) h = let m = within-entries zs c h in omega arith

-- the row of the candidate that was chosen
of_candidate : (s : State) (r c : ℕ) (a : Candidate) → IsShaped s.tableau → pos 0 <ℤ entry_of (deciding_line s) c → leaving_from (x0_of s) c 0 None s.tableau.lines s.tableau.basics ≡ Some a → a.row ≡ r → IsRound s r c
of_candidate s r c a shaped enters chosen row =
    let t : Tableau = s.tableau in
    let l : IsLeast (x0_of s) c 0 None t.lines t.basics a = leaving-IsLeast (x0_of s) c 0 None t.lines t.basics a (λ b e. absurd (cc e)) chosen in
    let lines : rows_of t < length t.lines = shaped.lines in
    elim l.origin [
      | inl e ↦ absurd (cc e)
      | inr m ↦
          let i : ℕ = m.0 in
          let w : IsOfRow (x0_of s) c 0 i t.lines t.basics a = m.1 in
          let same : i ≡ r = omega (arith, w.row) in
          let entry : a.entry ≡ entry_of (line_of t r) c = w.entry ∙ ap (λ k. entry_of (line_of t k) c) same in
          let right : a.right ≡ (line_of t r).right = w.right ∙ ap (λ k. (line_of t k).right) same in
          let rank : a.rank ≡ rank_of (x0_of s) (basic_of t r) = w.rank ∙ ap (λ k. rank_of (x0_of s) (basic_of t k)) same in
          let in_rows : r < rows_of t = subst (λ k. k < rows_of t) same w.in_basics in
          let positive : pos 0 <ℤ entry_of (line_of t r) c = subst (λ z. pos 0 <ℤ z) entry l.positive in
          record {
            row = in_rows;
            column = subst (λ n. c < n) (shaped.entries r (omega arith)) (within-entries (line_of t r).entries c positive);
            entering = enters;
            positive = positive;
            leads = λ k j p.
                subst (λ z. Leads (line_of t r).right (entry_of (line_of t r) c) z (line_of t k).right (entry_of (line_of t k) c) (rank_of (x0_of s) (basic_of t k))) rank
                (subst (λ z. Leads (line_of t r).right z a.rank (line_of t k).right (entry_of (line_of t k) c) (rank_of (x0_of s) (basic_of t k))) entry
                (subst (λ z. Leads z a.entry a.rank (line_of t k).right (entry_of (line_of t k) c) (rank_of (x0_of s) (basic_of t k))) right (l.rows k (omega arith) j p)));
          }
    ]

pub round-IsRound : (s : State) (r c : ℕ) → IsShaped s.tableau → round_of s ≡ Pivot r c → IsRound s r c
round-IsRound s r c shaped h = pick (entering s) refl h
  where
    chosen : (d : ℕ) → entering s ≡ Some d → (o : Option Candidate) → leaving_from (x0_of s) d 0 None s.tableau.lines s.tableau.basics ≡ o → elim o as (λ _. Due) [ None ↦ NoRow d | Some a ↦ Pivot a.row d ] ≡ Pivot r c → IsRound s r c
    chosen d enters None e g = absurd (cc g)
    chosen d enters (Some a) e g =
        let same : d ≡ c = cc in
        let row : a.row ≡ r = cc in
        of_candidate s r c a shaped (entering-positive s c (enters ∙ ap Some same)) (ap (λ k. leaving_from (x0_of s) k 0 None s.tableau.lines s.tableau.basics) (sym same) ∙ e) row

    pick : (o : Option ℕ) → entering s ≡ o → elim o as (λ _. Due) [ None ↦ NoColumn | Some d ↦ leaving s d ] ≡ Pivot r c → IsRound s r c
    pick None e g = absurd (cc g)
    pick (Some d) e g = chosen d e (leaving_from (x0_of s) d 0 None s.tableau.lines s.tableau.basics) refl g

pub IsRound-MayLeave : (s : State) (r c : ℕ) → IsRound s r c → MayLeave s.tableau r c
IsRound-MayLeave s r c w = record { row = w.row; positive = w.positive; least = λ i k p. (w.leads i k p).least }

-- no column enters
pub round-NoColumn : (s : State) → round_of s ≡ NoColumn → (c : ℕ) → entry_of (deciding_line s) c ≤ℤ pos 0
round-NoColumn s h c = pick (entering s) refl h
  where
    no_row_chosen : (o : Option Candidate) (d : ℕ) → elim o as (λ _. Due) [ None ↦ NoRow d | Some a ↦ Pivot a.row d ] ≡ NoColumn → ⊥
    no_row_chosen None d g = cc
    no_row_chosen (Some a) d g = cc

    pick : (o : Option ℕ) → entering s ≡ o → elim o as (λ _. Due) [ None ↦ NoColumn | Some d ↦ leaving s d ] ≡ NoColumn → entry_of (deciding_line s) c ≤ℤ pos 0
    pick None e g = entering-none s c e
    pick (Some d) e g = absurd (no_row_chosen (leaving_from (x0_of s) d 0 None s.tableau.lines s.tableau.basics) d g)

-- a column enters, and no row leaves for it
pub record IsStuck (s : State) (c : ℕ) : Type 0 where
  pub entering : pos 0 <ℤ entry_of (deciding_line s) c
  pub rows : (i : ℕ) → i < rows_of s.tableau → entry_of (line_of s.tableau i) c ≤ℤ pos 0

pub round-NoRow : (s : State) (c : ℕ) → IsShaped s.tableau → round_of s ≡ NoRow c → IsStuck s c
round-NoRow s c shaped h = pick (entering s) refl h
  where
    chosen : (d : ℕ) → entering s ≡ Some d → (o : Option Candidate) → leaving_from (x0_of s) d 0 None s.tableau.lines s.tableau.basics ≡ o → elim o as (λ _. Due) [ None ↦ NoRow d | Some a ↦ Pivot a.row d ] ≡ NoRow c → IsStuck s c
    chosen d enters (Some a) e g = absurd (cc g)
    chosen d enters None e g =
        let same : d ≡ c = cc in
        let lines : rows_of s.tableau < length s.tableau.lines = shaped.lines in
        record {
          entering = entering-positive s c (enters ∙ ap Some same);
          rows = λ i k. none-leaves (x0_of s) c 0 s.tableau.lines s.tableau.basics (ap (λ j. leaving_from (x0_of s) j 0 None s.tableau.lines s.tableau.basics) (sym same) ∙ e) i (omega arith) k;
        }

    pick : (o : Option ℕ) → entering s ≡ o → elim o as (λ _. Due) [ None ↦ NoColumn | Some d ↦ leaving s d ] ≡ NoRow c → IsStuck s c
    pick None e g = absurd (cc g)
    pick (Some d) e g = chosen d e (leaving_from (x0_of s) d 0 None s.tableau.lines s.tableau.basics) refl g

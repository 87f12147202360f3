-- The code's numbers are those of the rough lines; and the choices, one column or row after another.
use Rattle.simplex_core.proofs.Common.{◌≡◌, ◌≢◌, ℕ, suc, ◌+◌, ◌<◌, ◌≤◌, ℤ, pos, Bool, true, false, List, Option, Some, None, length, get_or, set, map, drop, arith, refl, sym, ap, ap₂, ◌∙◌, subst, if◌then◌else◌, add-one, inl, inr, int_lt, eq-eqb, ne_eqb, cases_lt, get_or-set_same, get_or-set_other, get_or-map, get_or_past, drop_more, length-set, Line, entry_of, less, Tableau, line_of, rows_of, no_line, greatest_from, first_positive_from, leaving_from, better, rank_of, Due, Pivot, NoColumn, NoRow, same_or_not, IsLeast, leaving-IsLeast, IsKept, rough_line, rough_lines, kept_entering, kept_leaving, kept_due, kept_state, rough_of, kept_basics, candidate_of}
use Rattle.simplex_core.proofs.ChoiceLaws.{AreZeros}
use Rattle.written_method.specs.Choices as choices
use Rattle.simplex_core.proofs.StateLaws.{get_or-all_less, lines_length, length-rough}

in_lines : (t : Tableau) (h d i : ℕ) → IsKept h d t → i < rows_of t → i < length t.lines
in_lines t h d i w k = let more : rows_of t < length t.lines = w.shaped.lines in omega arith

rough-other : (t : Tableau) (h d row : ℕ) → row ≢ h → rough_of t h d row ≡ rough_line d (line_of t h) (line_of t row)
rough-other t h d row n = ap (λ b. if b then line_of t h else rough_line d (line_of t h) (line_of t row)) (ne_eqb row h n)

pub rough-entry : (t : Tableau) (h d row c : ℕ) → IsKept h d t → row < length t.lines → row ≢ h
    → less (entry_of (line_of t h) d) (entry_of (line_of t row) d) (entry_of (line_of t row) c) (entry_of (line_of t h) c) ≡ entry_of (rough_of t h d row) c
rough-entry t h d row c w k n =
    sym (ap (λ (l : Line). entry_of l c) (rough-other t h d row n)
    ∙ get_or-all_less (entry_of (line_of t h) d) (entry_of (line_of t row) d) (line_of t row).entries (line_of t h).entries c (w.shaped.entries row k ∙ sym (w.shaped.entries h (in_lines t h d h w w.home_row))))

pub rough-right : (t : Tableau) (h d row : ℕ) → row ≢ h → less (entry_of (line_of t h) d) (entry_of (line_of t row) d) (line_of t row).right (line_of t h).right ≡ (rough_of t h d row).right
rough-right t h d row n = sym (ap (λ (l : Line). l.right) (rough-other t h d row n))

-- x0's row stands for itself
pub rough-entry_home : (t : Tableau) (h d row c : ℕ) → row ≡ h → entry_of (rough_of t h d row) c ≡ entry_of (line_of t h) c
rough-entry_home t h d row c e = ap (λ (b : Bool). entry_of (if b then line_of t h else rough_line d (line_of t h) (line_of t row)) c) (eq-eqb row h e)

pub rough-right_home : (t : Tableau) (h d row : ℕ) → row ≡ h → (rough_of t h d row).right ≡ (line_of t h).right
rough-right_home t h d row e = ap (λ (b : Bool). (if b then line_of t h else rough_line d (line_of t h) (line_of t row)).right) (eq-eqb row h e)

-- the line that stands among the rough ones
pub rough-line : (t : Tableau) (h d row : ℕ) → IsKept h d t → row < length t.lines → get_or (rough_lines (kept_state t h d 0 0)) row no_line ≡ rough_of t h d row
rough-line t h d row w k = elim (same_or_not row h) [
  | inl e ↦ subst (λ i. get_or (rough_lines (kept_state t h d 0 0)) i no_line ≡ rough_of t h d i) (sym e)
      (get_or-set_same (map (rough_line d (line_of t h)) t.lines) h (line_of t h) no_line (omega (arith, lines_length (rough_line d (line_of t h)) t.lines, in_lines t h d h w w.home_row))
      ∙ sym (ap (λ b. if b then line_of t h else rough_line d (line_of t h) (line_of t h)) (eq-eqb h h refl)))
  | inr n ↦
      get_or-set_other (map (rough_line d (line_of t h)) t.lines) h row (line_of t h) no_line n
      ∙ get_or-map (rough_line d (line_of t h)) t.lines row no_line no_line k
      ∙ sym (rough-other t h d row n)
]

-- that of a row
pub rough-at : (t : Tableau) (h d row : ℕ) → IsKept h d t → row < rows_of t → get_or (rough_lines (kept_state t h d 0 0)) row no_line ≡ rough_of t h d row
rough-at t h d row w k = rough-line t h d row w (in_lines t h d row w k)

-- one row more
pub leaving-more : (t : Tableau) (h d c row : ℕ) (chosen : Option choices.Candidate) → IsKept h d t → row < rows_of t
    → leaving_from (Some d) c row chosen (drop row (rough_lines (kept_state t h d 0 0))) (drop row (kept_basics t h d))
    ≡ (if int_lt (pos 0) (entry_of (rough_of t h d row) c)
    then leaving_from (Some d) c (row + 1) (Some (better chosen (candidate_of t h d c row))) (drop (row + 1) (rough_lines (kept_state t h d 0 0))) (drop (row + 1) (kept_basics t h d))
    else leaving_from (Some d) c (row + 1) chosen (drop (row + 1) (rough_lines (kept_state t h d 0 0))) (drop (row + 1) (kept_basics t h d)))
leaving-more t h d c row chosen w k =
    let ls : List Line = rough_lines (kept_state t h d 0 0) in
    let bs : List ℕ = kept_basics t h d in
    ap₂ (leaving_from (Some d) c row chosen)
    (drop_more ls row no_line (omega (arith, length-rough (kept_state t h d 0 0), in_lines t h d row w k)))
    (drop_more bs row 0 (omega (arith, length-set t.basics h d)))
    ∙ ap₂ (λ (l : Line) (n : ℕ). if int_lt (pos 0) (entry_of l c)
    then leaving_from (Some d) c n (Some (better chosen (record { row = row; right = l.right; entry = entry_of l c; rank = rank_of (Some d) (get_or bs row 0) }))) (drop (row + 1) ls) (drop (row + 1) bs)
    else leaving_from (Some d) c n chosen (drop (row + 1) ls) (drop (row + 1) bs)) (rough-at t h d row w k) (sym (add-one row))

-- the row was one that may leave
pub leaving-took : (t : Tableau) (h d c row : ℕ) (chosen : Option choices.Candidate) (a : choices.Candidate) → IsKept h d t → row < rows_of t → Some a ≡ (if int_lt (pos 0) (entry_of (rough_of t h d row) c) then Some (candidate_of t h d c row) else None)
    → leaving_from (Some d) c row chosen (drop row (rough_lines (kept_state t h d 0 0))) (drop row (kept_basics t h d)) ≡ leaving_from (Some d) c (row + 1) (Some (better chosen a)) (drop (row + 1) (rough_lines (kept_state t h d 0 0))) (drop (row + 1) (kept_basics t h d))
leaving-took t h d c row chosen a w k e = leaving-more t h d c row chosen w k ∙ cases (int_lt (pos 0) (entry_of (rough_of t h d row) c)) e
  where
    cases : (b : Bool) → Some a ≡ (if b then Some (candidate_of t h d c row) else None)
        → (if b
        then leaving_from (Some d) c (row + 1) (Some (better chosen (candidate_of t h d c row))) (drop (row + 1) (rough_lines (kept_state t h d 0 0))) (drop (row + 1) (kept_basics t h d))
        else leaving_from (Some d) c (row + 1) chosen (drop (row + 1) (rough_lines (kept_state t h d 0 0))) (drop (row + 1) (kept_basics t h d)))
        ≡ leaving_from (Some d) c (row + 1) (Some (better chosen a)) (drop (row + 1) (rough_lines (kept_state t h d 0 0))) (drop (row + 1) (kept_basics t h d))
    cases true f = let same : a ≡ candidate_of t h d c row = cc f in ap (λ (x : choices.Candidate). leaving_from (Some d) c (row + 1) (Some (better chosen x)) (drop (row + 1) (rough_lines (kept_state t h d 0 0))) (drop (row + 1) (kept_basics t h d))) (sym same)
    cases false f = absurd (cc f)

-- it wasn't
pub leaving-passed : (t : Tableau) (h d c row : ℕ) (chosen : Option choices.Candidate) → IsKept h d t → row < rows_of t → None ≡ (if int_lt (pos 0) (entry_of (rough_of t h d row) c) then Some (candidate_of t h d c row) else None)
    → leaving_from (Some d) c row chosen (drop row (rough_lines (kept_state t h d 0 0))) (drop row (kept_basics t h d)) ≡ leaving_from (Some d) c (row + 1) chosen (drop (row + 1) (rough_lines (kept_state t h d 0 0))) (drop (row + 1) (kept_basics t h d))
leaving-passed t h d c row chosen w k e = leaving-more t h d c row chosen w k ∙ cases (int_lt (pos 0) (entry_of (rough_of t h d row) c)) e
  where
    cases : (b : Bool) → None ≡ (if b then Some (candidate_of t h d c row) else None)
        → (if b
        then leaving_from (Some d) c (row + 1) (Some (better chosen (candidate_of t h d c row))) (drop (row + 1) (rough_lines (kept_state t h d 0 0))) (drop (row + 1) (kept_basics t h d))
        else leaving_from (Some d) c (row + 1) chosen (drop (row + 1) (rough_lines (kept_state t h d 0 0))) (drop (row + 1) (kept_basics t h d)))
        ≡ leaving_from (Some d) c (row + 1) chosen (drop (row + 1) (rough_lines (kept_state t h d 0 0))) (drop (row + 1) (kept_basics t h d))
    cases true f = absurd (cc f)
    cases false f = refl

-- ---- what is due

pub due-is : (t : Tableau) (h d deg c : ℕ) (a : choices.Candidate) → kept_entering (kept_state t h d 0 deg) ≡ Some c → kept_leaving (kept_state t h d 0 0) c ≡ Some a → kept_due (kept_state t h d 0 deg) ≡ Pivot a.row c
due-is t h d deg c a e f =
    ap (λ (o : Option ℕ). elim o as (λ _. Due) [ None ↦ NoColumn | Some k ↦ elim (kept_leaving (kept_state t h d 0 deg) k) as (λ _. Due) [ None ↦ NoRow k | Some b ↦ Pivot b.row k ] ]) e
    ∙ ap (λ (o : Option choices.Candidate). elim o as (λ _. Due) [ None ↦ NoRow c | Some b ↦ Pivot b.row c ]) f

pub leaving-row : (t : Tableau) (h d c : ℕ) (a : choices.Candidate) → IsKept h d t → kept_leaving (kept_state t h d 0 0) c ≡ Some a → a.row < rows_of t
leaving-row t h d c a w e =
    let ls : List Line = rough_lines (kept_state t h d 0 0) in
    let l : IsLeast (Some d) c 0 None ls (kept_basics t h d) a = leaving-IsLeast (Some d) c 0 None ls (kept_basics t h d) a (λ b f. absurd (cc f)) e in
    elim l.origin [
      | inl f ↦ absurd (cc f)
      | inr m ↦ omega (arith, m.1.in_basics, m.1.row, length-set t.basics h d)
    ]

pub leaving-right : (t : Tableau) (h d c : ℕ) (a : choices.Candidate) → IsKept h d t → kept_leaving (kept_state t h d 0 0) c ≡ Some a → a.right ≡ (rough_of t h d a.row).right
leaving-right t h d c a w e =
    let ls : List Line = rough_lines (kept_state t h d 0 0) in
    let l : IsLeast (Some d) c 0 None ls (kept_basics t h d) a = leaving-IsLeast (Some d) c 0 None ls (kept_basics t h d) a (λ b f. absurd (cc f)) e in
    elim l.origin [
      | inl f ↦ absurd (cc f)
      | inr m ↦
          let same : m.0 ≡ a.row = omega (arith, m.1.row) in
          let row : a.row < rows_of t = omega (arith, m.1.in_basics, same, length-set t.basics h d) in
          m.1.right ∙ ap (λ i. (get_or ls i no_line).right) same ∙ ap (λ (x : Line). x.right) (rough-at t h d a.row w row)
    ]

-- ---- the entries of x0's row but that at x0

pub without-number : (zs : List ℤ) (d c : ℕ) (z : ℤ) → c ≢ d → get_or zs c (pos 0) ≡ z → get_or (set zs d (pos 0)) c (pos 0) ≡ z
without-number zs d c z n h = get_or-set_other zs d c (pos 0) (pos 0) n ∙ h

pub without-zeros : (zs : List ℤ) (d from to : ℕ) → to ≤ d → AreZeros zs from to → AreZeros (set zs d (pos 0)) from to
without-zeros zs d from to h z k a b = without-number zs d k (pos 0) (λ e. absurd (omega (arith, e))) (z k a b)

pub without-rest : (zs : List ℤ) (d from : ℕ) → length zs ≡ suc d → AreZeros zs from d → (k : ℕ) → from ≤ k → get_or (set zs d (pos 0)) k (pos 0) ≡ pos 0
without-rest zs d from many z k a = elim (same_or_not k d) [
  | inl e ↦ subst (λ j. get_or (set zs d (pos 0)) j (pos 0) ≡ pos 0) (sym e) (get_or-set_same zs d (pos 0) (pos 0) (omega arith))
  | inr n ↦ without-number zs d k (pos 0) n (elim (cases_lt k d) [
    | inl less ↦ z k a less
    | inr more ↦ get_or_past zs k (pos 0) (past k more n)
  ])
]
  where
    past : (k : ℕ) → d ≤ k → k ≢ d → length zs ≤ k
    past k more n = omega (arith, many, more, n)

pub without-all : (zs : List ℤ) (d from : ℕ) → length zs ≡ suc d → ((k : ℕ) → from ≤ k → get_or zs k (pos 0) ≡ pos 0) → (k : ℕ) → from ≤ k → get_or (set zs d (pos 0)) k (pos 0) ≡ pos 0
without-all zs d from many z = without-rest zs d from many (λ k a b. z k a)

-- The first pivot, and that a row can always leave.
use Rattle.simplex_core.proofs.Common.{◌≡◌, ◌≢◌, ℕ, zero, suc, ◌<◌, pos, neg_ℤ, Bool, true, false, Option, Some, None, List, [], ◌∷◌, length, get_or, set, arith, refl, sym, ap, ◌∙◌, subst, if◌then◌else◌, inl, inr, ◌<ℤ◌, ◌≤ℤ◌, int_lt, ints, get_or-set_same, get_or-set_other, length-set, Line, entry_of, Tableau, line_of, rows_of, no_line, negated, negated_line, Candidate, better, rank_of, leaving_from, Due, Pivot, NoColumn, NoRow, same_or_not, IsPrimitive, IsArtificial, IsKept}
use Rattle.simplex_core.specs.KeptRounds.{KeptState, home_line, rough_line, rough_lines, kept_entering, kept_leaving, kept_due, IsFirst}
use Rattle.simplex_core.proofs.PrimitiveLaws.{negated_line-IsPrimitive}
use Rattle.simplex_core.proofs.ClearedTwice.{length-negated, entry_of-negated}
use Rattle.simplex_core.proofs.StateLaws.{IsKeptState, in_lines, length-rough, lines_length}
use Rattle.simplex_core.proofs.AnswerLaws.{entering-IsEntering}

-- ---- the first pivot

line-negated : (t : Tableau) (h : ℕ) → h < length t.lines → line_of (negated h t) h ≡ negated_line (line_of t h)
line-negated t h k = get_or-set_same t.lines h (negated_line (line_of t h)) no_line k

line-same : (t : Tableau) (h i : ℕ) → i ≢ h → line_of (negated h t) i ≡ line_of t i
line-same t h i n = get_or-set_other t.lines h i (negated_line (line_of t h)) no_line n

each-line : (P : ℕ → Line → Type 0) (t : Tableau) (h : ℕ) → h < length t.lines → P h (negated_line (line_of t h)) → ((i : ℕ) → i < length t.lines → i ≢ h → P i (line_of t i)) → (i : ℕ) → i < length t.lines → P i (line_of (negated h t) i)
each-line P t h k ph others i j = elim (same_or_not i h) [
  | inl e ↦ subst (λ n. P n (line_of (negated h t) n)) (sym e) (subst (P h) (sym (line-negated t h k)) ph)
  | inr n ↦ subst (P i) (sym (line-same t h i n)) (others i j n)
]

length-negated_lines : (t : Tableau) (h : ℕ) → length (negated h t).lines ≡ length t.lines
length-negated_lines t h = length-set t.lines h (negated_line (line_of t h))

pub IsKept-started : (t : Tableau) (h x0 : ℕ) → IsFirst x0 t → h < rows_of t → IsKept h x0 (negated h t)
IsKept-started t h x0 f k = record {
  shaped = record {
    lines = omega (arith, length-negated_lines t h, f.shaped.lines);
    entries = λ i j. each-line (λ i l. length l.entries ≡ t.columns) t h home (length-negated (line_of t h) ∙ f.shaped.entries h home) (λ i m n. f.shaped.entries i m) i (omega (arith, length-negated_lines t h));
    rows_own = λ i j. each-line (λ i l. i < rows_of t → l.own ≡ pos 0) t h home (λ m. ap neg_ℤ (f.shaped.rows_own h k)) (λ i m n p. f.shaped.rows_own i p) i (omega (arith, f.shaped.lines)) j;
  };
  artificial_there = omega (arith, f.artificial_there, length-negated_lines t h);
  count = omega (arith, f.count, length-negated_lines t h);
  last_column = f.last_column;
  primitive = λ i j. each-line (λ i l. IsPrimitive l) t h home (negated_line-IsPrimitive (line_of t h) (f.primitive h home)) (λ i m n. f.primitive i m) i (omega (arith, length-negated_lines t h));
  home_row = k;
  positive = subst (λ (l : Line). pos 0 <ℤ entry_of l x0) (sym (line-negated t h home)) (omega (arith, ints, entry_of-negated (line_of t h) x0, f.at_x0 h k));
  not_basic = f.not_basic;
  artificial = subst (IsArtificial x0) (sym (line-same t h (suc (rows_of t)) (λ e. absurd (omega (arith, e))))) f.artificial;
}
  where
    home : h < length t.lines
    home = let more : rows_of t < length t.lines = f.shaped.lines in omega arith

-- ---- a row can always leave: that of x0

record NoneLeaves (c : ℕ) (chosen : Option Candidate) (lines : List Line) (basics : List ℕ) : Type 0 where
  before : chosen ≡ None
  rows : (i : ℕ) → i < length lines → i < length basics → entry_of (get_or lines i no_line) c ≤ℤ pos 0

leaving-none : (x0 : Option ℕ) (c at : ℕ) (chosen : Option Candidate) (lines : List Line) (basics : List ℕ) → leaving_from x0 c at chosen lines basics ≡ None → NoneLeaves c chosen lines basics
leaving-none x0 c at chosen lines [] h = record { before = h; rows = λ i k l. absurd (omega arith) }
leaving-none x0 c at chosen [] (b ∷ bs) h = record { before = h; rows = λ i k l. absurd (omega arith) }
leaving-none x0 c at chosen (line ∷ lines) (b ∷ bs) h =
    pick (int_lt (pos 0) (entry_of line c)) refl (leaving-none x0 c (suc at) (Some (better chosen (record { row = at; right = line.right; entry = entry_of line c; rank = rank_of x0 b }))) lines bs) (leaving-none x0 c (suc at) chosen lines bs) h
  where
    pick : (t : Bool) → int_lt (pos 0) (entry_of line c) ≡ t
        → (leaving_from x0 c (suc at) (Some (better chosen (record { row = at; right = line.right; entry = entry_of line c; rank = rank_of x0 b }))) lines bs ≡ None → NoneLeaves c (Some (better chosen (record { row = at; right = line.right; entry = entry_of line c; rank = rank_of x0 b }))) lines bs)
        → (leaving_from x0 c (suc at) chosen lines bs ≡ None → NoneLeaves c chosen lines bs)
        → (if t then leaving_from x0 c (suc at) (Some (better chosen (record { row = at; right = line.right; entry = entry_of line c; rank = rank_of x0 b }))) lines bs else leaving_from x0 c (suc at) chosen lines bs) ≡ None
        → NoneLeaves c chosen (line ∷ lines) (b ∷ bs)
    pick true e f g h = absurd (cc (f h).before)
    pick false e f g h = record { before = (g h).before; rows = rows (g h) }
      where
        rows : NoneLeaves c chosen lines bs → (i : ℕ) → i < length (line ∷ lines) → i < length (b ∷ bs) → entry_of (get_or (line ∷ lines) i no_line) c ≤ℤ pos 0
        rows m zero k l = omega (arith, ints, e)
        rows m (suc i) k l = m.rows i (omega arith) (omega arith)

pub never-NoRow : (k : KeptState) (c : ℕ) → IsKeptState k → kept_due k ≡ NoRow c → ⊥
never-NoRow k c w h = column (kept_entering k) refl h
  where
    home : get_or (rough_lines k) k.home no_line ≡ home_line k
    home = get_or-set_same _ k.home (home_line k) no_line (omega (arith, lines_length (rough_line k.x0 (home_line k)) k.tableau.lines, in_lines k k.home w w.home_row))

    none : (d : ℕ) → kept_entering k ≡ Some d → kept_leaving k d ≡ None → ⊥
    none d e f =
        let m : NoneLeaves d None (rough_lines k) (set k.tableau.basics k.home k.x0) = leaving-none (Some k.x0) d 0 None (rough_lines k) (set k.tableau.basics k.home k.x0) f in
        let below : entry_of (get_or (rough_lines k) k.home no_line) d ≤ℤ pos 0 = m.rows k.home (omega (arith, length-rough k, in_lines k k.home w w.home_row)) (omega (arith, length-set k.tableau.basics k.home k.x0, w.home_row)) in
        let above : pos 0 <ℤ entry_of (home_line k) d = (entering-IsEntering k d w e).positive in
        omega (arith, ints, above, subst (λ (l : Line). entry_of l d ≤ℤ pos 0) home below)

    row : (d : ℕ) (o : Option Candidate) → kept_entering k ≡ Some d → kept_leaving k d ≡ o → elim o as (λ _. Due) [ None ↦ NoRow d | Some a ↦ Pivot a.row d ] ≡ NoRow c → ⊥
    row d None e f g = none d e f
    row d (Some a) e f g = cc g

    column : (o : Option ℕ) → kept_entering k ≡ o → elim o as (λ _. Due) [ None ↦ NoColumn | Some d ↦ elim (kept_leaving k d) as (λ _. Due) [ None ↦ NoRow d | Some a ↦ Pivot a.row d ] ] ≡ NoRow c → ⊥
    column None e g = cc g
    column (Some d) e g = row d (kept_leaving k d) e refl g

-- What is due in the method's state and its next state, from the kept tableau.
use Rattle.simplex_core.proofs.Common.{◌≡◌, ℕ, zero, suc, ◌-◌, ◌<◌, ℤ, pos, ◌-ℤ◌, ◌*ℤ◌, neg_ℤ, Bool, true, false, Option, Some, None, List, [], ◌∷◌, length, get_or, set, map, arith, refl, sym, ap, ap₂, ◌∙◌, subst, if◌then◌else◌, inl, inr, add-one, ◌<ℤ◌, nat_lt, ◌==◌, ints, eq-eqb, ne_eqb, get_or-set_same, get_or-set_other, get_or-map, length-set, *ℤ_cancel, nonzero_of_pos, ring, *ℤ-one, *ℤ-zero, zero-*ℤ, is_zero, is_zero-fact, Line, entry_of, less, all_less, cleared, Tableau, line_of, basic_of, rows_of, no_line, pivoted, without_x0, Candidate, greatest_from, first_positive_from, leaving_from, State, Phase, One, Two, Due, Pivot, NoColumn, NoRow, entering, deciding_line, leaving, due, after, IsCleared, cleared-IsCleared, length-cleared, length-pivoted, rows_of-pivoted, line_of-pivoted, line_of-other, basic_of-pivoted, basic_of-other, same_or_not, IsKept, shown, exchanged, KeptState, shown_state, home_line, rough_line, rough_lines, kept_entering, kept_leaving, kept_due, next_kept, left_kept}
use Rattle.simplex_core.proofs.PrimitiveLaws.{AreProportional}
use Rattle.simplex_core.proofs.KeptLaws.{IsChosen, shown-exchanged, shown-last}
use Rattle.simplex_core.proofs.ScaledChoiceLaws.{greatest-scaled, first_positive-scaled, AreSame, leaving-scaled}

-- what holds of a kept state
abbrev pub IsKeptState : KeptState → Type 0
IsKeptState k = IsKept k.home k.x0 k.tableau

pub in_lines : (k : KeptState) (i : ℕ) → IsKeptState k → i < rows_of k.tableau → i < length k.tableau.lines
in_lines k i w h = let more : rows_of k.tableau < length k.tableau.lines = w.shaped.lines in omega arith

-- ---- the rough lines

pub get_or-all_less : (a b : ℤ) (xs ys : List ℤ) (c : ℕ) → length xs ≡ length ys → get_or (all_less a b xs ys) c (pos 0) ≡ (a *ℤ get_or xs c (pos 0)) -ℤ (b *ℤ get_or ys c (pos 0))
get_or-all_less a b [] [] c h = sym (ap₂ ◌-ℤ◌ (*ℤ-zero a) (*ℤ-zero b))
get_or-all_less a b [] (y ∷ ys) c h = absurd (omega arith)
get_or-all_less a b (x ∷ xs) [] c h = absurd (omega arith)
get_or-all_less a b (x ∷ xs) (y ∷ ys) zero h = refl
get_or-all_less a b (x ∷ xs) (y ∷ ys) (suc c) h = get_or-all_less a b xs ys c (omega arith)

one_pos : pos 0 <ℤ pos 1
one_pos = omega (arith, ints)

pub rough-AreProportional : (x0 : ℕ) (home line : Line) → length line.entries ≡ length home.entries → pos 0 <ℤ entry_of home x0 → AreProportional (cleared x0 home line) (rough_line x0 home line)
rough-AreProportional x0 home line len p =
    let w : IsCleared x0 (cleared x0 home line) line home = cleared-IsCleared x0 home line len p in
    record {
      first = w.over;
      second = pos 1;
      first_pos = w.over_pos;
      second_pos = one_pos;
      entries = λ c. w.combined.entries c ∙ sym (*ℤ-one _ ∙ get_or-all_less (entry_of home x0) (entry_of line x0) line.entries home.entries c len);
      right = w.combined.right ∙ sym (*ℤ-one ((entry_of home x0 *ℤ line.right) -ℤ (entry_of line x0 *ℤ home.right)));
      own = w.combined.own ∙ sym (*ℤ-one ((entry_of home x0 *ℤ line.own) -ℤ (entry_of line x0 *ℤ home.own)));
    }

same-AreProportional : (line : Line) → AreProportional line line
same-AreProportional line = record { first = pos 1; second = pos 1; first_pos = one_pos; second_pos = one_pos; entries = λ c. refl; right = refl; own = refl }

pub lines_length : (f : Line → Line) (ls : List Line) → length (map f ls) ≡ length ls
lines_length f [] = refl
lines_length f (l ∷ ls) = ap suc (lines_length f ls)

pub length-rough : (k : KeptState) → length (rough_lines k) ≡ length k.tableau.lines
length-rough k = length-set (map (rough_line k.x0 (home_line k)) k.tableau.lines) k.home (home_line k) ∙ lines_length (rough_line k.x0 (home_line k)) k.tableau.lines

shown-rough : (k : KeptState) (i : ℕ) → IsKeptState k → i < length k.tableau.lines → AreProportional (line_of (shown k.home k.x0 k.tableau) i) (get_or (rough_lines k) i no_line)
shown-rough k i w h = elim (same_or_not i k.home) [
  | inl e ↦ subst (λ j. AreProportional (line_of (shown k.home k.x0 k.tableau) j) (get_or (rough_lines k) j no_line)) (sym e)
      (subst (λ (l : Line). AreProportional l (get_or (rough_lines k) k.home no_line)) (sym (line_of-pivoted k.tableau k.home k.x0 home))
      (subst (AreProportional (home_line k)) (sym (get_or-set_same (map (rough_line k.x0 (home_line k)) k.tableau.lines) k.home (home_line k) no_line (omega (arith, lines_length (rough_line k.x0 (home_line k)) k.tableau.lines, home))))
      (same-AreProportional (home_line k))))
  | inr n ↦
      subst (λ (l : Line). AreProportional l (get_or (rough_lines k) i no_line)) (sym (line_of-other k.tableau k.home k.x0 i h n))
      (subst (AreProportional (cleared k.x0 (home_line k) (line_of k.tableau i))) (sym (get_or-set_other (map (rough_line k.x0 (home_line k)) k.tableau.lines) k.home i (home_line k) no_line n ∙ get_or-map (rough_line k.x0 (home_line k)) k.tableau.lines i no_line no_line h))
      (rough-AreProportional k.x0 (home_line k) (line_of k.tableau i) (w.shaped.entries i h ∙ sym (w.shaped.entries k.home home)) w.positive))
]
  where
    home : k.home < length k.tableau.lines
    home = in_lines k k.home w w.home_row

-- ---- the column that enters

-- the method's line of w is a positive multiple of x0's row without x0
record IsWithout (x0 : ℕ) (line home : Line) : Type 0 where
  over : ℤ
  over_pos : pos 0 <ℤ over
  length_is : length line.entries ≡ length (set home.entries x0 (pos 0))
  entries : (j : ℕ) → entry_of line j *ℤ over ≡ get_or (set home.entries x0 (pos 0)) j (pos 0) *ℤ pos 1

at_x0 : (p w : ℤ) → w ≡ neg_ℤ (pos 1) → (p *ℤ w) -ℤ (w *ℤ p) ≡ pos 0 *ℤ pos 1
at_x0 p w h = simp ring (omega (arith, ints))

elsewhere : (p w z y : ℤ) → w ≡ neg_ℤ (pos 1) → z ≡ pos 0 → (p *ℤ z) -ℤ (w *ℤ y) ≡ y *ℤ pos 1
elsewhere p w z y h e = ap₂ (λ a b. (p *ℤ a) -ℤ (b *ℤ y)) e h ∙ done p y
  where
    done : (p y : ℤ) → (p *ℤ pos 0) -ℤ (neg_ℤ (pos 1) *ℤ y) ≡ y *ℤ pos 1
    done p y = simp ring (omega (arith, ints))

artificial-IsWithout : (k : KeptState) → IsKeptState k → IsWithout k.x0 (line_of (shown k.home k.x0 k.tableau) (suc (rows_of k.tableau))) (home_line k)
artificial-IsWithout k w = subst (λ (l : Line). IsWithout k.x0 l (home_line k)) (sym is) (record {
  over = clear.over;
  over_pos = clear.over_pos;
  length_is = length-cleared k.x0 (home_line k) line len ∙ len ∙ sym (length-set (home_line k).entries k.x0 (pos 0));
  entries = λ j. clear.combined.entries j ∙ elim (same_or_not j k.x0) [
    | inl e ↦ subst (λ c. (entry_of (home_line k) k.x0 *ℤ entry_of line c) -ℤ (entry_of line k.x0 *ℤ entry_of (home_line k) c) ≡ get_or (set (home_line k).entries k.x0 (pos 0)) c (pos 0) *ℤ pos 1) (sym e)
        (at_x0 (entry_of (home_line k) k.x0) (entry_of line k.x0) w.artificial.at_x0 ∙ ap (λ z. z *ℤ pos 1) (sym (get_or-set_same (home_line k).entries k.x0 (pos 0) (pos 0) within)))
    | inr n ↦ elsewhere (entry_of (home_line k) k.x0) (entry_of line k.x0) (entry_of line j) (entry_of (home_line k) j) w.artificial.at_x0 (w.artificial.others j n) ∙ ap (λ z. z *ℤ pos 1) (sym (get_or-set_other (home_line k).entries k.x0 j (pos 0) (pos 0) n))
  ];
})
  where
    line : Line
    line = line_of k.tableau (suc (rows_of k.tableau))

    len : length line.entries ≡ length (home_line k).entries
    len = w.shaped.entries (suc (rows_of k.tableau)) w.artificial_there ∙ sym (w.shaped.entries k.home (in_lines k k.home w w.home_row))

    within : k.x0 < length (home_line k).entries
    within = omega (arith, w.shaped.entries k.home (in_lines k k.home w w.home_row), w.last_column)

    clear : IsCleared k.x0 (cleared k.x0 (home_line k) line) line (home_line k)
    clear = cleared-IsCleared k.x0 (home_line k) line len w.positive

    is : line_of (shown k.home k.x0 k.tableau) (suc (rows_of k.tableau)) ≡ cleared k.x0 (home_line k) line
    is = line_of-other k.tableau k.home k.x0 (suc (rows_of k.tableau)) w.artificial_there (λ e. absurd (omega (arith, e, w.home_row)))

entering-kept : (k : KeptState) → IsKeptState k → entering (shown_state k) ≡ kept_entering k
entering-kept k w =
    let m : IsWithout k.x0 (line_of (shown k.home k.x0 k.tableau) (suc (rows_of k.tableau))) (home_line k) = artificial-IsWithout k w in
    let decides : deciding_line (shown_state k) ≡ line_of (shown k.home k.x0 k.tableau) (suc (rows_of k.tableau)) = ap (λ n. line_of (shown k.home k.x0 k.tableau) n) (add-one (rows_of (shown k.home k.x0 k.tableau)) ∙ ap suc (rows_of-pivoted k.tableau k.home k.x0)) in
    let zs : List ℤ = (line_of (shown k.home k.x0 k.tableau) (suc (rows_of k.tableau))).entries in
    let ys : List ℤ = set (home_line k).entries k.x0 (pos 0) in
    ap (λ (l : Line). if nat_lt k.degenerate 50 then greatest_from 0 (pos 0) None l.entries else first_positive_from 0 l.entries) decides
    ∙ ap₂ (λ (a b : Option ℕ). if nat_lt k.degenerate 50 then a else b)
    (greatest-scaled m.over (pos 1) m.over_pos one_pos zs ys 0 (pos 0) (pos 0) None m.length_is (zero-*ℤ m.over ∙ sym (zero-*ℤ (pos 1))) m.entries)
    (first_positive-scaled m.over (pos 1) m.over_pos one_pos zs ys 0 m.length_is m.entries)

-- ---- the row that leaves

row_due : ℕ → Option Candidate → Due
row_due c o = elim o [ None ↦ NoRow c | Some a ↦ Pivot a.row c ]

row_due-same : (c : ℕ) (o p : Option Candidate) → AreSame o p → row_due c o ≡ row_due c p
unfolding row_due
row_due-same c None None h = refl
row_due-same c None (Some b) h = absurd (cc h)
row_due-same c (Some a) None h = absurd (cc h)
row_due-same c (Some a) (Some b) h = ap (λ r. Pivot r c) h.row

leaving-kept : (k : KeptState) (c : ℕ) → IsKeptState k
    → AreSame (leaving_from (Some (k.tableau.columns - 1)) c 0 None (shown k.home k.x0 k.tableau).lines (shown k.home k.x0 k.tableau).basics) (kept_leaving k c)
leaving-kept k c w =
    subst (λ n. AreSame (leaving_from (Some n) c 0 None (shown k.home k.x0 k.tableau).lines (shown k.home k.x0 k.tableau).basics) (kept_leaving k c)) (sym last)
    (leaving-scaled (Some k.x0) c (shown k.home k.x0 k.tableau).lines (rough_lines k) (set k.tableau.basics k.home k.x0) 0 None None
    (length-pivoted k.tableau k.home k.x0 ∙ sym (length-rough k)) (λ i h. shown-rough k i w (omega (arith, length-pivoted k.tableau k.home k.x0))) tt)
  where
    last : k.tableau.columns - 1 ≡ k.x0
    last = omega (arith, w.last_column)

round_due : Option ℕ → (ℕ → Due) → Due
round_due o f = elim o [ None ↦ NoColumn | Some c ↦ f c ]

round_due-same : (o p : Option ℕ) (f g : ℕ → Due) → o ≡ p → ((c : ℕ) → f c ≡ g c) → round_due o f ≡ round_due p g
unfolding round_due
round_due-same o p f g e h = ap (λ q. round_due q f) e ∙ cases p
  where
    cases : (q : Option ℕ) → round_due q f ≡ round_due q g
    cases None = refl
    cases (Some c) = h c

pub due-kept : (k : KeptState) → IsKeptState k → due (shown_state k) ≡ kept_due k
unfolding round_due row_due
due-kept k w = round_due-same (entering (shown_state k)) (kept_entering k) (leaving (shown_state k)) (λ c. row_due c (kept_leaving k c)) (entering-kept k w)
    (λ c. row_due-same c (leaving_from (Some (k.tableau.columns - 1)) c 0 None (shown k.home k.x0 k.tableau).lines (shown k.home k.x0 k.tableau).basics) (kept_leaving k c) (leaving-kept k c w))

-- ---- the next state

pub is_zero-scaled : (x y a b : ℤ) → pos 0 <ℤ a → pos 0 <ℤ b → x *ℤ a ≡ y *ℤ b → is_zero x ≡ is_zero y
is_zero-scaled x y a b pa pb e = cases (is_zero x) (is_zero y) refl refl
  where
    vanishes : (x y a b : ℤ) → pos 0 <ℤ b → x *ℤ a ≡ y *ℤ b → x ≡ pos 0 → y ≡ pos 0
    vanishes x y a b p e h = *ℤ_cancel y (pos 0) b (nonzero_of_pos b p) (sym e ∙ ap (λ z. z *ℤ a) h ∙ zero-*ℤ a ∙ sym (zero-*ℤ b))

    cases : (s t : Bool) → is_zero x ≡ s → is_zero y ≡ t → is_zero x ≡ is_zero y
    cases true t g h = ap is_zero (is_zero-fact x g ∙ sym (vanishes x y a b pb e (is_zero-fact x g)))
    cases false true g h = ap is_zero (vanishes y x b a pa (sym e) (is_zero-fact y h) ∙ sym (is_zero-fact y h))
    cases false false g h = g ∙ sym h

same_states : (t u : Tableau) (p q : Phase) (n d e : ℕ) → t ≡ u → p ≡ q → d ≡ e → ◌≡◌ {A = State} (record { tableau = t; phase = p; pivots = n; degenerate = d }) (record { tableau = u; phase = q; pivots = n; degenerate = e })
same_states t u p q n d e f g h =
    ap₂ {C = State} (λ a b. record { tableau = a; phase = b; pivots = n; degenerate = d }) f g
    ∙ ap {B = State} (λ c. record { tableau = u; phase = q; pivots = n; degenerate = c }) h

last_column : (k : KeptState) → IsKeptState k → k.tableau.columns - 1 ≡ k.x0
last_column k w = omega (arith, w.last_column)

pub after-kept : (k : KeptState) (r c : ℕ) → IsKeptState k → IsChosen k.home k.x0 r c k.tableau → after (shown_state k) r c ≡ shown_state (next_kept k r c)
after-kept k r c w m =
    same_states (if basic_of (shown k.home k.x0 k.tableau) r == (k.tableau.columns - 1) then without_x0 (pivoted r c (shown k.home k.x0 k.tableau)) else pivoted r c (shown k.home k.x0 k.tableau)) (shown k.home k.x0 (exchanged k.home r c k.tableau))
    (if basic_of (shown k.home k.x0 k.tableau) r == (k.tableau.columns - 1) then Two else One) One (suc k.pivots)
    (if is_zero (line_of (shown k.home k.x0 k.tableau) r).right then suc k.degenerate else 0) (next_kept k r c).degenerate
    (ap (λ t. if t then without_x0 (pivoted r c (shown k.home k.x0 k.tableau)) else pivoted r c (shown k.home k.x0 k.tableau)) stays ∙ shown-exchanged k.tableau k.home k.x0 r c w m)
    (ap (λ t. if t then Two else One) stays)
    (ap (λ t. if t then suc k.degenerate else 0) flat)
  where
    stays : (basic_of (shown k.home k.x0 k.tableau) r == (k.tableau.columns - 1)) ≡ false
    stays = ne_eqb (basic_of (shown k.home k.x0 k.tableau) r) (k.tableau.columns - 1) (λ e. w.not_basic r m.row (sym (basic_of-other k.tableau k.home k.x0 r m.apart) ∙ e ∙ last_column k w))

    row : r < length k.tableau.lines
    row = in_lines k r w m.row

    flat : is_zero (line_of (shown k.home k.x0 k.tableau) r).right ≡ is_zero (less (entry_of (home_line k) k.x0) (entry_of (line_of k.tableau r) k.x0) (line_of k.tableau r).right (home_line k).right)
    flat =
        let p : AreProportional (cleared k.x0 (home_line k) (line_of k.tableau r)) (rough_line k.x0 (home_line k) (line_of k.tableau r)) = rough-AreProportional k.x0 (home_line k) (line_of k.tableau r) (w.shaped.entries r row ∙ sym (w.shaped.entries k.home (in_lines k k.home w w.home_row))) w.positive in
        ap (λ (l : Line). is_zero l.right) (line_of-other k.tableau k.home k.x0 r row m.apart)
        ∙ is_zero-scaled (cleared k.x0 (home_line k) (line_of k.tableau r)).right (rough_line k.x0 (home_line k) (line_of k.tableau r)).right p.first p.second p.first_pos p.second_pos p.right

pub after-left : (k : KeptState) (c : ℕ) → IsKeptState k → pos 0 <ℤ entry_of (home_line k) c → after (shown_state k) k.home c ≡ left_kept k c
after-left k c w p =
    same_states (if basic_of (shown k.home k.x0 k.tableau) k.home == (k.tableau.columns - 1) then without_x0 (pivoted k.home c (shown k.home k.x0 k.tableau)) else pivoted k.home c (shown k.home k.x0 k.tableau)) (without_x0 (pivoted k.home c k.tableau))
    (if basic_of (shown k.home k.x0 k.tableau) k.home == (k.tableau.columns - 1) then Two else One) Two (suc k.pivots)
    (if is_zero (line_of (shown k.home k.x0 k.tableau) k.home).right then suc k.degenerate else 0) (left_kept k c).degenerate
    (ap (λ t. if t then without_x0 (pivoted k.home c (shown k.home k.x0 k.tableau)) else pivoted k.home c (shown k.home k.x0 k.tableau)) leaves ∙ ap without_x0 (shown-last k.tableau k.home k.x0 c w p))
    (ap (λ t. if t then Two else One) leaves)
    (ap (λ (l : Line). if is_zero l.right then suc k.degenerate else 0) (line_of-pivoted k.tableau k.home k.x0 (in_lines k k.home w w.home_row)))
  where
    leaves : (basic_of (shown k.home k.x0 k.tableau) k.home == (k.tableau.columns - 1)) ≡ true
    leaves = eq-eqb (basic_of (shown k.home k.x0 k.tableau) k.home) (k.tableau.columns - 1) (basic_of-pivoted k.tableau k.home k.x0 w.home_row ∙ sym (last_column k w))

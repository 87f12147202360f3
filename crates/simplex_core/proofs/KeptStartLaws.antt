-- The first pivot, which is kept back.
use Rattle.simplex_core.proofs.Common.{◌≡◌, ℕ, suc, ◌+◌, ◌-◌, ◌<◌, ◌≤◌, ℤ, pos, neg_ℤ, Bool, true, false, List, [], ◌∷◌, length, get_or, map, refl, sym, ap, ap₂, ◌∙◌, subst, arith, lit<, if◌then◌else◌, ◌<ℤ◌, unsigned_abs, ints, unsigned_abs-neg_ℤ, all_fit, is_zero, is_zero-fact, Line, entry_of, numbers_of, Tableau, line_of, rows_of, negated, LinearProgram, any_negative, first_state, first_phase, tableau_with, width_of, artificial_line, least_right_from, State, Start, Two, Pivot, due, after, step_of, right_sides, answer, answer-pivot, IsShaped-first, length-lines, length-tail, rows_of-first, line-row, line-artificial, row_line-x0, artificial-x0, artificial-other, basic_of-first, no_row, IsLowestRow, lowest-IsLowestRow, AllWithin, KeptEnd, x0_in, kept_state, IsPlain, advanced, IsSecond, IsKeptEnd, state_seen}
use Rattle.written_method.proofs.DroppedLaws.{entry-negated, each-negated, length-lines-negated}
use Rattle.simplex_core.specs.KeptRounds.{IsFirst, shown_state, start_state}
use Rattle.simplex_core.proofs.WidthLaws.{pivot_formed-fits}
use Rattle.simplex_core.specs.declared.kept_rounds.KeptEnd.TheVariants as ends
use Rattle.simplex_core.proofs.KeptSizeLaws.{AllWithin-of}
use Rattle.simplex_core.proofs.KeptWayLaws.{advanced-due}

abbrev pub ArePlain : Tableau → Type 0
ArePlain t = (i : ℕ) → i < length t.lines → IsPlain t i

-- ---- the first tableau is one from which phase 1 can begin

pub first-IsFirst : (p : LinearProgram) → ArePlain (tableau_with p true) → IsFirst (x0_in (tableau_with p true)) (tableau_with p true)
first-IsFirst p plain = subst (λ d. IsFirst d t) x0_is (record {
  shaped = IsShaped-first p true;
  artificial_there = omega (arith, length-lines p true, length-tail p true, rows_of-first p true);
  count = omega (arith, length-lines p true, length-tail p true, rows_of-first p true);
  last_column = omega arith;
  primitive = λ i h. (plain i h).lowest;
  at_x0 = λ i h. let within : i < length p.rows = omega (arith, rows_of-first p true) in ap (λ (l : Line). entry_of l d) (line-row p true i no_row within) ∙ row_line-x0 p.columns (length p.rows) i (get_or p.rows i no_row);
  not_basic = λ i h e. let within : i < length p.rows = omega (arith, rows_of-first p true) in absurd (omega (arith, basic_of-first p true i within, e));
  artificial = record {
    at_x0 = ap (λ (l : Line). entry_of l d) line_is ∙ artificial-x0 p;
    others = λ c n. ap (λ (l : Line). entry_of l c) line_is ∙ artificial-other p c n;
    right = ap (λ (l : Line). l.right) line_is;
  };
})
  where
    t : Tableau
    t = tableau_with p true

    d : ℕ
    d = width_of p.columns + length p.rows

    x0_is : d ≡ x0_in t
    x0_is = omega arith

    line_is : line_of t (suc (rows_of t)) ≡ artificial_line p
    line_is = ap (λ n. line_of t n) (omega (arith, rows_of-first p true)) ∙ line-artificial p

-- ---- the numbers of the first pivot fit

negated-within : (n : ℕ) (zs : List ℤ) → AllWithin n zs → AllWithin n (map neg_ℤ zs)
negated-within n [] w = tt
negated-within n (z ∷ zs) w = (subst (λ k. k ≤ n) (sym (unsigned_abs-neg_ℤ z)) w.0, negated-within n zs w.1)

pub first-fits : (t : Tableau) (h pivots degenerate : ℕ) → rows_of t < length t.lines → h < rows_of t → ArePlain t → all_fit (step_of (start_state t pivots degenerate) h (x0_in t)).formed ≡ true
first-fits t h pivots degenerate many row plain =
    pivot_formed-fits h d (negated h t) (λ i. m) (λ i. 1) (omega (arith, length-lines-negated t h)) (λ i k. sizes i (omega (arith, length-lines-negated t h))) (λ i k. entries i (omega (arith, length-lines-negated t h))) (λ i k n. lit< tt)
  where
    m : ℕ
    m = 85070591730234615865843651857942052863

    d : ℕ
    d = x0_in t

    there : h < length t.lines
    there = omega arith

    sizes : (i : ℕ) → i < length t.lines → AllWithin m (numbers_of (line_of (negated h t) i))
    sizes = each-negated t h (λ i l. AllWithin m (numbers_of l)) there
        (negated-within m (numbers_of (line_of t h)) (AllWithin-of m (numbers_of (line_of t h)) (plain h there).small))
        (λ i k n. AllWithin-of m (numbers_of (line_of t i)) (plain i k).small)

    entries : (i : ℕ) → i < length t.lines → unsigned_abs (entry_of (line_of (negated h t) i) d) ≤ 1
    entries = each-negated t h (λ i l. unsigned_abs (entry_of l d) ≤ 1) there
        (subst (λ n. n ≤ 1) (sym (ap unsigned_abs (entry-negated (line_of t h) d) ∙ unsigned_abs-neg_ℤ (entry_of (line_of t h) d))) (plain h there).one_at_x0)
        (λ i k n. (plain i k).one_at_x0)

-- ---- what follows from the state after it

first-answer : (pivots : ℕ) (s t : State) (r c : ℕ) → 1 ≤ pivots → s.pivots ≡ 0 → t ≡ after s r c → due s ≡ Pivot r c → all_fit (step_of s r c).formed ≡ true → answer (pivots - s.pivots) s ≡ answer (pivots - t.pivots) t
first-answer pivots s t r c some none is d fits =
    let one : t.pivots ≡ 1 = ap (λ (u : State). u.pivots) is ∙ ap suc none in
    ap (λ n. answer n s) (omega arith) ∙ answer-pivot (pivots - 1) s r c d fits ∙ ap₂ answer (omega arith) (sym is)

pub end-started : (pivots : ℕ) (s t : State) (r c : ℕ) (e : KeptEnd) → 1 ≤ pivots → s.pivots ≡ 0 → t ≡ after s r c → due s ≡ Pivot r c → all_fit (step_of s r c).formed ≡ true → IsKeptEnd pivots t e → IsKeptEnd pivots s e
end-started pivots s t r c (ends.Second last) some none is d fits w = moved w
  where
    one : t.pivots ≡ 1
    one = ap (λ (u : State). u.pivots) is ∙ ap suc none

    moved : IsSecond pivots t (state_seen last) → IsSecond pivots s (state_seen last)
    moved v =
        let since : t.pivots ≤ last.tableau.pivots = v.since in
        let first : t.pivots ≡ 1 = one in
        let zeroth : s.pivots ≡ 0 = none in
        let n : ℕ = last.tableau.pivots - 1 in
        let less : last.tableau.pivots - t.pivots ≡ n = omega arith in
        let more : suc n ≡ last.tableau.pivots - s.pivots = omega arith in
        record {
          since = omega arith;
          within = v.within;
          reached = v.reached ∙ ap₂ advanced less is ∙ sym (advanced-due n s r c d) ∙ ap (λ m. advanced m s) more;
          agrees = first-answer pivots s t r c some none is d fits ∙ v.agrees;
          few = v.few;
        }
end-started pivots s t r c (ends.Over f) some none is d fits w = (first-answer pivots s t r c some none is d fits ∙ w.0, w.1)
end-started pivots s t r c ends.Unsure some none is d fits w = tt
end-started pivots s t r c ends.Memory some none is d fits w = tt

-- the state after it is that which the kept tableau shows
pub started-is : (p : LinearProgram) (h : ℕ) → any_negative p.rows ≡ true → h ≡ least_right_from 0 0 (pos 0) (right_sides (tableau_with p true))
    → shown_state (kept_state (negated h (tableau_with p true)) h (x0_in (tableau_with p true)) 1 0) ≡ after (start_state (tableau_with p true) 0 0) h (x0_in (tableau_with p true))
started-is p h some is =
    let t : Tableau = tableau_with p true in
    let w : IsLowestRow p h = subst (IsLowestRow p) (sym is) (lowest-IsLowestRow p some) in
    ap {B = State} (λ n. record { tableau = (shown_state (kept_state (negated h t) h (x0_in t) 1 0)).tableau; phase = (shown_state (kept_state (negated h t) h (x0_in t) 1 0)).phase; pivots = 1; degenerate = n }) (nonzero (line_of t h).right w.negative)
  where
    nonzero : (z : ℤ) → z <ℤ pos 0 → 0 ≡ (if is_zero z then suc 0 else 0)
    nonzero z k = cases (is_zero z) refl
      where
        cases : (b : Bool) → is_zero z ≡ b → 0 ≡ (if is_zero z then suc 0 else 0)
        cases true e = absurd (omega (arith, ints, k, is_zero-fact z e))
        cases false e = ap (λ (b : Bool). if b then suc 0 else 0) (sym e)

pub first-start : (p : LinearProgram) → any_negative p.rows ≡ true → first_state p ≡ start_state (tableau_with p true) 0 0
first-start p h = ap {B = State} (λ b. record { tableau = tableau_with p b; phase = first_phase b; pivots = 0; degenerate = 0 }) h

-- ---- from the code's first state

pub start-any : (p : LinearProgram) (s : State) → s ≡ first_state p → s.phase ≡ Start → any_negative p.rows ≡ true
start-any p s e h = cases (any_negative p.rows) refl
  where
    cases : (b : Bool) → any_negative p.rows ≡ b → any_negative p.rows ≡ true
    cases true q = q
    cases false q =
        let two : s.phase ≡ Two = ap (λ (u : State). u.phase) e ∙ ap first_phase q in
        absurd (cc (h, two))

pub start-tableau : (p : LinearProgram) (s : State) → s ≡ first_state p → any_negative p.rows ≡ true → s.tableau ≡ tableau_with p true
start-tableau p s e h = ap (λ (u : State). u.tableau) e ∙ ap (λ b. tableau_with p b) h

pub start-due : (p : LinearProgram) (h : ℕ) → h ≡ least_right_from 0 0 (pos 0) (right_sides (tableau_with p true)) → due (start_state (tableau_with p true) 0 0) ≡ Pivot h (x0_in (tableau_with p true))
start-due p h e = ap (λ n. Pivot n (x0_in (tableau_with p true))) (sym e)

pub start-row : (p : LinearProgram) (h : ℕ) → any_negative p.rows ≡ true → h ≡ least_right_from 0 0 (pos 0) (right_sides (tableau_with p true)) → h < rows_of (tableau_with p true)
start-row p h some e = let w : IsLowestRow p h = subst (IsLowestRow p) (sym e) (lowest-IsLowestRow p some) in let row : h < length p.rows = w.row in omega (arith, rows_of-first p true)

pub start-lines : (p : LinearProgram) → rows_of (tableau_with p true) < length (tableau_with p true).lines
start-lines p = (IsShaped-first p true).lines

-- the whole
pub end-first : (p : LinearProgram) (pivots h : ℕ) (t : Tableau) (e : KeptEnd) → any_negative p.rows ≡ true → 1 ≤ pivots → h ≡ least_right_from 0 0 (pos 0) (right_sides (tableau_with p true)) → ArePlain (tableau_with p true)
    → t ≡ negated h (tableau_with p true) → IsKeptEnd pivots (shown_state (kept_state t h (x0_in t) 1 0)) e → IsKeptEnd pivots (first_state p) e
end-first p pivots h t e some many least plain is w =
    let T : Tableau = tableau_with p true in
    subst (λ (s : State). IsKeptEnd pivots s e) (sym (first-start p some))
    (end-started pivots (start_state T 0 0) (shown_state (kept_state (negated h T) h (x0_in T) 1 0)) h (x0_in T) e many refl (started-is p h some least) (start-due p h least) (first-fits T h 0 0 (start-lines p) (start-row p h some least) plain)
    (subst (λ (u : Tableau). IsKeptEnd pivots (shown_state (kept_state u h (x0_in u) 1 0)) e) is w))

-- The choices: entries of 0 are passed over, and one row comes after another.
use Rattle.simplex_core.proofs.Common.{◌≡◌, ℕ, zero, suc, ◌+◌, ◌-◌, ◌<◌, ◌≤◌, ℤ, pos, Bool, true, false, List, Option, Some, None, length, get_or, drop, refl, sym, ap, ap₂, ◌∙◌, subst, arith, add-one, inl, inr, if◌then◌else◌, int_lt, ◌≤ℤ◌, cases_lt, ints, drop_more, at_drop_all, greatest_from, first_positive_from, least_right_from, Candidate, better, candidate_at, leaving_from, Line, entry_of, right_sides, Tableau, line_of, no_line, rows_of, length-right_sides, right_sides-at}

-- the entries in some columns are 0
abbrev pub AreZeros : List ℤ → ℕ → ℕ → Type 0
AreZeros zs from to = (k : ℕ) → from ≤ k → k < to → get_or zs k (pos 0) ≡ pos 0

-- ---- the greatest

pub greatest-step : (zs : List ℤ) (at : ℕ) (best : ℤ) (chosen : Option ℕ) → at < length zs
    → greatest_from at best chosen (drop at zs) ≡ (if int_lt best (get_or zs at (pos 0)) then greatest_from (at + 1) (get_or zs at (pos 0)) (Some at) (drop (at + 1) zs) else greatest_from (at + 1) best chosen (drop (at + 1) zs))
greatest-step zs at best chosen h =
    ap (greatest_from at best chosen) (drop_more zs at (pos 0) h)
    ∙ ap (λ n. if int_lt best (get_or zs at (pos 0)) then greatest_from n (get_or zs at (pos 0)) (Some at) (drop (at + 1) zs) else greatest_from n best chosen (drop (at + 1) zs)) (sym (add-one at))

not_above : (best z : ℤ) → z ≡ pos 0 → pos 0 ≤ℤ best → int_lt best z ≡ false
not_above best z e h = test (int_lt best z) refl
  where
    test : (t : Bool) → int_lt best z ≡ t → t ≡ false
    test true q = absurd (omega (arith, ints, q))
    test false q = refl

greatest-zeros : (m : ℕ) (zs : List ℤ) (at : ℕ) (best : ℤ) (chosen : Option ℕ) → pos 0 ≤ℤ best → AreZeros zs at (at + m) → at + m ≤ length zs → greatest_from at best chosen (drop at zs) ≡ greatest_from (at + m) best chosen (drop (at + m) zs)
greatest-zeros zero zs at best chosen p z h = ap (λ n. greatest_from n best chosen (drop n zs)) (omega arith)
greatest-zeros (suc m) zs at best chosen p z h =
    greatest-step zs at best chosen (omega arith)
    ∙ ap (λ t. if t then greatest_from (at + 1) (get_or zs at (pos 0)) (Some at) (drop (at + 1) zs) else greatest_from (at + 1) best chosen (drop (at + 1) zs)) (not_above best (get_or zs at (pos 0)) (z at (omega arith) (omega arith)) p)
    ∙ greatest-zeros m zs (at + 1) best chosen p (λ k a b. z k (omega arith) (omega arith)) (omega arith)
    ∙ ap (λ n. greatest_from n best chosen (drop n zs)) (omega arith)

-- from one column on to a later one, with only zeros between them
pub greatest-skip : (zs : List ℤ) (from to : ℕ) (best : ℤ) (chosen : Option ℕ) → pos 0 ≤ℤ best → from ≤ to → to ≤ length zs → AreZeros zs from to → greatest_from from best chosen (drop from zs) ≡ greatest_from to best chosen (drop to zs)
greatest-skip zs from to best chosen p h k z =
    let sum : from + (to - from) ≡ to = omega arith in
    greatest-zeros (to - from) zs from best chosen p (λ i a b. z i a (omega arith)) (omega arith)
    ∙ ap (λ n. greatest_from n best chosen (drop n zs)) sum

-- the rest is 0
pub greatest-rest : (zs : List ℤ) (from : ℕ) (best : ℤ) (chosen : Option ℕ) → pos 0 ≤ℤ best → ((k : ℕ) → from ≤ k → get_or zs k (pos 0) ≡ pos 0) → greatest_from from best chosen (drop from zs) ≡ chosen
greatest-rest zs from best chosen p z = elim (cases_lt from (length zs)) [
  | inl h ↦
      greatest-skip zs from (length zs) best chosen p (omega arith) (omega arith) (λ k a b. z k a)
      ∙ at_drop_all (greatest_from (length zs) best chosen) zs (length zs) (omega arith)
  | inr h ↦ at_drop_all (greatest_from from best chosen) zs from h
]

-- ---- the first that is positive

pub first_positive-step : (zs : List ℤ) (at : ℕ) → at < length zs → first_positive_from at (drop at zs) ≡ (if int_lt (pos 0) (get_or zs at (pos 0)) then Some at else first_positive_from (at + 1) (drop (at + 1) zs))
first_positive-step zs at h =
    ap (first_positive_from at) (drop_more zs at (pos 0) h)
    ∙ ap (λ n. if int_lt (pos 0) (get_or zs at (pos 0)) then Some at else first_positive_from n (drop (at + 1) zs)) (sym (add-one at))

first_positive-zeros : (m : ℕ) (zs : List ℤ) (at : ℕ) → AreZeros zs at (at + m) → at + m ≤ length zs → first_positive_from at (drop at zs) ≡ first_positive_from (at + m) (drop (at + m) zs)
first_positive-zeros zero zs at z h = ap (λ n. first_positive_from n (drop n zs)) (omega arith)
first_positive-zeros (suc m) zs at z h =
    first_positive-step zs at (omega arith)
    ∙ ap (λ t. if t then Some at else first_positive_from (at + 1) (drop (at + 1) zs)) (not_above (pos 0) (get_or zs at (pos 0)) (z at (omega arith) (omega arith)) (omega (arith, ints)))
    ∙ first_positive-zeros m zs (at + 1) (λ k a b. z k (omega arith) (omega arith)) (omega arith)
    ∙ ap (λ n. first_positive_from n (drop n zs)) (omega arith)

pub first_positive-skip : (zs : List ℤ) (from to : ℕ) → from ≤ to → to ≤ length zs → AreZeros zs from to → first_positive_from from (drop from zs) ≡ first_positive_from to (drop to zs)
first_positive-skip zs from to h k z =
    let sum : from + (to - from) ≡ to = omega arith in
    first_positive-zeros (to - from) zs from (λ i a b. z i a (omega arith)) (omega arith) ∙ ap (λ n. first_positive_from n (drop n zs)) sum

pub first_positive-rest : (zs : List ℤ) (from : ℕ) → ((k : ℕ) → from ≤ k → get_or zs k (pos 0) ≡ pos 0) → first_positive_from from (drop from zs) ≡ None
first_positive-rest zs from z = elim (cases_lt from (length zs)) [
  | inl h ↦
      first_positive-skip zs from (length zs) (omega arith) (omega arith) (λ k a b. z k a)
      ∙ at_drop_all (first_positive_from (length zs)) zs (length zs) (omega arith)
  | inr h ↦ at_drop_all (first_positive_from from) zs from h
]

-- ---- the row that leaves

-- one row more
pub leaving-step : (x0 : Option ℕ) (c row : ℕ) (chosen : Option Candidate) (lines : List Line) (basics : List ℕ) → row < length lines → row < length basics
    → leaving_from x0 c row chosen (drop row lines) (drop row basics)
    ≡ (if int_lt (pos 0) (entry_of (get_or lines row no_line) c)
    then leaving_from x0 c (row + 1) (Some (better chosen (candidate_at x0 c row (get_or lines row no_line) (get_or basics row 0)))) (drop (row + 1) lines) (drop (row + 1) basics)
    else leaving_from x0 c (row + 1) chosen (drop (row + 1) lines) (drop (row + 1) basics))
leaving-step x0 c row chosen lines basics h k =
    ap₂ (leaving_from x0 c row chosen) (drop_more lines row no_line h) (drop_more basics row 0 k)
    ∙ ap (λ n. if int_lt (pos 0) (entry_of (get_or lines row no_line) c)
    then leaving_from x0 c n (Some (better chosen (candidate_at x0 c row (get_or lines row no_line) (get_or basics row 0)))) (drop (row + 1) lines) (drop (row + 1) basics)
    else leaving_from x0 c n chosen (drop (row + 1) lines) (drop (row + 1) basics)) (sym (add-one row))

-- a row that may leave
pub leaving-takes : (x0 : Option ℕ) (c row : ℕ) (chosen : Option Candidate) (lines : List Line) (basics : List ℕ) → row < length lines → row < length basics → int_lt (pos 0) (entry_of (get_or lines row no_line) c) ≡ true
    → leaving_from x0 c row chosen (drop row lines) (drop row basics)
    ≡ leaving_from x0 c (row + 1) (Some (better chosen (candidate_at x0 c row (get_or lines row no_line) (get_or basics row 0)))) (drop (row + 1) lines) (drop (row + 1) basics)
leaving-takes x0 c row chosen lines basics h k t =
    leaving-step x0 c row chosen lines basics h k
    ∙ ap (λ b. if b
    then leaving_from x0 c (row + 1) (Some (better chosen (candidate_at x0 c row (get_or lines row no_line) (get_or basics row 0)))) (drop (row + 1) lines) (drop (row + 1) basics)
    else leaving_from x0 c (row + 1) chosen (drop (row + 1) lines) (drop (row + 1) basics)) t

-- one that may not
pub leaving-passes : (x0 : Option ℕ) (c row : ℕ) (chosen : Option Candidate) (lines : List Line) (basics : List ℕ) → row < length lines → row < length basics → int_lt (pos 0) (entry_of (get_or lines row no_line) c) ≡ false
    → leaving_from x0 c row chosen (drop row lines) (drop row basics) ≡ leaving_from x0 c (row + 1) chosen (drop (row + 1) lines) (drop (row + 1) basics)
leaving-passes x0 c row chosen lines basics h k t =
    leaving-step x0 c row chosen lines basics h k
    ∙ ap (λ b. if b
    then leaving_from x0 c (row + 1) (Some (better chosen (candidate_at x0 c row (get_or lines row no_line) (get_or basics row 0)))) (drop (row + 1) lines) (drop (row + 1) basics)
    else leaving_from x0 c (row + 1) chosen (drop (row + 1) lines) (drop (row + 1) basics)) t

-- ---- the least right side

least-step : (zs : List ℤ) (row chosen : ℕ) (best : ℤ) → row < length zs
    → least_right_from row chosen best (drop row zs) ≡ (if int_lt (get_or zs row (pos 0)) best then least_right_from (row + 1) row (get_or zs row (pos 0)) (drop (row + 1) zs) else least_right_from (row + 1) chosen best (drop (row + 1) zs))
least-step zs row chosen best h =
    ap (least_right_from row chosen best) (drop_more zs row (pos 0) h)
    ∙ ap (λ n. if int_lt (get_or zs row (pos 0)) best then least_right_from n row (get_or zs row (pos 0)) (drop (row + 1) zs) else least_right_from n chosen best (drop (row + 1) zs)) (sym (add-one row))

-- the right side of a row of the tableau
at_row : (t : Tableau) (row : ℕ) → rows_of t < length t.lines → row < rows_of t → (row < length (right_sides t)) × (get_or (right_sides t) row (pos 0) ≡ (line_of t row).right)
at_row t row h k = (subst (λ n. row < n) (sym (length-right_sides t h)) k, right_sides-at t row h k)

-- a lesser right side
pub least-takes : (t : Tableau) (row chosen : ℕ) (best z : ℤ) → rows_of t < length t.lines → row < rows_of t → z ≡ (line_of t row).right → int_lt z best ≡ true
    → least_right_from row chosen best (drop row (right_sides t)) ≡ least_right_from (row + 1) row z (drop (row + 1) (right_sides t))
least-takes t row chosen best z h k e test =
    let w = at_row t row h k in
    let same : get_or (right_sides t) row (pos 0) ≡ z = w.1 ∙ sym e in
    least-step (right_sides t) row chosen best w.0
    ∙ ap (λ y. if int_lt y best then least_right_from (row + 1) row y (drop (row + 1) (right_sides t)) else least_right_from (row + 1) chosen best (drop (row + 1) (right_sides t))) same
    ∙ ap (λ b. if b then least_right_from (row + 1) row z (drop (row + 1) (right_sides t)) else least_right_from (row + 1) chosen best (drop (row + 1) (right_sides t))) test

-- one that isn't
pub least-passes : (t : Tableau) (row chosen : ℕ) (best z : ℤ) → rows_of t < length t.lines → row < rows_of t → z ≡ (line_of t row).right → int_lt z best ≡ false
    → least_right_from row chosen best (drop row (right_sides t)) ≡ least_right_from (row + 1) chosen best (drop (row + 1) (right_sides t))
least-passes t row chosen best z h k e test =
    let w = at_row t row h k in
    let same : get_or (right_sides t) row (pos 0) ≡ z = w.1 ∙ sym e in
    least-step (right_sides t) row chosen best w.0
    ∙ ap (λ y. if int_lt y best then least_right_from (row + 1) row y (drop (row + 1) (right_sides t)) else least_right_from (row + 1) chosen best (drop (row + 1) (right_sides t))) same
    ∙ ap (λ b. if b then least_right_from (row + 1) row z (drop (row + 1) (right_sides t)) else least_right_from (row + 1) chosen best (drop (row + 1) (right_sides t))) test

-- ---- from one entry other than 0 to the next

pub greatest-next : (zs : List ℤ) (from column : ℕ) (best z : ℤ) (chosen : Option ℕ) → pos 0 ≤ℤ best → from ≤ column → column < length zs → get_or zs column (pos 0) ≡ z → AreZeros zs from column
    → greatest_from from best chosen (drop from zs) ≡ (if int_lt best z then greatest_from (column + 1) z (Some column) (drop (column + 1) zs) else greatest_from (column + 1) best chosen (drop (column + 1) zs))
greatest-next zs from column best z chosen p h k e zeros =
    greatest-skip zs from column best chosen p h (omega arith) zeros
    ∙ greatest-step zs column best chosen k
    ∙ ap (λ y. if int_lt best y then greatest_from (column + 1) y (Some column) (drop (column + 1) zs) else greatest_from (column + 1) best chosen (drop (column + 1) zs)) e

pub first_positive-next : (zs : List ℤ) (from column : ℕ) (z : ℤ) → from ≤ column → column < length zs → get_or zs column (pos 0) ≡ z → AreZeros zs from column
    → first_positive_from from (drop from zs) ≡ (if int_lt (pos 0) z then Some column else first_positive_from (column + 1) (drop (column + 1) zs))
first_positive-next zs from column z h k e zeros =
    first_positive-skip zs from column h (omega arith) zeros
    ∙ first_positive-step zs column k
    ∙ ap (λ y. if int_lt (pos 0) y then Some column else first_positive_from (column + 1) (drop (column + 1) zs)) e

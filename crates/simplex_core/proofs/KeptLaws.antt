-- A pivot of the method in the first phase is one of the kept tableau in x0's row, and an exchange of two rows.
use Rattle.simplex_core.proofs.Common.{◌≡◌, ◌≢◌, ℕ, zero, suc, ◌<◌, pos, List, [], ◌∷◌, length, set, arith, refl, sym, ap, ap₂, ◌∙◌, subst, inl, inr, ◌<ℤ◌, get_or-set_same, get_or-set_other, set-set, ext_get_or, length-set, Line, entry_of, cleared, Tableau, line_of, basic_of, rows_of, no_line, pivoted, negated_line, length-pivoted, line_of-pivoted, line_of-other, same_or_not, IsKept, shown, exchanged}
use Rattle.simplex_core.proofs.ClearedTwice.{AreReady, turned, cleared-other, cleared-row, cleared-home, cleared-last}

-- ---- lists and tableaus

pub set_turned : {X : Type 0} (xs : List X) (i j : ℕ) (x y : X) → i ≢ j → set (set xs i x) j y ≡ set (set xs j y) i x
set_turned [] i j x y h = refl
set_turned (z ∷ zs) zero zero x y h = absurd (h refl)
set_turned (z ∷ zs) zero (suc j) x y h = refl
set_turned (z ∷ zs) (suc i) zero x y h = refl
set_turned {X = X} (z ∷ zs) (suc i) (suc j) x y h = ap {B = List X} (λ ys. z ∷ ys) (set_turned zs i j x y (λ e. h (ap suc e)))

pub same_tableaus : (ls ms : List Line) (bs cs : List ℕ) (n : ℕ) → ls ≡ ms → bs ≡ cs → ◌≡◌ {A = Tableau} (record { lines = ls; basics = bs; columns = n }) (record { lines = ms; basics = cs; columns = n })
same_tableaus ls ms bs cs n e f = ap₂ {C = Tableau} (λ a b. record { lines = a; basics = b; columns = n }) e f

-- ---- the kept tableau after a pivot

pub length-exchanged : (t : Tableau) (h r c : ℕ) → length (exchanged h r c t).lines ≡ length t.lines
length-exchanged t h r c =
    length-set (set (pivoted h c t).lines r (line_of t h)) h (negated_line (line_of (pivoted h c t) r))
    ∙ length-set (pivoted h c t).lines r (line_of t h)
    ∙ length-pivoted t h c

pub rows_of-exchanged : (t : Tableau) (h r c : ℕ) → rows_of (exchanged h r c t) ≡ rows_of t
rows_of-exchanged t h r c = length-set (set t.basics r c) h (basic_of t r) ∙ length-set t.basics r c

pub exchanged-home : (t : Tableau) (h r c : ℕ) → h < length t.lines → r < length t.lines → r ≢ h → line_of (exchanged h r c t) h ≡ turned c (line_of t h) (line_of t r)
exchanged-home t h r c kh kr n =
    get_or-set_same (set (pivoted h c t).lines r (line_of t h)) h (negated_line (line_of (pivoted h c t) r)) no_line (omega (arith, length-set (pivoted h c t).lines r (line_of t h), length-pivoted t h c))
    ∙ ap negated_line (line_of-other t h c r kr n)

pub exchanged-row : (t : Tableau) (h r c : ℕ) → r < length t.lines → r ≢ h → line_of (exchanged h r c t) r ≡ line_of t h
exchanged-row t h r c kr n =
    get_or-set_other (set (pivoted h c t).lines r (line_of t h)) h r (negated_line (line_of (pivoted h c t) r)) no_line n
    ∙ get_or-set_same (pivoted h c t).lines r (line_of t h) no_line (omega (arith, length-pivoted t h c))

pub exchanged-other : (t : Tableau) (h r c i : ℕ) → i < length t.lines → i ≢ r → i ≢ h → line_of (exchanged h r c t) i ≡ cleared c (line_of t h) (line_of t i)
exchanged-other t h r c i k nr nh =
    get_or-set_other (set (pivoted h c t).lines r (line_of t h)) h i (negated_line (line_of (pivoted h c t) r)) no_line nh
    ∙ get_or-set_other (pivoted h c t).lines r i (line_of t h) no_line nr
    ∙ line_of-other t h c i k nh

-- ---- the two pivots

-- the entries that the method's choice makes positive: x0's row in column c, and the method's pivot row in column c
pub record IsChosen (home x0 r c : ℕ) (t : Tableau) : Type 0 where
  pub row : r < rows_of t
  pub apart : r ≢ home
  pub column : c ≢ x0
  pub entering : pos 0 <ℤ entry_of (line_of t home) c
  pub pivot : pos 0 <ℤ entry_of (cleared x0 (line_of t home) (line_of t r)) c

pub chosen-AreReady : (t : Tableau) (h d r c : ℕ) → IsKept h d t → IsChosen h d r c t → AreReady c d (line_of t h) (line_of t r)
chosen-AreReady t h d r c k m =
    let lines : rows_of t < length t.lines = k.shaped.lines in
    let row : r < rows_of t = m.row in
    let home : h < rows_of t = k.home_row in
    record {
      lengths = k.shaped.entries r (omega arith) ∙ sym (k.shaped.entries h (omega arith));
      entering = m.entering;
      x0 = k.positive;
      pivot = m.pivot;
    }

-- one pivot of the method
pub shown-exchanged : (t : Tableau) (h d r c : ℕ) → IsKept h d t → IsChosen h d r c t → pivoted r c (shown h d t) ≡ shown h d (exchanged h r c t)
shown-exchanged t h d r c k m =
    same_tableaus (pivoted r c (shown h d t)).lines (shown h d (exchanged h r c t)).lines (pivoted r c (shown h d t)).basics (shown h d (exchanged h r c t)).basics t.columns
    (ext_get_or no_line (pivoted r c (shown h d t)).lines (shown h d (exchanged h r c t)).lines lengths lines)
    basics
  where
    lengths : length (pivoted r c (shown h d t)).lines ≡ length (shown h d (exchanged h r c t)).lines
    lengths = length-pivoted (shown h d t) r c ∙ length-pivoted t h d ∙ sym (length-exchanged t h r c) ∙ sym (length-pivoted (exchanged h r c t) h d)

    in_lines : (i : ℕ) → i < rows_of t → i < length t.lines
    in_lines i j = let more : rows_of t < length t.lines = k.shaped.lines in omega arith

    home : h < length t.lines
    home = in_lines h k.home_row

    row : r < length t.lines
    row = in_lines r m.row

    ready : AreReady c d (line_of t h) (line_of t r)
    ready = chosen-AreReady t h d r c k m

    pivot_line : line_of (shown h d t) r ≡ cleared d (line_of t h) (line_of t r)
    pivot_line = line_of-other t h d r row m.apart

    -- the lines of the method after its pivot
    late_row : line_of (pivoted r c (shown h d t)) r ≡ cleared d (line_of t h) (line_of t r)
    late_row = line_of-pivoted (shown h d t) r c (omega (arith, length-pivoted t h d, row)) ∙ pivot_line

    late_home : line_of (pivoted r c (shown h d t)) h ≡ cleared c (cleared d (line_of t h) (line_of t r)) (line_of t h)
    late_home = line_of-other (shown h d t) r c h (omega (arith, length-pivoted t h d, home)) (λ e. m.apart (sym e)) ∙ ap₂ (cleared c) pivot_line (line_of-pivoted t h d home)

    late_other : (i : ℕ) → i < length t.lines → i ≢ r → i ≢ h → line_of (pivoted r c (shown h d t)) i ≡ cleared c (cleared d (line_of t h) (line_of t r)) (cleared d (line_of t h) (line_of t i))
    late_other i j nr nh = line_of-other (shown h d t) r c i (omega (arith, length-pivoted t h d)) nr ∙ ap₂ (cleared c) pivot_line (line_of-other t h d i j nh)

    -- those of the kept tableau after its own
    next_home : line_of (exchanged h r c t) h ≡ turned c (line_of t h) (line_of t r)
    next_home = exchanged-home t h r c home row m.apart

    kept_home : line_of (shown h d (exchanged h r c t)) h ≡ turned c (line_of t h) (line_of t r)
    kept_home = line_of-pivoted (exchanged h r c t) h d (omega (arith, length-exchanged t h r c, home)) ∙ next_home

    kept_row : line_of (shown h d (exchanged h r c t)) r ≡ cleared d (turned c (line_of t h) (line_of t r)) (line_of t h)
    kept_row = line_of-other (exchanged h r c t) h d r (omega (arith, length-exchanged t h r c, row)) m.apart ∙ ap₂ (cleared d) next_home (exchanged-row t h r c row m.apart)

    kept_other : (i : ℕ) → i < length t.lines → i ≢ r → i ≢ h → line_of (shown h d (exchanged h r c t)) i ≡ cleared d (turned c (line_of t h) (line_of t r)) (cleared c (line_of t h) (line_of t i))
    kept_other i j nr nh = line_of-other (exchanged h r c t) h d i (omega (arith, length-exchanged t h r c)) nh ∙ ap₂ (cleared d) next_home (exchanged-other t h r c i j nr nh)

    lines : (i : ℕ) → i < length (pivoted r c (shown h d t)).lines → line_of (pivoted r c (shown h d t)) i ≡ line_of (shown h d (exchanged h r c t)) i
    lines i j =
        let there : i < length t.lines = omega (arith, length-pivoted (shown h d t) r c, length-pivoted t h d) in
        elim (same_or_not i r) [
          | inl e ↦ subst (λ n. line_of (pivoted r c (shown h d t)) n ≡ line_of (shown h d (exchanged h r c t)) n) (sym e)
              (late_row ∙ cleared-row c d (line_of t h) (line_of t r) ready (k.primitive h home) (k.primitive r row) ∙ sym kept_row)
          | inr nr ↦ elim (same_or_not i h) [
            | inl e ↦ subst (λ n. line_of (pivoted r c (shown h d t)) n ≡ line_of (shown h d (exchanged h r c t)) n) (sym e)
                (late_home ∙ cleared-home c d (line_of t h) (line_of t r) ready (k.primitive h home) (k.primitive r row) ∙ sym kept_home)
            | inr nh ↦
                late_other i there nr nh
                ∙ cleared-other c d (line_of t h) (line_of t r) (line_of t i) ready (k.shaped.entries i there ∙ sym (k.shaped.entries h home)) (k.primitive i there)
                ∙ sym (kept_other i there nr nh)
          ]
        ]

    basics : (pivoted r c (shown h d t)).basics ≡ (shown h d (exchanged h r c t)).basics
    basics = sym (set-set (set t.basics r c) h (basic_of t r) d ∙ set_turned t.basics r h c d m.apart)

-- the last one, in x0's row
pub shown-last : (t : Tableau) (h d c : ℕ) → IsKept h d t → pos 0 <ℤ entry_of (line_of t h) c → pivoted h c (shown h d t) ≡ pivoted h c t
shown-last t h d c k p =
    same_tableaus (pivoted h c (shown h d t)).lines (pivoted h c t).lines (pivoted h c (shown h d t)).basics (pivoted h c t).basics t.columns
    (ext_get_or no_line (pivoted h c (shown h d t)).lines (pivoted h c t).lines (length-pivoted (shown h d t) h c ∙ length-pivoted t h d ∙ sym (length-pivoted t h c)) lines)
    (set-set t.basics h d c)
  where
    home : h < length t.lines
    home = let more : rows_of t < length t.lines = k.shaped.lines in omega (arith, k.home_row)

    home_line : line_of (shown h d t) h ≡ line_of t h
    home_line = line_of-pivoted t h d home

    lines : (i : ℕ) → i < length (pivoted h c (shown h d t)).lines → line_of (pivoted h c (shown h d t)) i ≡ line_of (pivoted h c t) i
    lines i j =
        let there : i < length t.lines = omega (arith, length-pivoted (shown h d t) h c, length-pivoted t h d) in
        elim (same_or_not i h) [
          | inl e ↦ subst (λ n. line_of (pivoted h c (shown h d t)) n ≡ line_of (pivoted h c t) n) (sym e)
              (line_of-pivoted (shown h d t) h c (omega (arith, length-pivoted t h d, home)) ∙ home_line ∙ sym (line_of-pivoted t h c home))
          | inr n ↦
              line_of-other (shown h d t) h c i (omega (arith, length-pivoted t h d)) n
              ∙ ap₂ (cleared c) home_line (line_of-other t h d i there n)
              ∙ cleared-last c d (line_of t h) (line_of t i) p k.positive (k.shaped.entries i there ∙ sym (k.shaped.entries h home)) (k.primitive i there)
              ∙ sym (line_of-other t h c i there n)
        ]

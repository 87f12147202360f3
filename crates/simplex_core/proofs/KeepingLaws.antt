-- What holds of a kept tableau holds of the next.
use Rattle.simplex_core.proofs.Common.{◌≡◌, ◌≢◌, ℕ, suc, ◌<◌, pos, neg_ℤ, length, set, arith, sym, ap, ◌∙◌, subst, inl, inr, if◌then◌else◌, ◌<ℤ◌, get_or-set_same, get_or-set_other, length-set, is_zero, Line, entry_of, factor_of, line_less, lowest_line, cleared, Tableau, line_of, basic_of, rows_of, no_line, pivoted, negated_line, IsShaped, length-pivoted, rows_of-pivoted, line_of-pivoted, line_of-other, same_or_not, IsShaped-pivoted, IsPrimitive, IsArtificial, IsKept, exchanged}
use Rattle.simplex_core.proofs.PrimitiveLaws.{cleared-IsPrimitive, negated_line-IsPrimitive}
use Rattle.simplex_core.proofs.ClearedTwice.{turned-positive, length-negated}
use Rattle.simplex_core.proofs.KeptLaws.{IsChosen, chosen-AreReady, length-exchanged, rows_of-exchanged, exchanged-home, exchanged-row, exchanged-other}

-- a line without an entry in the column stays
pub cleared-stays : (c : ℕ) (pivot line : Line) → entry_of line c ≡ pos 0 → cleared c pivot line ≡ line
cleared-stays c pivot line h = ap (λ q. if is_zero q then line else lowest_line (line_less (factor_of (entry_of pivot c) (entry_of line c)) (factor_of (entry_of line c) (entry_of pivot c)) line pivot)) h

-- the lines of the exchanged tableau are those of the pivoted one but in two rows
line-home : (t : Tableau) (h r c : ℕ) → h < length t.lines → line_of (exchanged h r c t) h ≡ negated_line (line_of (pivoted h c t) r)
line-home t h r c k = get_or-set_same (set (pivoted h c t).lines r (line_of t h)) h (negated_line (line_of (pivoted h c t) r)) no_line (omega (arith, length-set (pivoted h c t).lines r (line_of t h), length-pivoted t h c))

line-row : (t : Tableau) (h r c : ℕ) → h < length t.lines → r < length t.lines → r ≢ h → line_of (exchanged h r c t) r ≡ line_of (pivoted h c t) h
line-row t h r c kh kr n = exchanged-row t h r c kr n ∙ sym (line_of-pivoted t h c kh)

line-other : (t : Tableau) (h r c i : ℕ) → i < length t.lines → i ≢ r → i ≢ h → line_of (exchanged h r c t) i ≡ line_of (pivoted h c t) i
line-other t h r c i k nr nh = exchanged-other t h r c i k nr nh ∙ sym (line_of-other t h c i k nh)

-- a fact of the pivoted tableau's lines, one by one
each-line : (P : ℕ → Line → Type 0) (t : Tableau) (h r c : ℕ) → h < length t.lines → r < length t.lines → r ≢ h
    → P h (negated_line (line_of (pivoted h c t) r)) → P r (line_of (pivoted h c t) h) → ((i : ℕ) → i < length t.lines → i ≢ r → i ≢ h → P i (line_of (pivoted h c t) i))
    → (i : ℕ) → i < length t.lines → P i (line_of (exchanged h r c t) i)
each-line P t h r c kh kr n ph pr others i k = elim (same_or_not i h) [
  | inl e ↦ subst (λ j. P j (line_of (exchanged h r c t) j)) (sym e) (subst (P h) (sym (line-home t h r c kh)) ph)
  | inr nh ↦ elim (same_or_not i r) [
    | inl e ↦ subst (λ j. P j (line_of (exchanged h r c t) j)) (sym e) (subst (P r) (sym (line-row t h r c kh kr n)) pr)
    | inr nr ↦ subst (P i) (sym (line-other t h r c i k nr nh)) (others i k nr nh)
  ]
]

IsShaped-exchanged : (t : Tableau) (h r c : ℕ) → IsShaped t → h < rows_of t → r < rows_of t → r ≢ h → pos 0 <ℤ entry_of (line_of t h) c → IsShaped (exchanged h r c t)
IsShaped-exchanged t h r c s kh kr n p = record {
  lines = omega (arith, length-exchanged t h r c, rows_of-exchanged t h r c, s.lines);
  entries = λ i k. entries i (omega (arith, length-exchanged t h r c));
  rows_own = λ i k. rows_own i (in_lines i (row i k)) (row i k);
}
  where
    in_lines : (i : ℕ) → i < rows_of t → i < length t.lines
    in_lines i j = let more : rows_of t < length t.lines = s.lines in omega arith

    row : (i : ℕ) → i < rows_of (exchanged h r c t) → i < rows_of t
    row i k = omega (arith, rows_of-exchanged t h r c)

    q : IsShaped (pivoted h c t)
    q = IsShaped-pivoted t h c s kh p

    in_pivoted : (i : ℕ) → i < length t.lines → i < length (pivoted h c t).lines
    in_pivoted i k = omega (arith, length-pivoted t h c)

    row_pivoted : (i : ℕ) → i < rows_of t → i < rows_of (pivoted h c t)
    row_pivoted i k = omega (arith, rows_of-pivoted t h c)

    entries : (i : ℕ) → i < length t.lines → length (line_of (exchanged h r c t) i).entries ≡ t.columns
    entries = each-line (λ i l. length l.entries ≡ t.columns) t h r c (in_lines h kh) (in_lines r kr) n
        (length-negated (line_of (pivoted h c t) r) ∙ q.entries r (in_pivoted r (in_lines r kr)))
        (q.entries h (in_pivoted h (in_lines h kh)))
        (λ i k nr nh. q.entries i (in_pivoted i k))

    rows_own : (i : ℕ) → i < length t.lines → i < rows_of t → (line_of (exchanged h r c t) i).own ≡ pos 0
    rows_own = each-line (λ i l. i < rows_of t → l.own ≡ pos 0) t h r c (in_lines h kh) (in_lines r kr) n
        (λ k. ap neg_ℤ (q.rows_own r (row_pivoted r kr)))
        (λ k. q.rows_own h (row_pivoted h kh))
        (λ i k nr nh j. q.rows_own i (row_pivoted i j))

pub IsKept-exchanged : (t : Tableau) (h d r c : ℕ) → IsKept h d t → IsChosen h d r c t → IsKept h d (exchanged h r c t)
IsKept-exchanged t h d r c k m = record {
  shaped = IsShaped-exchanged t h r c k.shaped k.home_row m.row m.apart m.entering;
  artificial_there = omega (arith, k.artificial_there, length-exchanged t h r c, rows_of-exchanged t h r c);
  count = omega (arith, k.count, length-exchanged t h r c, rows_of-exchanged t h r c);
  last_column = k.last_column;
  primitive = λ i j. primitive i (omega (arith, length-exchanged t h r c));
  home_row = omega (arith, k.home_row, rows_of-exchanged t h r c);
  positive = subst (λ (l : Line). pos 0 <ℤ entry_of l d) (sym (exchanged-home t h r c home row m.apart)) (turned-positive c d (line_of t h) (line_of t r) (chosen-AreReady t h d r c k m));
  not_basic = λ i j. not_basic i (omega (arith, rows_of-exchanged t h r c));
  artificial = subst (λ n. IsArtificial d (line_of (exchanged h r c t) (suc n))) (sym (rows_of-exchanged t h r c)) (subst (IsArtificial d) (sym stays) k.artificial);
}
  where
    in_lines : (i : ℕ) → i < rows_of t → i < length t.lines
    in_lines i j = let more : rows_of t < length t.lines = k.shaped.lines in omega arith

    home : h < length t.lines
    home = in_lines h k.home_row

    row : r < length t.lines
    row = in_lines r m.row

    pivoted_primitive : (i : ℕ) → i < length t.lines → i ≢ h → IsPrimitive (line_of (pivoted h c t) i)
    pivoted_primitive i j n = subst IsPrimitive (sym (line_of-other t h c i j n)) (cleared-IsPrimitive c (line_of t h) (line_of t i) (k.primitive i j))

    primitive : (i : ℕ) → i < length t.lines → IsPrimitive (line_of (exchanged h r c t) i)
    primitive = each-line (λ i l. IsPrimitive l) t h r c home row m.apart
        (negated_line-IsPrimitive (line_of (pivoted h c t) r) (pivoted_primitive r row m.apart))
        (subst IsPrimitive (sym (line_of-pivoted t h c home)) (k.primitive h home))
        (λ i j nr nh. pivoted_primitive i j nh)

    basic-home : basic_of (exchanged h r c t) h ≡ basic_of t r
    basic-home = get_or-set_same (set t.basics r c) h (basic_of t r) 0 (omega (arith, k.home_row, length-set t.basics r c))

    not_basic : (i : ℕ) → i < rows_of t → basic_of (exchanged h r c t) i ≢ d
    not_basic i j = elim (same_or_not i h) [
      | inl e ↦ λ f. k.not_basic r m.row (sym basic-home ∙ ap (λ n. basic_of (exchanged h r c t) n) (sym e) ∙ f)
      | inr nh ↦ elim (same_or_not i r) [
        | inl e ↦ λ f. m.column (sym (get_or-set_other (set t.basics r c) h r (basic_of t r) 0 m.apart ∙ get_or-set_same t.basics r c 0 m.row) ∙ ap (λ n. basic_of (exchanged h r c t) n) (sym e) ∙ f)
        | inr nr ↦ λ f. k.not_basic i j (sym (get_or-set_other (set t.basics r c) h i (basic_of t r) 0 nh ∙ get_or-set_other t.basics r i c 0 nr) ∙ f)
      ]
    ]

    stays : line_of (exchanged h r c t) (suc (rows_of t)) ≡ line_of t (suc (rows_of t))
    stays =
        exchanged-other t h r c (suc (rows_of t)) k.artificial_there (λ e. absurd (omega (arith, e, m.row))) (λ e. absurd (omega (arith, e, k.home_row)))
        ∙ cleared-stays c (line_of t h) (line_of t (suc (rows_of t))) (k.artificial.others c m.column)

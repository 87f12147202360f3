-- Values solve a tableau exactly where they solve it with a row multiplied by -1; and without x0, exactly where they solve it with 0 for x0.
use Rattle.int_tableau.proofs.Common.{◌≡◌, ◌≢◌, ℕ, suc, ◌-◌, ◌<◌, ◌≤◌, ◌↔◌, ℤ, pos, neg_ℤ, length, sym, ap, ◌∙◌, arith, inl, inr, ints, IsShaped, Line, Values, excess, Solves, Tableau, line_of, rows_of, negated, negated_line, without_x0, same_or_not, excess-negated, length-lines-negated, line_of-negated, line_of-negated_other, excess-without_last, length-lines-without, line_of-without, with_none, SolvesWithout}

-- a line that is multiplied by -1 says so of the values
opposite_at : (t : Tableau) (r i : ℕ) (v : Values) (o : ℤ) → r < length t.lines → i ≡ r → excess (line_of (negated r t) i) v o ≡ neg_ℤ (excess (line_of t i) v o)
opposite_at t r i v o h e =
    ap (λ (l : Line). excess l v o) (ap (λ j. line_of (negated r t) j) e ∙ line_of-negated t r h ∙ ap (λ j. negated_line (line_of t j)) (sym e))
    ∙ excess-negated (line_of t i) v o

same_at : (t : Tableau) (r i : ℕ) (v : Values) (o : ℤ) → i ≢ r → excess (line_of (negated r t) i) v o ≡ excess (line_of t i) v o
same_at t r i v o n = ap (λ (l : Line). excess l v o) (line_of-negated_other t r i n)

zero_back : (x y : ℤ) → y ≡ neg_ℤ x → y ≡ pos 0 → x ≡ pos 0
zero_back x y e z = omega (arith, ints)

zero_there : (x y : ℤ) → y ≡ neg_ℤ x → x ≡ pos 0 → y ≡ pos 0
zero_there x y e z = omega (arith, ints)

pub Solves-negated : (t : Tableau) (r : ℕ) (v : Values) (owns : ℕ → ℤ) → r < length t.lines → Solves (negated r t) v owns ↔ Solves t v owns
Solves-negated t r v owns h = (back, there)
  where
    back : Solves (negated r t) v owns → Solves t v owns
    back s i k =
        let solved : excess (line_of (negated r t) i) v (owns i) ≡ pos 0 = s i (omega (arith, length-lines-negated t r)) in
        elim (same_or_not i r) [
          | inl e ↦ zero_back (excess (line_of t i) v (owns i)) (excess (line_of (negated r t) i) v (owns i)) (opposite_at t r i v (owns i) h e) solved
          | inr n ↦ sym (same_at t r i v (owns i) n) ∙ solved
        ]

    there : Solves t v owns → Solves (negated r t) v owns
    there s i k =
        let solved : excess (line_of t i) v (owns i) ≡ pos 0 = s i (omega (arith, length-lines-negated t r)) in
        elim (same_or_not i r) [
          | inl e ↦ zero_there (excess (line_of t i) v (owns i)) (excess (line_of (negated r t) i) v (owns i)) (opposite_at t r i v (owns i) h e) solved
          | inr n ↦ same_at t r i v (owns i) n ∙ solved
        ]

pub Solves-without : (t : Tableau) (v : Values) (owns : ℕ → ℤ) → IsShaped t → 0 < t.columns → Solves (without_x0 t) v owns ↔ SolvesWithout t v owns
Solves-without t v owns shaped some = (λ s i k. sym (same i k) ∙ s i (omega (arith, length-lines-without t shaped.lines)), λ s i k. same i (omega (arith, length-lines-without t shaped.lines)) ∙ s i (omega (arith, length-lines-without t shaped.lines)))
  where
    same : (i : ℕ) → i ≤ rows_of t → excess (line_of (without_x0 t) i) v (owns i) ≡ excess (line_of t i) (with_none (t.columns - 1) v) (owns i)
    same i k =
        let lines : rows_of t < length t.lines = shaped.lines in
        let columns : t.columns ≡ suc (t.columns - 1) = omega arith in
        ap (λ (l : Line). excess l v (owns i)) (line_of-without t i shaped.lines k)
        ∙ excess-without_last (line_of t i) (t.columns - 1) v (owns i) (shaped.entries i (omega arith) ∙ columns)

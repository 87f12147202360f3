-- The column of a variable in the first lines, and multipliers as combinations of these.
use Rattle.written_method.proofs.Common.{◌≡◌, ℕ, suc, ◌<◌, ℤ, pos, negsuc, neg_ℤ, ◌+ℤ◌, ◌*ℤ◌, Bool, true, false, List, [], ◌∷◌, ◌++◌, get_or, arith, refl, sym, ap, ap₂, ◌∙◌, subst, inl, inr, if◌then◌else◌, ◌<ℤ◌, ◌≤ℤ◌, ints, Rational, lowest, *ℤ_cancel, nonzero_of_pos, ≤ℤ_cancel, *ℤ-≤ℤ, *ℤ_nonnegative, lowest-cross, ring, zero-*ℤ, *ℤ-zero, Sense, Least, Equal, Most, Var, number_at, IsOver, number_sum, right_sum, HasSign, HaveSigns, AreOverFrom, weighted_entry, weighted_right, as_most, by_column, width_of, right_of, row_line, row_lines, slack_entries, x0_entry, Line, entry_of, Inequality, is_split, IsAmong, multipliers_from}

-- ---- the column of a variable

-- in lists of numbers by column the variable's number stands at this place, and its negation after it where the variable may be negative
pub record IsColumn (vs : List Var) (v : Var) (c : ℕ) : Type 0 where
  pub within : c < width_of vs
  pub first : (f : Var → ℤ) (more : List ℤ) → get_or (by_column f vs ++ more) c (pos 0) ≡ f v
  pub second_within : is_split v ≡ true → suc c < width_of vs
  pub second : is_split v ≡ true → (f : Var → ℤ) (more : List ℤ) → get_or (by_column f vs ++ more) (suc c) (pos 0) ≡ neg_ℤ (f v)

column_here : (v : Var) (vs : List Var) → IsColumn (v ∷ vs) v 0
column_here v vs = record {
  within = width (is_split v);
  first = λ f more. first (is_split v) (f v) (by_column f vs) more;
  second_within = λ h. second_width (is_split v) h;
  second = λ h f more. second (is_split v) h (f v) (by_column f vs) more;
}
  where
    width : (b : Bool) → 0 < (if b then suc (suc (width_of vs)) else suc (width_of vs))
    width true = omega arith
    width false = omega arith

    second_width : (b : Bool) → b ≡ true → 1 < (if b then suc (suc (width_of vs)) else suc (width_of vs))
    second_width true h = omega arith
    second_width false h = absurd (cc h)

    first : (b : Bool) (z : ℤ) (zs more : List ℤ) → get_or ((if b then z ∷ neg_ℤ z ∷ zs else z ∷ zs) ++ more) 0 (pos 0) ≡ z
    first true z zs more = refl
    first false z zs more = refl

    second : (b : Bool) → b ≡ true → (z : ℤ) (zs more : List ℤ) → get_or ((if b then z ∷ neg_ℤ z ∷ zs else z ∷ zs) ++ more) 1 (pos 0) ≡ neg_ℤ z
    second true h z zs more = refl
    second false h z zs more = absurd (cc h)

-- a place after the columns of one more variable
shifted : Bool → ℕ → ℕ
shifted b c = if b then suc (suc c) else suc c

column_later : (w : Var) (ws : List Var) (v : Var) (c : ℕ) → IsColumn ws v c → IsColumn (w ∷ ws) v (shifted (is_split w) c)
unfolding shifted
column_later w ws v c k = record {
  within = width (is_split w);
  first = λ f more. skip (is_split w) c (f w) (by_column f ws) more ∙ k.first f more;
  second_within = λ h. second_width (is_split w) (k.second_within h);
  second = λ h f more. skip_second (is_split w) (f w) (by_column f ws) more ∙ k.second h f more;
}
  where
    below : c < width_of ws
    below = k.within

    width : (b : Bool) → (if b then suc (suc c) else suc c) < (if b then suc (suc (width_of ws)) else suc (width_of ws))
    width true = omega arith
    width false = omega arith

    second_width : (b : Bool) → suc c < width_of ws → suc (if b then suc (suc c) else suc c) < (if b then suc (suc (width_of ws)) else suc (width_of ws))
    second_width true h = omega arith
    second_width false h = omega arith

    skip : (b : Bool) (m : ℕ) (z : ℤ) (zs more : List ℤ) → get_or ((if b then z ∷ neg_ℤ z ∷ zs else z ∷ zs) ++ more) (if b then suc (suc m) else suc m) (pos 0) ≡ get_or (zs ++ more) m (pos 0)
    skip true m z zs more = refl
    skip false m z zs more = refl

    skip_second : (b : Bool) (z : ℤ) (zs more : List ℤ) → get_or ((if b then z ∷ neg_ℤ z ∷ zs else z ∷ zs) ++ more) (suc (if b then suc (suc c) else suc c)) (pos 0) ≡ get_or (zs ++ more) (suc c) (pos 0)
    skip_second true z zs more = refl
    skip_second false z zs more = refl

pub column_of : (vs : List Var) (v : Var) → IsAmong v vs → (c : ℕ) × IsColumn vs v c
column_of [] v h = absurd h
column_of (w ∷ ws) v h = elim h [
  | inl e ↦ (0, subst (λ u. IsColumn (w ∷ ws) u 0) (sym e) (column_here w ws))
  | inr more ↦ let k = column_of ws v more in (shifted (is_split w) k.0, column_later w ws v k.0 k.1)
]

-- ---- multipliers

-- a fraction by its numbers
pub over-lowest : (d t o y : ℤ) → pos 0 <ℤ o → IsOver d (lowest t o) y → y *ℤ o ≡ t *ℤ d
over-lowest d t o y h w =
    let r : Rational = lowest t o in
    *ℤ_cancel (y *ℤ o) (t *ℤ d) r.bottom (nonzero_of_pos r.bottom w.positive)
    (turned y o r.bottom ∙ ap (λ z. z *ℤ o) w.cross ∙ turned r.top d o ∙ ap (λ z. z *ℤ d) (lowest-cross t o (nonzero_of_pos o h)) ∙ turned t r.bottom d)
  where
    turned : (a b c : ℤ) → (a *ℤ b) *ℤ c ≡ (a *ℤ c) *ℤ b
    turned a b c = simp ring

-- the sign of a row may be taken from either factor
pub as_most-across : (s : Sense) (a b : ℤ) → as_most s a *ℤ b ≡ a *ℤ as_most s b
as_most-across Least a b = simp ring
as_most-across Equal a b = refl
as_most-across Most a b = refl

sum_step : (y o a d n e s r w : ℤ) → y *ℤ o ≡ a *ℤ d → a *ℤ n ≡ e *ℤ s → r *ℤ o ≡ d *ℤ w → ((y *ℤ n) +ℤ r) *ℤ o ≡ d *ℤ ((e *ℤ s) +ℤ w)
sum_step y o a d n e s r w f g h = split y n r o ∙ ap₂ (λ u v. (u *ℤ n) +ℤ v) f h ∙ join a d n w ∙ ap (λ u. d *ℤ (u +ℤ w)) g
  where
    split : (y n r o : ℤ) → ((y *ℤ n) +ℤ r) *ℤ o ≡ ((y *ℤ o) *ℤ n) +ℤ (r *ℤ o)
    split y n r o = simp ring

    join : (a d n w : ℤ) → ((a *ℤ d) *ℤ n) +ℤ (d *ℤ w) ≡ d *ℤ ((a *ℤ n) +ℤ w)
    join a d n w = simp ring

row_line-first : (vs : List Var) (there : Bool) (n i : ℕ) (row : Inequality) (v : Var) (c : ℕ) → IsColumn vs v c → entry_of (row_line vs there n i row) c ≡ as_most row.sense (number_at row.entries v)
row_line-first vs there n i row v c k = k.first (λ u. as_most row.sense (number_at row.entries u)) (slack_entries n i ++ x0_entry there (negsuc 0))

-- the multipliers' combination of the rows at a variable is that of the first lines in its column
pub number_sum-is : (vs : List Var) (there : Bool) (n low slack i : ℕ) (rows : List Inequality) (line : Line) (o d : ℤ) (y : ℕ → ℤ) (v : Var) (c : ℕ) → pos 0 <ℤ o → IsColumn vs v c → AreOverFrom d y i (multipliers_from slack line o rows)
    → number_sum y i rows v *ℤ o ≡ d *ℤ weighted_entry slack (row_lines vs there n low rows) line c
number_sum-is vs there n low slack i [] line o d y v c h k w = zero-*ℤ o ∙ sym (*ℤ-zero d)
number_sum-is vs there n low slack i (row ∷ rows) line o d y v c h k w =
    sum_step (y i) o (as_most row.sense (entry_of line slack)) d (number_at row.entries v) (entry_of line slack) (entry_of (row_line vs there n low row) c) (number_sum y (suc i) rows v) (weighted_entry (suc slack) (row_lines vs there n (suc low) rows) line c)
    (over-lowest d (as_most row.sense (entry_of line slack)) o (y i) h w.0)
    (as_most-across row.sense (entry_of line slack) (number_at row.entries v) ∙ ap (λ z. entry_of line slack *ℤ z) (sym (row_line-first vs there n low row v c k)))
    (number_sum-is vs there n (suc low) (suc slack) (suc i) rows line o d y v c h k w.1)

pub right_sum-is : (vs : List Var) (there : Bool) (n low slack i : ℕ) (rows : List Inequality) (line : Line) (o d : ℤ) (y : ℕ → ℤ) → pos 0 <ℤ o → AreOverFrom d y i (multipliers_from slack line o rows)
    → right_sum y i rows *ℤ o ≡ d *ℤ weighted_right slack (row_lines vs there n low rows) line
right_sum-is vs there n low slack i [] line o d y h w = zero-*ℤ o ∙ sym (*ℤ-zero d)
right_sum-is vs there n low slack i (row ∷ rows) line o d y h w =
    sum_step (y i) o (as_most row.sense (entry_of line slack)) d row.right (entry_of line slack) (right_of row) (right_sum y (suc i) rows) (weighted_right (suc slack) (row_lines vs there n (suc low) rows) line)
    (over-lowest d (as_most row.sense (entry_of line slack)) o (y i) h w.0)
    (as_most-across row.sense (entry_of line slack) row.right)
    (right_sum-is vs there n (suc low) (suc slack) (suc i) rows line o d y h w.1)

-- in the second column of a variable the combination has the other sign
pub weighted-second : (vs : List Var) (there : Bool) (n low slack : ℕ) (rows : List Inequality) (line : Line) (v : Var) (c : ℕ) → IsColumn vs v c → is_split v ≡ true
    → weighted_entry slack (row_lines vs there n low rows) line (suc c) ≡ neg_ℤ (weighted_entry slack (row_lines vs there n low rows) line c)
weighted-second vs there n low slack [] line v c k h = refl
weighted-second vs there n low slack (row ∷ rows) line v c k h =
    ap₂ (λ z s. (entry_of line slack *ℤ z) +ℤ s)
    (k.second h (λ u. as_most row.sense (number_at row.entries u)) (slack_entries n low ++ x0_entry there (negsuc 0)) ∙ ap neg_ℤ (sym (row_line-first vs there n low row v c k)))
    (weighted-second vs there n (suc low) (suc slack) rows line v c k h)
    ∙ out (entry_of line slack) (entry_of (row_line vs there n low row) c) (weighted_entry (suc slack) (row_lines vs there n (suc low) rows) line c)
  where
    out : (e z s : ℤ) → (e *ℤ neg_ℤ z) +ℤ neg_ℤ s ≡ neg_ℤ ((e *ℤ z) +ℤ s)
    out e z s = simp ring

-- where no entry of the line is positive, each multiplier has its row's sign
sign_of : (s : Sense) (y o e d : ℤ) → pos 0 <ℤ o → pos 0 <ℤ d → e ≤ℤ pos 0 → y *ℤ o ≡ as_most s e *ℤ d → HasSign s y
sign_of Least y o e d p q h k =
    let positive : pos 0 ≤ℤ (neg_ℤ e *ℤ d) = *ℤ_nonnegative (neg_ℤ e) d (omega (arith, ints)) (omega (arith, ints)) in
    ≤ℤ_cancel (pos 0) y o p (subst (λ z. z ≤ℤ (y *ℤ o)) (sym (zero-*ℤ o)) (subst (λ z. pos 0 ≤ℤ z) (sym k) positive))
sign_of Equal y o e d p q h k = tt
sign_of Most y o e d p q h k =
    let negative : (e *ℤ d) ≤ℤ (pos 0 *ℤ d) = *ℤ-≤ℤ e (pos 0) d (omega (arith, ints)) h in
    ≤ℤ_cancel y (pos 0) o p (subst (λ z. z ≤ℤ (pos 0 *ℤ o)) (sym k) (subst (λ z. (e *ℤ d) ≤ℤ z) (zero-*ℤ d ∙ sym (zero-*ℤ o)) negative))

pub signs-of : (slack i : ℕ) (rows : List Inequality) (line : Line) (o d : ℤ) (y : ℕ → ℤ) → pos 0 <ℤ o → pos 0 <ℤ d → ((c : ℕ) → entry_of line c ≤ℤ pos 0) → AreOverFrom d y i (multipliers_from slack line o rows) → HaveSigns y i rows
signs-of slack i [] line o d y p q h w = tt
signs-of slack i (row ∷ rows) line o d y p q h w =
    (sign_of row.sense (y i) o (entry_of line slack) d p q (h slack) (over-lowest d (as_most row.sense (entry_of line slack)) o (y i) p w.0), signs-of (suc slack) (suc i) rows line o d y p q h w.1)

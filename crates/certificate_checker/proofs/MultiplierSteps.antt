-- One multiplier, one column, and the sum of right sides.
use Rattle.certificate_checker.proofs.Common.{◌≡◌, ℕ, ◌+◌, ◌<◌, ◌≤◌, ℤ, pos, Bool, true, false, ◌&&◌, List, [], ◌∷◌, ◌++◌, length, map, drop, get_or, Option, Some, None, refl, sym, ap, ap₂, ◌∙◌, subst, if◌then◌else◌, is_eq, is_le, drop_more, at_drop_all, difference_formed, all_fit, Rational, whole, minus, plus, times, order_of, first_wide, first_wide-nil, all_fit-append, all_fit-nil, Row, RowName, Var, Place, Column, SumBound, sum_from, term_formed, sum_from_formed, kind_is_free, Aim, column_partial, Condition, AllPass, FailsFor, IsWideAt, total, total_formed, column_of, is_signed, multiplier_condition, is_within, column_condition, right_sides, bound_value, bound_passes, bound_condition, absolute, wrongly_signed, column_off, sum_not_positive}
use Rattle.certificate_checker.proofs.ConditionLaws.{Passes, Passes-alone, passed_over}
use Rattle.certificate_checker.proofs.ValueChecks.{formed_fit, formed_wide, fails_plainly, stops_at}

-- ---- signs

pub multiplier_passes : (value : RowName → Rational) (row : Row) (r : Rational) → r ≡ value row.name → is_signed row.sense r.top ≡ true → AllPass (multiplier_condition value row ∷ [])
multiplier_passes value row r is h = Passes-alone (multiplier_condition value row) (record { fits = first_wide-nil; is = ap (λ (x : Rational). is_signed row.sense x.top) (sym is) ∙ h })

pub multiplier_fails : (value : RowName → Rational) (row : Row) (r : Rational) → r ≡ value row.name → is_signed row.sense r.top ≡ false → FailsFor (multiplier_condition value row ∷ []) (wrongly_signed row.name)
multiplier_fails value row r is h = fails_plainly (multiplier_condition value row) refl first_wide-nil (ap (λ (x : Rational). is_signed row.sense x.top) (sym is) ∙ h)

-- ---- a condition that fails, with what is computed for its amount

fails_with : (c : Condition) → first_wide c.seen ≡ None → first_wide c.amount ≡ None → c.holds ≡ false → FailsFor (c ∷ []) c.reason
fails_with c fits last is = record {
  fit = ap (λ b. first_wide (c.seen ++ (if b then [] else c.amount))) is ∙ passed_over c.seen c.amount fits ∙ last;
  fails = ap (λ b. if b then None else Some c.reason) is;
}

wide_amount : (c : Condition) (place : Place) → first_wide c.seen ≡ None → c.holds ≡ false → first_wide c.amount ≡ Some place → IsWideAt (c ∷ []) place
wide_amount c place fits is last = ap (λ b. first_wide (c.seen ++ (if b then [] else c.amount))) is ∙ passed_over c.seen c.amount fits ∙ last

-- ---- columns

none_there : (b : Bool) (r : Rational) → None ≡ (if b then Some r else None) → b ≡ false
none_there true r h = absurd (cc h)
none_there false r h = refl

some_there : (b : Bool) (r s : Rational) → Some s ≡ (if b then Some r else None) → (b ≡ true) × (s ≡ r)
some_there true r s h = (refl, same h)
  where
    same : Some s ≡ Some r → s ≡ r
    same h = ap (λ o. elim o [ None ↦ s | Some t ↦ t ]) h
some_there false r s h = absurd (cc h)

module _ (cost : Var → ℤ) (rows : List Row) (value : RowName → Rational) (v : Var) where
  abbrev sum : Rational
  sum = total value (column_of rows v)

  abbrev number : Rational
  number = whole (cost v)

  pub column_wide : None ≡ column_partial rows value v → IsWideAt (column_condition cost rows value v ∷ []) (Column v)
  column_wide h =
      stops_at (column_condition cost rows value v) (Column v)
      (formed_wide (Column v) (total_formed value (column_of rows v)) (none_there (all_fit (total_formed value (column_of rows v))) sum h))

  fits_seen : (s : Rational) → Some s ≡ column_partial rows value v → first_wide (column_condition cost rows value v).seen ≡ None
  fits_seen s h = formed_fit (Column v) (total_formed value (column_of rows v)) (some_there (all_fit (total_formed value (column_of rows v))) sum s h).0

  is_sum : (s : Rational) → Some s ≡ column_partial rows value v → s ≡ sum
  is_sum s h = (some_there (all_fit (total_formed value (column_of rows v))) sum s h).1

  same_test : (s n : Rational) → Some s ≡ column_partial rows value v → n ≡ number → is_within (kind_is_free v.kind) (order_of sum number) ≡ is_within (kind_is_free v.kind) (order_of s n)
  same_test s n h is = sym (ap₂ (λ a b. is_within (kind_is_free v.kind) (order_of a b)) (is_sum s h) is)

  pub column_passes : (s n : Rational) → Some s ≡ column_partial rows value v → n ≡ number → is_within (kind_is_free v.kind) (order_of s n) ≡ true → AllPass (column_condition cost rows value v ∷ [])
  column_passes s n h is passes = Passes-alone (column_condition cost rows value v) (record { fits = fits_seen s h; is = same_test s n h is ∙ passes })

  pub column_fails : (s n rest amount : Rational) → Some s ≡ column_partial rows value v → n ≡ number → is_within (kind_is_free v.kind) (order_of s n) ≡ false
      → all_fit (difference_formed s n) ≡ true → rest ≡ minus s n → amount ≡ absolute rest → FailsFor (column_condition cost rows value v ∷ []) (column_off v amount)
  column_fails s n rest amount h is fails fit less amounts =
      subst (λ a. FailsFor (column_condition cost rows value v ∷ []) (column_off v a)) (sym (amounts ∙ ap absolute (less ∙ ap₂ minus (is_sum s h) is)))
      (fails_with (column_condition cost rows value v) (fits_seen s h)
      (formed_fit (Column v) (difference_formed sum number) (sym (ap₂ (λ a b. all_fit (difference_formed a b)) (is_sum s h) is) ∙ fit))
      (same_test s n h is ∙ fails))

  pub column_amount_wide : (s n : Rational) → Some s ≡ column_partial rows value v → n ≡ number → is_within (kind_is_free v.kind) (order_of s n) ≡ false
      → all_fit (difference_formed s n) ≡ false → IsWideAt (column_condition cost rows value v ∷ []) (Column v)
  column_amount_wide s n h is fails wide =
      wide_amount (column_condition cost rows value v) (Column v) (fits_seen s h) (same_test s n h is ∙ fails)
      (formed_wide (Column v) (difference_formed sum number) (sym (ap₂ (λ a b. all_fit (difference_formed a b)) (is_sum s h) is) ∙ wide))

-- ---- the sum of right sides

pub bound_wide : (aim : Aim) (rows : List Row) (value : RowName → Rational) → all_fit (total_formed value (right_sides rows)) ≡ false → IsWideAt (bound_condition aim rows value ∷ []) SumBound
bound_wide aim rows value wide = stops_at (bound_condition aim rows value) SumBound (formed_wide SumBound (total_formed value (right_sides rows)) wide)

pub bound_is_passed : (aim : Aim) (rows : List Row) (value : RowName → Rational) (found : Rational) → found ≡ bound_value rows value
    → all_fit (total_formed value (right_sides rows)) ≡ true → bound_passes aim found.top ≡ true → AllPass (bound_condition aim rows value ∷ [])
bound_is_passed aim rows value found is fit passes = Passes-alone (bound_condition aim rows value) (record {
  fits = formed_fit SumBound (total_formed value (right_sides rows)) fit;
  is = ap (λ (r : Rational). bound_passes aim r.top) (sym is) ∙ passes;
})

pub bound_fails : (aim : Aim) (rows : List Row) (value : RowName → Rational) (found : Rational) → found ≡ bound_value rows value
    → all_fit (total_formed value (right_sides rows)) ≡ true → bound_passes aim found.top ≡ false → FailsFor (bound_condition aim rows value ∷ []) sum_not_positive
bound_fails aim rows value found is fit fails =
    fails_plainly (bound_condition aim rows value) refl (formed_fit SumBound (total_formed value (right_sides rows)) fit)
    (ap (λ (r : Rational). bound_passes aim r.top) (sym is) ∙ fails)

-- row by row
abbrev right_side : Row → RowName × ℤ
right_side row = (row.name, row.rhs)

left : (rows : List Row) (i : ℕ) (row : Row) → i < length rows → row ≡ get_or rows i row → right_sides (drop i rows) ≡ right_side row ∷ right_sides (drop (i + 1) rows)
left rows i row h is = ap right_sides (drop_more rows i row h) ∙ ap (λ r. right_side r ∷ right_sides (drop (i + 1) rows)) (sym is)

pub right_sum-next : (value : RowName → Rational) (rows : List Row) (i : ℕ) (row : Row) (s next all : Rational) → i < length rows → row ≡ get_or rows i row → next ≡ plus s (times (whole row.rhs) (value row.name))
    → sum_from value s (right_sides (drop i rows)) ≡ all → sum_from value next (right_sides (drop (i + 1) rows)) ≡ all
right_sum-next value rows i row s next all h here is so_far =
    ap (λ t. sum_from value t (right_sides (drop (i + 1) rows))) is ∙ sym (ap (sum_from value s) (left rows i row h here)) ∙ so_far

parts : (value : RowName → Rational) (rows : List Row) (i : ℕ) (row : Row) (s : Rational) → i < length rows → row ≡ get_or rows i row
    → all_fit (sum_from_formed value s (right_sides (drop i rows))) ≡ (all_fit (term_formed s row.rhs (value row.name)) && all_fit (sum_from_formed value (plus s (times (whole row.rhs) (value row.name))) (right_sides (drop (i + 1) rows))))
parts value rows i row s h here =
    ap (λ es. all_fit (sum_from_formed value s es)) (left rows i row h here)
    ∙ all_fit-append (term_formed s row.rhs (value row.name)) (sum_from_formed value (plus s (times (whole row.rhs) (value row.name))) (right_sides (drop (i + 1) rows)))

pub right_fits-next : (value : RowName → Rational) (rows : List Row) (i : ℕ) (row : Row) (s next : Rational) (all : Bool) → i < length rows → row ≡ get_or rows i row → next ≡ plus s (times (whole row.rhs) (value row.name))
    → all_fit (term_formed s row.rhs (value row.name)) ≡ true
    → all ≡ all_fit (sum_from_formed value s (right_sides (drop i rows))) → all ≡ all_fit (sum_from_formed value next (right_sides (drop (i + 1) rows)))
right_fits-next value rows i row s next all h here is fit so_far =
    so_far ∙ parts value rows i row s h here
    ∙ ap (λ b. b && all_fit (sum_from_formed value (plus s (times (whole row.rhs) (value row.name))) (right_sides (drop (i + 1) rows)))) fit
    ∙ ap (λ t. all_fit (sum_from_formed value t (right_sides (drop (i + 1) rows)))) (sym is)

pub right_fits-stop : (value : RowName → Rational) (rows : List Row) (i : ℕ) (row : Row) (s : Rational) (all : Bool) → i < length rows → row ≡ get_or rows i row
    → all_fit (term_formed s row.rhs (value row.name)) ≡ false → all ≡ all_fit (sum_from_formed value s (right_sides (drop i rows))) → all ≡ false
right_fits-stop value rows i row s all h here wide so_far =
    so_far ∙ parts value rows i row s h here
    ∙ ap (λ b. b && all_fit (sum_from_formed value (plus s (times (whole row.rhs) (value row.name))) (right_sides (drop (i + 1) rows)))) wide

pub right_fits-done : (value : RowName → Rational) (rows : List Row) (i : ℕ) (s : Rational) (all : Bool) → length rows ≤ i → all ≡ all_fit (sum_from_formed value s (right_sides (drop i rows))) → all ≡ true
right_fits-done value rows i s all h so_far =
    so_far ∙ at_drop_all (λ rs. all_fit (sum_from_formed value s (right_sides rs))) rows i h ∙ all_fit-nil

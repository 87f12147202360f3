-- One row, one sign, and the cost of values.
use Rattle.certificate_checker.proofs.Common.{◌≡◌, ℤ, pos, Bool, true, false, ◌||◌, List, [], ◌∷◌, ◌++◌, None, refl, sym, ap, ◌∙◌, subst, if◌then◌else◌, arith, ap₂, lt_z, ints, all_fit, Rational, first_wide, first_wide-fits, first_wide-stops, first_wide-nil, Row, Var, Place, Check, SumCost, evaluated, evaluated_formed, kind_is_free, stands, Subject, Condition, formed_at, AllPass, FailsFor, IsWideAt, cost_entries, cost_value, total_formed, absolute, right_of, cost_passes, row_condition, sign_condition, cost_condition, row_missed, below_zero, cost_not_negative}
use Rattle.std.specs.Prelude.{Some, int_le, not}
use Rattle.certificate_checker.proofs.ConditionLaws.{Passes, Passes-alone, stopped_at, nothing_more}

-- ---- numbers that are formed at one place

pub formed_fit : (place : Place) (formed : List ℤ) → all_fit formed ≡ true → first_wide (formed_at place formed) ≡ None
formed_fit place formed h = first_wide-fits (record { place = place; formed = formed }) [] h ∙ first_wide-nil

pub formed_wide : (place : Place) (formed : List ℤ) → all_fit formed ≡ false → first_wide (formed_at place formed) ≡ Some place
formed_wide place formed h = first_wide-stops (record { place = place; formed = formed }) [] h

-- a condition that fails, with nothing to be formed for an amount
pub fails_plainly : (c : Condition) → c.amount ≡ [] → first_wide c.seen ≡ None → c.holds ≡ false → FailsFor (c ∷ []) c.reason
fails_plainly c none fits is = record {
  fit = ap (λ b. first_wide (c.seen ++ (if b then [] else c.amount))) is ∙ ap (λ ss. first_wide (c.seen ++ ss)) none ∙ nothing_more c.seen ∙ fits;
  fails = ap (λ b. if b then None else Some c.reason) is;
}

-- a number that doesn't fit stops at once
pub stops_at : (c : Condition) (place : Place) → first_wide c.seen ≡ Some place → IsWideAt (c ∷ []) place
stops_at c place h = stopped_at c.seen (if c.holds then [] else c.amount) place h

-- ---- rows

pub row_passes : (subject : Subject) (value : Var → Rational) (row : Row) (rest : Rational) → rest ≡ evaluated value row.entries.items (right_of subject row)
    → all_fit (evaluated_formed value row.entries.items (right_of subject row)) ≡ true → stands row.sense rest.top (pos 0) ≡ true → Passes (row_condition subject value row)
row_passes subject value row rest is fit holds = record {
  fits = formed_fit (Check row.name) (evaluated_formed value row.entries.items (right_of subject row)) fit;
  is = ap (λ (r : Rational). stands row.sense r.top (pos 0)) (sym is) ∙ holds;
}

pub row_fails : (subject : Subject) (value : Var → Rational) (row : Row) (rest amount : Rational) → rest ≡ evaluated value row.entries.items (right_of subject row)
    → all_fit (evaluated_formed value row.entries.items (right_of subject row)) ≡ true → stands row.sense rest.top (pos 0) ≡ false → amount ≡ absolute rest
    → FailsFor (row_condition subject value row ∷ []) (row_missed row.name amount)
row_fails subject value row rest amount is fit missed amounts =
    subst (λ a. FailsFor (row_condition subject value row ∷ []) (row_missed row.name a)) (sym (amounts ∙ ap absolute is))
    (fails_plainly (row_condition subject value row) refl
    (formed_fit (Check row.name) (evaluated_formed value row.entries.items (right_of subject row)) fit)
    (ap (λ (r : Rational). stands row.sense r.top (pos 0)) (sym is) ∙ missed))

pub row_wide : (subject : Subject) (value : Var → Rational) (row : Row) → all_fit (evaluated_formed value row.entries.items (right_of subject row)) ≡ false
    → IsWideAt (row_condition subject value row ∷ []) (Check row.name)
row_wide subject value row wide =
    stops_at (row_condition subject value row) (Check row.name) (formed_wide (Check row.name) (evaluated_formed value row.entries.items (right_of subject row)) wide)

-- ---- signs

le_from_lt_test : (z : ℤ) (b : Bool) → lt_z z (pos 0) ≡ b → int_le (pos 0) z ≡ not b
le_from_lt_test z true h = grind (arith, ints)
le_from_lt_test z false h = grind (arith, ints)

or_false : (a b : Bool) → b ≡ true → (a || b) ≡ true
or_false true b h = refl
or_false false b h = h

pub sign_passes_free : (value : Var → Rational) (v : Var) → kind_is_free v.kind ≡ true → Passes (sign_condition value v)
sign_passes_free value v h = record { fits = first_wide-nil; is = ap (λ b. b || int_le (pos 0) (value v).top) h }

pub sign_passes : (value : Var → Rational) (v : Var) → lt_z (value v).top (pos 0) ≡ false → Passes (sign_condition value v)
sign_passes value v h = record {
  fits = first_wide-nil;
  is = or_false (kind_is_free v.kind) (int_le (pos 0) (value v).top) (le_from_lt_test (value v).top false h);
}

pub sign_fails : (value : Var → Rational) (v : Var) → kind_is_free v.kind ≡ false → lt_z (value v).top (pos 0) ≡ true → FailsFor (sign_condition value v ∷ []) (below_zero v)
sign_fails value v bounded negative =
    fails_plainly (sign_condition value v) refl first_wide-nil
    (ap₂ (λ a b. a || b) bounded (le_from_lt_test (value v).top true negative))

-- ---- the cost

pub cost_wide : (subject : Subject) (cost : Var → ℤ) (vars : List Var) (value : Var → Rational) → all_fit (total_formed value (cost_entries cost vars)) ≡ false → IsWideAt (cost_condition subject cost vars value ∷ []) SumCost
cost_wide subject cost vars value wide =
    stops_at (cost_condition subject cost vars value) SumCost (formed_wide SumCost (total_formed value (cost_entries cost vars)) wide)

pub cost_is_passed : (subject : Subject) (cost : Var → ℤ) (vars : List Var) (value : Var → Rational) (found : Rational) → found ≡ cost_value cost vars value
    → all_fit (total_formed value (cost_entries cost vars)) ≡ true → cost_passes subject found.top ≡ true → AllPass (cost_condition subject cost vars value ∷ [])
cost_is_passed subject cost vars value found is fit passes = Passes-alone (cost_condition subject cost vars value) (record {
  fits = formed_fit SumCost (total_formed value (cost_entries cost vars)) fit;
  is = ap (λ (r : Rational). cost_passes subject r.top) (sym is) ∙ passes;
})

pub cost_fails : (subject : Subject) (cost : Var → ℤ) (vars : List Var) (value : Var → Rational) (found : Rational) → found ≡ cost_value cost vars value
    → all_fit (total_formed value (cost_entries cost vars)) ≡ true → cost_passes subject found.top ≡ false → FailsFor (cost_condition subject cost vars value ∷ []) cost_not_negative
cost_fails subject cost vars value found is fit fails =
    fails_plainly (cost_condition subject cost vars value) refl (formed_fit SumCost (total_formed value (cost_entries cost vars)) fit)
    (ap (λ (r : Rational). cost_passes subject r.top) (sym is) ∙ fails)

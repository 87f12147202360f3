-- Multipliers without those that are 0 have the same value for each row.
use Rattle.solve_command.proofs.Common.{◌≡◌, Bool, true, false, List, [], ◌∷◌, map, None, Some, refl, sym, ap, ap₂, ◌∙◌, subst, pos, if◌then◌else◌, arith, not, unsigned_abs, gcd_of, Rational, pair, whole, value_of, Frac, RowName, ascends, is_zero, keys_of, or_zero, value_in, valued, nonzero}
use Rattle.std.specs.Ordering.{is_eq, is_lt, ordering_reverse}
use Rattle.std.specs.declared.cmp.Ordering.{Ordering}
use Rattle.std.specs.declared.cmp.Ordering.TheVariants.{Less, Equal, Greater}
use Rattle.std.proofs.lemmas.Int.{ints}
use Rattle.exact_num.proofs.GcdLaws.{zero-gcd_of}
use Rattle.exact_num.proofs.Integers.{pos-unsigned_abs}
use Rattle.row_core.specs.LookUps.{value_at}
use Rattle.row_core.specs.Order.{row_name_cmp}
use Rattle.row_core.proofs.AscendingLaws.{Less-from_test, ascends-skip, ascends-tail, both_passed}
use Rattle.row_core.proofs.DivisionLaws.{is_zero-fact}
use Rattle.row_core.proofs.Orders.{row_name_cmp_exact, row_name_cmp_total}

-- a fraction of which the numerator is 0 is 0
zero-value : (f : Frac) → is_zero f.num ≡ true → value_of f ≡ whole (pos 0)
zero-value f h =
    let none : f.num ≡ pos 0 = is_zero-fact f.num h in
    let one : unsigned_abs f.den ≡ 1 = sym (zero-gcd_of (unsigned_abs f.den)) ∙ subst (λ n. gcd_of (unsigned_abs n) (unsigned_abs f.den) ≡ 1) none f.lowest in
    let bottom : f.den ≡ pos 1 = sym (pos-unsigned_abs f.den (omega (arith, ints, f.positive))) ∙ ap pos one in
    ap₂ pair none bottom

-- names that come after one have no value at it
missing-after : (x name : RowName) (es : List (RowName × Rational)) → ascends row_name_cmp (x ∷ keys_of es) ≡ true → x ≡ name → value_at row_name_cmp es name ≡ None
missing-after x name [] h same = refl
missing-after x name (e ∷ es) h same =
    let less : row_name_cmp x e.0 ≡ Less = Less-from_test (row_name_cmp x e.0) (both_passed (is_lt (row_name_cmp x e.0)) (ascends row_name_cmp (e.0 ∷ keys_of es)) h).0 in
    let greater : row_name_cmp e.0 name ≡ Greater = subst (λ n. row_name_cmp e.0 n ≡ Greater) same (row_name_cmp_total.antisymm e.0 x ∙ ap ordering_reverse less) in
    ap (λ o. if is_eq o then Some e.1 else value_at row_name_cmp es name) greater
    ∙ missing-after x name es (ascends-skip row_name_cmp row_name_cmp_total x e.0 (keys_of es) h) same

-- what compares alike is the same
alike : (o : Ordering) → is_eq o ≡ true → o ≡ Equal
alike Less h = absurd (cc h)
alike Equal h = refl
alike Greater h = absurd (cc h)

turned : (b : Bool) → not b ≡ false → b ≡ true
turned true h = refl
turned false h = absurd (cc h)

-- the value at a name, with one more first
abbrev with_first : Bool → Rational → List (RowName × Rational) → RowName → Rational
with_first b first others name = or_zero (if b then Some first else value_at row_name_cmp others name)

pub same-values : (es : List (RowName × Frac)) → ascends row_name_cmp (keys_of (map valued es)) ≡ true → (name : RowName)
    → value_in row_name_cmp (nonzero (map valued es)) name ≡ value_in row_name_cmp (map valued es) name
same-values [] up name = refl
same-values (e ∷ es) up name = by_test (same-values es (ascends-tail row_name_cmp e.0 (keys_of (map valued es)) up) name) (not (is_zero e.1.num)) refl
  where
    kept : value_in row_name_cmp (nonzero (map valued es)) name ≡ value_in row_name_cmp (map valued es) name → (b : Bool)
        → with_first b (value_of e.1) (nonzero (map valued es)) name ≡ with_first b (value_of e.1) (map valued es) name
    kept after true = refl
    kept after false = after

    left_out : value_in row_name_cmp (nonzero (map valued es)) name ≡ value_in row_name_cmp (map valued es) name → (b : Bool) → is_eq (row_name_cmp e.0 name) ≡ b → is_zero e.1.num ≡ true
        → value_in row_name_cmp (nonzero (map valued es)) name ≡ with_first b (value_of e.1) (map valued es) name
    left_out after true is none =
        after ∙ ap or_zero (missing-after e.0 name (map valued es) up (row_name_cmp_exact e.0 name (alike (row_name_cmp e.0 name) is))) ∙ sym (zero-value e.1 none)
    left_out after false is none = after

    by_test : value_in row_name_cmp (nonzero (map valued es)) name ≡ value_in row_name_cmp (map valued es) name → (b : Bool) → not (is_zero e.1.num) ≡ b
        → value_in row_name_cmp (if b then valued e ∷ nonzero (map valued es) else nonzero (map valued es)) name ≡ value_in row_name_cmp (valued e ∷ map valued es) name
    by_test after true is = kept after (is_eq (row_name_cmp e.0 name))
    by_test after false is = left_out after (is_eq (row_name_cmp e.0 name)) refl (turned (is_zero e.1.num) is)

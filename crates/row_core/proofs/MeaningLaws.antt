-- What a written row means: it is its terms and right side times a positive number, so it says the same of every plan, and each entry has the sign of its coefficient.
use Rattle.row_core.proofs.Common.{◌≡◌, ℕ, ◌<◌, ℤ, pos, ◌+ℤ◌, ◌*ℤ◌, Bool, true, false, List, [], ◌∷◌, refl, sym, ap, ap₂, ◌∙◌, subst, arith, if◌then◌else◌, ◌<ℤ◌, ◌↔◌, is_eq, is_lt, int_cmp, ordering_reverse, Ordering, ints, Rational, *ℤ-≤ℤ, ≤ℤ_cancel, *ℤ_cancel, *ℤ_pos, nonzero_of_pos, int_div-mul, products, *ℤ-one, *ℤ-zero, zero-*ℤ, +ℤ-zero, zero-+ℤ, Row, Sense, Var, variables_of, numbers_of, ascends, before_first, var_cmp, row_sum, number_at, Stands, IsOver, IsSumOver, SaysTheSame, IsMultiple, alone, kept, common_denominator, cleared_entries, cleared_right, written_divisor, written_entries, written_right}
use Rattle.std.specs.declared.cmp.Ordering.TheVariants.{Less, Equal as Alike, Greater}
use Rattle.exact_num.proofs.OrderLaws.{int_cmp-mul}
use Rattle.row_core.specs.declared.Sense.TheVariants.{Least, Equal, Most}
use Rattle.row_core.proofs.AscendingLaws.{both_passed, Less-from_test, ascends-skip}
use Rattle.row_core.proofs.DivisionLaws.{ArePositive, widened_by_all-is, kept-ArePositive, kept-IsSumOver, entries_over-IsSumOver, numerator_over-IsOver}
use Rattle.row_core.proofs.Orders.{var_cmp_total, var_cmp_exact}
use Rattle.row_core.proofs.SumLaws.{IsOver-agree, IsSumOver-agree}
use Rattle.row_core.proofs.WrittenLaws.{row_divisor-is, row_sum-divided}

-- ---- the row is a multiple of its terms and right side

pub written-IsMultiple : (terms : List (Var × Rational)) (right : Rational) (row : Row) → ArePositive terms → pos 0 <ℤ right.bottom → row.entries.items ≡ written_entries terms right → row.rhs ≡ written_right terms right → IsMultiple terms right row
written-IsMultiple terms right row h r entries rhs =
    let d : ℤ = common_denominator (kept terms) right in
    let g : ℕ = written_divisor terms right in
    let common = widened_by_all-is (pos 1) (kept terms) right (omega (arith, ints)) (kept-ArePositive terms h) r in
    let divisor = row_divisor-is (cleared_right terms right ∷ numbers_of (cleared_entries terms right)) in
    let summed : (x : Var → ℤ) → row_sum x (cleared_entries terms right) ≡ row_sum x row.entries.items *ℤ pos g
    = λ x. sym (ap (λ es. row_sum x es *ℤ pos g) entries ∙ row_sum-divided g x (cleared_entries terms right) divisor.1.1) in
    record {
      up = d;
      down = pos g;
      up_positive = common.0;
      down_positive = let positive : 0 < g = divisor.0 in omega (arith, ints);
      sums = λ x. subst (IsSumOver d x terms) (summed x) (kept-IsSumOver d x terms (row_sum x (cleared_entries terms right)) h (entries_over-IsSumOver d x (kept terms) common.2));
      right_side = subst (IsOver d right) (sym (ap (λ z. z *ℤ pos g) rhs ∙ int_div-mul (cleared_right terms right) g divisor.1.0)) (numerator_over-IsOver d right common.3);
    }

-- ---- so it says the same

-- two sides stand as they do times a positive number
pub Stands-times : (sense : Sense) (a b k : ℤ) → pos 0 <ℤ k → Stands sense a b ↔ Stands sense (a *ℤ k) (b *ℤ k)
Stands-times Least a b k h = (*ℤ-≤ℤ b a k (omega (arith, ints, h)), ≤ℤ_cancel b a k h)
Stands-times Equal a b k h = (ap (λ z. z *ℤ k), *ℤ_cancel a b k (nonzero_of_pos k h))
Stands-times Most a b k h = (*ℤ-≤ℤ a b k (omega (arith, ints, h)), ≤ℤ_cancel a b k h)

factors_joined : (a d s : ℤ) → a *ℤ (d *ℤ s) ≡ (a *ℤ d) *ℤ s
factors_joined a d s = simp products

right_factors : (r q d s : ℤ) → (r *ℤ q) *ℤ (d *ℤ s) ≡ ((r *ℤ d) *ℤ s) *ℤ q
right_factors r q d s = simp products

last_swapped : (r u q : ℤ) → (r *ℤ u) *ℤ q ≡ (r *ℤ q) *ℤ u
last_swapped r u q = simp products

pub multiple-SaysTheSame : (terms : List (Var × Rational)) (right : Rational) (row : Row) → IsMultiple terms right row → SaysTheSame terms right row
multiple-SaysTheSame terms right row m q x s n r positive sum over =
    let total : ℤ = row_sum x row.entries.items in
    let lefts : total *ℤ (m.down *ℤ s) ≡ n *ℤ m.up =
    factors_joined total m.down s ∙ IsSumOver-agree m.up s x terms (total *ℤ m.down) n (m.sums x) sum in
    let rights : (row.rhs *ℤ pos q) *ℤ (m.down *ℤ s) ≡ (r *ℤ pos q) *ℤ m.up =
    right_factors row.rhs (pos q) m.down s ∙ ap (λ z. z *ℤ pos q) (IsOver-agree m.up s right (row.rhs *ℤ m.down) r m.right_side over) ∙ last_swapped r m.up (pos q) in
    let first = Stands-times row.sense total (row.rhs *ℤ pos q) (m.down *ℤ s) (*ℤ_pos m.down s m.down_positive positive) in
    let second = Stands-times row.sense n (r *ℤ pos q) m.up m.up_positive in
    let Here : ℤ → ℤ → Type 0 = λ y z. Stands row.sense y z in
    let across = λ (h : Here (total *ℤ (m.down *ℤ s)) ((row.rhs *ℤ pos q) *ℤ (m.down *ℤ s))). subst (λ z. Here (n *ℤ m.up) z) rights (subst (λ y. Here y ((row.rhs *ℤ pos q) *ℤ (m.down *ℤ s))) lefts h) in
    let back = λ (h : Here (n *ℤ m.up) ((r *ℤ pos q) *ℤ m.up)). subst (λ y. Here y ((row.rhs *ℤ pos q) *ℤ (m.down *ℤ s))) (sym lefts) (subst (λ z. Here (n *ℤ m.up) z) (sym rights) h) in
    (λ h. second.1 (across (first.0 h)), λ h. first.1 (back (second.0 h)))

-- the plan of 1 at a variable finds nothing after it
row_sum-following : (v : Var) (es : List (Var × ℤ)) → ascends var_cmp (v ∷ variables_of es) ≡ true → row_sum (alone v) es ≡ pos 0
row_sum-following v [] h = refl
row_sum-following v (e ∷ es) h =
    let parts = both_passed (is_lt (var_cmp v e.0)) (ascends var_cmp (e.0 ∷ variables_of es)) h in
    let later : var_cmp e.0 v ≡ Greater = var_cmp_total.antisymm e.0 v ∙ ap ordering_reverse (Less-from_test (var_cmp v e.0) parts.0) in
    let rest = row_sum-following v es (ascends-skip var_cmp var_cmp_total v e.0 (variables_of es) h) in
    ap₂ (λ y u. (e.1 *ℤ y) +ℤ u) (ap (λ o. if is_eq o then pos 1 else pos 0) later) rest ∙ ap (λ y. y +ℤ pos 0) (*ℤ-zero e.1)

alike : (o : Ordering) → is_eq o ≡ true → o ≡ Alike
alike Less h = absurd (cc h)
alike Alike h = refl
alike Greater h = absurd (cc h)

-- the plan of 1 at a variable finds the number there
pub row_sum-alone : (v : Var) (es : List (Var × ℤ)) → ascends var_cmp (variables_of es) ≡ true → row_sum (alone v) es ≡ number_at es v
row_sum-alone v [] h = refl
row_sum-alone v (e ∷ es) h =
    let parts = both_passed (before_first var_cmp e.0 (variables_of es)) (ascends var_cmp (variables_of es)) h in
    let Found : Bool → Type 0 = λ b. (e.1 *ℤ (if b then pos 1 else pos 0)) +ℤ row_sum (alone v) es ≡ (if b then e.1 else number_at es v) in
    let here : is_eq (var_cmp e.0 v) ≡ true → Found true =
    λ is. let same : e.0 ≡ v = var_cmp_exact e.0 v (alike (var_cmp e.0 v) is) in
    let none : row_sum (alone v) es ≡ pos 0 = row_sum-following v es (subst (λ w. ascends var_cmp (w ∷ variables_of es) ≡ true) same h) in
    ap₂ (λ y u. y +ℤ u) (*ℤ-one e.1) none ∙ +ℤ-zero e.1 in
    let elsewhere : Found false = ap₂ (λ y u. y +ℤ u) (*ℤ-zero e.1) (row_sum-alone v es parts.1) ∙ zero-+ℤ (number_at es v) in
    let cases : (b : Bool) → is_eq (var_cmp e.0 v) ≡ b → Found b = λ b. elim b as (λ p. is_eq (var_cmp e.0 v) ≡ p → Found p) [ true ↦ here | false ↦ λ is. elsewhere ] in
    cases (is_eq (var_cmp e.0 v)) refl

pub multiple-sign : (terms : List (Var × Rational)) (right : Rational) (row : Row) → IsMultiple terms right row → (v : Var) (s n : ℤ) → pos 0 <ℤ s → IsSumOver s (alone v) terms n → int_cmp (number_at row.entries.items v) (pos 0) ≡ int_cmp n (pos 0)
multiple-sign terms right row m v s n positive sum =
    let total : ℤ = row_sum (alone v) row.entries.items in
    let k : ℤ = m.down *ℤ s in
    let found : total ≡ number_at row.entries.items v = row_sum-alone v row.entries.items row.ascending in
    let equal : total *ℤ k ≡ n *ℤ m.up = factors_joined total m.down s ∙ IsSumOver-agree m.up s (alone v) terms (total *ℤ m.down) n (m.sums (alone v)) sum in
    let zeros : pos 0 *ℤ k ≡ pos 0 *ℤ m.up = zero-*ℤ k ∙ sym (zero-*ℤ m.up) in
    ap (λ z. int_cmp z (pos 0)) (sym found)
    ∙ sym (int_cmp-mul total (pos 0) k (*ℤ_pos m.down s m.down_positive positive))
    ∙ ap₂ int_cmp equal zeros
    ∙ int_cmp-mul n (pos 0) m.up m.up_positive

-- Entry by entry, and last the right side.
use Rattle.row_core.proofs.Common.{◌≡◌, ℕ, ◌<◌, ℤ, pos, true, false, List, ◌&&◌, length, get_or, refl, sym, ap, ap₂, ◌∙◌, subst, to_z, of_z, ◌-ℤ◌, ◌*ℤ◌, w128, both_true, difference_formed, InRange, all_fit, Rational, whole, plus, minus, times, value_of, back_in_range, all_fit-append, Row, Var, numbers_of, row_sum, IsOver, var_cmp, value_in, sum_from, term_formed, sum_from_formed, evaluated_formed}
use Rattle.row_core.proofs.WritingSteps.{entries_fit-at, no_entry}
use Rattle.row_core.proofs.CombinedLaws.{row_fits, and_false}
use Rattle.row_core.proofs.EvaluatedLaws.{sum-next, formed-next, formed-stop, sum-done, formed-done, evaluated-IsOver}
use Rattle.row_core.proofs.evaluating.eval_against.Goals as goal

abbrev read : ℤ → ℤ
read z = to_z w128 (of_z w128 z)

entry_fits : (row : Row) (xs : List (Var × ℤ)) (i : ℕ) → xs ≡ row.entries.items → i < length xs → InRange (get_or xs i no_entry).1
entry_fits row xs i e h = entries_fit-at xs i no_entry (ap (λ (ys : List (Var × ℤ)). all_fit (numbers_of ys)) e ∙ row_fits row) h

pub add_term-requires : goal.add_term-requires
add_term-requires c =
    let n : ℤ = (get_or c.deref-entry-items.result.now c.loop-entry.entry-index no_entry).1 in
    let fits : InRange n = entry_fits c.args.row.now c.deref-entry-items.result.now c.loop-entry.entry-index c.deref-entry-items.ensures.value c.loop-entry-test.true in
    subst InRange (sym (back_in_range n fits)) fits

-- the parts of what is formed
parts : (value : Var → Rational) (es : List (Var × ℤ)) (rhs : ℤ) → all_fit (evaluated_formed value es rhs) ≡ (all_fit (sum_from_formed value (whole (pos 0)) es) && all_fit (difference_formed (sum_from value (whole (pos 0)) es) (whole rhs)))
parts value es rhs = all_fit-append (sum_from_formed value (whole (pos 0)) es) (difference_formed (sum_from value (whole (pos 0)) es) (whole rhs))

pub returns-in_default-clause-stopped : goal.returns-in_default-clause-stopped
returns-in_default-clause-stopped c =
    let row = c.args.row.now in
    let side : ℤ = c.args.right in
    let es = row.entries.items in
    let value : Var → Rational = value_in var_cmp c.args.plan.now in
    let xs = c.deref-entry-items.result.now in
    let i = c.loop-entry.entry-index in
    let e : Var × ℤ = get_or xs i no_entry in
    let number = back_in_range e.1 (entry_fits row xs i c.deref-entry-items.ensures.value c.loop-entry-test.true) in
    let wide : all_fit (term_formed (value_of c.loop-entry.sum) e.1 (value e.0)) ≡ false =
    ap₂ (λ n v. all_fit (term_formed (value_of c.loop-entry.sum) n v)) (sym number) (sym c.value.ensures) ∙ sym c.in_default.ensures.refused in
    let all : all_fit (sum_from_formed value (whole (pos 0)) es) ≡ false =
    formed-stop value xs es i no_entry (value_of c.loop-entry.sum) (all_fit (sum_from_formed value (whole (pos 0)) es)) c.deref-entry-items.ensures.value c.loop-entry-test.true wide c.loop-entry.invariant.formed in
    (refl, parts value es side ∙ ap (λ t. t && all_fit (difference_formed (sum_from value (whole (pos 0)) es) (whole side))) all)

pub loop-entry-preserved : goal.loop-entry-preserved
loop-entry-preserved c =
    let row = c.args.row.now in
    let side : ℤ = c.args.right in
    let es = row.entries.items in
    let value : Var → Rational = value_in var_cmp c.args.plan.now in
    let xs = c.deref-entry-items.result.now in
    let i = c.loop-entry.entry-index in
    let e : Var × ℤ = get_or xs i no_entry in
    let s = value_of c.loop-entry.sum in
    let number = back_in_range e.1 (entry_fits row xs i c.deref-entry-items.ensures.value c.loop-entry-test.true) in
    let fit : all_fit (term_formed s e.1 (value e.0)) ≡ true =
    ap₂ (λ n v. all_fit (term_formed s n v)) (sym number) (sym c.value.ensures) ∙ sym c.in-Ok.ensures.refused in
    let next : value_of c.in-Ok.next ≡ plus s (times (whole e.1) (value e.0)) = c.in-Ok.ensures.value ∙ ap₂ (λ n v. plus s (times (whole n) v)) number c.value.ensures in
    record {
      so_far = sum-next value xs es i no_entry s (value_of c.in-Ok.next) (sum_from value (whole (pos 0)) es) c.deref-entry-items.ensures.value c.loop-entry-test.true next c.loop-entry.invariant.so_far;
      formed = formed-next value xs es i no_entry s (value_of c.in-Ok.next) (all_fit (sum_from_formed value (whole (pos 0)) es)) c.deref-entry-items.ensures.value c.loop-entry-test.true next fit c.loop-entry.invariant.formed;
    }

pub returns-in_default-sub-clause-stopped : goal.returns-in_default-sub-clause-stopped
returns-in_default-sub-clause-stopped c =
    let row = c.args.row.now in
    let side : ℤ = c.args.right in
    let es = row.entries.items in
    let value : Var → Rational = value_in var_cmp c.args.plan.now in
    let right : value_of c.fraction.result ≡ whole side = c.fraction.ensures ∙ ap whole (back_in_range side c.requires) in
    let sum : value_of c.loop-entry.sum ≡ sum_from value (whole (pos 0)) es =
    sum-done value c.deref-entry-items.result.now es c.loop-entry.entry-index (value_of c.loop-entry.sum) (sum_from value (whole (pos 0)) es) c.deref-entry-items.ensures.value c.loop-entry-test.false c.loop-entry.invariant.so_far in
    let wide : all_fit (difference_formed (sum_from value (whole (pos 0)) es) (whole side)) ≡ false =
    ap₂ (λ a b. all_fit (difference_formed a b)) (sym sum) (sym right) ∙ sym c.in_default-sub.ensures.refused in
    (refl, parts value es side ∙ ap (λ t. all_fit (sum_from_formed value (whole (pos 0)) es) && t) wide ∙ and_false (all_fit (sum_from_formed value (whole (pos 0)) es)))

pub returns-clause-fits : goal.returns-clause-fits
returns-clause-fits c =
    let row = c.args.row.now in
    let side : ℤ = c.args.right in
    let es = row.entries.items in
    let value : Var → Rational = value_in var_cmp c.args.plan.now in
    let right : value_of c.fraction.result ≡ whole side = c.fraction.ensures ∙ ap whole (back_in_range side c.requires) in
    let sum : value_of c.loop-entry.sum ≡ sum_from value (whole (pos 0)) es =
    sum-done value c.deref-entry-items.result.now es c.loop-entry.entry-index (value_of c.loop-entry.sum) (sum_from value (whole (pos 0)) es) c.deref-entry-items.ensures.value c.loop-entry-test.false c.loop-entry.invariant.so_far in
    let fit : all_fit (difference_formed (sum_from value (whole (pos 0)) es) (whole side)) ≡ true =
    ap₂ (λ a b. all_fit (difference_formed a b)) (sym sum) (sym right) ∙ sym c.in-Ok-sub.ensures.refused in
    parts value es side
    ∙ both_true (formed-done value c.deref-entry-items.result.now es c.loop-entry.entry-index (value_of c.loop-entry.sum) (all_fit (sum_from_formed value (whole (pos 0)) es)) c.deref-entry-items.ensures.value c.loop-entry-test.false c.loop-entry.invariant.formed) fit

pub returns-clause-value : goal.returns-clause-value
returns-clause-value c =
    let row = c.args.row.now in
    let side : ℤ = c.args.right in
    let es = row.entries.items in
    let value : Var → Rational = value_in var_cmp c.args.plan.now in
    let right : value_of c.fraction.result ≡ whole side = c.fraction.ensures ∙ ap whole (back_in_range side c.requires) in
    let sum : value_of c.loop-entry.sum ≡ sum_from value (whole (pos 0)) es =
    sum-done value c.deref-entry-items.result.now es c.loop-entry.entry-index (value_of c.loop-entry.sum) (sum_from value (whole (pos 0)) es) c.deref-entry-items.ensures.value c.loop-entry-test.false c.loop-entry.invariant.so_far in
    c.in-Ok-sub.ensures.value ∙ ap₂ minus sum right

pub returns-clause-means : goal.returns-clause-means
returns-clause-means c q x over =
    let row = c.args.row.now in
    let side : ℤ = c.args.right in
    subst (λ r. IsOver q r (row_sum x row.entries.items -ℤ (side *ℤ q))) (sym (returns-clause-value c)) (evaluated-IsOver q x (value_in var_cmp c.args.plan.now) row.entries.items side over)

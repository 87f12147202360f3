-- One entry after another.
use Rattle.int_tableau.proofs.Common.{◌≡◌, ℕ, ℤ, neg_ℤ, true, List, ◌++◌, get_or, set, take, drop, sym, ap, ap₂, ◌∙◌, subst, arith, to_z, of_z, w128, InRange, all_fit, back_in_range, numbers_of, entries_negated, entries_fit-at}
use Rattle.int_tableau.proofs.DivisionLaws.{no_entry, unnegated_at, negated_step}
use Rattle.int_tableau.proofs.numbers.negate_all.Goals as goal

pub opposite-entry-requires : goal.opposite-entry-requires
opposite-entry-requires c =
    let old : List (ℕ × ℤ) = c.deref_mut-entry-items.result.now in
    let i = c.loop-entry.entry-index in
    let here : get_or c.loop-entry.entry-items i no_entry ≡ get_or old i no_entry =
    ap (λ ys. get_or ys i no_entry) c.loop-entry.invariant ∙ unnegated_at old i (omega arith) in
    let fit : all_fit (numbers_of old) ≡ true = ap (λ ys. all_fit (numbers_of ys)) c.deref_mut-entry-items.ensures.value ∙ c.requires in
    let fits : InRange (get_or c.loop-entry.entry-items i no_entry).1 =
    subst (λ (e : ℕ × ℤ). InRange e.1) (sym here) (entries_fit-at old i no_entry fit (omega arith)) in
    subst InRange (sym (back_in_range (get_or c.loop-entry.entry-items i no_entry).1 fits)) fits

pub loop-entry-preserved : goal.loop-entry-preserved
loop-entry-preserved c =
    let old : List (ℕ × ℤ) = c.deref_mut-entry-items.result.now in
    let i = c.loop-entry.entry-index in
    let e : ℕ × ℤ = get_or old i no_entry in
    let here : get_or c.loop-entry.entry-items i no_entry ≡ e =
    ap (λ ys. get_or ys i no_entry) c.loop-entry.invariant ∙ unnegated_at old i (omega arith) in
    let fit : all_fit (numbers_of old) ≡ true = ap (λ ys. all_fit (numbers_of ys)) c.deref_mut-entry-items.ensures.value ∙ c.requires in
    let fits : InRange e.1 = entries_fit-at old i no_entry fit (omega arith) in
    let number : to_z w128 (of_z w128 c.opposite-entry.result) ≡ neg_ℤ e.1 =
    back_in_range c.opposite-entry.result c.opposite-entry.ensures.range
    ∙ c.opposite-entry.ensures.value
    ∙ ap neg_ℤ (ap (λ (y : ℕ × ℤ). to_z w128 (of_z w128 y.1)) here ∙ back_in_range e.1 fits) in
    ap (λ ys. set ys i ((get_or c.loop-entry.entry-items i no_entry).0, to_z w128 (of_z w128 c.opposite-entry.result))) c.loop-entry.invariant
    ∙ ap₂ (λ v z. set (entries_negated (take i old) ++ drop i old) i (v, z)) (ap (λ (y : ℕ × ℤ). y.0) here) number
    ∙ negated_step old i (omega arith)

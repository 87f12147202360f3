-- One entry after another.
use Rattle.int_tableau.proofs.Common.{◌≡◌, ◌<◌, ◌^◌, ℕ, ℤ, neg_ℤ, List, ◌++◌, get_or, set, take, drop, sym, ap, ap₂, ◌∙◌, subst, arith, to_z, of_z, w64, unsigned_abs, unsigned_abs-neg_ℤ, entries_negated, AreNarrow}
use Rattle.int_tableau.proofs.DivisionLaws.{no_entry, unnegated_at, negated_step}
use Rattle.int_tableau.proofs.NarrowLaws.{AreNarrow-at, back_narrow}
use Rattle.int_tableau.proofs.narrow.negate_all.Goals as goal

pub opposite-entry-requires : goal.opposite-entry-requires
opposite-entry-requires c =
    let old : List (ℕ × ℤ) = c.deref_mut-entry-items.result.now in
    let i = c.loop-entry.entry-index in
    let here : get_or c.loop-entry.entry-items i no_entry ≡ get_or old i no_entry =
    ap (λ ys. get_or ys i no_entry) c.loop-entry.invariant ∙ unnegated_at old i (omega arith) in
    let all : AreNarrow old = subst (λ (ys : List (ℕ × ℤ)). AreNarrow ys) (sym c.deref_mut-entry-items.ensures.value) c.requires in
    let small : unsigned_abs (get_or c.loop-entry.entry-items i no_entry).1 < 2 ^ 63 =
    subst (λ (e : ℕ × ℤ). unsigned_abs e.1 < 2 ^ 63) (sym here) (AreNarrow-at old i no_entry all (omega arith)) in
    subst (λ z. unsigned_abs z < 2 ^ 63) (sym (back_narrow (get_or c.loop-entry.entry-items i no_entry).1 small)) small

pub loop-entry-preserved : goal.loop-entry-preserved
loop-entry-preserved c =
    let old : List (ℕ × ℤ) = c.deref_mut-entry-items.result.now in
    let i = c.loop-entry.entry-index in
    let e : ℕ × ℤ = get_or old i no_entry in
    let here : get_or c.loop-entry.entry-items i no_entry ≡ e =
    ap (λ ys. get_or ys i no_entry) c.loop-entry.invariant ∙ unnegated_at old i (omega arith) in
    let all : AreNarrow old = subst (λ (ys : List (ℕ × ℤ)). AreNarrow ys) (sym c.deref_mut-entry-items.ensures.value) c.requires in
    let small : unsigned_abs e.1 < 2 ^ 63 = AreNarrow-at old i no_entry all (omega arith) in
    let negated : c.opposite-entry.result ≡ neg_ℤ e.1 =
    c.opposite-entry.ensures ∙ ap neg_ℤ (ap (λ (y : ℕ × ℤ). to_z w64 (of_z w64 y.1)) here ∙ back_narrow e.1 small) in
    let number : to_z w64 (of_z w64 c.opposite-entry.result) ≡ neg_ℤ e.1 =
    ap (λ z. to_z w64 (of_z w64 z)) negated ∙ back_narrow (neg_ℤ e.1) (subst (λ n. n < 2 ^ 63) (sym (unsigned_abs-neg_ℤ e.1)) small) in
    ap (λ ys. set ys i ((get_or c.loop-entry.entry-items i no_entry).0, to_z w64 (of_z w64 c.opposite-entry.result))) c.loop-entry.invariant
    ∙ ap₂ (λ v z. set (entries_negated (take i old) ++ drop i old) i (v, z)) (ap (λ (y : ℕ × ℤ). y.0) here) number
    ∙ negated_step old i (omega arith)

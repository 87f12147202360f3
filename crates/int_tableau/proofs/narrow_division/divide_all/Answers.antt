-- One entry after another.
use Rattle.int_tableau.proofs.Common.{◌≡◌, ◌<◌, ◌^◌, ℕ, ℤ, pos, List, ◌++◌, length, get_or, set, take, drop, sym, ap, ap₂, ◌∙◌, subst, arith, to_z, of_z, w64, unsigned_abs, int_div, pos-unsigned_abs, unsigned_abs-int_div, entries_divided, entries_divided-one, undivided_at, divided_step, AreNarrow}
use Rattle.int_tableau.proofs.DivisionLaws.{no_entry}
use Rattle.int_tableau.proofs.NarrowLaws.{AreNarrow-at, back_narrow}
use Rattle.int_tableau.proofs.narrow_division.divide_all.Goals as goal

pub returns-then-divisor-eq1 : goal.returns-then-divisor-eq1
returns-then-divisor-eq1 c =
    let one : c.args.divisor ≡ pos 1 = sym (back_narrow c.args.divisor c.requires.narrow) ∙ ap (λ n. to_z w64 n) c.if-divisor-eq1.true in
    sym (ap (λ z. entries_divided (unsigned_abs z) c.args.entries.now.items) one ∙ entries_divided-one c.args.entries.now.items)

-- what is read is what stood there at first
read : (g : ℕ) (old now : List (ℕ × ℤ)) (i : ℕ) → AreNarrow old → now ≡ entries_divided g (take i old) ++ drop i old → i < length old
    → (get_or now i no_entry ≡ get_or old i no_entry) × (to_z w64 (of_z w64 (get_or now i no_entry).1) ≡ (get_or old i no_entry).1) × (unsigned_abs (get_or old i no_entry).1 < 2 ^ 63)
read g old now i all h k =
    let here : get_or now i no_entry ≡ get_or old i no_entry = ap (λ ys. get_or ys i no_entry) h ∙ undivided_at g old i no_entry k in
    let small : unsigned_abs (get_or old i no_entry).1 < 2 ^ 63 = AreNarrow-at old i no_entry all k in
    (here, ap (λ (y : ℕ × ℤ). to_z w64 (of_z w64 y.1)) here ∙ back_narrow (get_or old i no_entry).1 small, small)

pub quotient-entry-requires-clause-narrow : goal.quotient-entry-requires-clause-narrow
quotient-entry-requires-clause-narrow c =
    let old : List (ℕ × ℤ) = c.deref_mut-entry-items.result.now in
    let all : AreNarrow old = subst (λ (ys : List (ℕ × ℤ)). AreNarrow ys) (sym c.deref_mut-entry-items.ensures.value) c.requires.entries in
    let e = read (unsigned_abs c.new-divisor.result.by) old c.loop-entry.entry-items c.loop-entry.entry-index all c.loop-entry.invariant (omega arith) in
    subst (λ z. unsigned_abs z < 2 ^ 63) (sym e.1) e.2

pub loop-entry-preserved : goal.loop-entry-preserved
loop-entry-preserved c =
    let old : List (ℕ × ℤ) = c.deref_mut-entry-items.result.now in
    let i = c.loop-entry.entry-index in
    let d : ℤ = c.new-divisor.result.by in
    let e : ℕ × ℤ = get_or old i no_entry in
    let all : AreNarrow old = subst (λ (ys : List (ℕ × ℤ)). AreNarrow ys) (sym c.deref_mut-entry-items.ensures.value) c.requires.entries in
    let r = read (unsigned_abs d) old c.loop-entry.entry-items i all c.loop-entry.invariant (omega arith) in
    let size : d ≡ pos (unsigned_abs d) = sym (pos-unsigned_abs d c.new-divisor.result.nonnegative) in
    let value : c.quotient-entry.result ≡ int_div e.1 (pos (unsigned_abs d)) = c.quotient-entry.ensures ∙ ap₂ int_div r.1 size in
    let small : unsigned_abs (int_div e.1 (pos (unsigned_abs d))) < 2 ^ 63 = omega (arith, unsigned_abs-int_div e.1 (unsigned_abs d), r.2) in
    let number : to_z w64 (of_z w64 c.quotient-entry.result) ≡ int_div e.1 (pos (unsigned_abs d)) =
    ap (λ z. to_z w64 (of_z w64 z)) value ∙ back_narrow (int_div e.1 (pos (unsigned_abs d))) small in
    ap (λ ys. set ys i ((get_or c.loop-entry.entry-items i no_entry).0, to_z w64 (of_z w64 c.quotient-entry.result))) c.loop-entry.invariant
    ∙ ap₂ (λ v z. set (entries_divided (unsigned_abs d) (take i old) ++ drop i old) i (v, z)) (ap (λ (y : ℕ × ℤ). y.0) r.0) number
    ∙ divided_step (unsigned_abs d) old i no_entry (omega arith)

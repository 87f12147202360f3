-- One entry after another.
use Rattle.row_core.proofs.Common.{◌≡◌, ℕ, ◌+◌, ◌<◌, ℤ, pos, true, List, ◌++◌, length, get_or, set, take, drop, sym, ap, ap₂, ◌∙◌, subst, arith, to_z, of_z, w128, unsigned_abs, int_div, ◌<ℤ◌, ints, InRange, pos-unsigned_abs, back_in_range, entries_divided}
use Rattle.row_core.proofs.WrittenLaws.{entries_divided-one}
use Rattle.row_core.proofs.WritingSteps.{entries_fit, entries_fit-at, undivided_at, divided_step}
use Rattle.row_core.proofs.dividing.divide_all.Goals as goal

abbrev read : ℤ → ℤ
read z = to_z w128 (of_z w128 z)

-- the entry that is read is as it was
as_it_was : {K : Type 0} (n : ℕ) (old now : List (K × ℤ)) (i : ℕ) (e : K × ℤ) → now ≡ entries_divided n (take i old) ++ drop i old → i < length old → get_or now i e ≡ get_or old i e
as_it_was n old now i e h k = ap (λ ys. get_or ys i e) h ∙ undivided_at n old i e k

read_fits : {K : Type 0} (n : ℕ) (old now : List (K × ℤ)) (i : ℕ) (e : K × ℤ) → now ≡ entries_divided n (take i old) ++ drop i old → entries_fit old ≡ true → i < length old → InRange (read (get_or now i e).1)
read_fits n old now i e h fit k =
    let fits : InRange (get_or now i e).1 = subst (λ y. InRange y.1) (sym (as_it_was n old now i e h k)) (entries_fit-at old i e fit k) in
    subst InRange (sym (back_in_range (get_or now i e).1 fits)) fits

-- and is divided
divided_item : {K : Type 0} (n : ℕ) (old now : List (K × ℤ)) (i : ℕ) (e : K × ℤ) (z : ℤ) → now ≡ entries_divided n (take i old) ++ drop i old → entries_fit old ≡ true → i < length old → InRange z
    → z ≡ int_div (read (get_or now i e).1) (pos n) → set now i ((get_or now i e).0, read z) ≡ entries_divided n (take (i + 1) old) ++ drop (i + 1) old
divided_item {K} n old now i e z h fit k range is =
    let here : get_or now i e ≡ get_or old i e = as_it_was n old now i e h k in
    let quotient : read z ≡ int_div (get_or old i e).1 (pos n) =
    back_in_range z range ∙ is ∙ ap (λ (y : K × ℤ). int_div (read y.1) (pos n)) here ∙ ap (λ w. int_div w (pos n)) (back_in_range (get_or old i e).1 (entries_fit-at old i e fit k)) in
    ap (λ ys. set ys i ((get_or now i e).0, read z)) h
    ∙ ap₂ (λ v w. set (entries_divided n (take i old) ++ drop i old) i (v, w)) (ap (λ (y : K × ℤ). y.0) here) quotient
    ∙ divided_step n old i e k

pub quotient-entry-requires-clause-fits : goal.quotient-entry-requires-clause-fits
quotient-entry-requires-clause-fits g c =
    let old = c.deref_mut-entry-items.result.now in
    let e = c.entry-item.result in
    let fit : entries_fit old ≡ true = ap entries_fit c.deref_mut-entry-items.ensures.value ∙ c.requires.fits in
    read_fits (unsigned_abs (to_z w128 (of_z w128 c.args.divisor))) old c.loop-entry.entry-items c.loop-entry.entry-index e c.loop-entry.invariant fit c.loop-entry-test.true

pub loop-entry-preserved : goal.loop-entry-preserved
loop-entry-preserved g c =
    let d : ℤ = to_z w128 (of_z w128 c.args.divisor) in
    let old = c.deref_mut-entry-items.result.now in
    let e = c.entry-item.result in
    let fit : entries_fit old ≡ true = ap entries_fit c.deref_mut-entry-items.ensures.value ∙ c.requires.fits in
    let positive : pos 0 <ℤ d = subst (λ z. pos 0 <ℤ z) (sym (back_in_range c.args.divisor c.requires.range)) c.requires.positive in
    let size : d ≡ pos (unsigned_abs d) = sym (pos-unsigned_abs d (omega (arith, ints, positive))) in
    divided_item (unsigned_abs d) old c.loop-entry.entry-items c.loop-entry.entry-index e c.quotient-entry.result c.loop-entry.invariant fit c.loop-entry-test.true c.quotient-entry.ensures.range
    (c.quotient-entry.ensures.value ∙ ap (int_div (read (get_or c.loop-entry.entry-items c.loop-entry.entry-index e).1)) size)

pub returns-then-divisor-eq1 : goal.returns-then-divisor-eq1
returns-then-divisor-eq1 g c =
    let one : c.args.divisor ≡ pos 1 = sym (back_in_range c.args.divisor c.requires.range) ∙ ap (λ n. to_z w128 n) c.if-divisor-eq1.true in
    sym (ap (λ z. entries_divided (unsigned_abs z) c.args.entries.now.items) one ∙ entries_divided-one c.args.entries.now.items)

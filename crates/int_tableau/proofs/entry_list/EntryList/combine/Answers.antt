-- Numbers within the sizes are so small that the products are sure to have 64 bits.
use Rattle.int_tableau.proofs.Common.{◌<◌, ◌+◌, ◌*◌, ◌^◌, ℕ, ℤ, List, sym, ap, ap₂, ◌∙◌, subst, to_z, of_z, w64, w128, unsigned_abs, numbers_of, entries_kept, AreWithin, AreSure}
use Rattle.int_tableau.proofs.NarrowLaws.{back_narrow}
use Rattle.int_tableau.proofs.entry_list.EntryList.combine.Goals as goal

-- a and b are read in 128 bits, and then in 64
sure_as : (u v : ℤ) (xs ys : List (ℕ × ℤ)) (m n : ℕ) → unsigned_abs u < 2 ^ 63 → unsigned_abs v < 2 ^ 63 → AreWithin m (numbers_of xs) → AreWithin n (numbers_of ys) → (unsigned_abs u * m) + (unsigned_abs v * n) < 2 ^ 63 → AreSure (to_z w64 (of_z w64 u)) (to_z w64 (of_z w64 v)) xs ys
sure_as u v xs ys m n hu hv first second below = record {
  size = m;
  other_size = n;
  within = first;
  other_within = second;
  below = subst (λ k. k < 2 ^ 63) (ap₂ (λ s t. (unsigned_abs s * m) + (unsigned_abs t * n)) (sym (back_narrow u hu)) (sym (back_narrow v hv))) below;
}

pub combine-requires-clause-sure : goal.combine-requires-clause-sure
combine-requires-clause-sure c =
    let a : ℤ = c.args.a in
    let b : ℤ = c.args.b in
    sure_as (to_z w128 (of_z w128 a)) (to_z w128 (of_z w128 b)) c.deref.result.now c.deref-in-Narrow-Narrow.result.now c.args.size c.args.other_size
    (c.is_sure.ensures.a c.if-is_sure.true) (c.is_sure.ensures.b c.if-is_sure.true)
    (subst (λ (es : List (ℕ × ℤ)). AreWithin c.args.size (numbers_of es)) (sym c.self.view_is ∙ ap entries_kept c.in-Narrow-Narrow.is-0 ∙ sym c.deref.ensures.value) c.requires.sized)
    (subst (λ (es : List (ℕ × ℤ)). AreWithin c.args.other_size (numbers_of es)) (sym c.other.view_is ∙ ap entries_kept c.in-Narrow-Narrow.is-1 ∙ sym c.deref-in-Narrow-Narrow.ensures.value) c.requires.other_sized)
    (c.is_sure.ensures.sure c.if-is_sure.true)

-- An entry that fits into 64 bits is copied.
use Rattle.int_tableau.proofs.Common.{◌≡◌, ◌<◌, ◌^◌, ◌++◌, [], ◌∷◌, ℕ, ℤ, List, get_or, refl, sym, ap, ◌∙◌, subst, unsigned_abs, InRange, back_in_range, entries_fit-at, AreNarrow}
use Rattle.int_tableau.proofs.DivisionLaws.{no_entry}
use Rattle.int_tableau.proofs.NarrowLaws.{back_narrowed, AreNarrow-last, copied_step}
use Rattle.int_tableau.proofs.narrow.narrowed.Goals as goal

pub loop-entry-preserved : goal.loop-entry-preserved
loop-entry-preserved c =
    let es : List (ℕ × ℤ) = c.args.entries.now in
    let i = c.loop-entry.entry-index in
    let e : ℕ × ℤ = get_or es i no_entry in
    let out : List (ℕ × ℤ) = c.loop-entry.out.items in
    let fits : InRange e.1 = entries_fit-at es i no_entry c.requires c.loop-entry-test.true in
    let small : unsigned_abs e.1 < 2 ^ 63 = subst (λ z. unsigned_abs z < 2 ^ 63) (back_in_range e.1 fits) (c.is_narrow.ensures.0 c.if-not-is_narrow.false) in
    let items : c.push.new.self.items ≡ out ++ e ∷ [] =
    c.in_ok-push.ensures.items ∙ ap {B = List (ℕ × ℤ)} (λ z. out ++ (e.0, z) ∷ []) (back_narrowed e.1 small) in
    record {
      copied = copied_step es i no_entry e out c.push.new.self.items c.loop-entry.invariant.copied c.loop-entry-test.true refl items;
      narrow = subst (λ (xs : List (ℕ × ℤ)). AreNarrow xs) (sym items) (AreNarrow-last out e c.loop-entry.invariant.narrow small);
    }

-- One entry after another.
use Rattle.int_tableau.proofs.Common.{◌≡◌, ◌<◌, ◌≤◌, ◌^◌, ℕ, ℤ, List, get_or, take, ap, ◌∙◌, subst, unsigned_abs, numbers_of}
use Rattle.int_tableau.proofs.DivisionLaws.{no_entry}
use Rattle.int_tableau.proofs.NarrowLaws.{AreNarrow-at, back_narrow}
use Rattle.int_tableau.proofs.SizeLaws.{AreWithin-more, taken-within, all-within}
use Rattle.int_tableau.proofs.narrow.short_size.Goals as goal

pub loop-entry-preserved : goal.loop-entry-preserved
loop-entry-preserved c =
    let es : List (ℕ × ℤ) = c.args.entries.now in
    let i = c.loop-entry.entry-index in
    let e : ℕ × ℤ = get_or es i no_entry in
    let small : unsigned_abs e.1 < 2 ^ 63 = AreNarrow-at es i no_entry c.requires c.loop-entry-test.true in
    let size : c.unsigned_abs.result ≡ unsigned_abs e.1 = c.unsigned_abs.ensures.value ∙ ap unsigned_abs (back_narrow e.1 small) in
    let above : c.unsigned_abs.result ≤ c.greater_short-greatest.result = c.greater_short-greatest.ensures.second in
    taken-within c.greater_short-greatest.result es i c.loop-entry-test.true (AreWithin-more c.loop-entry.greatest c.greater_short-greatest.result (numbers_of (take i es)) c.greater_short-greatest.ensures.first c.loop-entry.invariant) (subst (λ n. n ≤ c.greater_short-greatest.result) size above)

pub returns : goal.returns
returns c = all-within c.loop-entry.greatest c.args.entries.now c.loop-entry.entry-index c.loop-entry-test.false c.loop-entry.invariant

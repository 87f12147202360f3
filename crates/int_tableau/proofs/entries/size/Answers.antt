-- One entry after another.
use Rattle.int_tableau.proofs.Common.{◌≡◌, ◌≤◌, ℕ, ℤ, List, get_or, take, sym, ap, ◌∙◌, subst, arith, unsigned_abs, InRange, back_in_range, numbers_of, entries_fit-at}
use Rattle.int_tableau.proofs.DivisionLaws.{no_entry}
use Rattle.int_tableau.proofs.SizeLaws.{AreWithin-more, taken-within, all-within}
use Rattle.int_tableau.proofs.entries.size.Goals as goal

pub size_of-requires : goal.size_of-requires
size_of-requires c =
    let e : ℕ × ℤ = get_or c.args.entries.now c.loop-entry.entry-index no_entry in
    let fits : InRange e.1 = entries_fit-at c.args.entries.now c.loop-entry.entry-index no_entry c.requires c.loop-entry-test.true in
    subst InRange (sym (back_in_range e.1 fits)) fits

pub loop-entry-preserved : goal.loop-entry-preserved
loop-entry-preserved c =
    let es : List (ℕ × ℤ) = c.args.entries.now in
    let i = c.loop-entry.entry-index in
    let e : ℕ × ℤ = get_or es i no_entry in
    let fits : InRange e.1 = entries_fit-at es i no_entry c.requires c.loop-entry-test.true in
    let size : c.size_of.result ≡ unsigned_abs e.1 = c.size_of.ensures ∙ ap unsigned_abs (back_in_range e.1 fits) in
    let above : c.size_of.result ≤ c.greater-greatest.result = c.greater-greatest.ensures.second in
    let more : c.loop-entry.greatest ≤ c.greater-greatest.result = c.greater-greatest.ensures.first in
    let least : c.args.least ≤ c.loop-entry.greatest = c.loop-entry.invariant.least in
    record {
      within = taken-within c.greater-greatest.result es i c.loop-entry-test.true (AreWithin-more c.loop-entry.greatest c.greater-greatest.result (numbers_of (take i es)) more c.loop-entry.invariant.within) (subst (λ n. n ≤ c.greater-greatest.result) size above);
      least = omega arith;
    }

pub returns-clause-within : goal.returns-clause-within
returns-clause-within c = all-within c.loop-entry.greatest c.args.entries.now c.loop-entry.entry-index c.loop-entry-test.false c.loop-entry.invariant.within

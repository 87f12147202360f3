-- One number after another.
use Rattle.int_tableau.proofs.Common.{◌≡◌, ◌++◌, get_or, sym, ap, ◌∙◌, subst, to_z, of_z, w128, get_or_default, InRange, back_in_range, value_at, var_cmp, entries_fit-at, no_entry, as_most, is_split, in_columns_of}
use Rattle.int_tableau.proofs.LoopLaws.{entries-step, entries-end}
use Rattle.int_tableau.proofs.starting.push_variables.Goals as goal

pub as_most-requires : goal.as_most-requires
as_most-requires c =
    let i = c.loop-number.number-index in
    let e = get_or c.args.numbers.now i no_entry in
    let fits : InRange e.1 = entries_fit-at c.args.numbers.now i no_entry c.requires.fits c.loop-number-test.true in
    subst InRange (sym (back_in_range e.1 fits)) fits

pub loop-number-preserved : goal.loop-number-preserved
loop-number-preserved c =
    let places = c.args.layout.now.places.items in
    let i = c.loop-number.number-index in
    let e = get_or c.args.numbers.now i no_entry in
    let now = c.loop-number.entries.items in
    let fits : InRange e.1 = entries_fit-at c.args.numbers.now i no_entry c.requires.fits c.loop-number-test.true in
    let number : to_z w128 (of_z w128 c.as_most.result) ≡ as_most c.args.sense e.1 = back_in_range c.as_most.result c.as_most.ensures.range ∙ c.as_most.ensures.value ∙ ap (as_most c.args.sense) (back_in_range e.1 fits) in
    c.loop-number.invariant
    ∙ entries-step c.args.sense places c.args.numbers.now i e now c.push_variable.new.entries.items c.loop-number-test.true (get_or_default c.args.numbers.now i no_entry e c.loop-number-test.true)
    (c.in_ok-push_variable.ensures.pushed ∙ ap (λ z. now ++ in_columns_of (is_split e.0) z (value_at var_cmp places e.0)) number)

pub returns : goal.returns
returns c = record {
  pushed = sym (c.loop-number.invariant ∙ entries-end c.args.sense c.args.layout.now.places.items c.args.numbers.now c.loop-number.number-index c.loop-number.entries.items c.loop-number-test.false);
}

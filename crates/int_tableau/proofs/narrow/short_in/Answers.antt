use Rattle.int_tableau.proofs.Common.{◌≡◌, ◌<◌, ◌^◌, drop, sym, ◌∙◌, subst, arith, unsigned_abs, at}
use Rattle.int_tableau.proofs.EntryLaws.{taken_number-at}
use Rattle.int_tableau.proofs.NarrowLaws.{back_narrow, AreNarrow-drop, taken_number-narrow}
use Rattle.int_tableau.proofs.narrow.short_in.Goals as goal

-- the number at the position where the column belongs
found : (c : goal.After-number_at) → c.number_at.result ≡ at c.args.entries.now c.args.column
found c =
    c.number_at.ensures
    ∙ sym (c.position_of.ensures.same c.args.column (omega arith) ∙ taken_number-at c.args.column c.args.columns (drop c.position_of.result c.args.entries.now) c.position_of.ensures.rest)

small : (c : goal.After-number_at) → unsigned_abs c.number_at.result < 2 ^ 63
small c =
    subst (λ z. unsigned_abs z < 2 ^ 63) (sym c.number_at.ensures)
    (taken_number-narrow c.args.column (drop c.position_of.result c.args.entries.now) (AreNarrow-drop c.args.entries.now c.position_of.result c.requires.narrow))

pub returns-clause-value : goal.returns-clause-value
returns-clause-value c = back_narrow c.number_at.result (small c) ∙ found c

pub returns-clause-narrow : goal.returns-clause-narrow
returns-clause-narrow c =
    subst (λ z. unsigned_abs z < 2 ^ 63) (found c) (small c)

-- The last entry stands in the last column, or none does.
use Rattle.int_tableau.proofs.Common.{◌≡◌, ◌<◌, ◌^◌, ℕ, drop, sym, ap, ◌∙◌, subst, unsigned_abs, at, taken_number}
use Rattle.int_tableau.proofs.NarrowLaws.{back_narrow, AreNarrow-drop, taken_number-narrow}
use Rattle.int_tableau.proofs.SizeLaws.{at-last}
use Rattle.int_tableau.proofs.narrow.short_last_in.Goals as goal

found : (c : goal.After-number_at) → c.number_at.result ≡ at c.args.entries.now c.args.column
found c =
    c.number_at.ensures
    ∙ ap (λ (k : ℕ). taken_number c.args.column (drop k c.args.entries.now)) c.last_position.ensures
    ∙ sym (at-last c.args.column c.args.entries.now c.requires.sparse)

small : (c : goal.After-number_at) → unsigned_abs c.number_at.result < 2 ^ 63
small c =
    subst (λ z. unsigned_abs z < 2 ^ 63) (sym c.number_at.ensures)
    (taken_number-narrow c.args.column (drop c.last_position.result c.args.entries.now) (AreNarrow-drop c.args.entries.now c.last_position.result c.requires.narrow))

pub returns-clause-value : goal.returns-clause-value
returns-clause-value c = back_narrow c.number_at.result (small c) ∙ found c

pub returns-clause-narrow : goal.returns-clause-narrow
returns-clause-narrow c =
    subst (λ z. unsigned_abs z < 2 ^ 63) (found c) (small c)

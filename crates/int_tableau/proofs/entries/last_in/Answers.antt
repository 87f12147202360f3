-- The last entry stands in the last column, or none does.
use Rattle.int_tableau.proofs.Common.{◌≡◌, ℕ, suc, drop, sym, ap, ◌∙◌, subst, InRange, back_in_range, at, taken_number}
use Rattle.int_tableau.proofs.SizeLaws.{at-fits, at-last}
use Rattle.int_tableau.proofs.entries.last_in.Goals as goal

found : (c : goal.After-number_at) → c.number_at.result ≡ at c.args.entries.now c.args.column
found c =
    c.number_at.ensures
    ∙ ap (λ (k : ℕ). taken_number c.args.column (drop k c.args.entries.now)) c.last_position.ensures
    ∙ sym (at-last c.args.column c.args.entries.now c.requires)

pub returns-clause-value : goal.returns-clause-value
returns-clause-value c = back_in_range c.number_at.result (subst InRange (sym (found c)) (at-fits 0 (suc c.args.column) c.args.entries.now c.args.column c.requires)) ∙ found c

pub returns-clause-range : goal.returns-clause-range
returns-clause-range c = at-fits 0 (suc c.args.column) c.args.entries.now c.args.column c.requires

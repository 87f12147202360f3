use Rattle.model_sets.proofs.Common.{sym, ◌∙◌, inl, inr, arith, length, eqb-true, eqb-false}
use Rattle.model_sets.proofs.YearLaws.{no_year, year_by_digits, year_given}
use Rattle.model_sets.proofs.years.year_of.Goals as goal
use Rattle.model_sets.proofs.years.year_of.Goals.{then-is_empty-via-then-is_empty, then-is_empty-via-else-is_empty+then-name-eq48}

pub returns-then-is_empty-clause-value : goal.returns-then-is_empty-clause-value
returns-then-is_empty-clause-value c =
    elim c.then-is_empty.branch [
      | then-is_empty-via-then-is_empty w ↦ sym (no_year c.args.name.now (inl (eqb-true (length c.args.name.now) 0 (sym c.is_empty.ensures ∙ w.if-is_empty.true))))
      | then-is_empty-via-else-is_empty+then-name-eq48 w ↦ sym (no_year c.args.name.now (inr w.if-name-eq48.true))
    ]

pub returns-clause-value : goal.returns-clause-value
returns-clause-value c =
    c.number_of_digits.ensures ∙ year_by_digits c.args.name.now (let some = eqb-false (length c.args.name.now) 0 (sym c.is_empty.ensures ∙ c.if-is_empty.false) in omega arith) c.if-name-eq48.false

pub returns-clause-year : goal.returns-clause-year
returns-clause-year c = year_given c.args.name.now c.number_of_digits.result (returns-clause-value c)

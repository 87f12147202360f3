-- The variables of each instance's terms exist, and those beside its own are defined by earlier equations, if at all.
use Rattle.row_book.proofs.Common.{ℕ, inl, inr, arith, cases_lt, Data, RowName, subscripts_of, at_number}
use Rattle.row_book.proofs.CostTerms.{cost-terms}
use Rattle.row_book.proofs.EnergyTerms.{energy-terms}
use Rattle.row_book.proofs.Instances.{IsInstance}
use Rattle.row_book.proofs.LimitTerms.{limit-terms}
use Rattle.row_book.proofs.Subscripts.{values-from_index}
use Rattle.row_book.proofs.TermVariables.{AtNumber, HasTerms}

at_its_number : (places : ℕ) (d : Data) (name : RowName) → IsInstance d name → AtNumber places d name.index name.eq
at_its_number places d name instance =
    elim (cases_lt name.eq 25) [
      | inl below ↦ at_number (AtNumber places d name.index) 1 24 name.eq (energy-terms places d name.index) instance.equation.0 below
      | inr from ↦
          elim (cases_lt name.eq 43) [
            | inl below ↦ at_number (AtNumber places d name.index) 25 18 name.eq (cost-terms places d name.index) from below
            | inr past ↦ at_number (AtNumber places d name.index) 43 22 name.eq (limit-terms places d name.index) past (omega (arith, instance.equation.1))
          ]
    ]

-- the terms of an instance
pub has-terms : (places : ℕ) (d : Data) (name : RowName) → IsInstance d name → HasTerms places d name
has-terms places d name instance =
    at_its_number places d name instance (values-from_index d (subscripts_of name.eq) name.index instance.within) instance.stands

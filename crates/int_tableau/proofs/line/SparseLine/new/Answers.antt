use Rattle.int_tableau.proofs.Common.{◌≡◌, ℕ, ℤ, true, List, sym, subst, all_fit, numbers_of}
use Rattle.int_tableau.proofs.DivisionLaws.{IsSparse-fit}
use Rattle.int_tableau.proofs.line.SparseLine.new.Goals as goal

pub of-requires : goal.of-requires
of-requires c = IsSparse-fit 0 c.args.columns c.args.entries.now c.requires.entries_sparse

pub size_of_line-size-requires-clause-fits : goal.size_of_line-size-requires-clause-fits
size_of_line-size-requires-clause-fits c =
    subst (λ (es : List (ℕ × ℤ)). all_fit (numbers_of es) ≡ true) (sym c.in_ok-entries.ensures) (IsSparse-fit 0 c.args.columns c.args.entries.now c.requires.entries_sparse)

use Rattle.int_tableau.proofs.Common.{subst, AreWithin}
use Rattle.written_method.specs.Lines.{Line, numbers_of}
use Rattle.int_tableau.proofs.SizeLaws.{line-within}
use Rattle.int_tableau.proofs.line.SparseLine.size.Goals as goal

pub returns : goal.returns
returns c =
    subst (λ (l : Line). AreWithin c.self.inside.size (numbers_of l)) c.self.view_is
    (line-within c.self.inside.size c.self.inside.columns c.self.inside.entries c.self.inside.right c.self.inside.own c.self.invariant.entries_sparse c.self.invariant.sized)

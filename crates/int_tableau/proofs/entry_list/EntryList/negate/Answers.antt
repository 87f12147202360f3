-- Numbers of 64 bits stay such.
use Rattle.int_tableau.proofs.Common.{List, ℕ, ℤ, sym, subst, Inside, AreKept, AreNarrow}
use Rattle.int_tableau.proofs.NarrowLaws.{AreNarrow-negated}
use Rattle.int_tableau.proofs.entry_list.EntryList.negate.Goals.{in-Narrow, in-Wide}
use Rattle.int_tableau.proofs.entry_list.EntryList.negate.Goals as goal

pub invariant_of-self : goal.invariant_of-self
invariant_of-self c =
    elim c.match-self.branch [
      | in-Narrow w ↦
          subst (λ (s : Inside). AreKept s.kept) (sym w.self-inside-is)
          (subst (λ (es : List (ℕ × ℤ)). AreNarrow es) (sym w.negate_all.ensures) (AreNarrow-negated w.in-Narrow.list.items (subst AreKept w.in-Narrow.is c.self.invariant)))
      | in-Wide w ↦ subst (λ (s : Inside). AreKept s.kept) (sym w.self-inside-is) tt
    ]

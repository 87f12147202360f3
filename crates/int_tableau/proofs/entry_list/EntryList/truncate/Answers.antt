-- Numbers of 64 bits stay such.
use Rattle.int_tableau.proofs.Common.{List, ℕ, ℤ, sym, subst, Inside, AreKept, AreNarrow}
use Rattle.int_tableau.proofs.NarrowLaws.{AreNarrow-take}
use Rattle.int_tableau.proofs.entry_list.EntryList.truncate.Goals.{in-Narrow, in-Wide}
use Rattle.int_tableau.proofs.entry_list.EntryList.truncate.Goals as goal

pub invariant_of-self : goal.invariant_of-self
invariant_of-self c =
    elim c.match-self.branch [
      | in-Narrow w ↦
          subst (λ (s : Inside). AreKept s.kept) (sym w.self-inside-is)
          (subst (λ (es : List (ℕ × ℤ)). AreNarrow es) (sym w.truncate.ensures.items) (AreNarrow-take w.in-Narrow.list.items c.args.count (subst AreKept w.in-Narrow.is c.self.invariant)))
      | in-Wide w ↦ subst (λ (s : Inside). AreKept s.kept) (sym w.self-inside-is) tt
    ]

use Rattle.simplex_core.proofs.Common.{◌≡◌, arith, subst, inl, inr, cases_lt, IsPlain}
use Rattle.simplex_core.proofs.kept_rounds.are_plain.Goals as goal

pub loop-line-preserved : goal.loop-line-preserved
loop-line-preserved c i h = elim (cases_lt i c.loop-line.line) [
  | inl less ↦ c.loop-line.invariant i less
  | inr more ↦ let same : c.loop-line.line ≡ i = omega (arith, h) in subst (IsPlain c.args.tableau.now.tableau) same (c.is_plain.ensures c.if-not-is_plain.false)
]

pub returns : goal.returns
returns c = λ e i h. c.loop-line.invariant i (omega (arith, c.lines-line-end.ensures))

-- What the answer says of the condition says it of the gap.
use Rattle.certificate_checker.proofs.Common.{minus, value_of, [], ◌∷◌, gap_condition}
use Rattle.certificate_checker.proofs.GapLaws.{gap_yes, gap_no}
use Rattle.certificate_checker.proofs.VerdictLaws.{verdict-is}
use Rattle.certificate_checker.proofs.gaps.check_gap.Goals as goal

pub returns-clause-answer : goal.returns-clause-answer
returns-clause-answer c =
    verdict-is (gap_condition (value_of c.args.cost) (value_of c.args.bound) c.args.ppm ∷ []) (minus (value_of c.args.cost) (value_of c.args.bound))
    c.gap_of.result c.verdict_of.result c.verdict_of.ensures c.gap_of.ensures.passed c.gap_of.ensures.value c.gap_of.ensures.halted

pub returns-clause-yes : goal.returns-clause-yes
returns-clause-yes c = gap_yes (value_of c.args.cost) (value_of c.args.bound) c.args.ppm c.args.cost.positive c.args.bound.positive c.verdict_of.result (returns-clause-answer c)

pub returns-clause-no : goal.returns-clause-no
returns-clause-no c = gap_no (value_of c.args.cost) (value_of c.args.bound) c.args.ppm c.args.cost.positive c.args.bound.positive c.verdict_of.result (returns-clause-answer c)

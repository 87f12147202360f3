-- A difference is the sum with the negative.
use Rattle.exact_num.proofs.Common.{sym, ap, ◌∙◌, sum_formed, all_fit, plus, value_of}
use Rattle.exact_num.proofs.OperationLaws.{difference_fits}
use Rattle.exact_num.proofs.RangeLaws.{IfOk-equal}
use Rattle.exact_num.proofs.RationalLaws.{minus-is_plus}
use Rattle.exact_num.proofs.arithmetic.sub.Goals as goal

pub returns-clause-refused : goal.returns-clause-refused
returns-clause-refused c =
    c.add.ensures.refused ∙ ap (λ t. all_fit (sum_formed (value_of c.args.a) t)) c.negative.ensures ∙ difference_fits (value_of c.args.a) (value_of c.args.b)

pub returns-clause-value : goal.returns-clause-value
returns-clause-value c =
    IfOk-equal value_of c.add.result (ap (plus (value_of c.args.a)) c.negative.ensures ∙ sym (minus-is_plus (value_of c.args.a) (value_of c.args.b))) c.add.ensures.value

-- Whether it is so of some member is decided by those from here on.
use Rattle.data_warnings.proofs.Common.{◌≡◌, any_from, is_so, is_so_somewhere, over, count}
use Rattle.data_warnings.proofs.questions.is_so_somewhere.Given as goal

abbrev pub invariant-loop-i : goal.invariant-loop-i
invariant-loop-i l = record {
  end : l.i-end ≡ count l.model.facts (over l.question);
  rest : is_so_somewhere l.model.facts l.question ≡ any_from (is_so l.model.facts l.question) (count l.model.facts (over l.question)) l.i;
}

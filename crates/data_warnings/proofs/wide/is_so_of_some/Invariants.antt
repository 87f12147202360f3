-- Whether it is so of some member is decided by those from here on.
use Rattle.data_warnings.proofs.Common.{◌≡◌, any_from, is_so_of, is_so_of_some, wide_over, count}
use Rattle.data_warnings.proofs.wide.is_so_of_some.Given as goal

abbrev pub invariant-loop-i : goal.invariant-loop-i
invariant-loop-i l = record {
  end : l.i-end ≡ count l.model.facts (wide_over l.question);
  rest : is_so_of_some l.model.facts l.question ≡ any_from (is_so_of l.model.facts l.question) (count l.model.facts (wide_over l.question)) l.i;
}

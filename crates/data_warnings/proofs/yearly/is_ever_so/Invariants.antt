-- Whether it is so of some member is decided by those from here on.
use Rattle.data_warnings.proofs.Common.{◌≡◌, any_from, year, is_ever_so, is_so_in, count}
use Rattle.data_warnings.proofs.yearly.is_ever_so.Given as goal

abbrev pub invariant-loop-y : goal.invariant-loop-y
invariant-loop-y l = record {
  end : l.y-end ≡ count l.model.facts year;
  rest : is_ever_so l.model.facts l.question ≡ any_from (is_so_in l.model.facts l.question) (count l.model.facts year) l.y;
}

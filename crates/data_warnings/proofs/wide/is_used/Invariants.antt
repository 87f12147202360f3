-- Whether it is so of some member is decided by those from here on.
use Rattle.data_warnings.proofs.Common.{◌≡◌, any_from, region, MakesOrTakes, is_so_of_some, is_used, count}
use Rattle.data_warnings.proofs.wide.is_used.Given as goal

abbrev pub invariant-loop-r : goal.invariant-loop-r
invariant-loop-r l = record {
  end : l.r-end ≡ count l.model.facts region;
  rest : is_used l.model.facts l.t ≡ any_from (λ r. is_so_of_some l.model.facts (MakesOrTakes r l.t)) (count l.model.facts region) l.r;
}

use Rattle.param_tables.proofs.Common.{ℕ, List, subst, IsBinarySearchResult, nat_cmp}
use Rattle.param_tables.proofs.param_table.ParamTable.search.Goals as goal

pub returns : goal.returns
returns c =
    let P : List ℕ → Type 0 = λ places. IsBinarySearchResult (λ y. nat_cmp y c.args.place) places c.binary_search.result in
    subst P c.deref.ensures.value c.binary_search.ensures.position

use Rattle.param_tables.proofs.Common.{◌≡◌, ℕ, ◌<◌, length, get_or, ParamTable}
use Rattle.param_tables.proofs.TableOfLaws.{IsEmptyTable}
use Rattle.param_tables.proofs.tables.empty_tables.Given as goal

abbrev pub invariant-loop : goal.invariant-loop
invariant-loop l = record {
  long : length l.tables.items ≡ l.counter;
  empty : (j : ℕ) → j < l.counter → (e : ParamTable) → IsEmptyTable (get_or l.tables.items j e);
}

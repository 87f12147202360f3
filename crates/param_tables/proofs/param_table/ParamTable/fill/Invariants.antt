-- The values from this place of the list on are kept, the first of a place where there are several.
use Rattle.param_tables.proofs.Common.{◌≡◌, ℕ, ◌≤◌, length, drop, get, nat_cmp, option_or, entries_of, given_in}
use Rattle.param_tables.proofs.param_table.ParamTable.fill.Given as goal

abbrev pub invariant-loop-i : goal.invariant-loop-i
invariant-loop-i l = record {
  within : l.i ≤ length l.self.places.items;
  beside : l.i ≤ length l.self.values.items;
  values : (q : ℕ) → get nat_cmp l.given q ≡ option_or (given_in (drop l.i (entries_of l.self)) q) (get nat_cmp l.initial.given q);
}

abbrev pub decreases-loop-i : goal.decreases-loop-i
decreases-loop-i l = l.i

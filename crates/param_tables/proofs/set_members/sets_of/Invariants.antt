use Rattle.param_tables.proofs.Common.{◌≡◌, ℕ, ◌+◌, ◌-◌, ◌<◌, ◌≤◌, [], length, get_or, set_count, members_told, blocks_told, set_refusals, set_lists}
use Rattle.param_tables.proofs.SetLaws.{refusals_from}
use Rattle.param_tables.proofs.set_members.sets_of.Given as goal

abbrev pub invariant-loop-set : goal.invariant-loop-set
invariant-loop-set l = record {
  all : length l.sets ≡ set_count;
  done : (j : ℕ) → j + 1 < l.set → get_or l.sets j [] ≡ members_told (blocks_told l.blocks).sets (j + 1);
  others : (j : ℕ) → l.set ≤ j + 1 → get_or l.sets j [] ≡ [];
  refusals : set_refusals (set_lists (blocks_told l.blocks)) ≡ refusals_from (blocks_told l.blocks) (l.set - 1);
}

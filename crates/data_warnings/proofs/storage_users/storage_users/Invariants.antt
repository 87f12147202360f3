-- The marked ones so far.
use Rattle.data_warnings.proofs.Common.{◌≡◌, length, filter, range_with_len}
use Rattle.model_sets.specs.Members.{members}
use Rattle.model_sets.specs.declared.set_numbers.TheConstants.{TECHNOLOGY}
use Rattle.mathprog_data.specs.BlocksView.{blocks_told}
use Rattle.data_warnings.specs.StorageUsers.{uses_storages}
use Rattle.data_warnings.proofs.storage_users.storage_users.Given as goal

abbrev pub invariant-loop-t : goal.invariant-loop-t
invariant-loop-t l = record {
  end : l.t-end ≡ length (members l.sets TECHNOLOGY);
  users : l.users.items ≡ filter (uses_storages l.sets (blocks_told l.blocks)) (range_with_len 0 l.t-counter);
}

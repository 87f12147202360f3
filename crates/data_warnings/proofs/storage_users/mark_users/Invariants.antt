-- The technologies that the statements so far name.
use Rattle.std.specs.Prelude.{map}
use Rattle.data_warnings.proofs.Common.{◌≡◌, ◌||◌, ℕ, take, list_any}
use Rattle.std.specs.BTreeMap.{get}
use Rattle.std.specs.Option.{is_some}
use Rattle.std.specs.Ordering.{nat_cmp}
use Rattle.mathprog_data.specs.BlocksView.{param_told}
use Rattle.data_warnings.specs.StorageUsers.{links_in}
use Rattle.data_warnings.proofs.storage_users.mark_users.Given as goal

abbrev pub invariant-loop-block : goal.invariant-loop-block
invariant-loop-block l = (t : ℕ) → is_some (get nat_cmp l.marked t) ≡ (is_some (get nat_cmp l.fn.marked t) || list_any (links_in l.sets t) (map param_told (take l.block-index l.blocks)))

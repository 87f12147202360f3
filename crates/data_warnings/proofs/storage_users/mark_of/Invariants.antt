-- The technologies that the values so far name.
use Rattle.data_warnings.proofs.Common.{◌≡◌, ◌||◌, ℕ, length, take, list_any}
use Rattle.std.specs.BTreeMap.{get}
use Rattle.std.specs.Option.{is_some}
use Rattle.std.specs.Ordering.{nat_cmp}
use Rattle.data_warnings.specs.StorageUsers.{links}
use Rattle.data_warnings.proofs.storage_users.mark_of.Given as goal

abbrev pub invariant-loop-number : goal.invariant-loop-number
invariant-loop-number l = record {
  end : l.number-end ≡ length l.values;
  marked : (t : ℕ) → is_some (get nat_cmp l.marked t) ≡ (is_some (get nat_cmp l.fn.marked t) || list_any (links l.sets t) (take l.number l.values));
}

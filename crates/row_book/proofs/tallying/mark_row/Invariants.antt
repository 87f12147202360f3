use Rattle.row_book.proofs.Common.{◌≡◌, ℕ, ◌<◌, ◌&&◌, ◌||◌, nat_eq, drop, length, list_any, contents_of, has_entry_of, kind_room, marked}
use Rattle.row_book.proofs.tallying.mark_row.Given as goal

-- with the entries that are left, what is marked is what was marked before and all entries of the row
abbrev pub invariant-loop-var : goal.invariant-loop-var
invariant-loop-var l = record {
  long : length l.kinds.items ≡ length l.fn.kinds.items;
  each : (eq kind : ℕ) → eq < 65 → kind < kind_room
      → (marked l.kinds.items eq kind || (nat_eq l.row.name.eq eq && list_any (λ entry. nat_eq entry.0.kind kind) (drop l.var-index l.row.entries.items)))
      ≡ (marked l.fn.kinds.items eq kind || (nat_eq l.row.name.eq eq && has_entry_of kind (contents_of l.row)));
}

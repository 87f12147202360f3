use Rattle.row_book.proofs.Common.{◌≡◌, ℕ, ◌<◌, ◌||◌, drop, length, map, contents_of, has_kind, kind_room, marked}
use Rattle.row_book.proofs.tallying.mark_rows.Given as goal

-- with the rows that are left, what is marked is what was marked before and all rows
abbrev pub invariant-loop-row : goal.invariant-loop-row
invariant-loop-row l = record {
  long : length l.kinds.items ≡ length l.fn.kinds.items;
  each : (eq kind : ℕ) → eq < 65 → kind < kind_room
      → (marked l.kinds.items eq kind || has_kind eq kind (map contents_of (drop l.row-index l.rows)))
      ≡ (marked l.fn.kinds.items eq kind || has_kind eq kind (map contents_of l.rows));
}

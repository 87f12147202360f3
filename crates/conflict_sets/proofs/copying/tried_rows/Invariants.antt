-- With the rows that are left, the copies and the scales so far are those of all rows.
use Rattle.conflict_sets.proofs.Common.{◌≡◌, ◌++◌, drop, map, contents_of, listed_by, selected, tests_of}
use Rattle.conflict_sets.proofs.copying.tried_rows.Given as goal

abbrev pub invariant-loop-i : goal.invariant-loop-i
invariant-loop-i l =
    (map contents_of l.copies.items ++ selected (tests_of (listed_by l.listing) (drop l.i l.rows)) (drop l.i (map contents_of l.rows)) ≡ selected (tests_of (listed_by l.listing) l.rows) (map contents_of l.rows))
    × (l.kept.items ++ selected (tests_of (listed_by l.listing) (drop l.i l.rows)) (drop l.i l.scales) ≡ selected (tests_of (listed_by l.listing) l.rows) l.scales)

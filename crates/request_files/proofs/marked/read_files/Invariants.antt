use Rattle.std.proofs.Common.{◌≡◌, ℕ, List, map, take}
use Rattle.request_files.specs.InTurn.{AreRead}
use Rattle.request_files.specs.Marked.{AllHold, fed_of, held_of, marks_of, names_of}
use Rattle.request_files.specs.Reading.{IsSameShelf}
use Rattle.request_files.specs.Sights.{seen}
use Rattle.request_files.proofs.marked.read_files.Given as goal

-- the files before this one were read, and their contents were fed and held
abbrev pub invariant-loop-place : goal.invariant-loop-place
invariant-loop-place g l =
    record {
      read : (contents : List (List ℕ)) × AreRead (take l.place (names_of l.asked)) contents (seen g.S.Shelf l.fn.shelf) (seen g.S.Shelf l.shelf)
          × AllHold g.T.Taker.holds l.fed.items (fed_of (take l.place (marks_of l.asked)) contents)
          × (map (λ bytes. bytes.items) l.held.items ≡ held_of (take l.place (marks_of l.asked)) contents);
      same : IsSameShelf (seen g.S.Shelf l.fn.shelf) (seen g.S.Shelf l.shelf);
    }

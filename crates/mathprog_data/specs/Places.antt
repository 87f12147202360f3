-- Places in a text: lines and columns count from 1, columns count bytes, and the place after a line feed is column 1 of the next line.
use Rattle.std.specs.Prelude.{ℕ, ◌+◌, ◌==◌, not, Bool, List, count_by}
use Rattle.std.specs.List.{suffix_len}
use Rattle.mathprog_data.specs.Characters.{line_feed}
use Rattle.mathprog_data.specs.declared.blocks.Mark.{Mark}

-- a line feed
abbrev pub is_line_feed : ℕ → Bool
is_line_feed byte = byte == line_feed

-- the line and column of the byte that comes after these
abbrev pub place_after : List ℕ → Mark
place_after front = record {
  line = count_by is_line_feed front + 1;
  column = suffix_len (λ byte. not (is_line_feed byte)) front + 1;
}

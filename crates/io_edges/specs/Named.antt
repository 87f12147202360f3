-- The files that a shelf in memory keeps.
use Rattle.std.specs.Prelude.{ℕ, List, map}
use Rattle.io_edges.specs.declared.mem_shelf.NamedFile.{NamedFile}

-- each file as the bytes of its name and its own
abbrev pub contents : List NamedFile → List (List ℕ × List ℕ)
contents files = map (λ file. (file.name.items, file.bytes.items)) files

use Rattle.io_edges.specs.Named.{contents}
use Rattle.io_edges.proofs.FilesLemmas.{put_found, put_others}
use Rattle.io_edges.proofs.mem_shelf.MemShelf.put.Goals as goal

pub returns-clause-there : goal.returns-clause-there
returns-clause-there c = rw (c.in_ok-place.ensures.ok, c.in_ok-from_slice.ensures.items, c.as_bytes.ensures.value, c.in_ok-from_slice-2.ensures.items) (put_found (contents c.self.inside.files.items) c.args.name.now c.args.bytes.now)

pub returns-clause-others : goal.returns-clause-others
returns-clause-others c = λ other differs. rw (c.in_ok-place.ensures.ok, c.in_ok-from_slice.ensures.items, c.as_bytes.ensures.value, ← c.self.view_is) (put_others (contents c.self.inside.files.items) c.args.name.now c.in_ok-from_slice-2.field-0.items other differs)

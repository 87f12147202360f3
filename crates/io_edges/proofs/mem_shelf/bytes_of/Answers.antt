use Rattle.std.proofs.Common.{sym}
use Rattle.io_edges.proofs.FilesLemmas.{found, absent}
use Rattle.io_edges.proofs.mem_shelf.bytes_of.Goals as goal

pub returns-in-Some : goal.returns-in-Some
returns-in-Some c = rw c.deref.ensures.value (sym (found c.args.name.now c.args.files.now c.in-Some.i c.index-files-i.result (sym c.in-Some.ensures)))

pub returns-in-None : goal.returns-in-None
returns-in-None c = sym (absent c.args.name.now c.args.files.now (sym c.in-None.ensures))

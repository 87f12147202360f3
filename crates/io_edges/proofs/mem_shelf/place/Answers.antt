use Rattle.io_edges.proofs.Common.{◌≡◌, Some, None, sym, ap, ◌∙◌, contents, position}
use Rattle.io_edges.proofs.FilesLemmas.{has_name, in_place, following}
use Rattle.io_edges.proofs.mem_shelf.place.Goals as goal

pub returns-in-Some-clause-ok : goal.returns-in-Some-clause-ok
returns-in-Some-clause-ok c =
    let at : position (has_name c.args.file.name.items) c.args.files.now.items ≡ Some c.in-Some.i = rw (← c.deref.ensures.value, ← c.deref-2.ensures.value) (sym c.in-Some.ensures) in
    sym (in_place c.args.file c.args.files.now.items c.in-Some.i c.args.file at)

pub returns-in_ok-push-in-None-clause-ok : goal.returns-in_ok-push-in-None-clause-ok
returns-in_ok-push-in-None-clause-ok c =
    let none : position (has_name c.args.file.name.items) c.args.files.now.items ≡ None = rw (← c.deref.ensures.value, ← c.deref-2.ensures.value) (sym c.in-None.ensures) in
    ap contents c.in_ok-push-in-None.ensures.items ∙ sym (following c.args.file c.args.files.now.items none)

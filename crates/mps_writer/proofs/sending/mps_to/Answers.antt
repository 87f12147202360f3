use Rattle.mps_writer.proofs.Common.{◌++◌, ℕ, List, ap, subst, RowContents, output, rows_text, sections_text, Fails, LeavesOf, Takes}
use Rattle.mps_writer.proofs.TakenLaws.{cut-of, ends-cut, ends-sent, prefix-cut, then-last}
use Rattle.mps_writer.proofs.sending.mps_to.Goals as goal

pub returns-in-Err-send_sections-clause-cut : goal.returns-in-Err-send_sections-clause-cut
returns-in-Err-send_sections-clause-cut g c =
    let sink = g.K.Sink in
    let rows : List RowContents = g.R.RowSource.rows c.args.rows.now in
    let whole : List ℕ = rows_text c.args.sets.now rows c.args.vars.now in
    prefix-cut whole (output (sink.written c.args.out.now) (sink.accepted c.args.out.now)) (output (sink.written c.send_sections.new.out) (sink.accepted c.send_sections.new.out))
    (cut-of whole c.in-Err-send_sections.fail (output (sink.written c.args.out.now) (sink.accepted c.args.out.now)) (output (sink.written c.send_sections.new.out) (sink.accepted c.send_sections.new.out)) (sink.faults c.args.out.now) (sink.faults c.send_sections.new.out)
    (subst (λ (text : List ℕ). Fails text c.in-Err-send_sections.fail (output (sink.written c.args.out.now) (sink.accepted c.args.out.now)) (output (sink.written c.send_sections.new.out) (sink.accepted c.send_sections.new.out)) (sink.faults c.args.out.now) (sink.faults c.send_sections.new.out))
    (ap (λ (front : List ℕ). front ++ sections_text c.args.sets.now rows c.args.vars.now) c.in-Ok.ensures.items) c.in-Err-send_sections.ensures.taken))

pub returns-clause-sent : goal.returns-clause-sent
returns-clause-sent g c =
    let sink = g.K.Sink in
    let rows : List RowContents = g.R.RowSource.rows c.args.rows.now in
    let whole : List ℕ = rows_text c.args.sets.now rows c.args.vars.now in
    let b = output (sink.written c.args.out.now) (sink.accepted c.args.out.now) in
    let left : List ℕ = c.send_sections.new.buffer.items in
    let so_far : LeavesOf whole b (output (sink.written c.send_sections.new.out) (sink.accepted c.send_sections.new.out)) left =
    subst (λ (text : List ℕ). LeavesOf text b (output (sink.written c.send_sections.new.out) (sink.accepted c.send_sections.new.out)) left)
    (ap (λ (front : List ℕ). front ++ sections_text c.args.sets.now rows c.args.vars.now) c.in-Ok.ensures.items) c.in-Ok-send_sections.ensures.taken.0 in
    let taken : Takes whole c.flush.result b (output (sink.written c.flush.new.out) (sink.accepted c.flush.new.out)) (sink.faults c.args.out.now) (sink.faults c.flush.new.out) c.flush.new.buffer.items =
    then-last whole left c.flush.new.buffer.items c.flush.result b (output (sink.written c.send_sections.new.out) (sink.accepted c.send_sections.new.out)) (output (sink.written c.flush.new.out) (sink.accepted c.flush.new.out))
    (sink.faults c.args.out.now) (sink.faults c.send_sections.new.out) (sink.faults c.flush.new.out) so_far c.in-Ok-send_sections.ensures.taken.1 c.flush.ensures.taken in
    ends-sent whole c.flush.new.buffer.items c.flush.result b (output (sink.written c.flush.new.out) (sink.accepted c.flush.new.out)) (sink.faults c.args.out.now) (sink.faults c.flush.new.out) taken c.flush.ensures.empty

pub returns-clause-cut : goal.returns-clause-cut
returns-clause-cut g c =
    let sink = g.K.Sink in
    let rows : List RowContents = g.R.RowSource.rows c.args.rows.now in
    let whole : List ℕ = rows_text c.args.sets.now rows c.args.vars.now in
    let b = output (sink.written c.args.out.now) (sink.accepted c.args.out.now) in
    let left : List ℕ = c.send_sections.new.buffer.items in
    let so_far : LeavesOf whole b (output (sink.written c.send_sections.new.out) (sink.accepted c.send_sections.new.out)) left =
    subst (λ (text : List ℕ). LeavesOf text b (output (sink.written c.send_sections.new.out) (sink.accepted c.send_sections.new.out)) left)
    (ap (λ (front : List ℕ). front ++ sections_text c.args.sets.now rows c.args.vars.now) c.in-Ok.ensures.items) c.in-Ok-send_sections.ensures.taken.0 in
    let taken : Takes whole c.flush.result b (output (sink.written c.flush.new.out) (sink.accepted c.flush.new.out)) (sink.faults c.args.out.now) (sink.faults c.flush.new.out) c.flush.new.buffer.items =
    then-last whole left c.flush.new.buffer.items c.flush.result b (output (sink.written c.send_sections.new.out) (sink.accepted c.send_sections.new.out)) (output (sink.written c.flush.new.out) (sink.accepted c.flush.new.out))
    (sink.faults c.args.out.now) (sink.faults c.send_sections.new.out) (sink.faults c.flush.new.out) so_far c.in-Ok-send_sections.ensures.taken.1 c.flush.ensures.taken in
    ends-cut whole c.flush.new.buffer.items c.flush.result b (output (sink.written c.flush.new.out) (sink.accepted c.flush.new.out)) (sink.faults c.args.out.now) (sink.faults c.flush.new.out) taken

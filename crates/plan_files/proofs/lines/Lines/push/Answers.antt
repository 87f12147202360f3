-- A record is written as by a writer in the default form.
use Rattle.plan_files.proofs.Common.{◌≢◌, true, fields_of, default_writer, writer_setup}
use Rattle.csv.specs.declared.writer.QuoteStyle.TheVariants as style
use Rattle.plan_files.proofs.WriterLaws.{row-same}
use Rattle.plan_files.proofs.lines.Lines.push.Goals.{in-Ok, in-Err}
use Rattle.plan_files.proofs.lines.Lines.push.Goals as goal

pub returns-clause-line : goal.returns-clause-line
returns-clause-line c =
    let before = c.self.invariant in
    let plain : (writer_setup c.self.inside.writer).style ≢ style.NonNumeric = rw before.2 (λ e. cc e) in
    elim c.match-write_byte_record.branch [
      | in-Ok w ↦
          let written = w.in-Ok.ensures.bytes before.0 before.1 plain in
          let line = rw (before.2, row-same default_writer true (fields_of c.args.fields.now)) at written in
          rw (w.result-is, w.self-is, ← c.self.view_is) line
      | in-Err w ↦ rw w.result-is tt
    ]

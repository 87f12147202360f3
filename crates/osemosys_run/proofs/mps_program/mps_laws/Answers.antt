use Rattle.std.proofs.Common.{ap, ◌∙◌}
use Rattle.mps_meaning.specs.Reading.{program_of}
use Rattle.osemosys_run.proofs.mps_program.mps_laws.Goals as goal

pub returns : goal.returns
returns c = record {
  means = λ places file text d accepted writes.
      let read = c.plans_law.ensures.means places file d writes.rows writes.columns accepted writes.are_rows writes.are_columns in
      (read.0, ap program_of writes.is ∙ read.1, read.2);
}

-- Each clause is the field of its name.
use Rattle.osemosys_run.proofs.run.osemosys.Goals as goal

pub returns-clause-due : goal.returns-clause-due
returns-clause-due g c = c.osemosys_watched.ensures.due

pub returns-clause-caused : goal.returns-clause-caused
returns-clause-caused g c = c.osemosys_watched.ensures.caused

pub returns-clause-read_whole : goal.returns-clause-read_whole
returns-clause-read_whole g c = c.osemosys_watched.ensures.read_whole

pub returns-clause-complete : goal.returns-clause-complete
returns-clause-complete g c = c.osemosys_watched.ensures.complete

pub returns-clause-read_to_end : goal.returns-clause-read_to_end
returns-clause-read_to_end g c = c.osemosys_watched.ensures.read_to_end

pub returns-clause-failed_read : goal.returns-clause-failed_read
returns-clause-failed_read g c = c.osemosys_watched.ensures.failed_read

pub returns-clause-failed_write : goal.returns-clause-failed_write
returns-clause-failed_write g c = c.osemosys_watched.ensures.failed_write

pub returns-clause-files : goal.returns-clause-files
returns-clause-files g c = c.osemosys_watched.ensures.files

pub returns-clause-read_faults : goal.returns-clause-read_faults
returns-clause-read_faults g c = c.osemosys_watched.ensures.read_faults

pub returns-clause-write_faults : goal.returns-clause-write_faults
returns-clause-write_faults g c = c.osemosys_watched.ensures.write_faults

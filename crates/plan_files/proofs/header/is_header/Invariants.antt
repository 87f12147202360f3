-- So many fields are those of the header.
use Rattle.plan_files.proofs.Common.{◌≡◌, ℕ, ◌<◌, [], get_or, fields_of, field, header}
use Rattle.plan_files.proofs.header.is_header.Given as goal

abbrev pub invariant-loop-place : goal.invariant-loop-place
invariant-loop-place l = (j : ℕ) → j < l.place → field (fields_of l.fields) j ≡ get_or header j []

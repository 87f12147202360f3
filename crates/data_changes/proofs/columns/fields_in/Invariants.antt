use Rattle.data_changes.proofs.Common.{◌≡◌, map, take}
use Rattle.csv.specs.Records.{fields_of}
use Rattle.data_changes.proofs.columns.fields_in.Given as goal

-- the fields so far
abbrev pub invariant-loop-place : goal.invariant-loop-place
invariant-loop-place l = map (λ field. field.now) l.fields.items ≡ take l.place (fields_of l.record)

-- The fields so far.
use Rattle.plan_files.proofs.Common.{◌≡◌, [], map, take, fields_of, partial_of}
use Rattle.plan_files.proofs.writing.header_text.Given as goal

abbrev pub invariant-loop-name : goal.invariant-loop-name
invariant-loop-name l = (fields_of l.fields ≡ map (λ name. name.now) (take l.name-index l.name-items)) × (partial_of l.fields ≡ [])

-- What is written and the records of the members that are left are the whole.
use Rattle.std.proofs.Common.{◌≡◌, ◌++◌, ◌∷◌, [], drop, map}
use Rattle.model_sets.specs.Members.{members}
use Rattle.model_sets.specs.Names.{set_word}
use Rattle.plan_files.specs.Texts.{records_text}
use Rattle.data_tables.specs.DataTexts.{set_records}
use Rattle.data_tables.proofs.sets.push_set.Given as goal

abbrev pub invariant-loop-position : goal.invariant-loop-position
invariant-loop-position l =
    l.lines ++ records_text (map (λ name. set_word l.set ∷ name ∷ []) (drop l.position (members l.sets l.set))) ≡ l.fn.lines ++ records_text (set_records l.sets l.set)

use Rattle.param_tables.proofs.Common.{◌≡◌, Some, refl, sym, ◌∙◌, subst, AreComplete, first_refusal, blocks_told, IsStopDue, NamesCell, refusal_told}
use Rattle.param_tables.proofs.building.build.Goals as goal

pub returns-in-Ok-clause-built : goal.returns-in-Ok-clause-built
returns-in-Ok-clause-built c = record {
  facts = c.new.ensures.facts ∙ c.in-Ok.ensures.facts;
  rounded = c.new.ensures.rounded;
}

pub returns-in-Ok-clause-complete : goal.returns-in-Ok-clause-complete
returns-in-Ok-clause-complete c = subst AreComplete (sym c.new.ensures.facts) c.in-Ok.ensures.kept.kept.complete

pub returns-in-Err-Fault-clause-refused : goal.returns-in-Err-Fault-clause-refused
returns-in-Err-Fault-clause-refused c =
    let s = blocks_told c.args.blocks.now in
    let due = subst (IsStopDue (first_refusal s) c.args.sets) c.in-Err-Fault.field-0-is c.in-Err-Fault.ensures.refused in
    let fault = c.in-Err-Fault.fault in
    subst (λ all. (first_refusal s ≡ Some (refusal_told all fault)) × NamesCell all fault × (c.args.sets ≡ all)) c.requires.sets (due.0, due.1, refl)

use Rattle.command_answers.proofs.Common.{◌≡◌, refl, sym, subst, blocks_told, SetLists, set_lists, data_line}
use Rattle.param_tables.specs.Told.{NamesCell, refusal_told}
use Rattle.command_answers.proofs.accepting.accept_data.Goals as goal

pub refuse_data-requires : goal.refuse_data-requires
refuse_data-requires c =
    let told = rw c.in-Err-Fault.field-0-is at c.in-Err-Fault.ensures.refused in
    subst (λ (sets : SetLists). NamesCell sets c.in-Err-Fault.fault) (sym told.2) told.1

pub returns-in-Ok : goal.returns-in-Ok
returns-in-Ok c = (c.in-Ok.ensures.accepted, c.in-Ok.ensures.built.facts, c.in-Ok.ensures.built.rounded)

pub returns-in_ok-refuse_data-in-Err-Fault : goal.returns-in_ok-refuse_data-in-Err-Fault
returns-in_ok-refuse_data-in-Err-Fault c =
    let fault = c.in-Err-Fault.fault in
    let told = rw c.in-Err-Fault.field-0-is at c.in-Err-Fault.ensures.refused in
    let said = c.in_ok-refuse_data-in-Err-Fault.ensures in
    record {
      refusal = refusal_told (set_lists (blocks_told c.args.blocks.now)) fault;
      fault = fault;
      sets_accepted = c.requires.accepted;
      first = told.0;
      told = refl;
      names = told.1;
      status_is = said.0;
      line_is = subst (λ (sets : SetLists). c.in_ok-refuse_data-in-Err-Fault.field-0.text.items ≡ data_line (refusal_told sets fault)) told.2 said.1;
    }
